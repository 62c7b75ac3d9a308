-- What is read is what is there, or the reader stops at a token that stands too deep, which is one of the last ones.
use Rattle.std.proofs.Common.{◌≡◌, ℕ, zero, suc, ◌+◌, arith, ◌≤◌, ◌⊎◌, inl, inr, Ok, Err, List, ◌∷◌, length, ap, ◌∙◌}
use Rattle.c_lex.specs.declared.token.Token.{Token}
use Rattle.c_grammar.specs.Words.{number_of}
use Rattle.c_grammar.specs.Reading.{TooNested, Outcome, ◌>>=◌}

-- the reader stops at a token that stands too deep, one of the last `later` ones
pub record IsLate (total later : ℕ) {A : Type 0} (o : Outcome A) : Type 0 where
  pub token : Token
  pub behind : List Token
  pub late : length (token ∷ behind) ≤ later
  pub stops : o ≡ Err (TooNested (number_of total (token ∷ behind)))

-- the first outcome is the second, or late
abbrev pub Meets : ℕ → ℕ → {A : Type 0} → Outcome A → Outcome A → Type 0
Meets total later o p = (o ≡ p) ⊎ IsLate total later o

pub same : {total later : ℕ} {A : Type 0} {o p : Outcome A} → o ≡ p → Meets total later o p
same e = inl e

pub stopped : (total later : ℕ) {A : Type 0} (o : Outcome A) (t : Token) (ts : List Token) → length (t ∷ ts) ≤ later
    → o ≡ Err (TooNested (number_of total (t ∷ ts))) → (p : Outcome A) → Meets total later o p
stopped total later o t ts late stops p = inr (record { token = t; behind = ts; late = late; stops = stops })

infixl 10 ◌▸◌
-- one after the other
pub ◌▸◌ : {total later : ℕ} {A : Type 0} {o p q : Outcome A} → Meets total later o p → Meets total later p q → Meets total later o q
inl e ▸ inl f = inl (e ∙ f)
inl e ▸ inr l = inr (record { token = l.token; behind = l.behind; late = l.late; stops = e ∙ l.stops })
inr l ▸ other = inr l

-- what goes on behind
pub on : {total later : ℕ} {A B : Type 0} {o p : Outcome A} (f : A → Outcome B) → Meets total later o p
    → Meets total later (o >>= f) (p >>= f)
on f (inl e) = inl (ap (λ x. x >>= f) e)
on f (inr l) = inr (record { token = l.token; behind = l.behind; late = l.late; stops = ap (λ x. x >>= f) l.stops })

-- so much more room
abbrev pub raised : ℕ → ℕ → ℕ
raised spare zero = spare
raised spare (suc room) = suc (raised spare room)

pub raised_is : (spare room : ℕ) → raised spare room ≡ room + spare
raised_is spare zero = omega arith
raised_is spare (suc room) = let x = raised_is spare room in omega (arith, x)

-- what goes on behind what was read, and only where it was
pub on_read : {total later : ℕ} {A B : Type 0} {o : Outcome A} {a : A} {q : Outcome B} (f : A → Outcome B) → Meets total later o (Ok a)
    → (o ≡ Ok a → Meets total later (f a) q) → Meets total later (o >>= f) q
on_read f (inl e) further = inl (ap (λ x. x >>= f) e) ▸ further e
on_read f (inr l) further = inr (record { token = l.token; behind = l.behind; late = l.late; stops = ap (λ x. x >>= f) l.stops })
