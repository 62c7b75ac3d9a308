-- What a step of reading found, and the tokens that stood there.
use Rattle.std.proofs.Common.{◌≡◌, ℕ, ◌-◌, Bool, true, false, cond, Some, None, Ok, Err, List, [], ◌∷◌, ◌++◌, length, take, drop, refl, ap, ◌∙◌, subst, ◌⊎◌, inl, inr, arith}
use Rattle.std.proofs.Math.Seq.{take-append_seam, drop-append_seam}
use denote.Enum.Bare.{same_true, true_same}
use Rattle.c_lex.specs.declared.token.Token.{Token}
use Rattle.c_lex.specs.declared.token.TokenKind.{TokenKind}
use Rattle.c_lex.specs.declared.token.TokenKind.TheVariants as kind
use Rattle.c_lex.specs.declared.token.Keyword.{Keyword}
use Rattle.c_lex.specs.declared.token.Mark.{Mark}
use Rattle.c_lex.specs.contracts.token.Mark as mark_contract
use Rattle.c_lex.specs.contracts.token.Keyword as keyword_contract
use Rattle.c_ast.specs.declared.words.Name.{Name}
use Rattle.c_grammar.specs.Names.{Names, name_at}
use Rattle.c_grammar.specs.Words.{IsMark, number_of}
use Rattle.c_grammar.specs.Reading.{State, Unexpected, Outcome, ◌>>=◌, is_mark, is_keyword, is_name, sees_mark, tail, behind, here, expect_mark, expect_name, name_at_front, or_unexpected}

pub ok_same : {A : Type 0} {x y : A} → ◌≡◌ {A = Outcome A} (Ok x) (Ok y) → x ≡ y
ok_same h = cc

-- what holds of a value holds of what was found
pub ok_moved : {A : Type 0} (P : A → Type 0) {x y : A} → P x → ◌≡◌ {A = Outcome A} (Ok x) (Ok y) → P y
ok_moved P p h = subst P (ok_same h) p

pub bind_ok : {A B : Type 0} (o : Outcome A) (f : A → Outcome B) (y : B) → (o >>= f) ≡ Ok y → (x : A) × (o ≡ Ok x) × (f x ≡ Ok y)
bind_ok (Err e) f y h = absurd cc
bind_ok (Ok x) f y h = (x, refl, h)

pub cond_is : {B : Type 0} (t : Bool) (p q y : B) → cond t p q ≡ y → ((t ≡ true) × (p ≡ y)) ⊎ ((t ≡ false) × (q ≡ y))
cond_is true p q y h = inl (refl, h)
cond_is false p q y h = inr (refl, h)

-- ---- marks and keywords

pub mark_is : (m : Mark) (k : TokenKind) → is_mark m k ≡ true → k ≡ kind.Mark m
mark_is m (kind.Mark n) h = ap kind.Mark (same_true mark_contract.the_type tt n m h)
mark_is m (kind.Keyword k) h = absurd cc
mark_is m kind.Name h = absurd cc
mark_is m (kind.Number t) h = absurd cc
mark_is m kind.Character h = absurd cc
mark_is m kind.Text h = absurd cc

pub keyword_is : (w : Keyword) (k : TokenKind) → is_keyword w k ≡ true → k ≡ kind.Keyword w
keyword_is w (kind.Keyword k) h = ap kind.Keyword (same_true keyword_contract.the_type tt k w h)
keyword_is w (kind.Mark n) h = absurd cc
keyword_is w kind.Name h = absurd cc
keyword_is w (kind.Number t) h = absurd cc
keyword_is w kind.Character h = absurd cc
keyword_is w kind.Text h = absurd cc

pub name_is : (k : TokenKind) → is_name k ≡ true → k ≡ kind.Name
name_is kind.Name h = refl
name_is (kind.Mark n) h = absurd cc
name_is (kind.Keyword k) h = absurd cc
name_is (kind.Number t) h = absurd cc
name_is kind.Character h = absurd cc
name_is kind.Text h = absurd cc

pub mark_seen : (m : Mark) (k : TokenKind) → k ≡ kind.Mark m → is_mark m k ≡ true
mark_seen m k h = ap (is_mark m) h ∙ true_same mark_contract.the_type m m refl

pub keyword_seen : (w : Keyword) (k : TokenKind) → k ≡ kind.Keyword w → is_keyword w k ≡ true
keyword_seen w k h = ap (is_keyword w) h ∙ true_same keyword_contract.the_type w w refl

-- the punctuator that comes next
pub record MarkAhead (m : Mark) (ts : List Token) : Type 0 where
  pub t : Token
  pub is : IsMark m t
  pub stands : ts ≡ t ∷ tail ts

pub mark_ahead : (m : Mark) (ts : List Token) → sees_mark m ts ≡ true → MarkAhead m ts
mark_ahead m [] h = absurd cc
mark_ahead m (t ∷ ts) h = record { t = t; is = mark_is m t.kind h; stands = refl }

-- the punctuator that had to come next
pub record MarkTaken (m : Mark) (s s' : State) : Type 0 where
  pub t : Token
  pub is : IsMark m t
  pub stands : s.rest ≡ t ∷ s'.rest
  pub names : s'.names ≡ s.names

pub mark_taken : (total : ℕ) (m : Mark) (s s' : State) → expect_mark total m s ≡ Ok s' → MarkTaken m s s'
unfolding expect_mark
mark_taken total m s s' h =
    elim (cond_is (sees_mark m s.rest) (Ok (behind s)) (Err (Unexpected (here total s))) (Ok s') h) [
      | inl p ↦
          let a : MarkAhead m s.rest = mark_ahead m s.rest p.0 in
          ok_moved (MarkTaken m s) (record { t = a.t; is = a.is; stands = a.stands; names = refl }) p.1
      | inr p ↦ absurd (let e = p.1 in cc)
    ]

pub mark_read : (total : ℕ) (m : Mark) (names : Names) (t : Token) (ts : List Token) → IsMark m t
    → expect_mark total m (record { names = names; rest = t ∷ ts }) ≡ Ok (record { names = names; rest = ts })
unfolding expect_mark
mark_read total m names t ts is = rw (mark_seen m t.kind is)

-- the name that had to come next
pub record NameTaken (total : ℕ) (s : State) (x : Name × State) : Type 0 where
  pub t : Token
  pub is : t.kind ≡ kind.Name
  pub stands : s.rest ≡ t ∷ x.1.rest
  pub named : x.0 ≡ name_at (number_of total s.rest) t
  pub names : x.1.names ≡ s.names

name_front : (total : ℕ) (names : Names) (ts : List Token) (x : Name × State)
    → or_unexpected total (record { names = names; rest = ts }) (name_at_front total ts) ≡ Ok x
    → NameTaken total (record { names = names; rest = ts }) x
name_front total names [] x h = absurd cc
name_front total names (t ∷ ts) x h =
    let s : State = record { names = names; rest = t ∷ ts } in
    let n : Name = name_at (number_of total (t ∷ ts)) t in
    elim (is_name t.kind) as (λ b. (is_name t.kind ≡ b) → or_unexpected total s (cond b (Some n) None) ≡ Ok x → NameTaken total s x) [
      | true ↦ λ is r. ok_moved (NameTaken total s) (record { t = t; is = name_is t.kind is; stands = refl; named = refl; names = refl }) r
      | false ↦ λ is r. absurd cc
    ] refl h

pub name_taken : (total : ℕ) (s : State) (x : Name × State) → expect_name total s ≡ Ok x → NameTaken total s x
unfolding expect_name
name_taken total s x h = name_front total s.names s.rest x h

-- ---- names that came to others

pub take_added : {A : Type 0} (new old both : List A) → both ≡ new ++ old → take (length both - length old) both ≡ new
take_added new old both h =
    let e : length both - length old ≡ length new = rw (h, Rattle.std.proofs.lemmas.List.length-append) (omega arith) in
    rw (e, h, take-append_seam)

pub drop_added : {A : Type 0} (new old both : List A) → both ≡ new ++ old → drop (length both - length old) both ≡ old
drop_added new old both h =
    let e : length both - length old ≡ length new = rw (h, Rattle.std.proofs.lemmas.List.length-append) (omega arith) in
    rw (e, h, drop-append_seam)
