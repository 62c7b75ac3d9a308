-- The first token of several.
use Rattle.std.proofs.Common.{◌≡◌, ◌⊎◌, inl, inr, Bool, true, false, cond, Option, Some, None, List, [], ◌∷◌, refl, sym, subst, ◌∙◌, arith, fold}
use Rattle.std.proofs.lemmas.Bool.Decides.{nat_tests}
use Rattle.c_types.specs.declared.program.TokenAt.{TokenAt}
use Rattle.c_types.specs.Places.{IsNotBehind}
use Rattle.privatise.specs.First.{IsFirst, is_before, earlier, first_of}

pub over : (a b c : TokenAt) → IsNotBehind a b → IsNotBehind b c → IsNotBehind a c
over a b c (inl x) (inl y) = inl (omega (arith, x, y))
over a b c (inl x) (inr y) = let e = y.0 in inl (omega (arith, x, e))
over a b c (inr x) (inl y) = let e = x.0 in inl (omega (arith, e, y))
over a b c (inr x) (inr y) = let s = x.1 in let t = y.1 in inr (x.0 ∙ y.0, omega (arith, s, t))

pub not_behind_itself : (a : TokenAt) → IsNotBehind a a
not_behind_itself a = inr (refl, omega arith)

before_if : (a b : TokenAt) → is_before a b ≡ true → IsNotBehind a b
before_if a b h = grind (arith, nat_tests)

behind_else : (a b : TokenAt) → is_before a b ≡ false → IsNotBehind b a
behind_else a b h = grind (arith, nat_tests)

-- What holds of a first token with another condition, where each token with the new condition has one with the old condition
-- that isn't behind it.
pub covered : (P Q : TokenAt → Type 0) (first : Option TokenAt) → ((t : TokenAt) → P t → Q t)
    → ((t : TokenAt) → Q t → (u : TokenAt) × (P u × IsNotBehind u t)) → IsFirst P first → IsFirst Q first
covered P Q None to from h = λ t q. let f = from t q in h f.0 f.1.0
covered P Q (Some at) to from h = (to at h.0, λ t q. let f = from t q in over at f.0 t (h.1 f.0 f.1.0) f.1.1)

pub same : (P Q : TokenAt → Type 0) (first : Option TokenAt) → ((t : TokenAt) → P t → Q t) → ((t : TokenAt) → Q t → P t)
    → IsFirst P first → IsFirst Q first
same P Q first to from h = covered P Q first to (λ t q. (t, (from t q, not_behind_itself t))) h

abbrev Or : (TokenAt → Type 0) → (TokenAt → Type 0) → TokenAt → Type 0
Or P Q t = P t ⊎ Q t

picked : (P : TokenAt → Type 0) (first at : TokenAt) (b : Bool) → is_before at first ≡ b → P first
    → ((t : TokenAt) → P t → IsNotBehind first t) → IsFirst (Or P (λ t. t ≡ at)) (Some (cond b at first))
picked P first at true is holds least = (
  inr refl,
  λ t q. elim q [
    | inl p ↦ over at first t (before_if at first is) (least t p)
    | inr e ↦ subst (λ u. IsNotBehind at u) (sym e) (not_behind_itself at)
  ],
)
picked P first at false is holds least = (
  inl holds,
  λ t q. elim q [
    | inl p ↦ least t p
    | inr e ↦ subst (λ u. IsNotBehind first u) (sym e) (behind_else at first is)
  ],
)

first_more : (P : TokenAt → Type 0) (first : Option TokenAt) (at : TokenAt) → IsFirst P first
    → IsFirst (Or P (λ t. t ≡ at)) (earlier first at)
first_more P None at h = (
  inr refl,
  λ t q. elim q [
    | inl p ↦ absurd (h t p)
    | inr e ↦ subst (λ u. IsNotBehind at u) (sym e) (not_behind_itself at)
  ],
)
first_more P (Some first) at h = picked P first at (is_before at first) refl h.0 h.1

pub first_sum : (P Q : TokenAt → Type 0) (a b : Option TokenAt) → IsFirst P a → IsFirst Q b
    → IsFirst (λ t. P t ⊎ Q t) (first_of a b)
first_sum P Q a None p q = same P (Or P Q) a (λ t h. inl h) (λ t h. elim h [ inl x ↦ x | inr y ↦ absurd (q t y) ]) p
first_sum P Q a (Some at) p q =
    covered (Or P (λ t. t ≡ at)) (Or P Q) (earlier a at)
    (λ t h. elim h [ inl x ↦ inl x | inr e ↦ inr (subst Q (sym e) q.0) ])
    (λ t h. elim h [ inl x ↦ (t, (inl x, not_behind_itself t)) | inr y ↦ (at, (inr refl, q.1 t y)) ])
    (first_more P a at p)

-- it stands in the list
abbrev pub IsAmong : List TokenAt → TokenAt → Type 0
IsAmong [] t = ⊥
IsAmong (x ∷ xs) t = (t ≡ x) ⊎ IsAmong xs t

first_in : (P : TokenAt → Type 0) (first : Option TokenAt) (ts : List TokenAt) → IsFirst P first
    → IsFirst (Or P (IsAmong ts)) (fold earlier first ts)
first_in P first [] h = same P (Or P (IsAmong [])) first (λ t x. inl x) (λ t x. elim x [ inl p ↦ p | inr q ↦ absurd q ]) h
first_in P first (x ∷ xs) h =
    same (Or (Or P (λ t. t ≡ x)) (IsAmong xs)) (Or P (IsAmong (x ∷ xs))) (fold earlier (earlier first x) xs)
    (λ t q. elim q [
      | inl l ↦ elim l [ inl p ↦ inl p | inr e ↦ inr (inl e) ]
      | inr r ↦ inr (inr r)
    ])
    (λ t q. elim q [
      | inl p ↦ inl (inl p)
      | inr r ↦ elim r [ inl e ↦ inl (inr e) | inr s ↦ inr s ]
    ])
    (first_in (Or P (λ t. t ≡ x)) (earlier first x) xs (first_more P first x h))

-- the first one of a list of tokens
pub first_among : (P : TokenAt → Type 0) (ts : List TokenAt) → ((t : TokenAt) → IsAmong ts t → P t)
    → ((t : TokenAt) → P t → IsAmong ts t) → IsFirst P (fold earlier None ts)
first_among P ts to from =
    same (Or (λ t. ⊥) (IsAmong ts)) P (fold earlier None ts)
    (λ t q. elim q [ inl x ↦ absurd x | inr a ↦ to t a ]) (λ t p. inr (from t p))
    (first_in (λ t. ⊥) None ts (λ t x. x))
