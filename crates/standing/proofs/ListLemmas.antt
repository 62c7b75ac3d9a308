-- Lists from which the first element that meets a test is taken.
use Rattle.std.proofs.Common.{◌≡◌, inl, inr, Bool, true, false, List, [], ◌∷◌, ◌++◌, refl, ap, Some}
use Rattle.std.proofs.lemmas.Bool.{cases_Bool}
use Rattle.std.specs.Prelude.{All, filter, find}
use Rattle.std.proofs.lemmas.List.Elements.{All-head, All-tail}
use Rattle.standing.specs.World.{without_first}

-- no element of the front meets the test, and the next one does
pub found : {X : Type 0} (test : X → Bool) (before : List X) (x : X) (behind : List X) → All (λ y. test y ≡ false) before → test x ≡ true
    → find test (before ++ x ∷ behind) ≡ Some x
found test [] x behind none is = rw is refl
found test (y ∷ before) x behind none is =
    rw (All-head (λ z. test z ≡ false) y before none) (found test before x behind (All-tail (λ z. test z ≡ false) y before none) is)

pub taken_out : {X : Type 0} (test : X → Bool) (before : List X) (x : X) (behind : List X) → All (λ y. test y ≡ false) before → test x ≡ true
    → without_first test (before ++ x ∷ behind) ≡ before ++ behind
taken_out test [] x behind none is = rw is refl
taken_out test (y ∷ before) x behind none is =
    rw (All-head (λ z. test z ≡ false) y before none)
    (ap (λ zs. y ∷ zs) (taken_out test before x behind (All-tail (λ z. test z ≡ false) y before none) is))

pub filter_parts : {X : Type 0} (test : X → Bool) (xs ys : List X) → filter test (xs ++ ys) ≡ filter test xs ++ filter test ys
filter_parts test [] ys = refl
filter_parts test (x ∷ xs) ys = elim (cases_Bool (test x)) [
  | inl t ↦ rw t (ap (λ zs. x ∷ zs) (filter_parts test xs ys))
  | inr f ↦ rw f (filter_parts test xs ys)
]
