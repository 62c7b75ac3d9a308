-- A comment is read to its first close.
use Rattle.std.proofs.Common.{◌≡◌, ℕ, ◌⊎◌, ◌&&◌, Bool, true, false, cond, eqb, List, [], ◌∷◌, ◌++◌, Some, refl, sym, ap, ◌∙◌, inl, inr}
use Rattle.std.proofs.lemmas.Bool.{eqb-true, and_parts}
use Rattle.c_lex.specs.Blanks.{HasNoClose}
use Rattle.c_lex.specs.Reading.{after_close}

-- the test that chose, and what it chose
pub chosen : {A : Type 0} (b : Bool) (x y z : A) → cond b x y ≡ z → ((b ≡ true) × (x ≡ z)) ⊎ ((b ≡ false) × (y ≡ z))
chosen true x y z e = inl (refl, e)
chosen false x y z e = inr (refl, e)

-- behind these bytes the text has its first close, and then comes the rest
pub record ClosesAt (t r : List ℕ) : Type 0 where
  pub body : List ℕ
  pub none : HasNoClose body
  pub text_is : t ≡ body ++ 42 ∷ 47 ∷ r

nothing_closes : HasNoClose []
nothing_closes [] back = λ e. absurd cc
nothing_closes (x ∷ xs) back = λ e. absurd cc

-- the first two bytes are no close
no_close : (a b : ℕ) → (eqb a 42 && eqb b 47) ≡ false → a ≡ 42 → b ≡ 47 → ⊥
no_close a b e f g = clash (sym e ∙ ap (λ x. eqb x 42 && eqb b 47) f ∙ ap (λ x. eqb x 47) g)
  where
    clash : false ≡ true → ⊥
    clash e = cc

one_more : (a b : ℕ) (bs body r : List ℕ) → (a ≡ 42 → b ≡ 47 → ⊥) → b ∷ bs ≡ body ++ 42 ∷ 47 ∷ r → HasNoClose body → HasNoClose (a ∷ body)
one_more a b bs [] r differ e none [] back = λ f. absurd cc
one_more a b bs (y ∷ ys) r differ e none [] back = λ f.
    let f1 : a ≡ 42 = cc in
    let f2 : b ≡ 47 = cc in
    differ f1 f2
one_more a b bs body r differ e none (x ∷ xs) back = λ f. none xs back cc

pub after_close-sound : (t r : List ℕ) → after_close t ≡ Some r → ClosesAt t r
unfolding after_close
after_close-sound [] r e = absurd cc
after_close-sound (a ∷ []) r e = absurd cc
after_close-sound (a ∷ b ∷ bs) r e =
    elim (chosen (eqb a 42 && eqb b 47) (Some bs) (after_close (b ∷ bs)) (Some r) e) [
      | inl (y, s) ↦
          let both = and_parts (eqb a 42) (eqb b 47) y in
          let f = eqb-true a 42 both.0 in
          let g = eqb-true b 47 both.1 in
          record { body = []; none = nothing_closes; text_is = cc }
      | inr (n, s) ↦
          let c = after_close-sound (b ∷ bs) r s in
          record {
            body = a ∷ c.body;
            none = one_more a b bs c.body r (no_close a b n) c.text_is c.none;
            text_is = ap (λ (x : List ℕ). a ∷ x) c.text_is;
          }
    ]

and_no : (b : Bool) → (b && false) ≡ false
and_no true = refl
and_no false = refl

not_chosen : {A : Type 0} (b : Bool) (x y : A) → b ≡ false → cond b x y ≡ y
not_chosen true x y e = absurd cc
not_chosen false x y e = refl

is_no_close : (a b : ℕ) (body : List ℕ) (test : Bool) → (eqb a 42 && eqb b 47) ≡ test → HasNoClose (a ∷ b ∷ body) → (eqb a 42 && eqb b 47) ≡ false
is_no_close a b body false e none = e
is_no_close a b body true e none =
    let both = and_parts (eqb a 42) (eqb b 47) e in
    let f = eqb-true a 42 both.0 in
    let g = eqb-true b 47 both.1 in
    absurd (none [] body cc)

pub after_close-complete : (body r : List ℕ) → HasNoClose body → after_close (body ++ 42 ∷ 47 ∷ r) ≡ Some r
unfolding after_close
after_close-complete [] r none = refl
after_close-complete (a ∷ []) r none = not_chosen (eqb a 42 && false) (Some (47 ∷ r)) (Some r) (and_no (eqb a 42))
after_close-complete (a ∷ b ∷ body) r none =
    not_chosen (eqb a 42 && eqb b 47) (Some (body ++ 42 ∷ 47 ∷ r)) (after_close (b ∷ body ++ 42 ∷ 47 ∷ r))
    (is_no_close a b body (eqb a 42 && eqb b 47) refl none)
    ∙ after_close-complete (b ∷ body) r (λ front back e. none (a ∷ front) back (ap (λ (x : List ℕ). a ∷ x) e))
