-- Whether a literal is closed in its line, as it is read.
use Rattle.std.proofs.Common.{◌≡◌, ◌≢◌, ℕ, ◌<◌, ◌||◌, Bool, true, false, cond, eqb, List, [], ◌∷◌, Some, None, refl, sym, ap, subst, ◌∙◌, arith, length, inl, inr, eq-eqb}
use Rattle.std.proofs.lemmas.Bool.{eqb-true}
use Rattle.std.proofs.lemmas.Bool.Decides.{nat_tests}
use Rattle.c_lex.specs.Literals.{IsClosed, here, byte, escape}
use Rattle.c_lex.specs.Reading.{in_literal, is_closed, begins_quote}
use Rattle.c_lex.proofs.CloseLaws.{chosen}
use Rattle.c_lex.proofs.DigitLaws.{chosen_true, chosen_false}

pub apart : (a x : ℕ) → eqb a x ≡ false → a ≢ x
apart a x e = λ f. let g : eqb a x ≡ true = eq-eqb a x f in absurd cc

pub apart_test : (a x : ℕ) → a ≢ x → eqb a x ≡ false
apart_test a x differ = by_test (eqb a x) refl
  where
    by_test : (b : Bool) → eqb a x ≡ b → eqb a x ≡ false
    by_test false e = e
    by_test true e = absurd (differ (eqb-true a x e))

-- ---- by its definition

closes_here : (quote a : ℕ) (bs : List ℕ) → a ≡ quote → IsClosed quote (a ∷ bs)
closes_here quote a bs e = let P : ℕ → Type 0 = λ x. IsClosed quote (x ∷ bs) in subst P (sym e) (here bs)

behind_escape : (quote a b : ℕ) (bs : List ℕ) → a ≡ 92 → b ≢ 10 → IsClosed quote bs → IsClosed quote (a ∷ b ∷ bs)
behind_escape quote a b bs e differ s = let P : ℕ → Type 0 = λ x. IsClosed quote (x ∷ b ∷ bs) in subst P (sym e) (escape b bs differ s)

pub is_closed-sound : (quote : ℕ) (text : List ℕ) → is_closed quote text ≡ true → IsClosed quote text
unfolding is_closed
is_closed-sound quote [] e = absurd cc
is_closed-sound quote (a ∷ []) e = closes_here quote a [] (eqb-true a quote e)
is_closed-sound quote (a ∷ b ∷ bs) e =
    elim (chosen (eqb a quote) true (cond (eqb a 92) (cond (eqb b 10) false (is_closed quote bs)) (cond (eqb a 10) false (is_closed quote (b ∷ bs)))) true e) [
      | inl (y, f) ↦ closes_here quote a (b ∷ bs) (eqb-true a quote y)
      | inr (n, f) ↦ elim (chosen (eqb a 92) (cond (eqb b 10) false (is_closed quote bs)) (cond (eqb a 10) false (is_closed quote (b ∷ bs))) true f) [
        | inl (y, g) ↦ elim (chosen (eqb b 10) false (is_closed quote bs) true g) [
          | inl (z, h) ↦ absurd cc
          | inr (z, h) ↦ behind_escape quote a b bs (eqb-true a 92 y) (apart b 10 z) (is_closed-sound quote bs h)
        ]
        | inr (y, g) ↦ elim (chosen (eqb a 10) false (is_closed quote (b ∷ bs)) true g) [
          | inl (z, h) ↦ absurd cc
          | inr (z, h) ↦ byte a (b ∷ bs) (apart a quote n) (apart a 92 y) (apart a 10 z) (is_closed-sound quote (b ∷ bs) h)
        ]
      ]
    ]

finds_quote : (quote : ℕ) (rest : List ℕ) → is_closed quote (quote ∷ rest) ≡ true
unfolding is_closed
finds_quote quote [] = eq-eqb quote quote refl
finds_quote quote (b ∷ bs) = chosen_true (eqb quote quote) true _ (eq-eqb quote quote refl)

goes_on : (quote a : ℕ) (bs : List ℕ) → a ≢ quote → a ≢ 92 → a ≢ 10 → is_closed quote bs ≡ true → is_closed quote (a ∷ bs) ≡ true
unfolding is_closed
goes_on quote a [] f g h e = absurd cc
goes_on quote a (b ∷ bs) f g h e =
    chosen_false (eqb a quote) true _ (apart_test a quote f) ∙ chosen_false (eqb a 92) _ _ (apart_test a 92 g)
    ∙ chosen_false (eqb a 10) _ _ (apart_test a 10 h) ∙ e

goes_behind : (quote b : ℕ) (bs : List ℕ) → b ≢ 10 → is_closed quote bs ≡ true → is_closed quote (92 ∷ b ∷ bs) ≡ true
unfolding is_closed
goes_behind quote b bs f e = by_test (eqb 92 quote)
  where
    by_test : (test : Bool) → cond test true (cond (eqb b 10) false (is_closed quote bs)) ≡ true
    by_test true = refl
    by_test false = chosen_false (eqb b 10) false (is_closed quote bs) (apart_test b 10 f) ∙ e

pub is_closed-complete : (quote : ℕ) (text : List ℕ) → IsClosed quote text → is_closed quote text ≡ true
is_closed-complete quote _ (here rest) = finds_quote quote rest
is_closed-complete quote _ (byte b bs f g h s) = goes_on quote b bs f g h (is_closed-complete quote bs s)
is_closed-complete quote _ (escape b bs f s) = goes_behind quote b bs f (is_closed-complete quote bs s)

pub not_closed : (quote : ℕ) (text : List ℕ) → is_closed quote text ≡ false → IsClosed quote text → ⊥
not_closed quote text e s = let f : is_closed quote text ≡ true = is_closed-complete quote text s in absurd cc

-- ---- byte by byte

pub in_literal-shorter : (quote : ℕ) (t r : List ℕ) → in_literal quote t ≡ Some r → length r < length t
unfolding in_literal
in_literal-shorter quote [] r e = absurd cc
in_literal-shorter quote (a ∷ []) r e = grind (arith, nat_tests)
in_literal-shorter quote (a ∷ b ∷ bs) r e = grind (arith, nat_tests)

-- the choice of a step, and the same choice of whether it is closed
choice : (x y z w : Bool) (r1 r2 r : List ℕ) (f : List ℕ → Bool)
    → cond x None (cond y (cond z None (Some r1)) (cond w None (Some r2))) ≡ Some r
    → cond x true (cond y (cond z false (f r1)) (cond w false (f r2))) ≡ f r
choice true y z w r1 r2 r f e = absurd cc
choice false true true w r1 r2 r f e = absurd cc
choice false true false w r1 r2 r f e = cc
choice false false z true r1 r2 r f e = absurd cc
choice false false z false r1 r2 r f e = cc

choice_of_one : (x y z : Bool) (r : List ℕ) (f : List ℕ → Bool) → f [] ≡ false → cond (x || (y || z)) None (Some []) ≡ Some r → x ≡ f r
choice_of_one true y z r f nothing e = absurd cc
choice_of_one false true z r f nothing e = absurd cc
choice_of_one false false true r f nothing e = absurd cc
choice_of_one false false false r f nothing e = let same : [] ≡ r = cc in sym (ap f (sym same) ∙ nothing)

pub is_closed-more : (quote : ℕ) (t r : List ℕ) → in_literal quote t ≡ Some r → is_closed quote t ≡ is_closed quote r
unfolding in_literal is_closed
is_closed-more quote [] r e = absurd cc
is_closed-more quote (a ∷ []) r e = choice_of_one (eqb a quote) (eqb a 92) (eqb a 10) r (is_closed quote) refl e
is_closed-more quote (a ∷ b ∷ bs) r e = choice (eqb a quote) (eqb a 92) (eqb b 10) (eqb a 10) bs (b ∷ bs) r (is_closed quote) e

ends : (x y z w : Bool) (r1 r2 : List ℕ) (f1 f2 : Bool)
    → cond x None (cond y (cond z None (Some r1)) (cond w None (Some r2))) ≡ None
    → cond x true (cond y (cond z false f1) (cond w false f2)) ≡ x
ends true y z w r1 r2 f1 f2 e = refl
ends false true true w r1 r2 f1 f2 e = refl
ends false true false w r1 r2 f1 f2 e = absurd cc
ends false false z true r1 r2 f1 f2 e = refl
ends false false z false r1 r2 f1 f2 e = absurd cc

pub is_closed-ends : (quote : ℕ) (t : List ℕ) → in_literal quote t ≡ None → is_closed quote t ≡ begins_quote quote t
unfolding in_literal is_closed
is_closed-ends quote [] e = refl
is_closed-ends quote (a ∷ []) e = refl
is_closed-ends quote (a ∷ b ∷ bs) e =
    ends (eqb a quote) (eqb a 92) (eqb b 10) (eqb a 10) bs (b ∷ bs) (is_closed quote bs) (is_closed quote (b ∷ bs)) e
