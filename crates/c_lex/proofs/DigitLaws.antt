-- Digits that are counted up to so many, as they are read.
use Rattle.std.proofs.Common.{◌≡◌, ◌≢◌, ℕ, zero, suc, ◌+◌, ◌<◌, ◌≤◌, Bool, true, false, cond, eqb, List, [], ◌∷◌, ◌++◌, Option, Some, None, refl, sym, ap, subst, ◌∙◌, arith, IsTrue, take, drop, length, inl, inr}
use Rattle.std.specs.Prelude.{nat_le, not}
use Rattle.std.specs.List.{prefix_len}
use Rattle.std.proofs.Math.Seq.{take-append_seam, drop-append_seam}
use Rattle.std.proofs.lemmas.List.{take-append-drop}
use Rattle.std.proofs.lemmas.Bool.Decides.{nat_tests}
use Rattle.c_lex.specs.Blanks.{NotFirst}
use Rattle.c_lex.specs.Literals.{is_digit, AreDigits, number_of}
use Rattle.c_lex.specs.Reading.{digits_len, byte_before, digits_at}
use Rattle.c_lex.proofs.CloseLaws.{chosen}
use Rattle.c_lex.proofs.NumberLaws.{few_digits}

-- The text begins with digits, one to so many of them, as many as stand there, and they spell this byte.
pub record Spells (base most : ℕ) (text : List ℕ) (b : ℕ) (rest : List ℕ) : Type 0 where
  pub digits : List ℕ
  pub all : AreDigits base digits
  pub some : digits ≢ []
  pub few : length digits ≤ most
  pub longest : length digits < most → NotFirst (is_digit base) rest
  pub value_is : b ≡ number_of base digits
  pub fits : b ≤ 255
  pub text_is : text ≡ digits ++ rest

pub chosen_true : {A : Type 0} (b : Bool) (x y : A) → b ≡ true → cond b x y ≡ x
chosen_true true x y e = refl
chosen_true false x y e = absurd cc

pub chosen_false : {A : Type 0} (b : Bool) (x y : A) → b ≡ false → cond b x y ≡ y
chosen_false true x y e = absurd cc
chosen_false false x y e = refl

pub is_not : (b : Bool) → IsTrue (not b) → b ≡ false
is_not true e = absurd cc
is_not false e = refl

pub not_is : (b : Bool) → b ≡ false → IsTrue (not b)
not_is true e = absurd cc
not_is false e = refl

-- ---- how many are counted

counted : (base most : ℕ) (digits rest : List ℕ) → AreDigits base digits → length digits ≤ most
    → (length digits < most → NotFirst (is_digit base) rest) → digits_len base most (digits ++ rest) ≡ length digits
counted base zero [] rest all few longest = refl
counted base (suc n) [] [] all few longest = refl
counted base (suc n) [] (x ∷ xs) all few longest =
    chosen_false (is_digit base x) (1 + prefix_len (is_digit base) (take n xs)) 0 (is_not (is_digit base x) (longest (omega arith)))
counted base zero (d ∷ ds) rest all few longest = absurd (omega (arith, few))
counted base (suc n) (d ∷ ds) rest all few longest =
    let more : digits_len base n (ds ++ rest) ≡ length ds = counted base n ds rest all.1 (omega (arith, few)) (λ h. longest (omega (arith, h))) in
    chosen_true (is_digit base d) (1 + prefix_len (is_digit base) (take n (ds ++ rest))) 0 all.0 ∙ omega (arith, more)

above_none : (n k : ℕ) → n ≡ suc k → eqb n 0 ≡ false
above_none n k e = grind (arith, nat_tests)

low_byte : (n : ℕ) → n ≤ 255 → nat_le n 255 ≡ true
low_byte n e = grind (arith, nat_tests)

of_low : (n : ℕ) (rest : List ℕ) → n ≤ 255 → byte_before n rest ≡ Some (n, rest)
of_low n rest e = chosen_true (nat_le n 255) (Some (n, rest)) None (low_byte n e)

spelled : (base n : ℕ) (text digits rest : List ℕ) → n ≡ length digits → text ≡ digits ++ rest → digits ≢ [] → number_of base digits ≤ 255
    → cond (eqb n 0) None (byte_before (number_of base (take n text)) (drop n text)) ≡ Some (number_of base digits, rest)
spelled base n text [] rest e f some fits = absurd (some refl)
spelled base n text (d ∷ ds) rest e f some fits =
    let front : take n text ≡ d ∷ ds = ap (λ (x : ℕ). take x text) e ∙ ap (take (length (d ∷ ds))) f ∙ take-append_seam (d ∷ ds) rest in
    let behind : drop n text ≡ rest = ap (λ (x : ℕ). drop x text) e ∙ ap (drop (length (d ∷ ds))) f ∙ drop-append_seam (d ∷ ds) rest in
    chosen_false (eqb n 0) None (byte_before (number_of base (take n text)) (drop n text)) (above_none n (length ds) (omega (arith, e)))
    ∙ ap (λ (x : List ℕ). byte_before (number_of base x) (drop n text)) front
    ∙ ap (λ (x : List ℕ). byte_before (number_of base (d ∷ ds)) x) behind
    ∙ of_low (number_of base (d ∷ ds)) rest fits

pub digits_at-complete : (base most : ℕ) (text : List ℕ) (b : ℕ) (rest : List ℕ) → Spells base most text b rest
    → digits_at base most text ≡ Some (b, rest)
unfolding digits_at
digits_at-complete base most text b rest s =
    let count : digits_len base most text ≡ length s.digits =
    ap (digits_len base most) s.text_is ∙ counted base most s.digits rest s.all s.few s.longest in
    spelled base (digits_len base most text) text s.digits rest count s.text_is s.some (omega (arith, s.value_is, s.fits))
    ∙ ap (λ (x : ℕ). Some (x, rest)) (sym s.value_is)

-- ---- what is counted

-- so many bytes are digits, and no more of those that count
record Counted (base most : ℕ) (text : List ℕ) (n : ℕ) : Type 0 where
  all : AreDigits base (take n text)
  few : length (take n text) ≤ most
  longest : length (take n text) < most → NotFirst (is_digit base) (drop n text)

one_counted : (base most : ℕ) (x : ℕ) (xs : List ℕ) (k : ℕ) → is_digit base x ≡ true → Counted base most xs k
    → Counted base (suc most) (x ∷ xs) (suc k)
one_counted base most x xs k is s = record {
  all = (is, s.all);
  few = omega (arith, s.few);
  longest = λ h. s.longest (omega (arith, h));
}

stops_counting : (base most : ℕ) (x : ℕ) (xs : List ℕ) → is_digit base x ≡ false → Counted base (suc most) (x ∷ xs) 0
stops_counting base most x xs is = record { all = tt; few = omega arith; longest = λ h. not_is (is_digit base x) is }

by_test : (base most : ℕ) (x : ℕ) (xs : List ℕ) (k : ℕ) (test : Bool) → is_digit base x ≡ test → Counted base most xs k
    → Counted base (suc most) (x ∷ xs) (cond test (1 + k) 0)
by_test base most x xs k true is s =
    let P : ℕ → Type 0 = λ n. Counted base (suc most) (x ∷ xs) n in
    let same : suc k ≡ 1 + k = omega arith in
    subst P same (one_counted base most x xs k is s)
by_test base most x xs k false is s = stops_counting base most x xs is

counts : (base most : ℕ) (text : List ℕ) → Counted base most text (digits_len base most text)
counts base zero text = record { all = tt; few = omega arith; longest = λ h. absurd (omega (arith, h)) }
counts base (suc n) [] = record { all = tt; few = omega arith; longest = λ h. tt }
counts base (suc n) (x ∷ xs) =
    by_test base n x xs (digits_len base n xs) (is_digit base x) refl (counts base n xs)

some_taken : (n : ℕ) (text : List ℕ) → eqb n 0 ≡ false → n ≤ length text → take n text ≢ []
some_taken zero text e small = absurd cc
some_taken (suc n) [] e small = absurd (omega (arith, small))
some_taken (suc n) (x ∷ xs) e small = λ f. absurd cc

pub some_once : {A : Type 0} (x y : A) → Some x ≡ Some y → x ≡ y
some_once x y e = cc

-- a byte, and the text behind it
abbrev pub found : ℕ → List ℕ → Option (ℕ × List ℕ)
found b rest = Some (b, rest)

pub pair_once : (a b : ℕ) (r s : List ℕ) → found a r ≡ found b s → (a ≡ b) × (r ≡ s)
pair_once a b r s e =
    let one : ℕ × List ℕ = (a, r) in
    let other : ℕ × List ℕ = (b, s) in
    let same : one ≡ other = some_once one other e in
    (ap (λ (x : ℕ × List ℕ). x.0) same, ap (λ (x : ℕ × List ℕ). x.1) same)

fits_in : (n : ℕ) → nat_le n 255 ≡ true → n ≤ 255
fits_in n e = grind (arith, nat_tests)

spells_of : (base most : ℕ) (text : List ℕ) (n b : ℕ) (rest : List ℕ) → Counted base most text n → eqb n 0 ≡ false → n ≤ length text
    → byte_before (number_of base (take n text)) (drop n text) ≡ Some (b, rest) → Spells base most text b rest
spells_of base most text n b rest s some small e =
    elim (chosen (nat_le (number_of base (take n text)) 255) (Some (number_of base (take n text), drop n text)) None (Some (b, rest)) e) [
      | inl (y, f) ↦
          let value : number_of base (take n text) ≡ b = (pair_once (number_of base (take n text)) b (drop n text) rest f).0 in
          let behind : drop n text ≡ rest = (pair_once (number_of base (take n text)) b (drop n text) rest f).1 in
          let P : List ℕ → Type 0 = λ x. NotFirst (is_digit base) x in
          record {
            digits = take n text;
            all = s.all;
            some = some_taken n text some small;
            few = s.few;
            longest = λ h. subst P behind (s.longest h);
            value_is = sym value;
            fits = omega (arith, value, fits_in (number_of base (take n text)) y);
            text_is = sym (take-append-drop n text) ∙ ap (λ (x : List ℕ). take n text ++ x) behind;
          }
      | inr (y, f) ↦ absurd cc
    ]

pub digits_at-sound : (base most : ℕ) (text : List ℕ) (b : ℕ) (rest : List ℕ) → digits_at base most text ≡ Some (b, rest)
    → Spells base most text b rest
unfolding digits_at
digits_at-sound base most text b rest e =
    let n = digits_len base most text in
    elim (chosen (eqb n 0) None (byte_before (number_of base (take n text)) (drop n text)) (Some (b, rest)) e) [
      | inl (y, f) ↦ absurd cc
      | inr (y, f) ↦ spells_of base most text n b rest (counts base most text) y (few_digits (is_digit base) most text) f
    ]
