-- Digits and the types of numbers.
use Rattle.std.proofs.Common.{◌≡◌, ℕ, ◌+◌, ◌*◌, ◌^◌, ◌<◌, ◌≤◌, Bool, true, false, cond, List, [], ◌∷◌, Some, None, refl, sym, ap, ◌∙◌, arith, IsTrue, take, length}
use Rattle.std.specs.Prelude.{nat_lt, not}
use Rattle.std.specs.List.{fold, prefix_len}
use Rattle.std.proofs.lemmas.List.{length-take}
use Rattle.std.proofs.lemmas.List.Sums.{prefix_len-le-length}
use Rattle.std.proofs.lemmas.Bool.Decides.{nat_tests}
use Rattle.c_lex.specs.declared.token.NumberType.{NumberType}
use Rattle.c_lex.specs.declared.token.NumberType.TheVariants as type
use Rattle.c_lex.specs.Literals.{digit_value, number_of, IsFirstType}
use Rattle.c_lex.specs.Reading.{in_64_bits}

-- the number that digits go on with
abbrev pub number_from : ℕ → ℕ → List ℕ → ℕ
number_from base n digits = fold (λ n d. base * n + digit_value d) n digits

grows_once : (base n d : ℕ) → 1 ≤ base → n ≤ base * n + d
grows_once base n d some = grind (arith)

pub grows : (base n : ℕ) (digits : List ℕ) → 1 ≤ base → n ≤ number_from base n digits
grows base n [] some = omega arith
grows base n (d ∷ ds) some =
    omega (arith, grows_once base n (digit_value d) some, grows base (base * n + digit_value d) ds some)

pub too_wide : (n : ℕ) → 2 ^ 64 ≤ n → None ≡ in_64_bits n
too_wide n wide = grind (arith, nat_tests)

pub narrow : (n : ℕ) → n < 2 ^ 64 → Some n ≡ in_64_bits n
narrow n small = grind (arith, nat_tests)

-- so many digits at most, of a text that has them
pub few_digits : (p : ℕ → Bool) (most : ℕ) (text : List ℕ) → prefix_len p (take most text) ≤ length text
few_digits p most text = omega (arith, prefix_len-le-length p (take most text), length-take most text)

-- ---- the first type

pub is_int : (s : NumberType → Bool) → true ≡ s type.Int → IsFirstType s type.Int
is_int s a = record {
  before = [];
  behind = type.UnsignedInt ∷ type.Long ∷ type.UnsignedLong ∷ [];
  types_are = refl;
  is_suited = sym a;
  none_before = tt;
}

no_longer : (b : Bool) → false ≡ b → IsTrue (not b)
no_longer true e = absurd cc
no_longer false e = refl

pub is_unsigned_int : (s : NumberType → Bool) → false ≡ s type.Int → true ≡ s type.UnsignedInt → IsFirstType s type.UnsignedInt
is_unsigned_int s a b = record {
  before = type.Int ∷ [];
  behind = type.Long ∷ type.UnsignedLong ∷ [];
  types_are = refl;
  is_suited = sym b;
  none_before = (no_longer (s type.Int) a, tt);
}

pub is_long : (s : NumberType → Bool) → false ≡ s type.Int → false ≡ s type.UnsignedInt → true ≡ s type.Long → IsFirstType s type.Long
is_long s a b c = record {
  before = type.Int ∷ type.UnsignedInt ∷ [];
  behind = type.UnsignedLong ∷ [];
  types_are = refl;
  is_suited = sym c;
  none_before = (no_longer (s type.Int) a, (no_longer (s type.UnsignedInt) b, tt));
}

pub is_unsigned_long : (s : NumberType → Bool) → false ≡ s type.Int → false ≡ s type.UnsignedInt → false ≡ s type.Long
    → IsTrue (s type.UnsignedLong) → IsFirstType s type.UnsignedLong
is_unsigned_long s a b c d = record {
  before = type.Int ∷ type.UnsignedInt ∷ type.Long ∷ [];
  behind = [];
  types_are = refl;
  is_suited = d;
  none_before = (no_longer (s type.Int) a, (no_longer (s type.UnsignedInt) b, (no_longer (s type.Long) c, tt)));
}

pub below : (n : ℕ) → n < 2 ^ 64 → nat_lt n (2 ^ 64) ≡ true
below n small = grind (arith, nat_tests)

is_wide : (n : ℕ) → None ≡ in_64_bits n → 2 ^ 64 ≤ n
is_wide n e = by_test (nat_lt n (2 ^ 64)) refl e
  where
    by_test : (b : Bool) → nat_lt n (2 ^ 64) ≡ b → None ≡ cond b (Some n) None → 2 ^ 64 ≤ n
    by_test true t f = absurd cc
    by_test false t f = grind (arith, nat_tests)

-- a number that is too wide stays so, whatever digits follow
pub wide_later : (base n d : ℕ) (ds whole : List ℕ) → 1 ≤ base → None ≡ in_64_bits (base * n + digit_value d)
    → number_from base n (d ∷ ds) ≡ number_of base whole → None ≡ in_64_bits (number_of base whole)
wide_later base n d ds whole some e is =
    let wide : None ≡ in_64_bits (number_from base n (d ∷ ds)) =
    too_wide (number_from base n (d ∷ ds)) (omega (arith, is_wide (base * n + digit_value d) e, grows base (base * n + digit_value d) ds some)) in
    wide ∙ ap in_64_bits is
