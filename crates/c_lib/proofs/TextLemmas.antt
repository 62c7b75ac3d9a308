-- Digits that are read into 32 bits.
use Rattle.std.proofs.Common.{◌≡◌, ℕ, ◌+◌, ◌-◌, ◌*◌, ◌%◌, ◌^◌, ◌≤◌, Bool, true, false, List, [], ◌∷◌, length, drop, get_or, refl, ap, sym, ◌∙◌, arith, Option, Some}
use Rattle.std.specs.Prelude.{if◌then◌else◌, option_map}
use Rattle.rank_range.specs.Library.{digits_value, is_digit}

abbrev pub bits_of : Option ℕ → Option ℕ
bits_of o = option_map (λ (n : ℕ). n % 2 ^ 32) o

chosen : (t : Bool) (a b c d : Option ℕ) → bits_of a ≡ bits_of c → bits_of b ≡ bits_of d
    → bits_of (if t then a else b) ≡ bits_of (if t then c else d)
chosen true a b c d left right = left
chosen false a b c d left right = right

-- the low bits of the number depend on those of what was read before
same_bits : (m n : ℕ) (bytes : List ℕ) → m % 2 ^ 32 ≡ n % 2 ^ 32 → bits_of (digits_value m bytes) ≡ bits_of (digits_value n bytes)
same_bits m n [] same = refl
same_bits m n (b ∷ bytes) same =
    let more : (10 * m + (b - 48)) % 2 ^ 32 ≡ (10 * n + (b - 48)) % 2 ^ 32 = omega (arith, same) in
    chosen (is_digit b) (digits_value (10 * m + (b - 48)) bytes) (Some m) (digits_value (10 * n + (b - 48)) bytes) (Some n)
    (same_bits (10 * m + (b - 48)) (10 * n + (b - 48)) bytes more) (ap Some same)

picked : (t : Bool) (a b : Option ℕ) → t ≡ true → a ≡ (if t then a else b)
picked t a b holds = ap (λ (x : Bool). if x then a else b) (sym holds)

pub digits_more : (n : ℕ) (bytes : List ℕ) → 1 ≤ length bytes → is_digit (get_or bytes 0 0) ≡ true
    → bits_of (digits_value ((n * 10 % 4294967296 + (get_or bytes 0 0 - 48)) % 4294967296) (drop 1 bytes)) ≡ bits_of (digits_value n bytes)
digits_more n [] some digit = absurd (omega arith)
digits_more n (b ∷ bytes) some digit =
    let same : ((n * 10 % 4294967296 + (b - 48)) % 4294967296) % 2 ^ 32 ≡ (10 * n + (b - 48)) % 2 ^ 32 = omega arith in
    same_bits ((n * 10 % 4294967296 + (b - 48)) % 4294967296) (10 * n + (b - 48)) bytes same
    ∙ ap bits_of (picked (is_digit b) (digits_value (10 * n + (b - 48)) bytes) (Some n) digit)
