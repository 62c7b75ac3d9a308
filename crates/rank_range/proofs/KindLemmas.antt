-- Words and the numbers that they stand for.
use Rattle.std.proofs.Common.{◌≡◌, ℕ, ◌%◌, ◌^◌, ◌<◌, ◌∙◌, refl, sym, ap, arith, rules}
use Rattle.std.proofs.Math.Facts.{sfits_to_z}
use Rattle.std.specs.Prelude.{ℤ, pos, negsuc}
use Rattle.std.specs.Int.{w64, cast_signed, cast_unsigned}
use Rattle.std.specs.Int.RustNames.{FitsSigned}
use Rattle.std.proofs.lemmas.Int.{ints, of_z-to_z}
use Rattle.rank_range.specs.declared.kinds.Kind.{Kind}
use Rattle.rank_range.specs.declared.kinds.Kind.TheVariants.{Long, UnsignedLong}
use Rattle.rank_range.specs.Kinds.{low_bits, reduced, word_of, extended}

-- a number of 64 bits with a sign has its two's complement as its word
pub word_signed : (z : ℤ) → FitsSigned w64 z → word_of z ≡ cast_unsigned w64 z
unfolding word_of
word_signed (pos n) fits = omega (arith, ints)
word_signed (negsuc n) fits = omega (arith, ints)

pub word_unsigned : (n : ℕ) → n < 2 ^ 64 → word_of (pos n) ≡ n
unfolding word_of
word_unsigned n fits = omega arith

pub fits_signed : (n : ℕ) → n < 2 ^ 64 → FitsSigned w64 (cast_signed w64 n)
fits_signed n small = sfits_to_z (search rules)

-- the low bits of a word are those of the number
pub low_8 : (z : ℤ) → low_bits 8 (pos (low_bits 64 z)) ≡ low_bits 8 z
low_8 (pos n) = omega arith
low_8 (negsuc n) = omega arith

pub low_16 : (z : ℤ) → low_bits 16 (pos (low_bits 64 z)) ≡ low_bits 16 z
low_16 (pos n) = omega arith
low_16 (negsuc n) = omega arith

pub low_32 : (z : ℤ) → low_bits 32 (pos (low_bits 64 z)) ≡ low_bits 32 z
low_32 (pos n) = omega arith
low_32 (negsuc n) = omega arith

pub low_64 : (z : ℤ) → low_bits 64 (pos (low_bits 64 z)) ≡ low_bits 64 z
low_64 (pos n) = omega arith
low_64 (negsuc n) = omega arith

-- the word that a signed kind gives, by its number s
pub signed_word : (kind : Kind) (word r : ℕ) (s : ℤ) → r ≡ cast_unsigned w64 s → s ≡ reduced kind (pos word)
    → FitsSigned w64 s → r ≡ extended kind word
unfolding extended
signed_word kind word r s bits number fits = bits ∙ sym (word_signed s fits) ∙ ap word_of number

-- the word that an unsigned kind gives
pub unsigned_word : (kind : Kind) (word r : ℕ) → pos r ≡ reduced kind (pos word) → r < 2 ^ 64 → r ≡ extended kind word
unfolding extended
unsigned_word kind word r number fits = sym (word_unsigned r fits) ∙ ap word_of number

pub long_word : (word : ℕ) → word < 2 ^ 64 → word ≡ extended Long word
unfolding reduced
long_word word fits =
    let same : word ≡ word % 2 ^ 64 = omega arith in
    let s : ℤ = cast_signed w64 (word % 2 ^ 64) in
    let bits : word ≡ cast_unsigned w64 s = same ∙ sym (of_z-to_z w64 (word % 2 ^ 64) (omega arith)) in
    signed_word Long word word s bits refl (fits_signed (word % 2 ^ 64) (omega arith))

pub unsigned_long_word : (word : ℕ) → word < 2 ^ 64 → word ≡ extended UnsignedLong word
unfolding reduced
unsigned_long_word word fits =
    let same : word ≡ word % 2 ^ 64 = omega arith in
    unsigned_word UnsignedLong word word (ap pos same) fits
