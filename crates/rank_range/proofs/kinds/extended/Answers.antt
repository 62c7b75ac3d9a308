use Rattle.std.proofs.Common.{◌≡◌, ◌%◌, ◌^◌, ◌<◌, inl, inr, subst, sym, refl, arith, rules}
use Rattle.std.specs.Int.{w64, cast_unsigned}
use Rattle.std.specs.Int.RustNames.{FitsSigned}
use Rattle.std.proofs.lemmas.Int.{ints}
use Rattle.rank_range.specs.declared.kinds.Kind.{Kind}
use Rattle.rank_range.specs.declared.kinds.Kind.TheVariants.{Char, UnsignedChar, Short, UnsignedShort, Int, Unsigned}
use Rattle.rank_range.specs.Kinds.{reduced, extended}
use Rattle.rank_range.proofs.KindLemmas.{signed_word, unsigned_word, long_word, unsigned_long_word}
use Rattle.rank_range.proofs.kinds.extended.Goals as goal

pub returns-in-Char : goal.returns-in-Char
unfolding reduced
returns-in-Char c =
    let fits : FitsSigned w64 c.cast_signed.result = search rules in
    let bits : c.cast_unsigned.result ≡ cast_unsigned w64 c.cast_signed.result = omega (arith, ints) in
    let P : Kind → Type 0 = λ k. c.cast_unsigned.result ≡ extended k c.args.word in
    subst P (sym c.in-Char.is) (signed_word Char c.args.word c.cast_unsigned.result c.cast_signed.result bits c.cast_signed.ensures fits)

pub returns-in-UnsignedChar : goal.returns-in-UnsignedChar
unfolding reduced
returns-in-UnsignedChar c =
    let P : Kind → Type 0 = λ k. c.args.word % 2 ^ 8 ≡ extended k c.args.word in
    subst P (sym c.in-UnsignedChar.is) (unsigned_word UnsignedChar c.args.word (c.args.word % 2 ^ 8) refl (omega arith))

pub returns-in-Short : goal.returns-in-Short
unfolding reduced
returns-in-Short c =
    let fits : FitsSigned w64 c.cast_signed-in-Short.result = search rules in
    let bits : c.cast_unsigned-in-Short.result ≡ cast_unsigned w64 c.cast_signed-in-Short.result = omega (arith, ints) in
    let P : Kind → Type 0 = λ k. c.cast_unsigned-in-Short.result ≡ extended k c.args.word in
    subst P (sym c.in-Short.is) (signed_word Short c.args.word c.cast_unsigned-in-Short.result c.cast_signed-in-Short.result bits c.cast_signed-in-Short.ensures fits)

pub returns-in-UnsignedShort : goal.returns-in-UnsignedShort
unfolding reduced
returns-in-UnsignedShort c =
    let P : Kind → Type 0 = λ k. c.args.word % 2 ^ 16 ≡ extended k c.args.word in
    subst P (sym c.in-UnsignedShort.is) (unsigned_word UnsignedShort c.args.word (c.args.word % 2 ^ 16) refl (omega arith))

pub returns-in-Int : goal.returns-in-Int
unfolding reduced
returns-in-Int c =
    let fits : FitsSigned w64 c.cast_signed-in-Int.result = search rules in
    let bits : c.cast_unsigned-in-Int.result ≡ cast_unsigned w64 c.cast_signed-in-Int.result = omega (arith, ints) in
    let P : Kind → Type 0 = λ k. c.cast_unsigned-in-Int.result ≡ extended k c.args.word in
    subst P (sym c.in-Int.is) (signed_word Int c.args.word c.cast_unsigned-in-Int.result c.cast_signed-in-Int.result bits c.cast_signed-in-Int.ensures fits)

pub returns-in-Unsigned : goal.returns-in-Unsigned
unfolding reduced
returns-in-Unsigned c =
    let P : Kind → Type 0 = λ k. c.args.word % 2 ^ 32 ≡ extended k c.args.word in
    subst P (sym c.in-Unsigned.is) (unsigned_word Unsigned c.args.word (c.args.word % 2 ^ 32) refl (omega arith))

pub returns-in-Long : goal.returns-in-Long
returns-in-Long c =
    let P : Kind → Type 0 = λ k. c.args.word ≡ extended k c.args.word in
    let fits : c.args.word < 2 ^ 64 = search rules in
    elim c.in-Long.is [
      | inl is ↦ subst P (sym is) (long_word c.args.word fits)
      | inr is ↦ subst P (sym is) (unsigned_long_word c.args.word fits)
    ]
