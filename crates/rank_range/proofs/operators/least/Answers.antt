use Rattle.std.proofs.Common.{◌≡◌, inl, inr, ap, sym, subst}
use Rattle.rank_range.specs.declared.kinds.Kind.{Kind}
use Rattle.rank_range.specs.Kinds.{value_of, is_signed}
use Rattle.rank_range.specs.Operators.{least}
use Rattle.rank_range.proofs.OperatorLemmas.{least_char, least_short, least_int, least_long, least_unsigned}
use Rattle.rank_range.proofs.operators.least.Goals as goal

pub returns-in-Char : goal.returns-in-Char
returns-in-Char c =
    let P : Kind → Type 0 = λ k. value_of k 128 ≡ least k in
    subst P (sym c.in-Char.is) least_char

pub returns-in-Short : goal.returns-in-Short
returns-in-Short c =
    let P : Kind → Type 0 = λ k. value_of k 32768 ≡ least k in
    subst P (sym c.in-Short.is) least_short

pub returns-in-Int : goal.returns-in-Int
returns-in-Int c =
    let P : Kind → Type 0 = λ k. value_of k 2147483648 ≡ least k in
    subst P (sym c.in-Int.is) least_int

pub returns-in-Long : goal.returns-in-Long
returns-in-Long c =
    let P : Kind → Type 0 = λ k. value_of k 9223372036854775808 ≡ least k in
    subst P (sym c.in-Long.is) least_long

pub returns-in-UnsignedChar : goal.returns-in-UnsignedChar
returns-in-UnsignedChar c =
    elim c.in-UnsignedChar.is [
      | inl is ↦ least_unsigned c.args.kind (ap is_signed is)
      | inr (inl is) ↦ least_unsigned c.args.kind (ap is_signed is)
      | inr (inr (inl is)) ↦ least_unsigned c.args.kind (ap is_signed is)
      | inr (inr (inr is)) ↦ least_unsigned c.args.kind (ap is_signed is)
    ]
