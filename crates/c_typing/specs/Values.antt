-- The values of expressions (C11, 6.3.2.1).
use Rattle.std.specs.Prelude.{ℕ, ◌||◌, nat_eq, Bool, true, false, List, [], ◌∷◌, Option, Some, None}
use Rattle.rank_range.specs.declared.kinds.Kind.{Kind}
use Rattle.rank_range.specs.declared.kinds.Kind.TheVariants as kind
use Rattle.rank_range.specs.Kinds.{extended}
use Rattle.c_types.specs.declared.ctype.CType.{CType}
use Rattle.c_types.specs.declared.ctype.Base.{Base}
use Rattle.c_types.specs.declared.ctype.Base.TheVariants as base
use Rattle.c_types.specs.declared.ctype.Part.{Part}
use Rattle.c_types.specs.declared.ctype.Part.TheVariants as part
use Rattle.c_types.specs.declared.expression.Expr.{Expr}
use Rattle.c_types.specs.declared.expression.Operand.TheVariants as operand
use Rattle.c_types.specs.declared.expression.Step.TheVariants as step
use Rattle.c_const.specs.declared.evaluated.Evaluated.{Evaluated}
use Rattle.c_const.specs.Constants.{of_kind}
use Rattle.c_typing.specs.declared.judged.Judged.{Judged}
use Rattle.c_typing.specs.declared.judged.Judged.TheVariants as judged
use Rattle.c_typing.specs.declared.judged.Value.{Value}
use Rattle.c_typing.specs.declared.judged.Sort.{Sort}
use Rattle.c_typing.specs.declared.judged.Sort.TheVariants as sort
use Rattle.c_typing.specs.Types.{last_part, without_last, pointer_to}
use Rattle.c_typing.specs.Trees.{alone, behind}

abbrev pub whole_type : Kind → CType
whole_type k = record { base = base.Whole k; is_const = false; parts = [] }

abbrev pub void_type : CType
void_type = record { base = base.Void; is_const = false; parts = [] }

-- a value that is no constant
abbrev pub plain : CType → Expr → Value
plain t e = record { of = t; tree = e; constant = None; sort = sort.Plain }

abbrev pub number : Kind → ℕ → Value
number k word = record {
  of = whole_type k;
  tree = alone (operand.Number (extended k word));
  constant = Some (of_kind k word);
  sort = sort.Plain;
}

-- A place is read: an array becomes a pointer to its first element, a number or a pointer is loaded, and a structure is told by its
-- address. Nothing is read from `void`.
abbrev pub loaded : CType → Kind → Expr → Value
loaded t k e = plain t (behind e (step.Load k))

abbrev pub decayed : CType → Expr → Value
decayed t e = plain (pointer_to (without_last t)) e

abbrev pub read_base : CType → Expr → Base → Value
read_base t e base.Void = plain t e
read_base t e (base.Whole k) = loaded t k e
read_base t e (base.Struct n) = plain t e

abbrev pub read_by : CType → Expr → Option Part → Value
read_by t e (Some (part.Pointer is_const)) = loaded t kind.UnsignedLong e
read_by t e (Some (part.Array count)) = decayed t e
read_by t e (Some part.OpenArray) = decayed t e
read_by t e None = read_base t e t.base

abbrev pub read : CType → Expr → Value
read t e = read_by t e (last_part t)

-- A function that isn't called has no value.
abbrev pub uncalled : Value
uncalled = record { of = void_type; tree = alone (operand.Number 0); constant = None; sort = sort.Function }

unfoldable pub used : Judged → Value
used (judged.Place t e) = read t e
used (judged.Value v) = v
used (judged.Function t callee) = uncalled

-- A null pointer constant is a constant 0 of a whole type, or one that was cast to `void *` (C11, 6.3.2.3p3).
abbrev pub is_zero_word : Option ℕ → Bool
is_zero_word (Some word) = nat_eq word 0
is_zero_word None = false

abbrev pub is_zero_constant : Option Evaluated → Bool
is_zero_constant (Some v) = is_zero_word v.word
is_zero_constant None = false

abbrev pub is_null_sort : Sort → Bool
is_null_sort sort.Plain = false
is_null_sort sort.NullPointer = true
is_null_sort sort.Function = false

abbrev pub is_zero : Value → Bool
is_zero v = is_null_sort v.sort || is_zero_constant v.constant
