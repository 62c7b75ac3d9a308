-- Operators on one operand (C11, 6.5.3), casts (6.5.4) and sizes.
use Rattle.std.specs.Prelude.{ℕ, ◌&&◌, ◌||◌, if◌then◌else◌, not, Bool, true, false, List, [], ◌∷◌, Option, Some, None, Result, Ok, Err}
use Rattle.rank_range.specs.declared.kinds.Kind.{Kind}
use Rattle.rank_range.specs.declared.kinds.Kind.TheVariants as kind
use Rattle.rank_range.specs.declared.operators.Unary.{Unary}
use Rattle.rank_range.specs.Kinds.{promoted}
use Rattle.c_ast.specs.declared.words.PrefixOp.{PrefixOp}
use Rattle.c_ast.specs.declared.words.PrefixOp.TheVariants as prefix
use Rattle.c_types.specs.declared.ctype.CType.{CType}
use Rattle.c_types.specs.declared.expression.Expr.{Expr}
use Rattle.c_types.specs.declared.expression.Step.TheVariants as step
use Rattle.c_types.specs.Sizes.{Structs}
use Rattle.c_const.specs.declared.evaluated.Evaluated.{Evaluated}
use Rattle.c_const.specs.Constants as constants
use Rattle.c_typing.specs.declared.judged.Judged.{Judged}
use Rattle.c_typing.specs.declared.judged.Judged.TheVariants as judged
use Rattle.c_typing.specs.declared.judged.Value.{Value}
use Rattle.c_typing.specs.declared.judged.Sort.{Sort}
use Rattle.c_typing.specs.declared.judged.Sort.TheVariants as sort
use Rattle.c_typing.specs.declared.classes.Class.{Class}
use Rattle.c_typing.specs.declared.classes.Class.TheVariants as class
use Rattle.c_typing.specs.declared.classes.Target.TheVariants as target
use Rattle.c_typing.specs.declared.rules.Rule.{Rule}
use Rattle.c_typing.specs.declared.rules.Rule.TheVariants as rule
use Rattle.c_typing.specs.Rules.{unless}
use Rattle.c_typing.specs.Types.{pointer_to, without_last, measured}
use Rattle.c_typing.specs.Classes.{class_of, class_of_type, is_pointer, is_scalar, is_void, kind_in}
use Rattle.c_typing.specs.Values.{used, plain, whole_type, number, is_zero_constant}
use Rattle.c_typing.specs.Trees.{behind, converted}

-- `&` takes a place.
abbrev pub address : Judged → Result Judged Rule
address (judged.Place t e) = Ok (judged.Value (plain (pointer_to t) e))
address (judged.Value v) = Err rule.NotAssignable
address (judged.Function t callee) = Err rule.NotAssignable

-- `*` takes a pointer, and gives the place to which it points, whatever its type.
abbrev pub pointed_to : Structs → Value → Result Judged Rule
pointed_to structs v =
    if not (is_pointer (class_of structs v)) then Err rule.NotPointer else Ok (judged.Place (without_last v.of) v.tree)

unfoldable pub deref : Structs → Judged → Result Judged Rule
deref structs j = pointed_to structs (used j)

-- `+`, `-` and `~` take a whole number, and promote it.
abbrev pub with_sign : Option Unary → Kind → Expr → Expr
with_sign (Some u) k e = behind e (step.Unary u k)
with_sign None k e = e

abbrev pub signed : PrefixOp → Option Unary → Kind → Value → Value
signed o machine k v = record {
  of = whole_type (promoted k);
  tree = with_sign machine (promoted k) (converted (record { tree = v.tree; from = k; to = promoted k }));
  constant = constants.prefixed_part o v.constant;
  sort = sort.Plain;
}

abbrev pub signed_by : PrefixOp → Option Unary → Value → Class → Result Judged Rule
signed_by o machine v (class.Whole k) = Ok (judged.Value (signed o machine k v))
signed_by o machine v c = Err rule.NotWhole

abbrev pub sign_of : Structs → PrefixOp → Option Unary → Value → Result Judged Rule
sign_of structs o machine v = signed_by o machine v (class_of structs v)

unfoldable pub sign : Structs → PrefixOp → Option Unary → Judged → Result Judged Rule
sign structs o machine j = sign_of structs o machine (used j)

-- `!` takes a number or a pointer.
abbrev pub denied : Value → Value
denied v = record {
  of = whole_type kind.Int;
  tree = behind v.tree step.Not;
  constant = constants.prefixed_part prefix.Not v.constant;
  sort = sort.Plain;
}

abbrev pub denial : Structs → Value → Result Judged Rule
denial structs v = if not (is_scalar (class_of structs v)) then Err rule.NotScalar else Ok (judged.Value (denied v))

unfoldable pub deny : Structs → Judged → Result Judged Rule
deny structs j = denial structs (used j)

-- A cast to `void` takes all, and one to a number or a pointer takes numbers and pointers.
abbrev pub cast_rule : Class → Class → Option Rule
cast_rule to from = if is_void to || (is_scalar to && is_scalar from) then None else Some rule.NotScalar

-- A cast to a whole type is a conversion, also to the same one; pointers are all alike.
abbrev pub cast_tree : Class → Kind → Expr → Expr
cast_tree (class.Whole to) from e = behind e (step.Convert from to)
cast_tree (class.Pointer t) from e = converted (record { tree = e; from = from; to = kind.UnsignedLong })
cast_tree class.Void from e = e
cast_tree (class.Struct n) from e = e
cast_tree class.Array from e = e
cast_tree class.Function from e = e

abbrev pub cast_constant : Class → Option Evaluated → Option Evaluated
cast_constant (class.Whole to) constant = constants.cast_to to constant
cast_constant c constant = None

-- A constant 0 that is cast to `void *` is a null pointer constant (C11, 6.3.2.3p3).
abbrev pub sort_of_cast : CType → Class → Bool → Sort
sort_of_cast t (class.Pointer target.Void) zero = if zero && not t.is_const then sort.NullPointer else sort.Plain
sort_of_cast t c zero = sort.Plain

abbrev pub cast_to : CType → Class → Class → Value → Value
cast_to t to from v = record {
  of = t;
  tree = cast_tree to (kind_in from) v.tree;
  constant = cast_constant to v.constant;
  sort = sort_of_cast t to (is_zero_constant v.constant);
}

abbrev pub cast_of : CType → Class → Class → Value → Result Judged Rule
cast_of t to from v = unless (cast_rule to from) (judged.Value (cast_to t to from v))

unfoldable pub cast : Structs → CType → Judged → Result Judged Rule
cast structs t j = cast_of t (class_of_type structs t) (class_of structs (used j)) (used j)

-- `sizeof` takes an expression or a type of a complete type (C11, 6.5.3.4).
abbrev pub size_by : Option ℕ → Result Judged Rule
size_by (Some bytes) = Ok (judged.Value (number kind.UnsignedLong bytes))
size_by None = Err rule.Incomplete

abbrev pub size_of_type : Structs → CType → Result Judged Rule
size_of_type structs t = size_by (measured structs t)

abbrev pub size_of_judged : Structs → Judged → Result Judged Rule
size_of_judged structs (judged.Place t e) = size_of_type structs t
size_of_judged structs (judged.Value v) = size_of_type structs v.of
size_of_judged structs (judged.Function t callee) = Err rule.Incomplete
