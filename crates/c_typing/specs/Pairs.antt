-- The rules on operators between two operands (C11, 6.5.5 to 6.5.14): for each a table of what breaks which rule.
use Rattle.std.specs.Prelude.{◌&&◌, ◌||◌, not, Bool, true, false, List, [], ◌∷◌}
use Rattle.c_ast.specs.declared.words.BinaryOp.{BinaryOp}
use Rattle.c_ast.specs.declared.words.BinaryOp.TheVariants as op
use Rattle.c_types.specs.Sizes.{Structs}
use Rattle.c_typing.specs.declared.judged.Value.{Value}
use Rattle.c_typing.specs.declared.pairs.Pair.{Pair}
use Rattle.c_typing.specs.declared.rules.Rule.TheVariants as rule
use Rattle.c_typing.specs.Rules.{Row, row}
use Rattle.c_typing.specs.Types.{is_compatible}
use Rattle.c_typing.specs.Classes.{class_of, is_whole, is_pointer, is_scalar, is_unmoved, is_void_pointer}
use Rattle.c_typing.specs.Values.{is_zero}

abbrev pub pair_of : Structs → Value → Value → Pair
pair_of structs a b = record {
  left = class_of structs a;
  right = class_of structs b;
  same = is_compatible a.of b.of;
  left_zero = is_zero a;
  right_zero = is_zero b;
}

abbrev pub are_whole : Pair → Bool
are_whole p = is_whole p.left && is_whole p.right

abbrev pub are_pointers : Pair → Bool
are_pointers p = is_pointer p.left && is_pointer p.right

abbrev pub are_scalar : Pair → Bool
are_scalar p = is_scalar p.left && is_scalar p.right

-- `*`, `/`, `%`, `<<`, `>>`, `&`, `^` and `|` take whole numbers.
unfoldable pub product_rows : Pair → List Row
product_rows p = row rule.NotWhole (not (are_whole p)) ∷ []

-- `&&` and `||` take numbers and pointers.
unfoldable pub logic_rows : Pair → List Row
logic_rows p = row rule.NotScalar (not (are_scalar p)) ∷ []

-- `+` takes two numbers, or a number and a pointer to a complete type.
unfoldable pub sum_rows : Pair → List Row
sum_rows p =
    row rule.Incomplete ((is_unmoved p.left && is_whole p.right) || (is_whole p.left && is_unmoved p.right))
    ∷ row rule.NotWhole (are_pointers p)
    ∷ row rule.NotScalar (not (are_scalar p))
    ∷ []

-- `-` takes two numbers, a pointer to a complete type and a number, or two pointers to compatible complete types.
unfoldable pub difference_rows : Pair → List Row
difference_rows p =
    row rule.Incomplete ((is_unmoved p.left && is_scalar p.right) || (is_pointer p.left && is_unmoved p.right))
    ∷ row rule.NotWhole (is_whole p.left && is_pointer p.right)
    ∷ row rule.NotScalar (not (are_scalar p))
    ∷ row rule.PointersDiffer (are_pointers p && not p.same)
    ∷ []

-- `<`, `>`, `<=` and `>=` take two numbers, or two pointers to compatible types.
unfoldable pub order_rows : Pair → List Row
order_rows p =
    row rule.NotScalar (not (are_scalar p))
    ∷ row rule.PointersDiffer (are_pointers p && not p.same)
    ∷ row rule.PointerAndNumber ((is_pointer p.left && is_whole p.right) || (is_whole p.left && is_pointer p.right))
    ∷ []

-- Two pointers meet where they point to compatible types, or one is a `void *` or a null pointer constant,
abbrev pub may_meet : Pair → Bool
may_meet p = p.same || is_void_pointer p.left || is_void_pointer p.right || p.left_zero || p.right_zero

-- and a pointer and a number where this is a null pointer constant.
abbrev pub are_mixed : Pair → Bool
are_mixed p = (is_pointer p.left && is_whole p.right && not p.right_zero) || (is_whole p.left && is_pointer p.right && not p.left_zero)

-- `==` and `!=` take two numbers, or a pointer and what it meets.
unfoldable pub equality_rows : Pair → List Row
equality_rows p =
    row rule.NotScalar (not (are_scalar p))
    ∷ row rule.PointersDiffer (are_pointers p && not (may_meet p))
    ∷ row rule.PointerAndNumber (are_mixed p)
    ∷ []

abbrev pub binary_rows : BinaryOp → Pair → List Row
binary_rows op.Or p = logic_rows p
binary_rows op.And p = logic_rows p
binary_rows op.BitOr p = product_rows p
binary_rows op.BitXor p = product_rows p
binary_rows op.BitAnd p = product_rows p
binary_rows op.Equal p = equality_rows p
binary_rows op.NotEqual p = equality_rows p
binary_rows op.Less p = order_rows p
binary_rows op.Greater p = order_rows p
binary_rows op.AtMost p = order_rows p
binary_rows op.AtLeast p = order_rows p
binary_rows op.ShiftLeft p = product_rows p
binary_rows op.ShiftRight p = product_rows p
binary_rows op.Add p = sum_rows p
binary_rows op.Subtract p = difference_rows p
binary_rows op.Multiply p = product_rows p
binary_rows op.Divide p = product_rows p
binary_rows op.Remainder p = product_rows p
