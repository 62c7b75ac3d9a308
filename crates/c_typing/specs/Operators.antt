-- What operators between two operands make of them (C11, 6.5.5 to 6.5.14).
use Rattle.std.specs.Prelude.{ℕ, if◌then◌else◌, not, Bool, true, false, Option, Some, None, Result}
use Rattle.rank_range.specs.declared.kinds.Kind.{Kind}
use Rattle.rank_range.specs.declared.kinds.Kind.TheVariants as kind
use Rattle.rank_range.specs.declared.operators.Binary.{Binary}
use Rattle.rank_range.specs.declared.operators.Binary.TheVariants as machine
use Rattle.rank_range.specs.Kinds.{usual, promoted}
use Rattle.c_ast.specs.declared.words.BinaryOp.{BinaryOp}
use Rattle.c_ast.specs.declared.words.BinaryOp.TheVariants as op
use Rattle.c_types.specs.declared.ctype.CType.{CType}
use Rattle.c_types.specs.declared.expression.OffsetBy.{OffsetBy}
use Rattle.c_types.specs.declared.expression.OffsetBy.TheVariants as by
use Rattle.c_types.specs.Sizes.{Structs}
use Rattle.c_const.specs.declared.evaluated.Evaluated.{Evaluated}
use Rattle.c_const.specs.Constants as constants
use Rattle.c_typing.specs.declared.judged.Judged.{Judged}
use Rattle.c_typing.specs.declared.judged.Judged.TheVariants as judged
use Rattle.c_typing.specs.declared.judged.Value.{Value}
use Rattle.c_typing.specs.declared.judged.Sort.TheVariants as sort
use Rattle.c_typing.specs.declared.pairs.Pair.{Pair}
use Rattle.c_typing.specs.declared.operators.Plan.{Plan}
use Rattle.c_typing.specs.declared.operators.Gives.{Gives}
use Rattle.c_typing.specs.declared.operators.Gives.TheVariants as gives
use Rattle.c_typing.specs.declared.trees.Joining.{Joining}
use Rattle.c_typing.specs.declared.trees.Joining.TheVariants as join
use Rattle.c_typing.specs.declared.rules.Rule.{Rule}
use Rattle.c_typing.specs.Rules.{first_of, unless}
use Rattle.c_typing.specs.Classes.{is_pointer, kind_in, scale_in}
use Rattle.c_typing.specs.Values.{used, whole_type}
use Rattle.c_typing.specs.Trees.{operation}
use Rattle.c_typing.specs.Pairs.{pair_of, binary_rows}

-- The kind in which both operands meet. A pointer is as an `unsigned long`.
abbrev pub common : Pair → Kind
common p = usual (kind_in p.left) (kind_in p.right)

-- An operator works in the common kind, and what it gives has that kind,
abbrev pub number_plan : Binary → Pair → Plan
number_plan o p = record { left = common p; right = common p; step = join.Binary o (common p); gives = gives.Whole (common p) }

-- but a comparison gives an `int`.
abbrev pub turned_plan : Joining → Pair → Plan
turned_plan j p = record { left = common p; right = common p; step = j; gives = gives.Whole kind.Int }

abbrev pub comparison_plan : Binary → Pair → Plan
comparison_plan o p = turned_plan (join.Binary o (common p)) p

-- `&&` and `||` take words as they are, and give an `int`.
abbrev pub test_plan : Joining → Pair → Plan
test_plan j p = record { left = kind_in p.left; right = kind_in p.right; step = j; gives = gives.Whole kind.Int }

-- A shift promotes each operand by itself, and has the kind of the left one.
abbrev pub shift_plan : Binary → Pair → Plan
shift_plan o p = record {
  left = promoted (kind_in p.left);
  right = promoted (kind_in p.right);
  step = join.Binary o (promoted (kind_in p.left));
  gives = gives.Whole (promoted (kind_in p.left));
}

-- A pointer is moved by a number of elements (C11, 6.5.6p8).
abbrev pub moved_plan : OffsetBy → ℕ → Gives → Pair → Plan
moved_plan b scale g p = record { left = kind_in p.left; right = kind_in p.right; step = join.Offset b scale; gives = g }

abbrev pub sum_plan : Pair → Plan
sum_plan p =
    if is_pointer p.left then moved_plan by.PointerPlusNumber (scale_in p.left) gives.Left p
    else (if is_pointer p.right then moved_plan by.NumberPlusPointer (scale_in p.right) gives.Right p else number_plan machine.Add p)

-- The difference of two pointers is the number of elements between them, a `long` (C11, 6.5.6p9).
abbrev pub distance_plan : Pair → Plan
distance_plan p = record {
  left = kind.UnsignedLong;
  right = kind.UnsignedLong;
  step = join.Difference (scale_in p.left);
  gives = gives.Whole kind.Long;
}

abbrev pub difference_plan : Pair → Plan
difference_plan p =
    if not (is_pointer p.left) then number_plan machine.Subtract p
    else (if not (is_pointer p.right) then moved_plan by.PointerMinusNumber (scale_in p.left) gives.Left p else distance_plan p)

abbrev pub plan_for : BinaryOp → Pair → Plan
plan_for op.Or p = test_plan join.Or p
plan_for op.And p = test_plan join.And p
plan_for op.BitOr p = number_plan machine.Or p
plan_for op.BitXor p = number_plan machine.Xor p
plan_for op.BitAnd p = number_plan machine.And p
plan_for op.Equal p = comparison_plan machine.Equal p
plan_for op.NotEqual p = comparison_plan machine.NotEqual p
plan_for op.Less p = comparison_plan machine.Less p
plan_for op.Greater p = turned_plan (join.Greater (common p)) p
plan_for op.AtMost p = comparison_plan machine.AtMost p
plan_for op.AtLeast p = turned_plan (join.AtLeast (common p)) p
plan_for op.ShiftLeft p = shift_plan machine.ShiftLeft p
plan_for op.ShiftRight p = shift_plan machine.ShiftRight p
plan_for op.Add p = sum_plan p
plan_for op.Subtract p = difference_plan p
plan_for op.Multiply p = number_plan machine.Multiply p
plan_for op.Divide p = number_plan machine.Divide p
plan_for op.Remainder p = number_plan machine.Remainder p

abbrev pub result_type : Gives → CType → CType → CType
result_type (gives.Whole k) s t = whole_type k
result_type gives.Left s t = s
result_type gives.Right s t = t

-- what is made of two operands, with what they have as constants
abbrev pub made : Plan → Pair → Option Evaluated → Value → Value → Value
made plan p constant a b = record {
  of = result_type plan.gives a.of b.of;
  tree = operation
      (record { tree = a.tree; from = kind_in p.left; to = plan.left })
      plan.step
      (record { tree = b.tree; from = kind_in p.right; to = plan.right });
  constant = constant;
  sort = sort.Plain;
}

abbrev pub made_of : BinaryOp → Pair → Value → Value → Judged
made_of o p a b = judged.Value (made (plan_for o p) p (constants.binary o a.constant b.constant) a b)

abbrev pub valued : Structs → BinaryOp → Value → Value → Result Judged Rule
valued structs o a b = unless (first_of (binary_rows o (pair_of structs a b))) (made_of o (pair_of structs a b) a b)

unfoldable pub binary : Structs → BinaryOp → Judged → Judged → Result Judged Rule
binary structs o a b = valued structs o (used a) (used b)
