-- `?:` and the comma (C11, 6.5.15 and 6.5.17).
use Rattle.std.specs.Prelude.{ℕ, ◌&&◌, ◌||◌, if◌then◌else◌, not, Bool, true, false, List, [], ◌∷◌, Option, Some, None, Result, Ok, Err}
use Rattle.rank_range.specs.declared.kinds.Kind.{Kind}
use Rattle.rank_range.specs.declared.kinds.Kind.TheVariants as kind
use Rattle.rank_range.specs.Kinds.{usual}
use Rattle.c_types.specs.declared.ctype.CType.{CType}
use Rattle.c_types.specs.declared.ctype.Part.{Part}
use Rattle.c_types.specs.declared.expression.Expr.{Expr}
use Rattle.c_types.specs.Sizes.{Structs}
use Rattle.c_const.specs.Constants as constants
use Rattle.c_typing.specs.declared.judged.Judged.{Judged}
use Rattle.c_typing.specs.declared.judged.Judged.TheVariants as judged
use Rattle.c_typing.specs.declared.judged.Value.{Value}
use Rattle.c_typing.specs.declared.judged.Sort.{Sort}
use Rattle.c_typing.specs.declared.judged.Sort.TheVariants as sort
use Rattle.c_typing.specs.declared.classes.Class.{Class}
use Rattle.c_typing.specs.declared.classes.Class.TheVariants as class
use Rattle.c_typing.specs.declared.trees.Joining.TheVariants as join
use Rattle.c_typing.specs.declared.trees.Side.{Side}
use Rattle.c_typing.specs.declared.pairs.Pair.{Pair}
use Rattle.c_typing.specs.declared.rules.Rule.{Rule}
use Rattle.c_typing.specs.declared.rules.Rule.TheVariants as rule
use Rattle.c_typing.specs.Rules.{Row, row, first_of, unless}
use Rattle.c_typing.specs.Types.{merged, is_const_part}
use Rattle.c_typing.specs.Classes.{class_of, is_pointer, is_scalar, is_struct, is_void, is_function, is_void_pointer, kind_in}
use Rattle.c_typing.specs.Values.{used, whole_type}
use Rattle.c_typing.specs.Trees.{choice, operation}
use Rattle.c_typing.specs.Pairs.{pair_of, are_pointers, may_meet, are_mixed}

-- The test is a number or a pointer. The branches are two numbers, a pointer and what it meets, or both `void`. A structure isn't
-- chosen.
abbrev pub choice_rows : Class → Pair → List Row
choice_rows t p =
    row rule.NotScalar (not (is_scalar t) || is_function p.left || is_function p.right)
    ∷ row rule.PointersDiffer (are_pointers p && not (may_meet p))
    ∷ row rule.PointerAndNumber (are_mixed p)
    ∷ row rule.VoidUsed ((is_void p.left && not (is_void p.right)) || (not (is_void p.left) && is_void p.right))
    ∷ row rule.StructUsed (is_struct p.left || is_struct p.right)
    ∷ []

-- the kind in which two branches meet
abbrev pub meeting_of : Class → Class → Kind
meeting_of (class.Whole k) (class.Whole l) = usual k l
meeting_of c d = kind.UnsignedLong

abbrev pub meeting : Pair → Kind
meeting p = meeting_of p.left p.right

-- whether what a pointer points to is `const`: what is so before the last part of the type
abbrev pub const_before : Bool → Bool → List Part → Bool
const_before before now [] = before
const_before before now (p ∷ ps) = const_before now (is_const_part now p) ps

abbrev pub target_is_const : CType → Bool
target_is_const t = const_before t.is_const t.is_const t.parts

abbrev pub with_target_const : CType → Bool → CType
with_target_const t target = record t { is_const = t.is_const || target }

-- Of two pointers: beside a null pointer constant the other one; of compatible types the composite type; else a `void *`. What it
-- points to is `const` where that of one of them is.
abbrev pub pointer_type : Pair → CType → CType → CType
pointer_type p s t =
    if p.left_zero && not p.right_zero then t
    else (if p.right_zero then s
    else (if p.same then merged s t
    else (if is_void_pointer p.left then with_target_const s (target_is_const t) else with_target_const t (target_is_const s))))

abbrev pub meeting_of_types : Pair → Class → Class → CType → CType → CType
meeting_of_types p (class.Whole k) (class.Whole l) s t = whole_type (usual k l)
meeting_of_types p (class.Pointer a) (class.Pointer b) s t = pointer_type p s t
meeting_of_types p (class.Whole k) (class.Pointer b) s t = t
meeting_of_types p c d s t = s

abbrev pub meeting_type : Pair → CType → CType → CType
meeting_type p s t = meeting_of_types p p.left p.right s t

abbrev pub chosen : Pair → Value → Value → Value → Value
chosen p test a b = record {
  of = meeting_type p a.of b.of;
  tree = choice test.tree
      (record { tree = a.tree; from = kind_in p.left; to = meeting p })
      (record { tree = b.tree; from = kind_in p.right; to = meeting p });
  constant = constants.conditional test.constant a.constant b.constant;
  sort = sort.Plain;
}

abbrev pub chosen_by : Structs → Value → Value → Value → Result Judged Rule
chosen_by structs test a b =
    unless (first_of (choice_rows (class_of structs test) (pair_of structs a b))) (judged.Value (chosen (pair_of structs a b) test a b))

unfoldable pub conditional : Structs → Judged → Judged → Judged → Result Judged Rule
conditional structs test a b = chosen_by structs (used test) (used a) (used b)

-- Of a comma whose value is used, the right operand is neither a structure nor a function.
abbrev pub comma_rows : Bool → Class → List Row
comma_rows is_used right = row rule.NotScalar (is_used && is_function right) ∷ row rule.StructUsed (is_used && is_struct right) ∷ []

-- A comma gives no constant.
abbrev pub sort_behind : Sort → Sort
sort_behind sort.Plain = sort.Plain
sort_behind sort.NullPointer = sort.Plain
sort_behind sort.Function = sort.Function

abbrev pub as_it_is : Expr → Class → Side
as_it_is e c = record { tree = e; from = kind_in c; to = kind_in c }

abbrev pub follows : Pair → Value → Value → Value
follows p a b = record {
  of = b.of;
  tree = operation (as_it_is a.tree p.left) join.Comma (as_it_is b.tree p.right);
  constant = None;
  sort = sort_behind b.sort;
}

abbrev pub followed : Structs → Bool → Value → Value → Result Judged Rule
followed structs is_used a b =
    unless (first_of (comma_rows is_used (class_of structs b))) (judged.Value (follows (pair_of structs a b) a b))

unfoldable pub comma : Structs → Bool → Judged → Judged → Result Judged Rule
comma structs is_used a b = followed structs is_used (used a) (used b)
