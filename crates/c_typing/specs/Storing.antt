-- What is stored in objects (C11, 6.5.2.4, 6.5.3.1, 6.5.16 and 6.7.9).
use Rattle.std.specs.Prelude.{ℕ, ◌&&◌, ◌||◌, if◌then◌else◌, not, is_some, Bool, true, false, List, [], ◌∷◌, slice_get, Option, Some, None, Result, Ok, Err}
use Rattle.rank_range.specs.declared.kinds.Kind.{Kind}
use Rattle.rank_range.specs.declared.kinds.Kind.TheVariants as kind
use Rattle.rank_range.specs.declared.operators.Binary.{Binary}
use Rattle.rank_range.specs.declared.operators.Binary.TheVariants as machine
use Rattle.rank_range.specs.Kinds.{usual, promoted}
use Rattle.c_types.specs.declared.ctype.CType.{CType}
use Rattle.c_types.specs.declared.expression.Expr.{Expr}
use Rattle.c_types.specs.declared.expression.Counted.{Counted}
use Rattle.c_types.specs.declared.expression.Counted.TheVariants as by
use Rattle.c_types.specs.declared.expression.Direction.{Direction}
use Rattle.c_types.specs.declared.expression.Direction.TheVariants as direction
use Rattle.c_types.specs.declared.expression.Given.{Given}
use Rattle.c_types.specs.Sizes.{Structs}
use Rattle.c_typing.specs.declared.judged.Judged.{Judged}
use Rattle.c_typing.specs.declared.judged.Judged.TheVariants as judged
use Rattle.c_typing.specs.declared.judged.Value.{Value}
use Rattle.c_typing.specs.declared.classes.Class.{Class}
use Rattle.c_typing.specs.declared.classes.Class.TheVariants as class
use Rattle.c_typing.specs.declared.trees.Joining.{Joining}
use Rattle.c_typing.specs.declared.trees.Joining.TheVariants as join
use Rattle.c_typing.specs.declared.storing.Spot.{Spot}
use Rattle.c_typing.specs.declared.storing.Moved.{Moved}
use Rattle.c_typing.specs.declared.rules.Rule.{Rule}
use Rattle.c_typing.specs.declared.rules.Rule.TheVariants as rule
use Rattle.c_typing.specs.Rules.{Row, row, first_of, unless}
use Rattle.c_typing.specs.Types.{is_compatible, is_const, measured}
use Rattle.c_typing.specs.Classes.{class_of, class_of_type, is_whole, is_pointer, is_scalar, is_struct, is_void, is_function, is_void_pointer, is_unmoved, kind_in, scale_in}
use Rattle.c_typing.specs.Values.{used, plain, is_zero}
use Rattle.c_typing.specs.Trees.{converted, operation, counting}

-- whether a structure has a member that is `const`, by its number
abbrev pub fixed_in : Option Bool → Bool
fixed_in (Some b) = b
fixed_in None = false

abbrev pub is_fixed : Class → List Bool → Bool
is_fixed (class.Struct n) fixed = fixed_in (slice_get fixed n)
is_fixed c fixed = false

abbrev pub is_array : Class → Bool
is_array class.Array = true
is_array c = false

-- A place may be assigned where it is neither an array nor of an incomplete type, and isn't `const` (C11, 6.3.2.1p1).
abbrev pub place_spot : Structs → List Bool → CType → Spot
place_spot structs fixed t = record {
  class = class_of_type structs t;
  is_assignable = not (is_array (class_of_type structs t)) && is_some (measured structs t);
  is_const = is_const t || is_fixed (class_of_type structs t) fixed;
}

abbrev pub no_spot : Class → Spot
no_spot c = record { class = c; is_assignable = false; is_const = false }

abbrev pub spot_of : Structs → List Bool → Judged → Spot
spot_of structs fixed (judged.Place t e) = place_spot structs fixed t
spot_of structs fixed (judged.Value v) = no_spot (class_of structs v)
spot_of structs fixed (judged.Function t callee) = no_spot class.Function

abbrev pub spot_rows : Spot → List Row
spot_rows s = row rule.NotAssignable (not s.is_assignable) ∷ row rule.ConstPlace s.is_const ∷ []

-- `++` and `--` take a place of a number, or of a pointer to a complete type.
unfoldable pub count_rows : Spot → List Row
count_rows s =
    row rule.Incomplete (is_unmoved s.class)
    ∷ row rule.NotAssignable (not s.is_assignable)
    ∷ row rule.ConstPlace s.is_const
    ∷ row rule.NotScalar (not (is_scalar s.class))
    ∷ []

abbrev pub counted_in : Class → Counted
counted_in c = if is_pointer c then by.Pointer (scale_in c) else by.Number (kind_in c)

abbrev pub counted : CType → Expr → Class → Direction → Given → Result Judged Rule
counted t e c direction given = Ok (judged.Value (plain t (counting e (counted_in c) direction given)))

abbrev pub counted_place : Judged → Class → Direction → Given → Result Judged Rule
counted_place (judged.Place t e) c direction given = counted t e c direction given
counted_place (judged.Value v) c direction given = Err rule.NotAssignable
counted_place (judged.Function t callee) c direction given = Err rule.NotAssignable

-- what follows where no rule is broken
abbrev pub or_else : {A : Type 0} → Option Rule → Result A Rule → Result A Rule
or_else None next = next
or_else (Some r) next = Err r

unfoldable pub count : Structs → List Bool → Direction → Given → Judged → Result Judged Rule
count structs fixed direction given j =
    or_else (first_of (count_rows (spot_of structs fixed j))) (counted_place j (spot_of structs fixed j).class direction given)

abbrev pub moved_of : Structs → CType → Value → Moved
moved_of structs t v = record {
  to = class_of_type structs t;
  from = class_of structs v;
  same = is_compatible t v.of;
  zero = is_zero v;
}

-- A pointer is stored as one to a compatible type, and from and to `void *`; a null pointer constant as any pointer.
abbrev pub may_point : Moved → Bool
may_point m = m.same || is_void_pointer m.to || is_void_pointer m.from || m.zero

abbrev pub fits : Moved → Bool
fits m = is_struct m.to && is_struct m.from && m.same

-- What may be stored as a type (C11, 6.5.16.1): as a number a number, as a pointer a pointer or a null pointer constant, as a structure
-- one of the same type.
unfoldable pub moved_rows : Rule → Moved → List Row
moved_rows misfit m =
    row rule.NotScalar (is_function m.from)
    ∷ row rule.PointersDiffer (is_pointer m.to && is_pointer m.from && not (may_point m))
    ∷ row rule.PointerAndNumber ((is_pointer m.to && is_whole m.from && not m.zero) || (is_whole m.to && is_pointer m.from))
    ∷ row rule.VoidUsed (is_void m.from)
    ∷ row misfit ((is_struct m.to || is_struct m.from) && not (fits m))
    ∷ []

abbrev pub converted_to : Moved → Value → Expr
converted_to m v = converted (record { tree = v.tree; from = kind_in m.from; to = kind_in m.to })

abbrev pub stored_value : Structs → CType → Rule → Value → Result Expr Rule
stored_value structs t misfit v = unless (first_of (moved_rows misfit (moved_of structs t v))) (converted_to (moved_of structs t v) v)

unfoldable pub stored : Structs → CType → Rule → Judged → Result Expr Rule
stored structs t misfit j = stored_value structs t misfit (used j)

-- `a = b` stores a number or a pointer, or copies a structure.
abbrev pub assign_step : Moved → ℕ → Joining
assign_step m size = if is_struct m.to then join.Copy size else join.Assign (kind_in m.to)

abbrev pub size_or_none : Option ℕ → ℕ
size_or_none (Some n) = n
size_or_none None = 0

abbrev pub assigned : Moved → ℕ → CType → Expr → Value → Value
assigned m size t e v = plain t (operation
    (record { tree = e; from = kind.UnsignedLong; to = kind.UnsignedLong })
    (assign_step m size)
    (record { tree = v.tree; from = kind_in m.from; to = kind_in m.to }))

abbrev pub assign_value : Structs → CType → Expr → Value → Result Judged Rule
assign_value structs t e v =
    unless (first_of (moved_rows rule.StructUsed (moved_of structs t v)))
    (judged.Value (assigned (moved_of structs t v) (size_or_none (measured structs t)) t e v))

abbrev pub assign_place : Structs → CType → Expr → Judged → Result Judged Rule
assign_place structs t e b = assign_value structs t e (used b)

abbrev pub assign_to : Structs → Judged → Judged → Result Judged Rule
assign_to structs (judged.Place t e) b = assign_place structs t e b
assign_to structs (judged.Value v) b = Err rule.NotAssignable
assign_to structs (judged.Function t callee) b = Err rule.NotAssignable

unfoldable pub assign : Structs → List Bool → Judged → Judged → Result Judged Rule
assign structs fixed a b = or_else (first_of (spot_rows (spot_of structs fixed a))) (assign_to structs a b)

-- `+=` and `-=` take numbers, or a pointer to a complete type and a number.
unfoldable pub moving_rows : Spot → Class → List Row
moving_rows s right =
    row rule.Incomplete (is_unmoved s.class && is_whole right)
    ∷ row rule.NotAssignable (not s.is_assignable)
    ∷ row rule.ConstPlace s.is_const
    ∷ row rule.NotWhole (is_scalar s.class && is_pointer right)
    ∷ row rule.NotScalar (not (is_scalar s.class && is_scalar right))
    ∷ []

-- The others take whole numbers.
unfoldable pub number_rows : Spot → Class → List Row
number_rows s right =
    row rule.NotAssignable (not s.is_assignable)
    ∷ row rule.ConstPlace s.is_const
    ∷ row rule.NotWhole (not (is_whole s.class && is_whole right))
    ∷ []

abbrev pub update_rows : Binary → Spot → Class → List Row
update_rows machine.Add s right = moving_rows s right
update_rows machine.Subtract s right = moving_rows s right
update_rows o s right = number_rows s right

-- A pointer is moved up or down. A number is converted to the kind in which the operator works; a shift promotes each operand by
-- itself.
abbrev pub direction_of : Binary → Direction
direction_of machine.Subtract = direction.Down
direction_of o = direction.Up

abbrev pub working_kind : Binary → Kind → Kind → Kind
working_kind machine.ShiftLeft k l = promoted k
working_kind machine.ShiftRight k l = promoted k
working_kind o k l = usual k l

abbrev pub right_kind : Binary → Kind → Kind → Kind
right_kind machine.ShiftLeft k l = promoted l
right_kind machine.ShiftRight k l = promoted l
right_kind o k l = usual k l

abbrev pub update_step : Binary → Class → Class → Joining
update_step o left right =
    if is_pointer left then join.Advance (direction_of o) (scale_in left)
    else join.Update o (kind_in left) (working_kind o (kind_in left) (kind_in right))

abbrev pub update_kind : Binary → Class → Class → Kind
update_kind o left right = if is_pointer left then kind_in right else right_kind o (kind_in left) (kind_in right)

abbrev pub updated : Binary → Class → Class → CType → Expr → Value → Result Judged Rule
updated o left right t e v = Ok (judged.Value (plain t (operation
    (record { tree = e; from = kind.UnsignedLong; to = kind.UnsignedLong })
    (update_step o left right)
    (record { tree = v.tree; from = kind_in right; to = update_kind o left right }))))

abbrev pub update_place : Binary → Class → Class → Judged → Value → Result Judged Rule
update_place o left right (judged.Place t e) v = updated o left right t e v
update_place o left right (judged.Value w) v = Err rule.NotAssignable
update_place o left right (judged.Function t callee) v = Err rule.NotAssignable

abbrev pub update_by : Binary → Spot → Class → Judged → Value → Result Judged Rule
update_by o s right a v = or_else (first_of (update_rows o s right)) (update_place o s.class right a v)

unfoldable pub update : Structs → List Bool → Binary → Judged → Judged → Result Judged Rule
update structs fixed o a b = update_by o (spot_of structs fixed a) (class_of structs (used b)) a (used b)
