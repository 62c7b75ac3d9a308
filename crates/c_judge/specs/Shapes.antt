-- What declarators make of a type (C11, 6.7.6).
use Rattle.std.specs.Prelude.{ℕ, ◌&&◌, ◌||◌, not, is_none, if◌then◌else◌, Bool, true, false, List, [], ◌∷◌, ◌++◌, reverse, Option, Some, None}
use Rattle.std.specs.List.{fold}
use Rattle.c_types.specs.declared.ctype.CType.{CType}
use Rattle.c_types.specs.declared.ctype.FunctionType.{FunctionType}
use Rattle.c_types.specs.declared.ctype.Part.{Part}
use Rattle.c_types.specs.declared.ctype.Part.TheVariants as part
use Rattle.c_types.specs.Sizes.{Structs}
use Rattle.c_typing.specs.declared.classes.Class.{Class}
use Rattle.c_typing.specs.declared.rules.Rule.{Rule}
use Rattle.c_typing.specs.declared.rules.Rule.TheVariants as rule
use Rattle.c_typing.specs.Rules.{lesser}
use Rattle.c_typing.specs.Types.{measured}
use Rattle.c_typing.specs.Classes.{class_of_type, is_void, is_scalar}
use Rattle.c_judge.specs.declared.shapes.Built.{Built}
use Rattle.c_judge.specs.declared.shapes.Built.TheVariants as built
use Rattle.c_judge.specs.declared.shapes.Shape.{Shape}
use Rattle.c_judge.specs.declared.shapes.Shape.TheVariants as shape
use Rattle.c_judge.specs.declared.shapes.Extent.{Extent}
use Rattle.c_judge.specs.declared.shapes.Extent.TheVariants as extent
use Rattle.c_judge.specs.declared.shapes.Made.{Made}

abbrev pub made : Option Built → Option Rule → Made
made b r = record { of = b; rule = r }

abbrev pub broken : Option Rule → Rule → Made
broken before r = made None (lesser before (Some r))

-- A pointer to a function isn't allowed, which is this profile's own.
abbrev pub pointed : Option Built → Option Rule → Bool → Made
pointed None r is_const = made None r
pointed (Some (built.Function f)) r is_const = broken r rule.BadParameterOrResult
pointed (Some (built.Object t)) r is_const = made (Some (built.Object (record t { parts = t.parts ++ part.Pointer is_const ∷ [] }))) r

abbrev pub extent_rule : Extent → Option Rule
extent_rule (extent.Count n) = None
extent_rule extent.Open = None
extent_rule extent.Bad = Some rule.BadArraySize

-- An array has elements of a complete type, one or more, and no more bytes than an object may have.
abbrev pub is_open : Part → Bool
is_open (part.Pointer is_const) = false
is_open (part.Array count) = false
is_open part.OpenArray = true

abbrev pub limited : Structs → CType → Option Rule → Part → Made
limited structs t r p = if not (is_open p) && is_none (measured structs t) then broken r rule.TooLarge else made (Some (built.Object t)) r

abbrev pub with_part : Structs → CType → Option Rule → Part → Made
with_part structs t r p = limited structs (record t { parts = t.parts ++ p ∷ [] }) r p

abbrev pub with_extent : Structs → CType → Option Rule → Extent → Made
with_extent structs t r (extent.Count n) = with_part structs t r (part.Array n)
with_extent structs t r extent.Open = with_part structs t r part.OpenArray
with_extent structs t r extent.Bad = broken r rule.BadArraySize

abbrev pub array_of : Structs → CType → Option Rule → Extent → Made
array_of structs t r e = if is_none (measured structs t) then broken r rule.Incomplete else with_extent structs t r e

abbrev pub arrayed : Structs → Option Built → Option Rule → Extent → Made
arrayed structs None r e = made None (lesser r (extent_rule e))
arrayed structs (Some (built.Function f)) r e = broken r rule.Incomplete
arrayed structs (Some (built.Object t)) r e = array_of structs t r e

-- A function gives nothing, a number or a pointer, which is this profile's own.
abbrev pub is_result : Class → Bool
is_result c = is_void c || is_scalar c

abbrev pub function_of : Structs → CType → Option Rule → List CType → Made
function_of structs t r ts =
    if not (is_result (class_of_type structs t)) then broken r rule.BadParameterOrResult
    else made (Some (built.Function (record { result = t; parameters = ts }))) r

abbrev pub called_for : Structs → Option Built → Option Rule → List CType → Made
called_for structs None r ts = made None r
called_for structs (Some (built.Function f)) r ts = broken r rule.BadParameterOrResult
called_for structs (Some (built.Object t)) r ts = function_of structs t r ts

abbrev pub with_shape : Structs → Made → Shape → Made
with_shape structs m (shape.Pointer is_const) = pointed m.of m.rule is_const
with_shape structs m (shape.Array e) = arrayed structs m.of m.rule e
with_shape structs m (shape.Function ts) = called_for structs m.of m.rule ts
with_shape structs m shape.Unknown = made None m.rule

-- The shapes of a declarator stand by their places from the name on: `*a[3]` is an array, and then a pointer. The last one is made
-- first.
abbrev pub made_by : Structs → Made → List Shape → Made
made_by structs m [] = m
made_by structs m (s ∷ ss) = made_by structs (with_shape structs m s) ss

unfoldable pub applied : Structs → Option Built → List Shape → Made
applied structs b ss = made_by structs (made b None) (reverse ss)
