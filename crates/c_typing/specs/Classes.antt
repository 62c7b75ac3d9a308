-- What the rules ask of the type of an operand (C11, 6.2.5).
use Rattle.std.specs.Prelude.{ℕ, ◌-◌, ◌&&◌, ◌||◌, ◌==◌, if◌then◌else◌, nat_eq, Bool, true, false, List, [], ◌∷◌, length, take, Option, Some, None}
use Rattle.rank_range.specs.declared.kinds.Kind.{Kind}
use Rattle.rank_range.specs.declared.kinds.Kind.TheVariants as kind
use Rattle.c_types.specs.declared.ctype.CType.{CType}
use Rattle.c_types.specs.declared.ctype.Base.{Base}
use Rattle.c_types.specs.declared.ctype.Base.TheVariants as base
use Rattle.c_types.specs.declared.ctype.Part.{Part}
use Rattle.c_types.specs.declared.ctype.Part.TheVariants as part
use Rattle.c_types.specs.Sizes.{Structs}
use Rattle.c_const.specs.declared.evaluated.Evaluated.{Evaluated}
use Rattle.c_typing.specs.declared.judged.Value.{Value}
use Rattle.c_typing.specs.declared.judged.Sort.{Sort}
use Rattle.c_typing.specs.declared.judged.Sort.TheVariants as sort
use Rattle.c_typing.specs.declared.classes.Class.{Class}
use Rattle.c_typing.specs.declared.classes.Class.TheVariants as class
use Rattle.c_typing.specs.declared.classes.Target.{Target}
use Rattle.c_typing.specs.declared.classes.Target.TheVariants as target
use Rattle.c_typing.specs.Types.{last_part, without_last, base_measure, measured_by}

abbrev pub base_class : Base → Class
base_class base.Void = class.Void
base_class (base.Whole k) = class.Whole k
base_class (base.Struct n) = class.Struct n

abbrev pub sized : Option ℕ → Target
sized (Some bytes) = target.Sized bytes
sized None = target.Unsized

abbrev pub is_void_base : Base → Bool
is_void_base base.Void = true
is_void_base (base.Whole k) = false
is_void_base (base.Struct n) = false

-- what a pointer of a type points to
abbrev pub target_of : Structs → CType → Target
target_of structs t =
    if nat_eq (length (without_last t).parts) 0 && is_void_base t.base then target.Void
    else sized (measured_by (base_measure structs t.base) (without_last t).parts)

abbrev pub part_class : Structs → CType → Option Part → Class
part_class structs t (Some (part.Pointer is_const)) = class.Pointer (target_of structs t)
part_class structs t (Some (part.Array count)) = class.Array
part_class structs t (Some part.OpenArray) = class.Array
part_class structs t None = base_class t.base

unfoldable pub class_of_type : Structs → CType → Class
class_of_type structs t = part_class structs t (last_part t)

abbrev pub class_by : Structs → CType → Sort → Class
class_by structs t sort.Plain = class_of_type structs t
class_by structs t sort.NullPointer = class_of_type structs t
class_by structs t sort.Function = class.Function

-- the class of a value
abbrev pub class_of : Structs → Value → Class
class_of structs v = class_by structs v.of v.sort

abbrev pub is_whole : Class → Bool
is_whole (class.Whole k) = true
is_whole c = false

abbrev pub is_pointer : Class → Bool
is_pointer (class.Pointer t) = true
is_pointer c = false

-- a number or a pointer
abbrev pub is_scalar : Class → Bool
is_scalar c = is_whole c || is_pointer c

abbrev pub is_struct : Class → Bool
is_struct (class.Struct n) = true
is_struct c = false

abbrev pub is_void : Class → Bool
is_void class.Void = true
is_void c = false

abbrev pub is_function : Class → Bool
is_function class.Function = true
is_function c = false

abbrev pub is_void_pointer : Class → Bool
is_void_pointer (class.Pointer target.Void) = true
is_void_pointer c = false

-- a pointer that can't be moved, since what it points to has no size
abbrev pub is_unmoved : Class → Bool
is_unmoved (class.Pointer target.Void) = true
is_unmoved (class.Pointer target.Unsized) = true
is_unmoved c = false

-- A pointer is kept as an `unsigned long`.
abbrev pub kind_in : Class → Kind
kind_in (class.Whole k) = k
kind_in c = kind.UnsignedLong

-- by how many bytes a pointer moves
abbrev pub scale_in : Class → ℕ
scale_in (class.Pointer (target.Sized bytes)) = bytes
scale_in c = 0
