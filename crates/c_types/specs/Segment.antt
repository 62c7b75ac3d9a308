-- The segment of a program: the bytes with which the globals of each rank begin, and what refuses it. Its layout and its
-- limit are this profile's own.
use Rattle.std.specs.Prelude.{ℕ, ◌≡◌, ◌+◌, ◌-◌, ◌<◌, ◌≤◌, ◌==◌, ◌⊎◌, if◌then◌else◌, Bool, true, false, nat_le, max, List, [], ◌∷◌, ◌++◌, take, map, replicate, None}
use Rattle.std.specs.List.{filter, fold, list_any, range_with_len, Contains}
use Rattle.rank_range.specs.Layout.{globals_start, heap_start}
use Rattle.rank_range.specs.Numbers.{with_number}
use Rattle.rank_range.specs.declared.run.Segment.{Segment}
use Rattle.rank_range.specs.declared.width.Width.TheVariants.{One}
use Rattle.c_types.specs.declared.program.Program.{Program}
use Rattle.c_types.specs.declared.program.StaticObject.{StaticObject}
use Rattle.c_types.specs.declared.program.DefinedFunction.{DefinedFunction}
use Rattle.c_types.specs.declared.program.Fix.{Fix}
use Rattle.c_types.specs.declared.program.Use.{Use}
use Rattle.c_types.specs.declared.program.Used.{Used}
use Rattle.c_types.specs.declared.program.Used.TheVariants as used
use Rattle.c_types.specs.declared.program.TokenAt.{TokenAt}
use Rattle.c_types.specs.declared.rooms.Rooms.{Rooms}
use Rattle.c_types.specs.Rooms.{offset_behind, with_room}
use Rattle.c_types.specs.Places.{IsBefore}

-- how many bytes the globals of a rank have room for
abbrev pub segment_limit : ℕ
segment_limit = heap_start - globals_start

-- The arguments of `main` come first: a list of one address and a null pointer, to which `argv` points, and then the program's
-- name, which ends with zeros.
abbrev pub arguments_bytes : ℕ
arguments_bytes = 32

abbrev pub name_offset : ℕ
name_offset = 16

-- The bytes with the address of the byte at an offset of the segment, as it is where the rank's base is 0, at a place.
abbrev pub with_address : List ℕ → ℕ → ℕ → List ℕ
with_address bytes at offset = with_number bytes at 8 (globals_start + offset)

abbrev pub arguments : List ℕ
arguments = with_address (replicate 16 0 ++ (97 ∷ 109 ∷ 112 ∷ 105 ∷ []) ++ replicate 12 0) 0 name_offset

-- Behind them come the objects in the order of their definitions, each aligned.
abbrev pub before_objects : Rooms
before_objects = record { end = arguments_bytes; align = One }

abbrev pub with_object : Rooms → StaticObject → Rooms
with_object rooms o = with_room o.size o.align rooms

abbrev pub rooms_of : List StaticObject → Rooms
rooms_of objects = fold with_object before_objects objects

-- the offset of the object with this number, and 0 where no unit defines it
abbrev pub offset_behind_all : Rooms → List StaticObject → ℕ → ℕ
offset_behind_all rooms [] number = 0
offset_behind_all rooms (o ∷ os) number =
    if o.object == number then offset_behind o.align rooms else offset_behind_all (with_object rooms o) os number

unfoldable pub offset_of : List StaticObject → ℕ → ℕ
offset_of objects number = offset_behind_all before_objects objects number

-- A fix is one of eight bytes that lie in its object.
abbrev pub lies_within : StaticObject → Fix → Bool
lies_within o f = nat_le (f.offset + 8) o.size

abbrev pub fixes_of : StaticObject → List Fix
fixes_of o = filter (lies_within o) o.initial.fixes

-- The bytes of an object before its fixes: those behind its last initial byte are zero.
abbrev pub filled : StaticObject → List ℕ
filled o = take o.size (o.initial.bytes ++ replicate o.size 0)

-- At each fix stands the address of the object that it names, and the addend on top.
abbrev pub fixed : List StaticObject → List ℕ → Fix → List ℕ
fixed objects bytes f = with_address bytes f.offset (offset_of objects f.object + f.addend)

abbrev pub bytes_of_object : List StaticObject → StaticObject → List ℕ
bytes_of_object objects o = fold (fixed objects) (filled o) (fixes_of o)

-- the bytes of the objects, and those that are left between them, which are zero
abbrev pub bytes_behind : List StaticObject → Rooms → List StaticObject → List ℕ
bytes_behind objects rooms [] = []
bytes_behind objects rooms (o ∷ os) =
    replicate (offset_behind o.align rooms - rooms.end) 0 ++ bytes_of_object objects o ++ bytes_behind objects (with_object rooms o) os

-- the bytes of the segment
unfoldable pub segment_bytes : List StaticObject → List ℕ
segment_bytes objects = arguments ++ bytes_behind objects before_objects objects

abbrev pub fixes_behind : Rooms → List StaticObject → List ℕ
fixes_behind rooms [] = []
fixes_behind rooms (o ∷ os) =
    map (λ f. offset_behind o.align rooms + f.offset) (fixes_of o) ++ fixes_behind (with_object rooms o) os

-- the offsets of the addresses in it, to which a rank's base is added
unfoldable pub segment_fixes : List StaticObject → List ℕ
segment_fixes objects = 0 ∷ fixes_behind before_objects objects

-- one more than the greatest number of an object that a unit defines
abbrev pub object_count : List StaticObject → ℕ
object_count [] = 0
object_count (o ∷ os) = max (o.object + 1) (object_count os)

-- the offsets of the objects by their numbers
unfoldable pub object_offsets : List StaticObject → List ℕ
object_offsets objects = map (offset_of objects) (range_with_len 0 (object_count objects))

-- A program is refused where its segment is too large, where a name is used that no unit defines, and where a name is defined
-- twice.
pub data Refusal : Type 0 where
  TooLarge : Refusal
  Undefined : Refusal
  Twice : Refusal

-- At the definition of this object the segment passes its limit.
pub record IsTooLarge (program : Program) (at : TokenAt) : Type 0 where
  pub before : List StaticObject
  pub object : StaticObject
  pub behind : List StaticObject
  pub objects_are : program.objects ≡ before ++ object ∷ behind
  pub fits_before : (rooms_of before).end ≤ segment_limit
  pub passes : segment_limit < (with_object (rooms_of before) object).end
  pub at_is : at ≡ object.at

abbrev pub defines_function : List DefinedFunction → ℕ → Bool
defines_function defined number = list_any (λ d. d.function == number) defined

abbrev pub defines_object : List StaticObject → ℕ → Bool
defines_object objects number = list_any (λ o. o.object == number) objects

-- whether a unit defines what a name names
abbrev pub is_defined : Program → Used → Bool
is_defined program (used.Function number) = defines_function program.defined number
is_defined program (used.Object number) = defines_object program.objects number

-- At this token a name is used that no unit defines.
pub record IsUndefinedUse (program : Program) (at : TokenAt) : Type 0 where
  pub used : Use
  pub in_program : Contains program.uses used
  pub undefined : is_defined program used.used ≡ false
  pub at_is : at ≡ used.at

-- A missing `main` is told at the first token of the first unit.
abbrev pub IsMissingMain : Program → TokenAt → Type 0
IsMissingMain program at = (program.main ≡ None) × (at ≡ record { unit = 0; token = 0 })

-- At this token a function is defined that is defined before.
pub record IsSecondFunction (program : Program) (at : TokenAt) : Type 0 where
  pub before : List DefinedFunction
  pub second : DefinedFunction
  pub behind : List DefinedFunction
  pub defined_are : program.defined ≡ before ++ second ∷ behind
  pub is_second : defines_function before second.function ≡ true
  pub at_is : at ≡ second.at

-- The same of an object.
pub record IsSecondObject (program : Program) (at : TokenAt) : Type 0 where
  pub before : List StaticObject
  pub second : StaticObject
  pub behind : List StaticObject
  pub objects_are : program.objects ≡ before ++ second ∷ behind
  pub is_second : defines_object before second.object ≡ true
  pub at_is : at ≡ second.at

abbrev pub Refuses : Program → Refusal → TokenAt → Type 0
Refuses program TooLarge at = IsTooLarge program at
Refuses program Undefined at = IsUndefinedUse program at ⊎ IsMissingMain program at
Refuses program Twice at = IsSecondFunction program at ⊎ IsSecondObject program at

-- of two refusals at one token the first one is told
abbrev pub order_of : Refusal → ℕ
order_of TooLarge = 0
order_of Undefined = 1
order_of Twice = 2

-- The first refusal: the one at the least token, and of those at one token the first.
pub record IsRefused (program : Program) (why : Refusal) (at : TokenAt) : Type 0 where
  pub holds : Refuses program why at
  pub first : (other : Refusal) (there : TokenAt) → Refuses program other there
      → IsBefore at there ⊎ ((at ≡ there) × (order_of why ≤ order_of other))

abbrev pub IsAccepted : Program → Type 0
IsAccepted program = (why : Refusal) (at : TokenAt) → Refuses program why at → ⊥

-- The program isn't refused, and this is its segment.
pub record SegmentOf (program : Program) (segment : Segment) : Type 0 where
  pub accepted : IsAccepted program
  pub bytes_are : segment.bytes ≡ segment_bytes program.objects
  pub fixes_are : segment.fixes ≡ segment_fixes program.objects
  pub objects_are : segment.objects ≡ object_offsets program.objects

-- A refused program has one first refusal, and no segment.
pub record RefusalIsOne (program : Program) : Type 0 where
  pub one : (why other : Refusal) (at there : TokenAt) → IsRefused program why at → IsRefused program other there
      → (why ≡ other) × (at ≡ there)
  pub no_segment : (why : Refusal) (at : TokenAt) (segment : Segment) → IsRefused program why at → SegmentOf program segment → ⊥
