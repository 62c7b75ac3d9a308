-- Where initialisers go within an object (C11, 6.7.9p17 to p20). An initialiser is for the next object of which none is initialised yet:
-- a list in braces for the largest one, a string for an array of characters, an expression that is a structure for a structure of its type, and
-- another one for the first number or pointer there.
use Rattle.std.specs.Prelude.{ℕ, zero, suc, ◌+◌, ◌-◌, ◌*◌, ◌/◌, ◌^◌, ◌&&◌, ◌==◌, nat_eq, nat_le, nat_lt, if◌then◌else◌, Bool, true, false, List, [], ◌∷◌, slice_get, Option, Some, None}
use Rattle.rank_range.specs.declared.kinds.Kind.TheVariants as kind
use Rattle.c_types.specs.declared.ctype.CType.{CType}
use Rattle.c_types.specs.declared.ctype.Base.{Base}
use Rattle.c_types.specs.declared.ctype.Base.TheVariants as base
use Rattle.c_types.specs.declared.ctype.Part.{Part}
use Rattle.c_types.specs.declared.ctype.Part.TheVariants as part
use Rattle.c_types.specs.declared.ctype.Member.{Member}
use Rattle.c_types.specs.declared.ctype.StructLayout.{StructLayout}
use Rattle.c_types.specs.Sizes.{Structs, size_limit, layout_of}
use Rattle.c_typing.specs.declared.classes.Class.{Class}
use Rattle.c_typing.specs.declared.classes.Class.TheVariants as class
use Rattle.c_typing.specs.Types.{measured, last_part, without_last}
use Rattle.c_typing.specs.Classes.{class_of_type, is_scalar}
use Rattle.c_stores.specs.declared.spots.Spot.{Spot}
use Rattle.c_stores.specs.declared.spots.Want.{Want}
use Rattle.c_stores.specs.declared.spots.Want.TheVariants as want

-- An array of characters may be initialised by a string (C11, 6.7.9p14).
abbrev pub is_character : Base → Bool
is_character base.Void = false
is_character (base.Whole kind.Char) = true
is_character (base.Whole kind.UnsignedChar) = true
is_character (base.Whole k) = false
is_character (base.Struct n) = false

abbrev pub is_nothing : List Part → Bool
is_nothing [] = true
is_nothing (p ∷ ps) = false

abbrev pub is_one_array : List Part → Bool
is_one_array [] = false
is_one_array (part.Pointer is_const ∷ ps) = false
is_one_array (part.Array count ∷ ps) = is_nothing ps
is_one_array (part.OpenArray ∷ ps) = is_nothing ps

abbrev pub is_text_array : CType → Bool
is_text_array t = is_character t.base && is_one_array t.parts

-- Of an object the initialiser is for all of it, or for a part. In the braces of a list, a string may be all that the list's object has.
abbrev pub suits_whole : Want → Bool → Bool
suits_whole want.List is_text = false
suits_whole want.Text is_text = is_text
suits_whole (want.Structure n) is_text = false
suits_whole want.Plain is_text = false

abbrev pub is_structure : ℕ → Class → Bool
is_structure n (class.Struct m) = m == n
is_structure n c = false

abbrev pub suits : Want → Class → Bool → Bool
suits want.List c is_text = true
suits want.Text c is_text = is_text
suits (want.Structure n) c is_text = is_structure n c
suits want.Plain c is_text = false

abbrev pub is_met_by : Want → Bool → Class → Bool → Bool
is_met_by w is_whole c is_text = if is_scalar c then true else if is_whole then suits_whole w is_text else suits w c is_text

abbrev pub is_met : Structs → Want → Spot → Bool
is_met structs w p = is_met_by w p.is_whole (class_of_type structs p.of) (is_text_array p.of)

-- The element of an array in which a position lies, so many bytes behind the array's begin. An array of open size has as many elements as an
-- object may have.
abbrev pub count_of : Option ℕ → ℕ → ℕ
count_of (Some count) size = count
count_of None size = size_limit / size

abbrev pub element_behind : ℕ → ℕ → ℕ → Spot → Option ℕ
element_behind number count size p = if nat_lt number count then Some (p.offset + number * size) else p.next

abbrev pub element_at : CType → ℕ → ℕ → ℕ → Spot → Option Spot
element_at t number count size p =
    if nat_lt number count then Some (record {
      of = t;
      offset = p.offset + number * size;
      next = element_behind (number + 1) count size p;
      is_whole = false;
    })
    else None

abbrev pub sized_element : CType → ℕ → Option ℕ → Option ℕ → Spot → Option Spot
sized_element t relative count (Some size) p =
    if nat_eq size 0 then None else element_at t (relative / size) (count_of count size) size p
sized_element t relative count None p = None

abbrev pub element : Structs → ℕ → Option ℕ → Spot → Option Spot
element structs relative count p = sized_element (without_last p.of) relative count (measured structs (without_last p.of)) p

-- The member in which a position lies is the last one that begins no later: its number and its offset.
abbrev pub holder : ℕ → ℕ → Option (ℕ × ℕ) → List Member → Option (ℕ × ℕ)
holder position at found [] = found
holder position at found (m ∷ ms) = holder position (at + 1) (if nat_le m.offset position then Some (at, m.offset) else found) ms

abbrev pub behind : Option Member → ℕ → Option ℕ → Option ℕ
behind (Some m) offset next = if nat_lt (offset + m.offset) (2 ^ 64) then Some (offset + m.offset) else None
behind None offset next = next

abbrev pub member_behind : List Member → ℕ → ℕ → Option ℕ → Option ℕ
member_behind ms at offset next = behind (slice_get ms at) offset next

abbrev pub spot_of_member : Option Member → ℕ → Option ℕ → Option Spot
spot_of_member (Some m) offset next = Some (record { of = m.of; offset = offset; next = next; is_whole = false })
spot_of_member None offset next = None

abbrev pub held : List Member → Option (ℕ × ℕ) → ℕ → Option ℕ → Option Spot
held ms (Some (at, begin)) offset next = spot_of_member (slice_get ms at) (offset + begin) (member_behind ms (at + 1) offset next)
held ms None offset next = None

abbrev pub member_spot : List Member → ℕ → ℕ → Option ℕ → Option Spot
member_spot ms relative offset next = held ms (holder relative 0 None ms) offset next

abbrev pub layout_spot : Option StructLayout → ℕ → Spot → Option Spot
layout_spot (Some l) relative p = member_spot l.members relative p.offset p.next
layout_spot None relative p = None

abbrev pub base_member : Structs → Base → ℕ → Spot → Option Spot
base_member structs base.Void relative p = None
base_member structs (base.Whole k) relative p = None
base_member structs (base.Struct n) relative p = layout_spot (layout_of structs n) relative p

abbrev pub member : Structs → ℕ → Spot → Option Spot
member structs relative p = base_member structs p.of.base relative p

-- the part of an object in which a position lies
abbrev pub part_by : Structs → Option Part → ℕ → Spot → Option Spot
part_by structs (Some (part.Pointer is_const)) relative p = None
part_by structs (Some (part.Array count)) relative p = element structs relative (Some count) p
part_by structs (Some part.OpenArray) relative p = element structs relative None p
part_by structs None relative p = member structs relative p

abbrev pub part_in : Structs → ℕ → Spot → Option Spot
part_in structs position p = part_by structs (last_part p.of) (position - p.offset) p

-- From the list's object inwards, the first object that begins at the position and of which the initialiser is for all. No type is nested
-- as deep as the number of levels.
abbrev pub then_in : Option Spot → (Spot → Option Spot) → Option Spot
then_in (Some p) next = next p
then_in None next = None

abbrev pub is_for : Structs → ℕ → Want → Spot → Bool
is_for structs position w p = (p.offset == position) && is_met structs w p

unfoldable pub spot_from : ℕ → Structs → ℕ → Want → Spot → Option Spot
spot_from zero structs position w p = None
spot_from (suc levels) structs position w p =
    if is_for structs position w p then Some p
    else then_in (part_in structs position p) (spot_from levels structs position w)

abbrev pub whole : CType → Spot
whole t = record { of = t; offset = 0; next = None; is_whole = true }

abbrev pub level_limit : ℕ
level_limit = 18446744073709551615

-- An object has no more bytes than it may have, so nothing of it begins behind these.
unfoldable pub spot_for : Structs → CType → ℕ → Want → Option Spot
spot_for structs t position w = if nat_lt position size_limit then spot_from level_limit structs position w (whole t) else None
