-- The size and the alignment of a type (C11, 6.2.5, 6.2.8 and 6.5.3.4). That pointers have eight bytes, and that each
-- alignment is a whole type's own size, is this profile's own.
use Rattle.std.specs.Prelude.{ℕ, ◌*◌, ◌≤◌, Bool, true, false, IsTrue, List, [], ◌∷◌, slice_get, Option, Some, None}
use Rattle.rank_range.specs.Numbers.{bytes_in}
use Rattle.rank_range.specs.declared.width.Width.{Width}
use Rattle.rank_range.specs.declared.width.Width.TheVariants.{One, Eight}
use Rattle.rank_range.specs.Kinds.{width_of}
use Rattle.c_types.specs.declared.ctype.CType.{CType}
use Rattle.c_types.specs.declared.ctype.Base.{Base}
use Rattle.c_types.specs.declared.ctype.Base.TheVariants.{Void, Whole, Struct}
use Rattle.c_types.specs.declared.ctype.Part.{Part}
use Rattle.c_types.specs.declared.ctype.Part.TheVariants.{Pointer, Array, OpenArray}
use Rattle.c_types.specs.declared.ctype.StructType.{StructType}
use Rattle.c_types.specs.declared.ctype.StructLayout.{StructLayout}

-- the structures by number
abbrev pub Structs : Type 0
Structs = List StructType

-- the layout of a structure, if it is complete
abbrev pub layout_in : Option StructType → Option StructLayout
layout_in (Some s) = s.layout
layout_in None = None

abbrev pub layout_of : Structs → ℕ → Option StructLayout
layout_of structs number = layout_in (slice_get structs number)

abbrev pub is_laid_out : Option StructLayout → Bool
is_laid_out (Some l) = true
is_laid_out None = false

abbrev pub size_in : Option StructLayout → ℕ
size_in (Some l) = l.size
size_in None = 0

abbrev pub align_in : Option StructLayout → Width
align_in (Some l) = l.align
align_in None = One

-- Whether a type is complete: it isn't `void`, nor a structure whose members aren't known, nor an array of a size that isn't
-- known. A pointer always is.
abbrev pub is_complete_base : Structs → Base → Bool
is_complete_base structs Void = false
is_complete_base structs (Whole kind) = true
is_complete_base structs (Struct number) = is_laid_out (layout_of structs number)

abbrev pub is_complete_part : Bool → Part → Bool
is_complete_part inner (Pointer is_const) = true
is_complete_part inner (Array count) = inner
is_complete_part inner OpenArray = false

abbrev pub is_complete_by : Bool → List Part → Bool
is_complete_by inner [] = inner
is_complete_by inner (p ∷ ps) = is_complete_by (is_complete_part inner p) ps

abbrev pub is_complete_in : Structs → CType → Bool
is_complete_in structs t = is_complete_by (is_complete_base structs t.base) t.parts

abbrev pub IsComplete : Structs → CType → Type 0
IsComplete structs t = IsTrue (is_complete_in structs t)

-- An array has the size of its elements together, and a pointer 8 bytes, whatever it points to. A type that isn't complete
-- has no size; here it is 0.
abbrev pub base_size : Structs → Base → ℕ
base_size structs Void = 0
base_size structs (Whole kind) = bytes_in (width_of kind)
base_size structs (Struct number) = size_in (layout_of structs number)

abbrev pub part_size : ℕ → Part → ℕ
part_size inner (Pointer is_const) = 8
part_size inner (Array count) = count * inner
part_size inner OpenArray = 0

abbrev pub size_by : ℕ → List Part → ℕ
size_by inner [] = inner
size_by inner (p ∷ ps) = size_by (part_size inner p) ps

unfoldable pub size_of : Structs → CType → ℕ
size_of structs t = size_by (base_size structs t.base) t.parts

-- how many bytes a type may have
abbrev pub size_limit : ℕ
size_limit = 1048576

-- Neither a type nor one that it is made from has more bytes than it may have.
abbrev pub AreSmall : ℕ → List Part → Type 0
AreSmall inner [] = inner ≤ size_limit
AreSmall inner (p ∷ ps) = (inner ≤ size_limit) × AreSmall (part_size inner p) ps

abbrev pub IsSmall : Structs → CType → Type 0
IsSmall structs t = AreSmall (base_size structs t.base) t.parts

-- A whole type has its own size as its alignment, an array that of its elements, and a pointer 8.
abbrev pub base_align : Structs → Base → Width
base_align structs Void = One
base_align structs (Whole kind) = width_of kind
base_align structs (Struct number) = align_in (layout_of structs number)

abbrev pub part_align : Width → Part → Width
part_align inner (Pointer is_const) = Eight
part_align inner (Array count) = inner
part_align inner OpenArray = inner

abbrev pub align_by : Width → List Part → Width
align_by inner [] = inner
align_by inner (p ∷ ps) = align_by (part_align inner p) ps

unfoldable pub alignment_of : Structs → CType → Width
alignment_of structs t = align_by (base_align structs t.base) t.parts
