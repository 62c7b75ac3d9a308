-- Types that are made from types, and how types compare (C11, 6.2.5, 6.2.7 and 6.7.3).
use Rattle.std.specs.Prelude.{ℕ, ◌+◌, ◌-◌, ◌*◌, ◌&&◌, ◌||◌, ◌==◌, if◌then◌else◌, nat_le, Bool, true, false, List, [], ◌∷◌, ◌++◌, length, take, slice_get, slice_set, Option, Some, None}
use Rattle.rank_range.specs.Numbers.{bytes_in}
use Rattle.rank_range.specs.Kinds.{width_of, is_signed}
use Rattle.rank_range.specs.declared.kinds.Kind.{Kind}
use Rattle.c_types.specs.declared.ctype.CType.{CType}
use Rattle.c_types.specs.declared.ctype.Base.{Base}
use Rattle.c_types.specs.declared.ctype.Base.TheVariants as base
use Rattle.c_types.specs.declared.ctype.Part.{Part}
use Rattle.c_types.specs.declared.ctype.Part.TheVariants as part
use Rattle.c_types.specs.declared.ctype.StructLayout.{StructLayout}
use Rattle.c_types.specs.Sizes.{Structs, layout_of, size_limit}

abbrev pub pointer_to : CType → CType
pointer_to t = record t { parts = t.parts ++ part.Pointer false ∷ [] }

-- what the type is made with last
abbrev pub last_part : CType → Option Part
last_part t = slice_get t.parts (length t.parts - 1)

-- what a pointer points to, or of what an array is
abbrev pub without_last : CType → CType
without_last t = record t { parts = take (length t.parts - 1) t.parts }

-- How many bytes an object of a type has. A type that is incomplete has none, nor has one that has more than an object may have, or
-- is made from such a type.
abbrev pub limited : ℕ → Option ℕ
limited n = if nat_le n size_limit then Some n else None

abbrev pub layout_measure : Option StructLayout → Option ℕ
layout_measure (Some l) = limited l.size
layout_measure None = None

abbrev pub base_measure : Structs → Base → Option ℕ
base_measure structs base.Void = None
base_measure structs (base.Whole kind) = Some (bytes_in (width_of kind))
base_measure structs (base.Struct number) = layout_measure (layout_of structs number)

abbrev pub times : ℕ → Option ℕ → Option ℕ
times count (Some size) = limited (count * size)
times count None = None

abbrev pub part_measure : Option ℕ → Part → Option ℕ
part_measure inner (part.Pointer is_const) = Some 8
part_measure inner (part.Array count) = times count inner
part_measure inner part.OpenArray = None

abbrev pub measured_by : Option ℕ → List Part → Option ℕ
measured_by inner [] = inner
measured_by inner (p ∷ ps) = measured_by (part_measure inner p) ps

unfoldable pub measured : Structs → CType → Option ℕ
measured structs t = measured_by (base_measure structs t.base) t.parts

-- A type's own `const` stands at the last pointer that it is made with, behind which are only arrays, and else at what it is made
-- from: an array is as its elements.
abbrev pub is_const_part : Bool → Part → Bool
is_const_part inner (part.Pointer is_const) = is_const
is_const_part inner (part.Array count) = inner
is_const_part inner part.OpenArray = inner

abbrev pub is_const_by : Bool → List Part → Bool
is_const_by inner [] = inner
is_const_by inner (p ∷ ps) = is_const_by (is_const_part inner p) ps

unfoldable pub is_const : CType → Bool
is_const t = is_const_by t.is_const t.parts

abbrev pub pointer_at : ℕ → Option ℕ → Part → Option ℕ
pointer_at at before (part.Pointer is_const) = Some at
pointer_at at before (part.Array count) = before
pointer_at at before part.OpenArray = before

abbrev pub last_pointer : ℕ → Option ℕ → List Part → Option ℕ
last_pointer at before [] = before
last_pointer at before (p ∷ ps) = last_pointer (at + 1) (pointer_at at before p) ps

abbrev pub with_const_at : Option ℕ → CType → CType
with_const_at (Some at) t = record t { parts = slice_set t.parts at (part.Pointer true) }
with_const_at None t = record t { is_const = true }

unfoldable pub with_const : CType → CType
with_const t = with_const_at (last_pointer 0 None t.parts) t

-- Compatible types are the same but for qualifiers, which this profile drops, and for the sizes of arrays that aren't known.
abbrev pub same_kind : Kind → Kind → Bool
same_kind k l = (bytes_in (width_of k) == bytes_in (width_of l)) && same_sign (is_signed k) (is_signed l)
  where
    same_sign : Bool → Bool → Bool
    same_sign true b = b
    same_sign false true = false
    same_sign false false = true

abbrev pub same_base : Base → Base → Bool
same_base base.Void base.Void = true
same_base base.Void (base.Whole l) = false
same_base base.Void (base.Struct n) = false
same_base (base.Whole k) base.Void = false
same_base (base.Whole k) (base.Whole l) = same_kind k l
same_base (base.Whole k) (base.Struct n) = false
same_base (base.Struct m) base.Void = false
same_base (base.Struct m) (base.Whole l) = false
same_base (base.Struct m) (base.Struct n) = m == n

abbrev pub is_part : Part → Part → Bool
is_part (part.Pointer c) (part.Pointer d) = true
is_part (part.Pointer c) (part.Array n) = false
is_part (part.Pointer c) part.OpenArray = false
is_part (part.Array m) (part.Pointer d) = false
is_part (part.Array m) (part.Array n) = m == n
is_part (part.Array m) part.OpenArray = true
is_part part.OpenArray (part.Pointer d) = false
is_part part.OpenArray (part.Array n) = true
is_part part.OpenArray part.OpenArray = true

abbrev pub are_parts : List Part → List Part → Bool
are_parts [] [] = true
are_parts [] (q ∷ qs) = false
are_parts (p ∷ ps) [] = false
are_parts (p ∷ ps) (q ∷ qs) = is_part p q && are_parts ps qs

unfoldable pub is_compatible : CType → CType → Bool
is_compatible s t = same_base s.base t.base && are_parts s.parts t.parts

-- The composite type of two compatible ones has the size of an array that one of them knows. It is `const` wherever one of them is.
abbrev pub merged_part : Part → Part → Part
merged_part (part.Pointer c) (part.Pointer d) = part.Pointer (c || d)
merged_part (part.Pointer c) (part.Array n) = part.Pointer c
merged_part (part.Pointer c) part.OpenArray = part.Pointer c
merged_part (part.Array m) q = part.Array m
merged_part part.OpenArray (part.Pointer d) = part.OpenArray
merged_part part.OpenArray (part.Array n) = part.Array n
merged_part part.OpenArray part.OpenArray = part.OpenArray

abbrev pub merged_parts : List Part → List Part → List Part
merged_parts [] qs = []
merged_parts (p ∷ ps) [] = p ∷ ps
merged_parts (p ∷ ps) (q ∷ qs) = merged_part p q ∷ merged_parts ps qs

unfoldable pub merged : CType → CType → CType
merged s t = record s { is_const = s.is_const || t.is_const; parts = merged_parts s.parts t.parts }
