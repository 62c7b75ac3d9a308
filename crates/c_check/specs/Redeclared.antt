-- Whether declarations of one name agree (C11, 6.2.7 and 6.7p3 to p4). In them `const` counts, but not that of a parameter or of a
-- result itself.
use Rattle.std.specs.Prelude.{◌&&◌, ◌||◌, ◌==◌, not, nat_eq, length, if◌then◌else◌, Bool, true, false, List, [], ◌∷◌}
use Rattle.c_types.specs.declared.ctype.CType.{CType}
use Rattle.c_types.specs.declared.ctype.FunctionType.{FunctionType}
use Rattle.c_types.specs.declared.ctype.Part.{Part}
use Rattle.c_types.specs.declared.ctype.Part.TheVariants as part
use Rattle.c_typing.specs.Types.{is_compatible, merged}

abbrev pub same : Bool → Bool → Bool
same true b = b
same false b = not b

-- A type is `const` or not at each level: its base, and then each pointer. The last level is the type itself.
abbrev pub same_levels : Bool → Bool → Bool → List Part → List Part → Bool
same_levels aside a b (part.Pointer c ∷ ps) (part.Pointer d ∷ qs) = same a b && same_levels aside c d ps qs
same_levels aside a b (part.Pointer c ∷ ps) (part.Array n ∷ qs) = same_levels aside a b ps qs
same_levels aside a b (part.Pointer c ∷ ps) (part.OpenArray ∷ qs) = same_levels aside a b ps qs
same_levels aside a b (part.Array n ∷ ps) (q ∷ qs) = same_levels aside a b ps qs
same_levels aside a b (part.OpenArray ∷ ps) (q ∷ qs) = same_levels aside a b ps qs
same_levels aside a b [] qs = aside || same a b
same_levels aside a b (p ∷ ps) [] = aside || same a b

abbrev pub agrees : CType → CType → Bool
agrees a b = is_compatible a b && same_levels false a.is_const b.is_const a.parts b.parts

abbrev pub agrees_aside : CType → CType → Bool
agrees_aside a b = is_compatible a b && same_levels true a.is_const b.is_const a.parts b.parts

abbrev pub is_open : Part → Bool
is_open part.OpenArray = true
is_open (part.Array n) = false
is_open (part.Pointer c) = false

abbrev pub same_extents : List Part → List Part → Bool
same_extents (p ∷ ps) (q ∷ qs) = same (is_open p) (is_open q) && same_extents ps qs
same_extents [] qs = true
same_extents (p ∷ ps) [] = true

-- A typedef may be repeated with the same type.
abbrev pub is_same : CType → CType → Bool
is_same a b = agrees a b && same_extents a.parts b.parts

abbrev pub pairs_agree : List CType → List CType → Bool
pairs_agree (t ∷ ts) (u ∷ us) = agrees_aside t u && pairs_agree ts us
pairs_agree [] us = true
pairs_agree (t ∷ ts) [] = true

abbrev pub all_agree_aside : List CType → List CType → Bool
all_agree_aside ts us = nat_eq (length ts) (length us) && pairs_agree ts us

abbrev pub functions_agree : FunctionType → FunctionType → Bool
functions_agree a b = agrees_aside a.result b.result && all_agree_aside a.parameters b.parameters

-- the composite type of two types of functions that agree (C11, 6.2.7p3)
abbrev pub merged_all : List CType → List CType → List CType
merged_all (t ∷ ts) (u ∷ us) = merged t u ∷ merged_all ts us
merged_all [] us = []
merged_all (t ∷ ts) [] = []

abbrev pub merged_function : FunctionType → FunctionType → FunctionType
merged_function a b = record { result = merged a.result b.result; parameters = merged_all a.parameters b.parameters }
