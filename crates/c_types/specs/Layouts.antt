-- The layout of a structure, member by member (C11, 6.7.2.1).
use Rattle.std.specs.Prelude.{ℕ, List, [], ◌∷◌, ◌++◌}
use Rattle.c_types.specs.declared.ctype.CType.{CType}
use Rattle.c_types.specs.declared.ctype.StructLayout.{StructLayout}
use Rattle.c_types.specs.declared.structs.StructDraft.{StructDraft}
use Rattle.c_types.specs.Sizes.{Structs, size_of, alignment_of}
use Rattle.c_types.specs.Rooms.{no_rooms, offset_behind, with_room, padded}

abbrev pub no_members : StructDraft
no_members = record { members = []; rooms = no_rooms }

-- one more member behind the others
abbrev pub with_member : Structs → List ℕ → CType → StructDraft → StructDraft
with_member structs name t draft = record {
  members = draft.members ++ record { name = name; of = t; offset = offset_behind (alignment_of structs t) draft.rooms } ∷ [];
  rooms = with_room (size_of structs t) (alignment_of structs t) draft.rooms;
}

abbrev pub finished : StructDraft → StructLayout
finished draft = record { members = draft.members; size = padded draft.rooms; align = draft.rooms.align }
