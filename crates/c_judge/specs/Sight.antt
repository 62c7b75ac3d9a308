-- The names in scope (C11, 6.2.1 and 6.2.3): which declaration a name means, and where one is declared.
use Rattle.std.specs.Prelude.{ℕ, nat_le, if◌then◌else◌, Bool, List, [], ◌∷◌, ◌++◌, length, slice_get, Option, Some, None}
use Rattle.c_types.specs.declared.names.Named.{Named}
use Rattle.c_types.specs.declared.names.Tagged.{Tagged}
use Rattle.c_types.specs.declared.scope.Scope.{Scope}
use Rattle.c_types.specs.Names.{innermost, meant}
use Rattle.c_judge.specs.declared.sight.Sight.{Sight}
use Rattle.c_judge.specs.declared.sight.Marks.{Marks}

abbrev pub or_else : {A : Type 0} → Option A → Option A → Option A
or_else (Some a) b = Some a
or_else None b = b

abbrev pub in_scope : {A : Type 0} → Scope A → List ℕ → Option A
in_scope s name = meant s.names s.meanings name

-- What a name means: what it means in the blocks that are open, and else outside all functions.
unfoldable pub meaning_in : Sight → List ℕ → Option (Option Named)
meaning_in s name = or_else (in_scope s.block name) (in_scope s.file name)

-- what the declaration at a place names, if it isn't before the innermost scope
abbrev pub from_mark : {A : Type 0} → ℕ → Option ℕ → List A → Option A
from_mark mark (Some place) meanings = if nat_le mark place then slice_get meanings place else None
from_mark mark None meanings = None

abbrev pub here : {A : Type 0} → Scope A → Scope A → Option ℕ → List ℕ → Option A
here file block None name = in_scope file name
here file block (Some mark) name = from_mark mark (innermost block.names name) block.meanings

abbrev pub names_mark : Option Marks → Option ℕ
names_mark (Some m) = Some m.names
names_mark None = None

abbrev pub tags_mark : Option Marks → Option ℕ
tags_mark (Some m) = Some m.tags
tags_mark None = None

unfoldable pub declared_here : Sight → List ℕ → Option (Option Named)
declared_here s name = here s.file s.block (names_mark s.opened) name

abbrev pub with_entry : {A : Type 0} → List ℕ → A → Scope A → Scope A
with_entry name a s = record { names = s.names ++ name ∷ []; meanings = s.meanings ++ a ∷ [] }

abbrev pub declared_at : List ℕ → Option Named → Option Marks → Sight → Sight
declared_at name meaning None s = record s { file = with_entry name meaning s.file }
declared_at name meaning (Some m) s = record s { block = with_entry name meaning s.block }

-- one more name in the innermost scope
unfoldable pub with_name : List ℕ → Option Named → Sight → Sight
with_name name meaning s = declared_at name meaning s.opened s

-- Tags are a name space of their own.
unfoldable pub tag_in : Sight → List ℕ → Option Tagged
tag_in s name = or_else (in_scope s.block_tags name) (in_scope s.file_tags name)

unfoldable pub tag_here : Sight → List ℕ → Option Tagged
tag_here s name = here s.file_tags s.block_tags (tags_mark s.opened) name

abbrev pub tag_at : List ℕ → Tagged → Option Marks → Sight → Sight
tag_at name tagged None s = record s { file_tags = with_entry name tagged s.file_tags }
tag_at name tagged (Some m) s = record s { block_tags = with_entry name tagged s.block_tags }

unfoldable pub with_tag : List ℕ → Tagged → Sight → Sight
with_tag name tagged s = tag_at name tagged s.opened s

-- A scope begins behind what is declared so far.
abbrev pub opened : Sight → Sight
opened s = record s { opened = Some (record { names = length s.block.names; tags = length s.block_tags.names }) }
