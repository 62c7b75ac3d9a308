-- Scopes begin and end (C11, 6.2.1p4). What is declared in one is gone behind it.
use Rattle.std.specs.Prelude.{ℕ, ◌&&◌, nat_le, if◌then◌else◌, Bool, List, length, take, Option, Some, None}
use Rattle.c_types.specs.declared.scope.Scope.{Scope}
use Rattle.c_judge.specs.declared.sight.Sight.{Sight}
use Rattle.c_judge.specs.declared.sight.Marks.{Marks}

-- what stands before a mark
abbrev pub cut : {A : Type 0} → ℕ → Scope A → Scope A
cut mark s =
    if nat_le mark (length s.names) && nat_le mark (length s.meanings)
    then record { names = take mark s.names; meanings = take mark s.meanings } else s

abbrev pub cut_to : Option Marks → Sight → Sight
cut_to (Some m) s = record s { block = cut m.names s.block; block_tags = cut m.tags s.block_tags }
cut_to None s = s

-- The innermost scope ends, and the one around it is the innermost.
unfoldable pub closed : Option Marks → Sight → Sight
closed before s = record (cut_to s.opened s) { opened = before }
