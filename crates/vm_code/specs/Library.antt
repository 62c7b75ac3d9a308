-- What a call of the library does to a rank, those of the heap and `exit` too.
use Rattle.std.specs.Prelude.{ℕ, ◌*◌, ◌^◌, ℤ, if◌then◌else◌, nat_eq, nat_lt, List, [], Option, None, Some}
use Rattle.am_base.specs.declared.traps.TrapCause.{TrapCause}
use Rattle.am_base.specs.declared.traps.TrapCause.TheVariants.{BadFree}
use Rattle.am_base.specs.declared.calls.LibCall.{LibCall}
use Rattle.am_base.specs.declared.calls.LibCall.TheVariants.{Malloc, Calloc, Free, Exit}
use Rattle.rank_range.specs.Areas.{Memory, with_areas, take_block, give_block}
use Rattle.rank_range.specs.Kinds.{value_of}
use Rattle.rank_range.specs.declared.kinds.Kind.TheVariants as kind
use Rattle.rank_range.specs.Library as library
use Rattle.rank_range.specs.Library.{argument}

-- A value, a text that is printed, and the memory then; or a trap; or the end of the rank.
pub data LibraryDone : Type 0 where
  Does : ℕ → List ℕ → Memory → LibraryDone
  Fails : TrapCause → LibraryDone
  Exits : ℤ → LibraryDone

abbrev pub in_memory : Memory → library.LibraryDone → LibraryDone
in_memory m (library.Does value text areas) = Does value text (with_areas areas m)
in_memory m (library.Fails cause) = Fails cause

-- the address of a new block, or 0 where there is no room for it
abbrev pub given : ℕ × Memory → LibraryDone
given taken = Does taken.0 [] taken.1

-- a block was given back, or was none
abbrev pub given_back : Option Memory → LibraryDone
given_back None = Fails BadFree
given_back (Some m) = Does 0 [] m

-- The heap is that of `take_block` and `give_block`: `calloc` answers 0 where the product isn't below 2 ^ 64, and `free` of
-- the null pointer does nothing. `exit` ends the rank (C11, 7.22.3 and 7.22.4.4).
unfoldable pub library_does : LibCall → List ℕ → Memory → LibraryDone
library_does Malloc words m = given (take_block (argument words 0) m)
library_does Calloc words m =
    if nat_lt (argument words 0 * argument words 1) (2 ^ 64)
    then given (take_block (argument words 0 * argument words 1) m)
    else Does 0 [] m
library_does Free words m =
    if nat_eq (argument words 0) 0 then Does 0 [] m else given_back (give_block (argument words 0) m)
library_does Exit words m = Exits (value_of kind.Int (argument words 0))
library_does call words m = in_memory m (library.library_does call words m.areas)
