-- What an answer of a call tells, and what a call leaves of a rank's memory.
use Rattle.std.specs.Prelude.{ℕ, ◌≡◌, Bool, true, false, List, length, Result, Ok, Err}
use Rattle.am_base.specs.declared.calls.LibCall.{LibCall}
use Rattle.am_base.specs.declared.calls.LibCall.TheVariants as lib
use Rattle.rank_range.specs.declared.run.LibOut.{LibOut}
use Rattle.rank_range.specs.declared.run.LibStop.{LibStop}
use Rattle.rank_range.specs.declared.run.LibStop.TheVariants.{Trap, Memory}
use Rattle.rank_range.specs.Layout.{globals_start}
use Rattle.rank_range.specs.Parts.{StayBeside}
use Rattle.rank_range.specs.Nodes.{blocks_of}
use Rattle.rank_range.specs.Areas.{Areas}
use Rattle.rank_range.specs.Library.{LibraryDone, Does, Fails, Written, Writes, Wrong, behind_text}

-- The calls that this crate makes: all but those of the heap and `exit`.
abbrev pub is_made : LibCall → Bool
is_made lib.Malloc = false
is_made lib.Calloc = false
is_made lib.Free = false
is_made lib.Exit = false
is_made lib.Printf = true
is_made lib.Puts = true
is_made lib.Putchar = true
is_made lib.Memcpy = true
is_made lib.Memset = true
is_made lib.Memcmp = true
is_made lib.Strlen = true
is_made lib.Strcmp = true
is_made lib.Strcpy = true
is_made lib.Atoi = true
is_made lib.Abs = true

-- Those that change no memory.
abbrev pub is_reading : LibCall → Bool
is_reading lib.Malloc = false
is_reading lib.Calloc = false
is_reading lib.Free = false
is_reading lib.Exit = false
is_reading lib.Printf = true
is_reading lib.Puts = true
is_reading lib.Putchar = true
is_reading lib.Memcpy = false
is_reading lib.Memset = false
is_reading lib.Memcmp = true
is_reading lib.Strlen = true
is_reading lib.Strcmp = true
is_reading lib.Strcpy = false
is_reading lib.Atoi = true
is_reading lib.Abs = true

-- The answer is what the definition says: the value, the text and the areas then, or the trap. Want of memory tells nothing.
abbrev pub Tells : LibraryDone → Areas → Result LibOut LibStop → Type 0
Tells done areas (Ok out) = done ≡ Does out.value out.text areas
Tells done areas (Err (Trap cause)) = done ≡ Fails cause
Tells done areas (Err Memory) = Unit {0}

-- What is written is behind the text that was there, or the trap is told.
abbrev pub IsBehind : List ℕ → Written → List ℕ → Result (Unit {0}) LibStop → Type 0
IsBehind old written new (Ok done) = behind_text old written ≡ Writes new
IsBehind old written new (Err (Trap cause)) = written ≡ Wrong cause
IsBehind old written new (Err Memory) = Unit {0}

-- What stays of a rank's bytes: each that lies before the globals or not below the top, how many there are, and the live blocks
-- of the heap, whose nodes lie before the globals.
pub record LeavesTheRest (rank top : ℕ) (old new : List ℕ) : Type 0 where
  pub beside : StayBeside old new globals_start top
  pub whole : length new ≡ length old
  pub blocks : blocks_of rank new ≡ blocks_of rank old
