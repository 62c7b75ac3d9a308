-- What a call of the library or of MPI does in a run.
use Rattle.std.specs.Prelude.{ℕ, zero, suc, Bool, true, false, List, [], ◌∷◌}
use Rattle.am_base.specs.declared.calls.LibCall.{LibCall}
use Rattle.am_base.specs.declared.calls.MpiCall.{MpiCall}
use Rattle.rank_range.specs.Kinds.{word_of}
use Rattle.mpi_types.specs.declared.call.Answer.TheVariants.{Half, Value, Trap, End}
use Rattle.vm_code.specs.Memory.{written_all}
use Rattle.vm_code.specs.Library.{LibraryDone, Does, Fails, Exits, library_does}
use Rattle.vm_code.specs.Stops.{Paused, Waits, Ended, asked}
use Rattle.vm_code.specs.Machine.{call_of}
use Rattle.c_model.specs.Outcome.{Rest, Here, stops, traps, tick, with_memory, set_memory, printing}

abbrev pub library_done : LibraryDone → Here → (ℕ → Rest) → Rest
library_done (Does value text memory) here next = printing text here (set_memory memory (next value))
library_done (Fails cause) here next = traps cause here
library_done (Exits status) here next = stops (Ended status)

abbrev pub library_call : LibCall → List ℕ → Here → (ℕ → Rest) → Rest
library_call call words here next = tick (with_memory (λ m. library_done (library_does call words m) here next))

-- A tick of a call of MPI: with no tick left the run is paused there, and with no answer left it waits there. A call whose
-- answer says so has a second tick.
abbrev pub mpi_tick : Bool → MpiCall → List ℕ → Here → (ℕ → Rest) → Rest
mpi_tick second name words here next zero answers done = stops Paused zero answers done
mpi_tick second name words here next (suc left) [] done = stops (Waits (call_of name words second)) (suc left) [] done
mpi_tick second name words here next (suc left) (Half ∷ answers) done =
    mpi_tick true name words here next left answers (asked done (call_of name words second))
mpi_tick second name words here next (suc left) (Value result writes ∷ answers) done =
    with_memory (λ m. set_memory (written_all m writes) (next (word_of result))) left answers (asked done (call_of name words second))
mpi_tick second name words here next (suc left) (Trap cause ∷ answers) done =
    traps cause here left answers (asked done (call_of name words second))
mpi_tick second name words here next (suc left) (End status ∷ answers) done =
    stops (Ended status) left answers (asked done (call_of name words second))

abbrev pub mpi_call : MpiCall → List ℕ → Here → (ℕ → Rest) → Rest
mpi_call name words here next = mpi_tick false name words here next
