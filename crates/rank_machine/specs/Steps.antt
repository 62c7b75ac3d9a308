-- What one instruction does to a machine in the midst of a call.
use Rattle.std.specs.Prelude.{ℕ, suc, ◌≡◌, ◌+◌, ◌++◌, Bool, true, false, List, length, Option, Some, None, Result, Ok, Err}
use Rattle.rank_range.specs.Layout.{MarksChanges}
use Rattle.rank_range.specs.Nodes.{HasHeap}
use Rattle.rank_range.specs.Output.{with_text}
use Rattle.rank_range.specs.Areas.{Memory, memory_of}
use Rattle.rank_range.specs.declared.run.LibOut.{LibOut}
use Rattle.rank_range.specs.declared.run.LibStop.{LibStop}
use Rattle.rank_range.specs.declared.run.LibStop.TheVariants as stop
use Rattle.am_base.specs.declared.calls.LibCall.{LibCall}
use Rattle.rank_range.specs.declared.run.Output.{Output}
use Rattle.vm_code.specs.declared.code.Code.{Code}
use Rattle.vm_code.specs.declared.instr.Instr.{Instr}
use Rattle.vm_code.specs.declared.instr.Instr.TheVariants as instr
use Rattle.vm_code.specs.Bounded.{is_tick}
use Rattle.vm_code.specs.Lines.{place_of}
use Rattle.vm_code.specs.Library.{LibraryDone, Does, Fails, library_does}
use Rattle.vm_code.specs.Stops.{Stop, Ended, Trapped, Done}
use Rattle.vm_code.specs.Machine.{Config, Moved, Went, Stopped, Stuck, act, library_done}
use Rattle.rank_machine.specs.View.{Tally, config_of}
use Rattle.rank_machine.specs.declared.work.Work.{Work}
use Rattle.rank_machine.specs.declared.halt.Halt.{Halt}
use Rattle.rank_machine.specs.declared.halt.Halt.TheVariants as halt

-- What shows of a move: where the machine goes on, or how it stopped and what was done then.
pub data Shown : Type 0 where
  On : Config → Shown
  Halted : Stop → Done → Shown
  Nowhere : Shown

abbrev pub shown : Moved → Shown
shown (Went c) = On c
shown (Stopped stop c) = Halted stop c.done
shown Stuck = Nowhere

-- what is shown by an instruction's function, with the machine then
abbrev pub shown_by : Code → Option Halt → Config → Shown
shown_by code None c = On c
shown_by code (Some (halt.Returned status)) c = Halted (Ended status) c.done
shown_by code (Some (halt.Exited status)) c = Halted (Ended status) c.done
shown_by code (Some (halt.Trapped cause)) c =
    Halted (Trapped cause (place_of code c.place).unit (place_of code c.place).line) c.done
shown_by code (Some halt.Lost) c = Nowhere

-- What a change of a rank's memory leaves: whose it is, how many bytes there are, marks of pages that changed, a sound heap.
pub record Kept (old_rank new_rank : ℕ) (old new : List ℕ) (old_marks new_marks : ℕ → Bool) : Type 0 where
  pub owner : new_rank ≡ old_rank
  pub whole : length new ≡ length old
  pub marks : MarksChanges old new old_marks new_marks
  pub heap : HasHeap old_rank old → HasHeap new_rank new

-- what an answer says, as an option
abbrev pub where_ok : {X E M : Type 0} → Result X E → M → Option M
where_ok (Ok x) m = Some m
where_ok (Err e) m = None

-- the tally before an instruction that takes a tick or takes none, and behind it
abbrev pub before : Bool → Tally → Tally
before false tally = tally
before true tally = record tally { left = suc tally.left }

abbrev pub behind : Bool → Tally → Tally
behind false tally = tally
behind true tally = record tally { ticks = tally.ticks + 1 }

-- with a text that was printed
abbrev pub with_out : List ℕ → Tally → Tally
with_out out tally = record tally { text = tally.text ++ out }

-- An instruction did what its definition says, and printed this text.
pub record Advanced (code : Code) (instr : Instr) (halt : Option Halt) (old new : Work) (rank old_top new_top : ℕ)
    (old_bytes new_bytes : List ℕ) (old_output new_output : Output) : Type 0 where
  pub out : List ℕ
  pub output : new_output ≡ with_text old_output out
  pub moved : (tally : Tally) → length tally.text ≡ old_output.printed
      → shown_by code halt (config_of new rank new_top new_bytes (behind (is_tick (Some instr)) (with_out out tally)))
      ≡ shown (act code (Some instr) (config_of old rank old_top old_bytes (before (is_tick (Some instr)) tally)))

-- A call of the library did what its definition says, and printed this text.
pub record CallsLibrary (call : LibCall) (words rest : List ℕ) (halt : Option Halt) (old new : Work) (rank top : ℕ)
    (old_bytes new_bytes : List ℕ) (old_output new_output : Output) : Type 0 where
  pub out : List ℕ
  pub output : new_output ≡ with_text old_output out
  pub moved : (code : Code) (tally : Tally) → length tally.text ≡ old_output.printed
      → shown_by code halt (config_of new rank top new_bytes (with_out out tally))
      ≡ shown (library_done code (library_does call words (memory_of rank top old_bytes)) rest (config_of old rank top old_bytes tally))

-- What a call of the library answers: the value, the text and the memory then, or the trap. Want of memory tells nothing.
abbrev pub Tells : LibraryDone → Memory → Result LibOut LibStop → Type 0
Tells done memory (Ok out) = done ≡ Does out.value out.text memory
Tells done memory (Err (stop.Trap cause)) = done ≡ Fails cause
Tells done memory (Err stop.Memory) = Unit {0}

abbrev pub is_call_of_mpi : Instr → Bool
is_call_of_mpi (instr.Mpi call count second) = true
is_call_of_mpi _ = false
