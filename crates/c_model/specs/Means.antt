-- What it is for code to mean a program.
use Rattle.std.specs.Prelude.{ℕ, ◌≡◌, List, Some}
use Rattle.rank_range.specs.declared.run.Segment.{Segment}
use Rattle.mpi_types.specs.declared.call.Answer.{Answer}
use Rattle.vm_code.specs.declared.code.Code.{Code}
use Rattle.vm_code.specs.Memory.{opened}
use Rattle.vm_code.specs.Machine.{Config, Stops, start}
use Rattle.c_types.specs.declared.program.Program.{Program}
use Rattle.c_types.specs.declared.program.Main.{Main}
use Rattle.c_model.specs.Statements.{main_words, parameter_count, run_of}

-- the machine before its first instruction, where `main` is this function
abbrev pub opening : Program → Segment → Main → ℕ → List Answer → ℕ → Config
opening program segment main rank answers n =
    start (opened segment rank) (main_words (opened segment rank) (parameter_count program main.function)) n answers

-- The code means the program with its segment: on every rank, with every list of answers and every number of ticks, the machine
-- stops after finitely many instructions where the program's run stands, with its memory, text, calls and ticks. Every number of
-- ticks is meant, so the machine reaches each next tick point of the run. As it has one way to go, it makes no other run.
pub record Means (code : Code) (program : Program) (segment : Segment) (main : Main) : Type 0 where
  pub main_is : program.main ≡ Some main
  pub stops : (rank n : ℕ) (answers : List Answer)
      → Stops code (opening program segment main rank answers n) (run_of program segment rank answers n).stop (run_of program segment rank answers n).done
