-- What is run.
use Rattle.std.specs.Prelude.{ℕ, ◌≡◌, false, slice_get}
use Rattle.rank_range.specs.declared.run.Segment.{Segment}
use Rattle.c_types.specs.declared.program.Program.{Program}
use Rattle.c_types.specs.Segment.{SegmentOf}
use Rattle.vm_code.specs.declared.code.Code.{Code}
use Rattle.codegen.specs.Answers.{IsMade}
use Rattle.rank_machine.specs.Ran.{is_mpi}
use Rattle.w_model.specs.World.{Setting}
use Rattle.cluster.specs.declared.job.Job.{Job}

-- no instruction of the code is a call of MPI
abbrev pub CallsNoMpi : Code → Type 0
CallsNoMpi code = (place : ℕ) → is_mpi (slice_get code.instrs place) ≡ false

-- Code that was made of a program with its segment, and that doesn't call MPI.
pub record IsJob (program : Program) (segment : Segment) (code : Code) : Type 0 where
  pub is_segment : SegmentOf program segment
  pub is_made : IsMade code program segment
  pub no_mpi : CallsNoMpi code

-- what a run of it is given
abbrev pub setting : Job → Setting
setting job = record {
  program = job.program.now;
  segment = job.segment.now;
  ranks = job.ranks;
  bound = job.bound;
}
