use Rattle.std.proofs.Common.{◌<◌}
use Rattle.rank_machine.specs.View.{config_of}
use Rattle.rank_machine.specs.Steps.{Kept}
use Rattle.rank_machine.specs.Weight.{weight}
use Rattle.rank_machine.proofs.RunLemmas.{Going}
use Rattle.rank_machine.proofs.run.run.Given as goal

abbrev pub invariant-instructions : goal.invariant-instructions
invariant-instructions g l = record {
  going : Going l.code (config_of l.initial.work (g.M.Mem.rank_of l.initial.memory) (g.M.Mem.top_of l.initial.memory) (g.M.Mem.bytes_of l.initial.memory))
      l.work (g.M.Mem.rank_of l.initial.memory) (g.M.Mem.top_of l.memory) (g.M.Mem.bytes_of l.memory) l.initial.printer l.printer l.initial.left l.left;
  number : l.work.number < 256;
  kept : Kept (g.M.Mem.rank_of l.initial.memory) (g.M.Mem.rank_of l.memory) (g.M.Mem.bytes_of l.initial.memory) (g.M.Mem.bytes_of l.memory)
      (g.M.Mem.marks_of l.initial.memory) (g.M.Mem.marks_of l.memory);
}

abbrev pub decreases-instructions : goal.decreases-instructions
decreases-instructions g l = weight l.code.instrs l.left l.work.number l.work.place
