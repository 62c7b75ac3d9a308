use Rattle.std.proofs.Common.{◌≡◌}
use Rattle.rank_machine.specs.View.{words_at}
use Rattle.rank_machine.proofs.records.read_operands.Given as goal

-- the words so far
abbrev pub invariant-loop-i : goal.invariant-loop-i
invariant-loop-i g l = l.operands ≡ words_at (g.M.Mem.bytes_of l.memory) l.at l.i
