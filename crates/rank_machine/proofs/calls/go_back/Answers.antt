use Rattle.std.proofs.Common.{arith}
use Rattle.rank_machine.proofs.MemoryLemmas.{frame_cut}
use Rattle.rank_machine.proofs.calls.go_back.Goals as goal

pub returns-clause-memory : goal.returns-clause-memory
returns-clause-memory g c = frame_cut _ _ _ _ (omega (arith, c.set_top.ensures.stack, c.finish_of-finish.ensures.under))
