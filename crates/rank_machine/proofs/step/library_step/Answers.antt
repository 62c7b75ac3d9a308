use Rattle.std.proofs.Common.{arith}
use Rattle.rank_machine.proofs.StepLemmas.{library_lost, library_all}
use Rattle.rank_machine.proofs.CallLemmas.{kept_none}
use Rattle.rank_machine.proofs.step.library_step.Goals as goal

pub returns-then-count-len-clause-moved : goal.returns-then-count-len-clause-moved
returns-then-count-len-clause-moved g c code = library_lost code _ _ c.args.work.now _ _ _ _ (omega (arith, c.if-count-len.true, c.len.ensures.value))

pub returns-then-count-len-clause-kept : goal.returns-then-count-len-clause-kept
returns-then-count-len-clause-kept g c = kept_none _ _ _

pub returns-clause-moved : goal.returns-clause-moved
returns-clause-moved g c = library_all c.args.call c.args.count c.library.result c.args.work.now _ _ _ _ _ _ _ _ (omega (arith, c.if-count-len.false, c.len.ensures.value)) c.library.ensures.stack c.library.ensures.done
