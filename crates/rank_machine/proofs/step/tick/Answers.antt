use Rattle.std.proofs.Common.{refl, arith}
use Rattle.rank_machine.proofs.StepLemmas.{tick_on}
use Rattle.rank_machine.proofs.step.tick.Goals as goal

pub returns : goal.returns
returns c code unit line rank top bytes tally =
    tick_on code c.args.work.now _ unit line rank top bytes tally (omega (arith, c.len-few.ensures.few, c.len-few.ensures.value)) refl
