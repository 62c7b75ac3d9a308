use Rattle.schedule.proofs.MadeLaws.{suffice}
use Rattle.schedule.proofs.made.turns_suffice.Goals as goal

pub returns : goal.returns
returns c = suffice
