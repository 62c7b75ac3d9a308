use Rattle.standing.proofs.QuietLemmas.{quiet_stuck}
use Rattle.standing.proofs.laws.quiet_is_stuck.Goals as goal

pub returns : goal.returns
returns c = quiet_stuck
