use Rattle.collectives.proofs.JoinLemmas.{joining_keeps}
use Rattle.collectives.proofs.KeepLemmas.{arrival_keeps, arrival_not_held}
use Rattle.collectives.proofs.RestLemmas.{start_is, ending_keeps}
use Rattle.collectives.proofs.laws.collectives_go_on.Goals as goal

pub returns : goal.returns
returns c = record { start = start_is; joining = joining_keeps; arrival = arrival_keeps; not_held = arrival_not_held; ending = ending_keeps }
