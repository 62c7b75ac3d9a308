use Rattle.forwarding.proofs.Moves.{forwarding_raises}
use Rattle.forwarding.proofs.arrival.forwarding_raises_floors.Goals as goal

pub returns : goal.returns
returns c = forwarding_raises
