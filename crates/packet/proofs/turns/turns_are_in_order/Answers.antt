use Rattle.packet.proofs.TurnLaws.{turns_are_numbered, turns_are_longest, none_is_lost}
use Rattle.packet.proofs.turns.turns_are_in_order.Goals as goal

pub returns-clause-numbered : goal.returns-clause-numbered
returns-clause-numbered c = turns_are_numbered

pub returns-clause-longest : goal.returns-clause-longest
returns-clause-longest c = turns_are_longest

pub returns-clause-lost : goal.returns-clause-lost
returns-clause-lost c = none_is_lost
