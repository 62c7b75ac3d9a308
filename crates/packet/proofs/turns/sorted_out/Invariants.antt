use Rattle.std.proofs.Common.{◌≡◌, ◌+◌, ◌≤◌, length, reverse}
use Rattle.packet.specs.TurnSteps.{turns_from}
use Rattle.packet.proofs.TurnLemmas.{turns_onto}
use Rattle.packet.proofs.turns.sorted_out.Given as goal

abbrev pub invariant-loop-h : goal.invariant-loop-h
invariant-loop-h l =
    (turns_from l.sender.0 l.first l.fn.all ≡ turns_onto l.sender.0 l.turns (reverse l.left.items))
    × (l.turns.next + length l.left.items ≤ l.first + length l.fn.all)

abbrev pub decreases-loop-h : goal.decreases-loop-h
decreases-loop-h l = length l.left.items
