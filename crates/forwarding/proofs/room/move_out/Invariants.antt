use Rattle.std.proofs.Common.{◌≤◌, ◌+◌, length}
use Rattle.std.specs.Prelude.{vec_len, vec_capacity}
use Rattle.forwarding.proofs.Moves.{IsMoving}
use Rattle.forwarding.proofs.room.move_out.Given as goal

abbrev pub invariant-loop-at : goal.invariant-loop-at
invariant-loop-at l =
    IsMoving l.r.0 l.fn.packets.items l.fn.given.items l.packets.items l.given.items
    × (vec_len l.given + vec_len l.packets ≤ vec_capacity l.given)

abbrev pub decreases-loop-at : goal.decreases-loop-at
decreases-loop-at l = length l.packets.items
