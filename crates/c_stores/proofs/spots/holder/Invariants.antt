use Rattle.std.proofs.Common.{◌≡◌, ◌≤◌, ◌<◌, drop, None}
use Rattle.std.specs.Prelude.{IfSome}
use Rattle.c_stores.specs.Spots.{holder}
use Rattle.c_stores.proofs.spots.holder.Given as goal

abbrev pub invariant-loop-member : goal.invariant-loop-member
invariant-loop-member l =
    (l.at ≡ l.member-index)
    × (holder l.position l.at l.found (drop l.member-index l.members) ≡ holder l.position 0 None l.members)
    × IfSome l.found (λ f. f.1 ≤ l.position)
    × IfSome l.found (λ f. f.0 < l.member-index)
