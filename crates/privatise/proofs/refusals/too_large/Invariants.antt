use Rattle.std.proofs.Common.{◌≡◌, ◌≤◌, drop}
use Rattle.c_types.specs.Segment.{before_objects, segment_limit}
use Rattle.privatise.proofs.LargeLemmas.{passing}
use Rattle.privatise.proofs.refusals.too_large.Given as goal

abbrev pub invariant-loop-object : goal.invariant-loop-object
invariant-loop-object l =
    (passing l.rooms (drop l.object-index l.program.objects) ≡ passing before_objects l.program.objects)
    × (l.rooms.end ≤ segment_limit)
