use Rattle.std.proofs.Common.{◌≡◌, drop, fold}
use Rattle.std.specs.List.{filter}
use Rattle.c_types.specs.Segment.{lies_within, fixes_of}
use Rattle.privatise.specs.Addresses.{addressed}
use Rattle.privatise.proofs.objects.put_addresses.Given as goal

abbrev pub invariant-loop-fix : goal.invariant-loop-fix
invariant-loop-fix l =
    fold (addressed l.offsets) l.bytes (filter (lies_within l.object) (drop l.fix-index l.object.initial.fixes))
    ≡ fold (addressed l.offsets) l.initial.bytes (fixes_of l.object)
