use Rattle.std.proofs.Common.{◌≡◌, take}
use Rattle.c_types.specs.Segment.{rooms_of}
use Rattle.privatise.proofs.OffsetLemmas.{OffsetsAre}
use Rattle.privatise.proofs.offsets.offsets_of.Given as goal

abbrev pub invariant-loop-object : goal.invariant-loop-object
invariant-loop-object l = record {
  rooms_are : l.rooms ≡ rooms_of (take l.object-index l.program.objects);
  offsets_are : OffsetsAre (take l.object-index l.program.objects) l.offsets.items;
}
