use Rattle.std.proofs.Common.{◌≡◌, ◌++◌, drop, fold, length}
use Rattle.c_types.specs.Segment.{arguments, before_objects, bytes_behind, rooms_of, with_object}
use Rattle.privatise.proofs.layout.bytes_of.Given as goal

abbrev pub invariant-loop-object : goal.invariant-loop-object
invariant-loop-object l = record {
  rooms_are : fold with_object l.rooms (drop l.object-index l.program.objects) ≡ rooms_of l.program.objects;
  bytes_are : l.bytes.items ++ bytes_behind l.program.objects l.rooms (drop l.object-index l.program.objects)
      ≡ arguments ++ bytes_behind l.program.objects before_objects l.program.objects;
  long : length l.bytes.items ≡ l.rooms.end;
}
