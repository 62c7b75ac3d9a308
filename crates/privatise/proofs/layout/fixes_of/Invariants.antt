use Rattle.std.proofs.Common.{◌≡◌, ◌∷◌, ◌++◌, drop, fold}
use Rattle.c_types.specs.Segment.{before_objects, fixes_behind, rooms_of, with_object}
use Rattle.privatise.proofs.layout.fixes_of.Given as goal

abbrev pub invariant-loop-object : goal.invariant-loop-object
invariant-loop-object l = record {
  rooms_are : fold with_object l.rooms (drop l.object-index l.program.objects) ≡ rooms_of l.program.objects;
  fixes_are : l.fixes.items ++ fixes_behind l.rooms (drop l.object-index l.program.objects)
      ≡ 0 ∷ fixes_behind before_objects l.program.objects;
}
