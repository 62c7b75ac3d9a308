use Rattle.std.proofs.Common.{◌≡◌, ◌+◌, ◌++◌, drop, map}
use Rattle.std.specs.List.{filter}
use Rattle.c_types.specs.Segment.{lies_within, fixes_of}
use Rattle.privatise.proofs.objects.append_fixes.Given as goal

abbrev pub invariant-loop-fix : goal.invariant-loop-fix
invariant-loop-fix l =
    l.fixes.items ++ map (λ f. l.start + f.offset) (filter (lies_within l.object) (drop l.fix-index l.object.initial.fixes))
    ≡ l.initial.fixes.items ++ map (λ f. l.start + f.offset) (fixes_of l.object)
