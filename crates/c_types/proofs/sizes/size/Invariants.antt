use Rattle.std.proofs.Common.{◌≡◌, drop}
use Rattle.c_types.specs.Sizes.{size_by, base_size, AreSmall}
use Rattle.c_types.proofs.sizes.size.Given as goal

abbrev pub invariant-loop-part : goal.invariant-loop-part
invariant-loop-part l =
    (size_by l.size (drop l.part-index l.part-items) ≡ size_by (base_size l.structs l.of.base) l.of.parts)
    × AreSmall l.size (drop l.part-index l.part-items)
