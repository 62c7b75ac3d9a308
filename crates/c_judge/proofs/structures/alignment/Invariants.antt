use Rattle.std.proofs.Common.{◌≡◌, drop}
use Rattle.c_types.specs.Sizes.{align_by, base_align}
use Rattle.c_judge.proofs.structures.alignment.Given as goal

abbrev pub invariant-loop-part : goal.invariant-loop-part
invariant-loop-part l = align_by l.align (drop l.part-index l.part-items) ≡ align_by (base_align l.structs l.of.base) l.of.parts
