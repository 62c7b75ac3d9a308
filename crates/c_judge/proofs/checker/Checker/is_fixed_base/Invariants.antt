use Rattle.std.proofs.Common.{◌≡◌, drop}
use Rattle.c_judge.specs.Structures.{fixed_by, is_fixed_by}
use Rattle.c_judge.proofs.checker.Checker.is_fixed_base.Given as goal

abbrev pub invariant-loop-part : goal.invariant-loop-part
invariant-loop-part l = fixed_by l.fixed (drop l.part-index l.part-items) ≡ fixed_by (is_fixed_by l.self l.of.base) l.of.parts
