use Rattle.std.proofs.Common.{◌≡◌, reverse, length, None}
use Rattle.c_judge.specs.Shapes.{made, made_by}
use Rattle.c_judge.proofs.shapes.applied.Given as goal

abbrev pub invariant-loop-shape : goal.invariant-loop-shape
invariant-loop-shape l = made_by l.structs l.made (reverse l.parts) ≡ made_by l.structs (made l.fn.of None) (reverse l.fn.parts)

abbrev pub decreases-loop-shape : goal.decreases-loop-shape
decreases-loop-shape l = length l.parts
