use Rattle.std.proofs.Common.{◌≡◌, reverse, length}
use Rattle.c_check.specs.Statements.{with_declarations}
use Rattle.c_check.proofs.declarations.with_declared.Given as goal

abbrev pub invariant-loop-one : goal.invariant-loop-one
invariant-loop-one l = with_declarations l.done (reverse l.left) ≡ with_declarations l.fn.done l.fn.declared

abbrev pub decreases-loop-one : goal.decreases-loop-one
decreases-loop-one l = length l.left
