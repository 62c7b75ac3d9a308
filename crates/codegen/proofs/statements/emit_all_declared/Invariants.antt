use Rattle.std.proofs.Common.{take, map}
use Rattle.codegen.specs.Layout.{in_order}
use Rattle.codegen.specs.Statements.{declared_part}
use Rattle.codegen.specs.Making.{Adds, within}
use Rattle.codegen.proofs.statements.emit_all_declared.Given as goal

abbrev pub invariant-loop-declared : goal.invariant-loop-declared
invariant-loop-declared l = Adds l.initial.draft l.draft (in_order (map (declared_part (within l.unit l.segment)) (take l.declared-index l.all)))
