use Rattle.std.proofs.Common.{take, map}
use Rattle.codegen.specs.Layout.{in_order}
use Rattle.codegen.specs.Making.{Adds, within, targets_of}
use Rattle.codegen.proofs.Stating.{part_of}
use Rattle.codegen.proofs.statements.+stmt.Given as goal

abbrev pub invariant-emit_stmts-loop-stmt : goal.invariant-emit_stmts-loop-stmt
invariant-emit_stmts-loop-stmt l = Adds l.initial.draft l.draft (in_order (map (part_of (within l.unit l.segment) (targets_of l.places)) (take l.stmt-index l.stmts)))
