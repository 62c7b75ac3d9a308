use Rattle.std.proofs.Common.{take, map}
use Rattle.codegen.specs.Layout.{in_order}
use Rattle.codegen.specs.Statements.{Within, stmt_piece}
use Rattle.codegen.specs.Making.{Adds, label_to}
use Rattle.codegen.proofs.Switching.{case_of}
use Rattle.codegen.proofs.statements.emit_cases.Given as goal

abbrev pub invariant-loop-case : goal.invariant-loop-case
invariant-loop-case l =
    (w : Within) → Adds l.initial.draft l.draft (in_order (map (case_of (label_to l.start l.end (stmt_piece w l.body))) (take l.case-index l.cases)))
