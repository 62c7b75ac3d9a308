use Rattle.std.proofs.lemmas.Result.{on_ok_weaker}
use Rattle.codegen.specs.Statements.{test_part}
use Rattle.codegen.specs.Making.{within}
use Rattle.codegen.proofs.Adding.{adds_none, adds_then}
use Rattle.codegen.proofs.Stating.{adds_at}
use Rattle.codegen.proofs.statements.emit_test.Goals as goal

pub returns-in-None : goal.returns-in-None
returns-in-None c = adds_at _ _ (λ e. test_part (within c.args.unit c.args.segment.now) e c.args.end) _ _ c.in-None.is (adds_none _)

pub returns-in_ok-emit_expr-in-Some : goal.returns-in_ok-emit_expr-in-Some
returns-in_ok-emit_expr-in-Some c =
    on_ok_weaker c.put.result (λ h. adds_at _ _ (λ e. test_part (within c.args.unit c.args.segment.now) e c.args.end) _ _ c.in-Some.is
    (adds_then _ _ _ _ _ c.in_ok-emit_expr-in-Some.ensures h)) c.put.ensures
