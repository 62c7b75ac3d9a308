use Rattle.std.proofs.lemmas.Result.{on_ok_weaker}
use Rattle.codegen.specs.Statements.{returned_part}
use Rattle.codegen.specs.Making.{within}
use Rattle.codegen.proofs.Stating.{adds_at}
use Rattle.codegen.proofs.statements.emit_returned.Goals as goal

pub returns-in-None : goal.returns-in-None
returns-in-None c = on_ok_weaker c.put.result (λ h. adds_at _ _ (returned_part (within c.args.unit c.args.segment.now)) _ _ c.in-None.is h) c.put.ensures

pub returns-in-Some : goal.returns-in-Some
returns-in-Some c = on_ok_weaker c.emit_expr.result (λ h. adds_at _ _ (returned_part (within c.args.unit c.args.segment.now)) _ _ c.in-Some.is h) c.emit_expr.ensures
