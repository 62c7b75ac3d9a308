use Rattle.std.proofs.lemmas.Result.{on_ok_weaker}
use Rattle.codegen.specs.Making.{within}
use Rattle.codegen.proofs.Stating.{express_adds}
use Rattle.codegen.proofs.statements.emit_express.Goals as goal

pub returns : goal.returns
returns c =
    on_ok_weaker c.put.result (λ h. express_adds (within c.args.unit c.args.segment.now) _ _ _ c.args.line c.args.value.now c.in_ok-emit_ticked.ensures h) c.put.ensures
