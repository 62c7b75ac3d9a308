use Rattle.std.proofs.lemmas.Result.{on_ok_weaker}
use Rattle.codegen.specs.Making.{within}
use Rattle.codegen.proofs.Stating.{store_adds}
use Rattle.codegen.proofs.statements.emit_store.Goals as goal

pub returns : goal.returns
returns c =
    on_ok_weaker c.put-3.result (λ h. store_adds (within c.args.unit c.args.segment.now) _ _ _ _ _ c.args.store.now _ c.put_of.ensures c.in_ok-put.ensures
    c.in_ok-emit_expr.ensures c.in_ok-put-2.ensures h) c.put-3.ensures
