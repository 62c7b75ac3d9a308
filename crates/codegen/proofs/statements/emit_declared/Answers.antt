use Rattle.std.proofs.lemmas.Result.{on_ok_weaker}
use Rattle.codegen.specs.Making.{within}
use Rattle.codegen.proofs.Stating.{declared_adds}
use Rattle.codegen.proofs.statements.emit_declared.Goals as goal

pub returns : goal.returns
returns c =
    on_ok_weaker c.emit_stores.result (λ h. declared_adds (within c.args.unit c.args.segment.now) _ _ _ _ c.args.declared.now _ c.as_slice.ensures
    c.in_ok-emit_tick.ensures c.in_ok-emit_zeros.ensures h) c.emit_stores.ensures
