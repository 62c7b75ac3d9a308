use Rattle.std.proofs.lemmas.Result.{on_ok_weaker}
use Rattle.codegen.proofs.Adding.{adds_then}
use Rattle.codegen.proofs.statements.emit_return.Goals as goal

pub returns : goal.returns
returns c =
    on_ok_weaker c.put.result (λ h. adds_then _ _ _ _ _ c.in_ok-emit_tick.ensures (adds_then _ _ _ _ _ c.in_ok-emit_returned.ensures h)) c.put.ensures
