use Rattle.std.proofs.lemmas.Result.{on_ok_weaker}
use Rattle.codegen.specs.Statements.{offset_in}
use Rattle.codegen.specs.Making.{within}
use Rattle.codegen.proofs.Founding.{body_adds}
use Rattle.codegen.proofs.functions.emit_body.Goals as goal

pub returns : goal.returns
returns c =
    on_ok_weaker c.put-2.result (λ h. body_adds (offset_in c.args.segment.now) _ _ _ _ c.args.body.now _ _ _ _ c.as_slice.ensures c.as_slice-2.ensures
    (c.all_size.ensures (within c.args.body.now.unit c.args.segment.now)) c.ahead-end.ensures c.in_ok-emit_stmts.ensures c.in_ok-put.ensures h) c.put-2.ensures
