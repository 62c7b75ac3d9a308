use Rattle.std.proofs.Common.{refl}
use Rattle.std.proofs.lemmas.Result.{on_ok_weaker}
use Rattle.codegen.specs.Statements.{again_part}
use Rattle.codegen.specs.Making.{within}
use Rattle.codegen.proofs.Adding.{adds_none}
use Rattle.codegen.proofs.Stating.{adds_at, again_adds}
use Rattle.codegen.proofs.statements.emit_again.Goals as goal

pub returns-in-None : goal.returns-in-None
returns-in-None c = adds_at _ _ (again_part (within c.args.unit c.args.segment.now) c.args.line) _ _ c.in-None.is (adds_none _)

pub returns-in_ok-emit_ticked-in-Some : goal.returns-in_ok-emit_ticked-in-Some
returns-in_ok-emit_ticked-in-Some c =
    on_ok_weaker c.put-in-Some.result (λ h. adds_at _ _ (again_part (within c.args.unit c.args.segment.now) c.args.line) _ _ c.in-Some.is
    (again_adds (within c.args.unit c.args.segment.now) _ _ _ _ _ c.in-Some.full _ (c.ahead-into.ensures 2 refl) c.in_ok-put-in-Some.ensures c.in_ok-emit_ticked-in-Some.ensures h))
    c.put-in-Some.ensures
