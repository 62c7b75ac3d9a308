use Rattle.std.proofs.lemmas.Result.{on_ok_weaker}
use Rattle.codegen.specs.Statements.{offset_in}
use Rattle.codegen.proofs.Adding.{adds_none}
use Rattle.codegen.proofs.Stating.{adds_at}
use Rattle.codegen.proofs.Founding.{part_if}
use Rattle.codegen.proofs.functions.emit_function.Goals as goal

pub returns-in-None : goal.returns-in-None
returns-in-None c = adds_at _ _ (part_if (offset_in c.args.segment.now)) _ _ c.in-None.is (adds_none _)

pub returns-in-Some : goal.returns-in-Some
returns-in-Some c =
    on_ok_weaker c.emit_body.result (λ h. adds_at _ _ (part_if (offset_in c.args.segment.now)) _ _ c.in-Some.is h) c.emit_body.ensures
