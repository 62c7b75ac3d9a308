use Rattle.std.proofs.lemmas.Result.{on_ok_weaker}
use Rattle.codegen.proofs.Switching.{case_leads}
use Rattle.codegen.proofs.statements.emit_choice.Goals as goal

pub returns : goal.returns
returns c = on_ok_weaker c.emit_case.result (λ h w. case_leads w _ _ c.args.body.now _ _ c.args.case.now _ _ (c.label_of.ensures w) c.led_to.ensures h) c.emit_case.ensures
