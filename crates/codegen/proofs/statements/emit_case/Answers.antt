use Rattle.std.proofs.Common.{refl}
use Rattle.std.proofs.lemmas.Result.{on_ok_weaker}
use Rattle.codegen.proofs.Switching.{case_adds}
use Rattle.codegen.proofs.statements.emit_case.Goals as goal

pub returns : goal.returns
returns c =
    on_ok_weaker c.put-5.result (λ h. case_adds _ _ _ _ _ _ _ c.args.case.now _ _ (c.ahead-next.ensures 6 refl) c.in_ok-put.ensures c.in_ok-put-2.ensures
    c.in_ok-put_words.ensures c.in_ok-put-3.ensures c.in_ok-put-4.ensures h) c.put-5.ensures
