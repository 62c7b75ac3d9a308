use Rattle.std.proofs.lemmas.Result.{on_ok_weaker}
use Rattle.codegen.proofs.Adding.{pushed}
use Rattle.codegen.proofs.draft.Draft.put.Goals as goal

pub returns : goal.returns
returns c = on_ok_weaker c.push.result (λ h. pushed _ _ _ h) c.push.ensures.ok
