use Rattle.codegen.proofs.Answering.{refusals_answered}
use Rattle.codegen.proofs.laws.refusals_are_answered.Goals as goal

pub returns : goal.returns
returns c = refusals_answered
