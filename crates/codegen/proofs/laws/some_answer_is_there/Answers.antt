use Rattle.codegen.proofs.Answering.{some_answer}
use Rattle.codegen.proofs.laws.some_answer_is_there.Goals as goal

pub returns : goal.returns
returns c = some_answer
