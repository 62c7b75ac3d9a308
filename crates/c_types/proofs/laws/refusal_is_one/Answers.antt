use Rattle.c_types.proofs.RefusalLaws.{refusal_is_one}
use Rattle.c_types.proofs.laws.refusal_is_one.Goals as goal

pub returns : goal.returns
returns c = refusal_is_one
