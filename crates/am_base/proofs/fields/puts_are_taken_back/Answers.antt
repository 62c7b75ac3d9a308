use Rattle.am_base.proofs.FieldLemmas.{taken_back_8}
use Rattle.am_base.proofs.fields.puts_are_taken_back.Goals as goal

pub returns-clause-u64 : goal.returns-clause-u64
returns-clause-u64 c = taken_back_8
