use Rattle.codegen.proofs.Beginning.{begins_with_main}
use Rattle.codegen.proofs.laws.laid_out_code_begins_with_main.Goals as goal

pub returns : goal.returns
returns c = begins_with_main
