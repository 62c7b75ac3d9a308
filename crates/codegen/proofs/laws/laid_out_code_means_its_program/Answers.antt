use Rattle.codegen.proofs.Meaning.{means_program}
use Rattle.codegen.proofs.laws.laid_out_code_means_its_program.Goals as goal

pub returns : goal.returns
returns c = means_program
