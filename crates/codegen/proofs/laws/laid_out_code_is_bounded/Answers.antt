use Rattle.codegen.proofs.Bounding.{loops_tick}
use Rattle.codegen.proofs.laws.laid_out_code_is_bounded.Goals as goal

pub returns : goal.returns
returns c = loops_tick
