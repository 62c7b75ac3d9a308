use Rattle.vm_code.proofs.MachineLaws.{tells_lines}
use Rattle.vm_code.proofs.laws.lines_are_told_before.Goals as goal

pub returns : goal.returns
returns c = tells_lines
