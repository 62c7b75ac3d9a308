use Rattle.vm_code.proofs.MachineLaws.{stays_stopped}
use Rattle.vm_code.proofs.laws.a_stopped_machine_stays.Goals as goal

pub returns : goal.returns
returns c = stays_stopped
