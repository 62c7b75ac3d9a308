use Rattle.codegen.proofs.Placing.{first_none, first_some}
use Rattle.codegen.proofs.labels.first_of.Goals as goal

pub returns-in-None : goal.returns-in-None
returns-in-None c = first_none _ _ c.in-None.is

pub returns-in-Some : goal.returns-in-Some
returns-in-Some c = first_some _ _ _ c.in-Some.is
