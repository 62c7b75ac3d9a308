use Rattle.codegen.proofs.Placing.{further_none, further_some}
use Rattle.codegen.proofs.labels.further.Goals as goal

pub returns-in-None : goal.returns-in-None
returns-in-None c = further_none _ _ c.in-None.is

pub returns-in-Some : goal.returns-in-Some
returns-in-Some c = further_some _ _ _ _ c.in-Some.is c.saturating_add.ensures
