use Rattle.codegen.proofs.Switching.{led_none, led_some}
use Rattle.codegen.proofs.statements.led_to.Goals as goal

pub returns-in-None : goal.returns-in-None
returns-in-None c = led_none _ _ _ c.in-None.is

pub returns-in-Some : goal.returns-in-Some
returns-in-Some c = led_some _ _ _ _ _ c.in-Some.is c.saturating_add.ensures
