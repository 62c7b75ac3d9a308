use Rattle.codegen.proofs.Switching.{default_none, default_some}
use Rattle.codegen.proofs.statements.default_place.Goals as goal

pub returns-in-None : goal.returns-in-None
returns-in-None c w = default_none w c.args.body.now _ _ _ c.in-None.is

pub returns-in-Some : goal.returns-in-Some
returns-in-Some c w = default_some w c.args.body.now _ _ _ _ _ _ c.in-Some.is (c.label_of.ensures w) c.led_to.ensures
