use Rattle.std.proofs.Common.{refl}
use Rattle.codegen.proofs.Refusing.{at_option}
use Rattle.codegen.proofs.check.check_if.Goals as goal

pub returns-in-None : goal.returns-in-None
returns-in-None c = at_option _ _ _ _ _ c.in-None.is refl

pub returns-in-Some : goal.returns-in-Some
returns-in-Some c = at_option _ _ _ _ _ c.in-Some.is c.check_full.ensures
