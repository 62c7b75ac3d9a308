use Rattle.std.proofs.Common.{refl}
use Rattle.codegen.proofs.Covering.{no_body, main_body}
use Rattle.codegen.proofs.covers.is_main_body.Goals as goal

pub returns-in-None : goal.returns-in-None
returns-in-None c = no_body _ c.in-None.is

pub returns-in-Some : goal.returns-in-Some
returns-in-Some c = main_body _ _ _ _ c.in-Some.is c.len.ensures refl
