use Rattle.std.proofs.Common.{refl}
use Rattle.c_types.specs.Need.{pending_of}
use Rattle.codegen.proofs.Refusing.{at_body, at_list}
use Rattle.codegen.proofs.check.check_body.Goals as goal

pub returns-in-None : goal.returns-in-None
returns-in-None c = at_body _ _ _ _ c.in-None.is refl

pub returns-in-Some : goal.returns-in-Some
returns-in-Some c = at_body _ _ _ _ c.in-Some.is (at_list pending_of _ _ _ _ _ c.as_slice.ensures c.check_stmts.ensures)
