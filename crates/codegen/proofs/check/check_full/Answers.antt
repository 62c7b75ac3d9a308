use Rattle.codegen.proofs.Refusing.{full_past}
use Rattle.codegen.proofs.check.check_full.Goals as goal

pub returns : goal.returns
returns c = full_past c.args.unit c.args.found c.args.below _ c.args.full.now _ c.requires c.need.ensures c.if-need-below.false c.first_of.ensures
