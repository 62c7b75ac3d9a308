use Rattle.codegen.specs.Statements.{declared_part}
use Rattle.codegen.specs.Making.{within}
use Rattle.codegen.proofs.Adding.{adds_none}
use Rattle.codegen.proofs.Emitting.{adds_next}
use Rattle.codegen.proofs.Stating.{all_add}
use Rattle.codegen.proofs.statements.emit_all_declared.Goals as goal

pub loop-declared-init : goal.loop-declared-init
loop-declared-init c = adds_none _

pub loop-declared-preserved : goal.loop-declared-preserved
loop-declared-preserved c =
    adds_next _ _ _ (declared_part (within c.args.unit c.args.segment.now)) _ _ _ c.loop-declared-test.true c.declared-item.is c.loop-declared.invariant c.in_ok-emit_declared.ensures

pub returns : goal.returns
returns c = all_add (within c.args.unit c.args.segment.now) _ _ _ _ c.loop-declared-test.false c.loop-declared.invariant
