use Rattle.c_types.specs.Need.{in_store, in_declared}
use Rattle.codegen.proofs.Refusing.{found_next, found_whole, at_list}
use Rattle.codegen.proofs.check.check_all_declared.Goals as goal

pub loop-declared-preserved : goal.loop-declared-preserved
loop-declared-preserved c = found_next in_declared _ _ _ _ _ _ _ c.loop-declared-test.true c.declared-item.is c.loop-declared.invariant (at_list in_store _ _ _ _ _ c.as_slice.ensures c.check_stores-first.ensures)

pub returns : goal.returns
returns c = found_whole in_declared _ _ _ _ _ c.loop-declared-test.false c.loop-declared.invariant
