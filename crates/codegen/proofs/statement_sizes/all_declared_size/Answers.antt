use Rattle.codegen.specs.Sizes.{declared_size}
use Rattle.codegen.proofs.Sizing.{size_next}
use Rattle.codegen.proofs.StatementSizing.{declared_all}
use Rattle.codegen.proofs.statement_sizes.all_declared_size.Goals as goal

pub loop-declared-preserved : goal.loop-declared-preserved
loop-declared-preserved c =
    size_next declared_size _ _ _ _ _ _ c.loop-declared-test.true c.declared-item.is c.loop-declared.invariant c.declared_size.ensures c.saturating_add-size.ensures

pub returns : goal.returns
returns c = declared_all _ _ _ c.loop-declared-test.false c.loop-declared.invariant
