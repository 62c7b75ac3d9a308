use Rattle.std.proofs.Common.{arith}
use Rattle.w_model.specs.World.{world_of, start_world}
use Rattle.w_model.specs.Cut.{lines_since}
use Rattle.cluster.proofs.ToldLemmas.{lines-start, lines-next, over-all}
use Rattle.cluster.proofs.told.append_all_lines.Goals as goal

pub loop-at-init : goal.loop-at-init
loop-at-init c = λ code s h stand. lines-start s (world_of h) _

pub loop-at-preserved : goal.loop-at-preserved
loop-at-preserved c = λ code s h stand.
    lines-next code s h _ c.index-ranks-at.result c.loop-at.at _ c.loop-at.out _ c.loop-at-test.true c.index-ranks-at.is stand (c.loop-at.invariant code s h stand)
    (rw c.as_slice.ensures at c.in_ok-text.ensures)

pub returns : goal.returns
returns c = λ code s h stand.
    over-all s (lines_since s start_world (world_of h)) c.loop-at.at _ _ (omega (arith, stand.count)) (c.loop-at.invariant code s h stand)
