use Rattle.std.proofs.Common.{arith}
use Rattle.w_model.specs.World.{world_of}
use Rattle.w_model.specs.Texts.{rank_line_at}
use Rattle.cluster.specs.Told.{on_first}
use Rattle.cluster.proofs.ToldLemmas.{report-next, over-all}
use Rattle.cluster.proofs.told.append_rank_lines.Goals as goal

pub loop-at-preserved : goal.loop-at-preserved
loop-at-preserved c = λ code s h bound_is stand.
    report-next code _ s h _ c.index-ranks-at.result c.loop-at.at _ c.loop-at.out _ c.loop-at-test.true c.index-ranks-at.is stand
    (c.loop-at.invariant code s h bound_is stand)
    (rw (← bound_is) at c.in_ok-append_rank.ensures)

pub returns : goal.returns
returns c = λ code s h bound_is stand.
    over-all s (rank_line_at c.args.files.now s (world_of h) on_first) c.loop-at.at _ _ (omega (arith, stand.count)) (c.loop-at.invariant code s h bound_is stand)
