use Rattle.std.proofs.Common.{take, arith}
use Rattle.std.proofs.lemmas.List.{take_more}
use Rattle.balancers.proofs.StandingLemmas.{one_more_idle}
use Rattle.balancers.proofs.spreading.all_idle.Goals as goal

pub loop-p-preserved : goal.loop-p-preserved
loop-p-preserved c =
    one_more_idle _ (take c.loop-p.p-index c.args.live.now) _ _ _ (take_more c.args.live.now c.loop-p.p-index _ (omega arith))
    c.loop-p.invariant c.in_ok-push.ensures.permutation c.in_ok-push.ensures.heap_order
