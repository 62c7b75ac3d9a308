use Rattle.std.proofs.Common.{arith}
use Rattle.bench.proofs.PlacedLemmas.{contains_from, placed_more}
use Rattle.bench.proofs.plans.are_placed.Goals as goal

pub loop-load-preserved : goal.loop-load-preserved
loop-load-preserved c =
    placed_more c.args.loads.now c.args.live.now c.loop-load.load-index _ c.loop-load-test.true c.loop-load.invariant
    (contains_from c.args.live.now _ c.if-not-contains.ensures.cases)

pub returns : goal.returns
returns c = λ yes k d inside. c.loop-load.invariant k d (omega arith)
