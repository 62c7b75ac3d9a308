use Rattle.std.proofs.Common.{arith, ◌∙◌, ◌+◌, ◌-◌}
use Rattle.rank_image.proofs.Chains.{zero_step}
use Rattle.rank_image.proofs.heap.are_zero.Goals as goal

pub loop-i-preserved : goal.loop-i-preserved
loop-i-preserved c =
    c.loop-i.invariant
    ∙ zero_step c.args.bytes.now (c.args.at + c.loop-i.i) (c.args.at + (c.loop-i.i + 1)) (c.args.size - c.loop-i.i) (c.args.size - (c.loop-i.i + 1))
    (omega (arith, c.loop-i-test.true)) (omega arith) c.if-bytes-at-ne0.false
