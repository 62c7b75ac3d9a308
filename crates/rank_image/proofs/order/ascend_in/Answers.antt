use Rattle.std.proofs.Common.{◌∙◌, sym, arith}
use Rattle.rank_image.proofs.Reading.{ends_ascending}
use Rattle.rank_image.proofs.order.ascend_in.Goals as goal

pub returns : goal.returns
returns g c =
    sym (c.loop-i.invariant ∙ ends_ascending g.O.Order.test c.args.items.now c.loop-i.i (omega (arith, c.loop-i-test.false, c.saturating_sub-i-end.ensures)))
