use Rattle.std.proofs.Common.{◌≡◌, drop}
use Rattle.byte_formats.specs.Formats.{ascends}
use Rattle.rank_image.proofs.order.ascend_in.Given as goal

abbrev pub invariant-loop-i : goal.invariant-loop-i
invariant-loop-i g l = ascends g.O.Order.test l.items ≡ ascends g.O.Order.test (drop l.i l.items)
