use Rattle.std.proofs.Common.{heap_items}
use Rattle.balancers.proofs.StandingLemmas.{taken}
use Rattle.balancers.proofs.spreading.take_least.Goals as goal

pub returns : goal.returns
returns c = record {
  taken =
      taken c.pop.result c.unwrap-sum.result c.args.ticks c.from.result (heap_items c.args.free.now) (heap_items c.pop.new.self) (heap_items c.push.new.self)
      c.from.ensures c.unwrap-sum.ensures c.pop.ensures.permutation c.pop.ensures.heap_order c.in_ok-push.ensures.permutation c.in_ok-push.ensures.heap_order;
}
