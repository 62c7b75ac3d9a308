use Rattle.std.proofs.Common.{heap_items, arith, rules, All, length, ◌<◌, ◌∙◌, length-set}
use Rattle.balancers.specs.declared.loads.Load.{Load}
use Rattle.balancers.proofs.SpreadLemmas.{heap_some, heap_room, spread_none, turn, total_more}
use Rattle.balancers.proofs.spreading.spread.Goals as goal

pub take_least-requires-clause-some : goal.take_least-requires-clause-some
take_least-requires-clause-some c =
    omega (arith, c.loop-load.free.data.ok, heap_some _ _ (heap_items c.loop-load.free) c.loop-load.invariant.holds c.requires.some_live)

pub take_least-requires-clause-room : goal.take_least-requires-clause-room
take_least-requires-clause-room c =
    heap_room c.loop-load.plan c.args.live.now c.args.order.now c.loop-load.load-index _ (heap_items c.loop-load.free)
    c.loop-load.invariant.holds c.loop-load.invariant.small (omega arith) (omega arith)

pub loop-load-init : goal.loop-load-init
loop-load-init c = record {
  turns = spread_none _ _ _;
  holds = c.in_ok-free.ensures;
  small = omega arith;
  long = search rules;
}

pub loop-load-preserved : goal.loop-load-preserved
loop-load-preserved c =
    let known : All (λ (l : Load). l.rank.0 < length c.loop-load.plan) c.args.order.now = λ k d inside. omega (arith, c.requires.known k d inside) in
    let next = turn c.args.live.now c.args.order.now c.requires.distinct c.loop-load.load-index c.loop-load.plan _ c.in_ok-place.place (heap_items c.take_least.new.free) (omega arith) known c.loop-load.invariant.turns
    (c.in_ok-place.ensures.taken _ c.args.live.now c.requires.ascending c.loop-load.invariant.holds) in
    record {
      turns = next.0;
      holds = next.1;
      small = total_more c.args.order.now c.loop-load.load-index (let none : Load = record { rank = record { 0 = 0 }; place = record { 0 = 0 }; ticks = 0 } in none) (omega arith) c.loop-load.invariant.small (omega arith);
      long = length-set _ _ _ ∙ c.loop-load.invariant.long;
    }
