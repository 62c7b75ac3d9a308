use Rattle.std.proofs.Common.{arith, ◌≡◌, ◌+◌, ℕ, get_or, set, map, subst}
use Rattle.balancers.specs.declared.loads.Load.{Load}
use Rattle.am_base.specs.declared.numbers.ProcId.{ProcId}
use Rattle.balancers.specs.Loads.{places}
use Rattle.balancers.specs.Turns.{so_far}
use Rattle.balancers.proofs.SpreadLemmas.{total_more}
use Rattle.balancers.proofs.MoveLemmas.{one_more_none, read_at, sum_room, sums_more}
use Rattle.balancers.proofs.refining.sums_of.Goals as goal

pub loop-preserved : goal.loop-preserved
loop-preserved c =
    let none : ProcId = record { 0 = 0 } in
    one_more_none c.args.live.now c.loop.index none c.loop.sums.items c.push.new.self.items (omega arith) c.loop.invariant c.in_ok-push.ensures.items

pub overflow_add-index_mut : goal.overflow_add-index_mut
overflow_add-index_mut c =
    omega (
      arith,
      sum_room c.args.loads.now c.args.live.now c.loop-load.sums.items c.loop-load.load-index c.place_among-at.result c.from.result c.place_among-at.ensures.inside c.loop-load.invariant.sums c.loop-load.invariant.small
          (omega arith) (omega arith),
      read_at (so_far (places c.args.loads.now) c.args.loads.now c.loop-load.load-index) c.args.live.now c.loop-load.sums.items c.place_among-at.result c.index_mut.result.now c.loop-load.invariant.sums c.place_among-at.ensures.inside c.index_mut.ensures.value,
    )

pub loop-load-preserved : goal.loop-load-preserved
loop-load-preserved c =
    let none : Load = record { rank = record { 0 = 0 }; place = record { 0 = 0 }; ticks = 0 } in
    let more : ℕ = (get_or c.args.loads.now c.loop-load.load-index none).ticks in
    let next : set c.loop-load.sums.items c.place_among-at.result (get_or c.loop-load.sums.items c.place_among-at.result 0 + more) ≡ map (so_far (places c.args.loads.now) c.args.loads.now (c.loop-load.load-index + 1)) c.args.live.now =
    sums_more c.args.loads.now c.args.live.now c.loop-load.sums.items c.loop-load.load-index c.place_among-at.result none c.requires (omega arith) c.place_among-at.ensures.inside c.place_among-at.ensures.there c.loop-load.invariant.sums in
    let e : get_or c.loop-load.sums.items c.place_among-at.result 0 + more ≡ c.index_mut.result.now + c.from.result = omega (arith, read_at (so_far (places c.args.loads.now) c.args.loads.now c.loop-load.load-index) c.args.live.now c.loop-load.sums.items c.place_among-at.result c.index_mut.result.now c.loop-load.invariant.sums c.place_among-at.ensures.inside c.index_mut.ensures.value, c.from.ensures) in
    let P : ℕ → Type 0 = λ v. set c.loop-load.sums.items c.place_among-at.result v ≡ map (so_far (places c.args.loads.now) c.args.loads.now (c.loop-load.load-index + 1)) c.args.live.now in
    record {
      sums = subst P e next;
      small = total_more c.args.loads.now c.loop-load.load-index none (omega arith) c.loop-load.invariant.small (omega arith);
    }
