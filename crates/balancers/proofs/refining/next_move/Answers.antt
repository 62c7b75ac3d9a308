use Rattle.std.proofs.Common.{arith, ◌≤◌, ℕ, inl, inr, subst}
use Rattle.balancers.specs.Loads.{greatest_load}
use Rattle.balancers.proofs.RefineLemmas.{none_where_first}
use Rattle.balancers.proofs.MoveLemmas.{NoneGoes, if_none_from, none_goes_there, none_fits, no_move_where_none_goes, step_is, ends_under}
use Rattle.balancers.proofs.refining.next_move.Goals as goal

pub returns-then-sums-from-clause-none : goal.returns-then-sums-from-clause-none
returns-then-sums-from-clause-none c =
    none_where_first c.args.loads.now c.args.live.now c.args.plan.now c.args.sums.now c.args.limit c.most-from.result c.requires.asked.ascending c.requires.sums c.most-from.ensures (omega arith)

pub returns-clause-some : goal.returns-clause-some
returns-clause-some c =
    step_is c.args.loads.now c.args.live.now c.args.plan.now c.args.sums.now c.args.limit c.in_ok-room.room c.most-from.result c.least-to.result c.in_ok-rank.rank c.from-ticks.result
    c.requires.asked.by_rank c.requires.asked.ascending c.requires.long c.requires.sums c.most-from.ensures (omega arith) c.least-to.ensures (omega arith) (omega arith) c.in_ok-rank.ensures.some.0 c.in_ok-rank.ensures.some.1 (omega arith)

pub returns-then-sums-from-clause-at_end : goal.returns-then-sums-from-clause-at_end
returns-then-sums-from-clause-at_end c is =
    let P : ℕ → Type 0 = λ n. greatest_load c.args.plan.now c.args.loads.now c.args.live.now ≤ n in
    inl (subst P is (ends_under c.args.loads.now c.args.live.now c.args.plan.now c.args.sums.now c.args.limit c.most-from.result c.requires.asked.ascending c.requires.sums c.most-from.ensures (omega arith)))

pub returns-in_err-room-clause-none : goal.returns-in_err-room-clause-none
returns-in_err-room-clause-none c =
    if_none_from c.from_residual.result _
    (no_move_where_none_goes c.args.loads.now c.args.live.now c.args.plan.now c.args.limit
    (none_goes_there c.args.loads.now c.args.live.now c.args.plan.now c.args.sums.now c.args.limit c.least-to.result c.requires.asked.ascending c.requires.sums c.least-to.ensures (omega arith)))

pub returns-in_err-room-clause-at_end : goal.returns-in_err-room-clause-at_end
returns-in_err-room-clause-at_end c =
    if_none_from c.from_residual.result _
    (λ is.
    let P : ℕ → Type 0 = λ n. NoneGoes c.args.loads.now c.args.live.now c.args.plan.now n in
    inr (subst P is (none_goes_there c.args.loads.now c.args.live.now c.args.plan.now c.args.sums.now c.args.limit c.least-to.result c.requires.asked.ascending c.requires.sums c.least-to.ensures (omega arith))))

pub returns-in_err-rank-clause-none : goal.returns-in_err-rank-clause-none
returns-in_err-rank-clause-none c =
    if_none_from c.from_residual-in_err-rank.result _
    (no_move_where_none_goes c.args.loads.now c.args.live.now c.args.plan.now c.args.limit
    (none_fits c.args.loads.now c.args.live.now c.args.plan.now c.args.sums.now c.args.limit c.in_ok-room.room c.most-from.result c.least-to.result
    c.requires.asked.by_rank c.requires.asked.ascending c.requires.sums c.most-from.ensures c.least-to.ensures (omega arith) c.in_err-rank.ensures.none))

pub returns-in_err-rank-clause-at_end : goal.returns-in_err-rank-clause-at_end
returns-in_err-rank-clause-at_end c =
    if_none_from c.from_residual-in_err-rank.result _
    (λ is.
    let P : ℕ → Type 0 = λ n. NoneGoes c.args.loads.now c.args.live.now c.args.plan.now n in
    inr (subst P is
    (none_fits c.args.loads.now c.args.live.now c.args.plan.now c.args.sums.now c.args.limit c.in_ok-room.room c.most-from.result c.least-to.result
    c.requires.asked.by_rank c.requires.asked.ascending c.requires.sums c.most-from.ensures c.least-to.ensures (omega arith) c.in_err-rank.ensures.none)))
