use Rattle.std.proofs.Common.{◌≡◌, ◌∙◌, List, sym, ap, subst, length, All, ◌<◌}
use Rattle.std.proofs.lemmas.List.{length-map}
use Rattle.balancers.specs.declared.loads.Load.{Load}
use Rattle.balancers.specs.Turns.{AreDistinct}
use Rattle.balancers.proofs.SumLemmas.{distinct_order}
use Rattle.balancers.proofs.SpreadLemmas.{known_ranks, greedy_ends}
use Rattle.balancers.proofs.spreading.greedy.Goals as goal

pub spread-requires-clause-distinct : goal.spread-requires-clause-distinct
spread-requires-clause-distinct c =
    let P : List Load → Type 0 = λ xs. AreDistinct xs in
    subst P (sym c.deref.ensures.value) (distinct_order c.args.loads.now c.in_ok-order.order.items c.requires.by_rank c.in_ok-order.ensures.moved)

pub spread-requires-clause-known : goal.spread-requires-clause-known
spread-requires-clause-known c =
    let P : List Load → Type 0 = λ xs. All (λ (l : Load). l.rank.0 < length c.as_mut_slice.result.now) xs in
    let long : length c.as_mut_slice.result.now ≡ length c.args.loads.now =
    ap length c.as_mut_slice.ensures.value ∙ ap length c.in_ok-plan.ensures ∙ length-map c.args.loads.now (λ (l : Load). l.place) in
    subst P (sym c.deref.ensures.value) (known_ranks c.args.loads.now c.in_ok-order.order.items (length c.as_mut_slice.result.now) c.requires.by_rank c.in_ok-order.ensures.moved long)

pub returns-clause-rule : goal.returns-clause-rule
returns-clause-rule c =
    (greedy_ends _ _ _ _ _ _ _ _ _ c.requires c.in_ok-plan.ensures c.in_ok-order.ensures.moved c.in_ok-order.ensures.sorted c.deref.ensures.value
    c.as_mut_slice.ensures.value c.spread.auto.plan c.in_ok-plan.plan.ok.0 c.in_ok-spread.ensures c.from_vec.ensures).0

pub returns-clause-at_live : goal.returns-clause-at_live
returns-clause-at_live c =
    (greedy_ends _ _ _ _ _ _ _ _ _ c.requires c.in_ok-plan.ensures c.in_ok-order.ensures.moved c.in_ok-order.ensures.sorted c.deref.ensures.value
    c.as_mut_slice.ensures.value c.spread.auto.plan c.in_ok-plan.plan.ok.0 c.in_ok-spread.ensures c.from_vec.ensures).1.0

pub returns-clause-near_share : goal.returns-clause-near_share
returns-clause-near_share c =
    (greedy_ends _ _ _ _ _ _ _ _ _ c.requires c.in_ok-plan.ensures c.in_ok-order.ensures.moved c.in_ok-order.ensures.sorted c.deref.ensures.value
    c.as_mut_slice.ensures.value c.spread.auto.plan c.in_ok-plan.plan.ok.0 c.in_ok-spread.ensures c.from_vec.ensures).1.1
