use Rattle.std.proofs.Common.{◌≤◌, ◌∙◌, sym, subst, List, All, Contains, length-set}
use Rattle.std.proofs.lemmas.List.{length-map}
use Rattle.am_base.specs.declared.numbers.ProcId.{ProcId}
use Rattle.balancers.specs.declared.loads.Load.{Load}
use Rattle.balancers.specs.Loads.{greatest_load, places}
use Rattle.balancers.specs.Refining.{IsAtEnd}
use Rattle.balancers.specs.Steps.{proc_at}
use Rattle.balancers.proofs.RefineLemmas.{moves_no_greater}
use Rattle.balancers.proofs.MoveLemmas.{turn_made, turn_sums, step_here, step_sums, moves_at_live, places_at_live, refined_is}
use Rattle.balancers.proofs.refining.refine.Goals as goal

pub loop-step-preserved : goal.loop-step-preserved
loop-step-preserved c =
    let here = step_here c.args.loads.now c.args.live.now c.loop-step.plan.items c.deref.result.now c.loop-step.sums.items c.deref-in-loop-step.result.now c.limit-limit.result c.in-Some.step c.index_mut-in-Some.result.now c.index_mut-in-Some-2.result.now
    c.requires c.deref.ensures.value c.deref-in-loop-step.ensures.value c.loop-step.invariant.long c.loop-step.invariant.sums c.in-Some.ensures.some in
    let same = turn_sums c.args.loads.now c.args.live.now c.loop-step.plan.items c.deref.result.now c.loop-step.sums.items c.deref-in-loop-step.result.now c.limit-limit.result c.in-Some.step c.index_mut-in-Some.result.now c.index_mut-in-Some-2.result.now
    c.requires c.deref.ensures.value c.deref-in-loop-step.ensures.value c.loop-step.invariant.long c.loop-step.invariant.sums c.in-Some.ensures.some c.index_mut-in-Some.ensures.value c.index_mut-in-Some-2.ensures.value in
    record {
      made = turn_made c.args.loads.now c.args.live.now c.loop-step.plan.items c.deref.result.now c.loop-step.sums.items c.deref-in-loop-step.result.now c.limit-limit.result c.in-Some.step c.index_mut-in-Some.result.now c.index_mut-in-Some-2.result.now
          c.requires c.deref.ensures.value c.deref-in-loop-step.ensures.value c.loop-step.invariant.long c.loop-step.invariant.sums c.in-Some.ensures.some c.loop-step.invariant.made;
      sums = sym same ∙ step_sums c.args.loads.now c.args.live.now c.loop-step.plan.items c.loop-step.sums.items c.limit-limit.result c.in-Some.step c.requires c.loop-step.invariant.long c.loop-step.invariant.sums here;
      long = length-set c.loop-step.plan.items c.in-Some.step.rank (proc_at c.args.live.now c.in-Some.step.to) ∙ c.loop-step.invariant.long;
    }

pub returns-clause-rule : goal.returns-clause-rule
returns-clause-rule c =
    refined_is c.args.loads.now c.args.live.now c.loop-step.plan.items c.deref.result.now c.from_vec.result c.limit-limit.result c.limit-limit.ensures c.deref.ensures.value c.from_vec.ensures c.loop-step.invariant.made c.in_default.ensures.none

pub returns-clause-at_live : goal.returns-clause-at_live
returns-clause-at_live c =
    let P : List ProcId → Type 0 = λ xs. All (λ p. Contains c.args.live.now p) xs in
    subst P (sym c.from_vec.ensures)
    (moves_at_live c.args.loads.now c.args.live.now c.limit-limit.result c.loop-step.invariant.made.0 (places c.args.loads.now) c.loop-step.plan.items (places_at_live c.args.loads.now c.args.live.now c.requires) c.loop-step.invariant.made.1)

pub returns-clause-no_greater : goal.returns-clause-no_greater
returns-clause-no_greater c =
    let P : List ProcId → Type 0 = λ xs. greatest_load xs c.args.loads.now c.args.live.now ≤ greatest_load (places c.args.loads.now) c.args.loads.now c.args.live.now in
    subst P (sym c.from_vec.ensures)
    (moves_no_greater c.args.loads.now c.args.live.now c.limit-limit.result c.loop-step.invariant.made.0 (places c.args.loads.now) c.loop-step.plan.items c.requires.by_rank (length-map c.args.loads.now (λ (l : Load). l.place)) c.loop-step.invariant.made.1)

pub returns-clause-at_end : goal.returns-clause-at_end
returns-clause-at_end c =
    let P : List ProcId → Type 0 = λ xs. IsAtEnd c.args.loads.now c.args.live.now xs in
    subst P (c.deref.ensures.value ∙ sym c.from_vec.ensures) (c.in_default.ensures.at_end c.limit-limit.ensures)
