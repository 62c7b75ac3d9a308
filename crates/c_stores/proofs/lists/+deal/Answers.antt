use Rattle.std.proofs.Common.{◌∙◌, sym, ap, subst, map}
use Rattle.c_judge.specs.State.{Gives}
use Rattle.c_stores.specs.Lists.{Initialising, ended, initialising, list_by}
use Rattle.c_stores.proofs.StateLemmas.{then_gives}
use Rattle.c_stores.proofs.InitTrees.{value_is, list_is}
use Rattle.c_stores.proofs.DealLemmas.{one_more}
use Rattle.c_stores.proofs.lists.+deal.Goals as goal

pub deal-returns-in-Value : goal.deal-returns-in-Value
deal-returns-in-Value t c =
    subst (λ (i : Initialising). Gives c.value_item.result c.value_item.new.checker (i.item c.args.target c.args.of.now c.args.dealt c.args.checker.now))
    (sym (value_is _ _ c.in-Value.is)) c.value_item.ensures

pub deal-returns-in-List : goal.deal-returns-in-List
deal-returns-in-List t c =
    subst (λ (i : Initialising). Gives c.list_item.result c.list_item.new.checker (i.item c.args.target c.args.of.now c.args.dealt c.args.checker.now))
    (sym (list_is _ _ _ c.in-List.is)) (rw c.as_slice.ensures at c.list_item.ensures)

pub deal_all-loop-one-preserved : goal.deal_all-loop-one-preserved
deal_all-loop-one-preserved t c =
    sym (one_more c.args.items.now c.loop-one.one-index _ _ _ _ _ _ _ c.loop-one-test.true c.one-item.is c.in_ok-dealt.ensures)
    ∙ c.loop-one.invariant

pub list_item-returns-in-Ok-deal_all : goal.list_item-returns-in-Ok-deal_all
list_item-returns-in-Ok-deal_all t c =
    ap (λ p. list_by (map initialising c.args.items.now) p c.args.target c.args.dealt c.args.checker.now)
    (sym (rw c.as_slice-structs.ensures at c.in-Ok.ensures.value))
    ∙ then_gives _ _ _ (ended c.args.target c.in-Ok.plan.of c.in-Ok.plan.placing c.args.dealt.turn) _ _
    (rw c.from-start.ensures at c.in-Ok-deal_all.ensures) c.list_end-done.ensures.value c.list_end-done.ensures.state
