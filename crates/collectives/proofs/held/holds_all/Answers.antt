use Rattle.std.proofs.Common.{◌≡◌, None, Some, sym, ◌∙◌, ap, arith}
use Rattle.collectives.specs.Held.{following, ends_at}
use Rattle.collectives.proofs.HeldLemmas.{step_some, step_none, own_first}
use Rattle.collectives.proofs.held.holds_all.Goals as goal

pub returns-in_default : goal.returns-in_default
returns-in_default c =
    let j = c.args.joined.now in
    let none : following c.loop-message.next c.message-item.result.args ≡ None =
    ap (following c.loop-message.next) (sym c.as_slice.ensures) ∙ sym c.in_default.ensures.value in
    ap (ends_at c.args.end)
    (step_none j.ctx j.position c.args.tree.now c.loop-message.message-index c.message-item.result c.loop-message.next _
    (omega arith) c.message-item.is (sym c.if-not-is_up_of.ensures) none c.loop-message.invariant.rest)
    ∙ sym (own_first c.args.end j c.args.tree.now)

pub loop-message-preserved : goal.loop-message-preserved
loop-message-preserved c =
    let j = c.args.joined.now in
    let some : following c.loop-message.next c.message-item.result.args ≡ Some c.in-Some.after =
    ap (following c.loop-message.next) (sym c.as_slice.ensures) ∙ sym c.in-Some.ensures.value in
    record {
      rest = step_some j.ctx j.position c.args.tree.now c.loop-message.message-index c.message-item.result c.loop-message.next c.in-Some.after _
          (omega arith) c.message-item.is (sym c.if-not-is_up_of.ensures) some c.loop-message.invariant.rest;
      low = c.in-Some.ensures.low;
    }
