use Rattle.std.proofs.Common.{sym, ◌∙◌, refl}
use Rattle.cluster.proofs.ToldLemmas.{end-of-ranks}
use Rattle.cluster.proofs.told.end_untrapped.Goals as goal

pub returns-then-is_any_at_bound : goal.returns-then-is_any_at_bound
returns-then-is_any_at_bound c = λ code s h bound_is stand.
    let bounds = sym c.is_any_at_bound.ensures ∙ c.if-is_any_at_bound.true in
    end-of-ranks code s _ h _ stand (rw (bound_is, bounds) refl)

pub returns-then-is_any_unended : goal.returns-then-is_any_unended
returns-then-is_any_unended c = λ code s h bound_is stand.
    let bounds = sym c.is_any_at_bound.ensures ∙ c.if-is_any_at_bound.false in
    let unended = sym c.is_any_unended.ensures ∙ c.if-is_any_unended.true in
    end-of-ranks code s _ h _ stand (rw (bound_is, bounds, unended) refl)

pub returns-else-is_any_unended : goal.returns-else-is_any_unended
returns-else-is_any_unended c = λ code s h bound_is stand.
    let bounds = sym c.is_any_at_bound.ensures ∙ c.if-is_any_at_bound.false in
    let unended = sym c.is_any_unended.ensures ∙ c.if-is_any_unended.false in
    end-of-ranks code s _ h _ stand (rw (bound_is, bounds, unended) refl)
