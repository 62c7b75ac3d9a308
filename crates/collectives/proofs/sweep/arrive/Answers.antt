use Rattle.std.proofs.Common.{◌<◌, sym, ◌∙◌, subst, ℕ}
use Rattle.collectives.proofs.SweepLemmas.{joined_within}
use Rattle.collectives.proofs.sweep.arrive.Goals as goal

pub look-requires-clause-member : goal.look-requires-clause-member
look-requires-clause-member c =
    let of_ctx = rw c.in-Some.is at c.requires.of_ctx in
    let member = rw c.in-Some.is at c.requires.member in
    let P : ℕ → Type 0 = λ n. c.in-Some-take.joined.arg.member < n in
    subst P (sym c.len-members.ensures)
    (joined_within c.in-Some.group.now c.args.s.now.joined c.args.t c.in-Some-take.joined of_ctx member (sym c.take.ensures.value ∙ c.in-Some-take.is) c.if-not-awaits.ensures)

pub close_by-requires-clause-member : goal.close_by-requires-clause-member
close_by-requires-clause-member c =
    let of_ctx = rw c.in-Some.is at c.requires.of_ctx in
    let member = rw c.in-Some.is at c.requires.member in
    let P : ℕ → Type 0 = λ n. c.in-Some-take.joined.arg.member < n in
    subst P (sym c.len-members.ensures)
    (joined_within c.in-Some.group.now c.args.s.now.joined c.args.t c.in-Some-take.joined of_ctx member (sym c.take.ensures.value ∙ c.in-Some-take.is) c.if-not-awaits.ensures)
