use Rattle.std.proofs.Common.{◌+◌, ℕ, sym, subst}
use Rattle.mpi_types.specs.Book.{IsLive, IsNext}
use Rattle.mpi_types.proofs.BookLemmas.{Posts-next, Posts-live, Arrives-next, Completes-next}
use Rattle.bench.proofs.matches.is_matched.Goals as goal

pub post-requires : goal.post-requires
post-requires c =
    let P : ℕ → Type 0 = λ n. IsNext c.arrive.new.self n in
    subst P (sym c.in_ok-receive.ensures)
    (Arrives-next c.args.book.now c.in_ok-message.field-0 c.in_ok-arrive.field-0 c.arrive.new.self c.args.request c.in_ok-arrive.ensures.ok c.requires)

pub complete-completion-requires : goal.complete-completion-requires
complete-completion-requires c =
    let P : ℕ → Type 0 = λ n. IsLive c.post.new.self n in
    subst P c.in_ok-receive.ensures
    (Posts-live c.arrive.new.self c.in_ok-receive.field-0 c.in_ok-post.field-0 c.post.new.self c.in_ok-post.ensures.ok)

pub returns : goal.returns
returns c =
    let P : ℕ → Type 0 = λ n. IsNext c.post.new.self (n + 1) in
    let Q : ℕ → Type 0 = λ n. IsNext c.arrive.new.self n in
    Completes-next c.post.new.self c.args.request c.complete-completion.result c.complete-completion.new.self (c.args.request + 1)
    c.complete-completion.ensures.ends
    (subst P c.in_ok-receive.ensures
    (Posts-next c.arrive.new.self c.in_ok-receive.field-0 c.in_ok-post.field-0 c.post.new.self c.in_ok-post.ensures.ok
    (subst Q (sym c.in_ok-receive.ensures)
    (Arrives-next c.args.book.now c.in_ok-message.field-0 c.in_ok-arrive.field-0 c.arrive.new.self c.args.request
    c.in_ok-arrive.ensures.ok c.requires))))
