use Rattle.mpi_call.proofs.PairLemmas.{book_some, book_none}
use Rattle.mpi_call.proofs.requests.book_sizes.Goals as goal

pub returns-in-Some : goal.returns-in-Some
returns-in-Some g c =
    book_some (g.B.MatchBook.held c.args.book.now) c.args.number c.in-Some.message.now c.posted.result.now c.sizes_of_pair.result
    c.posted.ensures.orderly c.in-Some.ensures.told c.posted.ensures.told c.sizes_of_pair.ensures

pub returns-in-None : goal.returns-in-None
returns-in-None g c =
    book_none (g.B.MatchBook.held c.args.book.now) c.args.number c.in-None.ensures.orderly c.in-None.ensures.told
