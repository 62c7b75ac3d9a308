use Rattle.std.proofs.Common.{◌||◌}
use Rattle.std.specs.Prelude.{is_some}
use Rattle.mpi_rules.specs.Data.{is_live, complete_of, is_waiting, pair_of}
use Rattle.mpi_call.proofs.LiveLemmas.{tested_live, live_in_book}
use Rattle.mpi_call.proofs.requests.completion.Goals as goal

pub book_sizes-requires : goal.book_sizes-requires
unfolding is_live
book_sizes-requires g c =
    let l = g.B.MatchBook.held c.args.st.now.book in
    tested_live l c.args.number
    (live_in_book (λ r. r.kind) c.complete_kind.result (complete_of c.args.number c.args.st.now.own.complete)
    (is_waiting c.args.number l.posted || is_some (pair_of c.args.number l.matched)) c.complete_kind.ensures c.in-None.is c.requires)
