use Rattle.mpi_call.proofs.PairLemmas.{ended_body, ends_without, not_waiting}
use Rattle.mpi_call.proofs.requests.end_matched.Goals as goal

pub unreachable-requires : goal.unreachable-requires
unreachable-requires g c =
    not_waiting (g.B.MatchBook.held c.args.book.now) c.args.number c.requires.orderly c.in-NotYet.ensures.ends.0 c.requires.found

pub returns-clause-body : goal.returns-clause-body
returns-clause-body g c =
    ended_body (g.B.MatchBook.held c.args.book.now) c.args.number c.in-Done.message (g.B.MatchBook.held c.complete.new.self) c.body_of.result
    c.requires.orderly c.in-Done.ensures.ends c.body_of.ensures

pub returns-clause-lists : goal.returns-clause-lists
returns-clause-lists g c =
    ends_without (g.B.MatchBook.held c.args.book.now) c.args.number c.in-Done.message (g.B.MatchBook.held c.complete.new.self)
    c.requires.orderly c.in-Done.ensures.ends
