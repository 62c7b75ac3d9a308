use Rattle.mpi_types.proofs.CallLemmas.{run_more}
use Rattle.mpi_types.proofs.calls.ask_all.Goals as goal

pub loop-call-preserved : goal.loop-call-preserved
loop-call-preserved g c =
    rw c.in_ok-push.ensures.items
    (run_more c.loop-call.yielded (g.B.MatchBook.held c.args.book.now) c.loop-call.answers.items (g.B.MatchBook.held c.loop-call.book)
    c.in-Some.call c.in_ok-answer.answer (g.B.MatchBook.held c.ask.new.book) c.loop-call.invariant c.in_ok-answer.ensures.ok)
