use Rattle.mpi_types.proofs.BookLemmas.{Arrives-next}
use Rattle.bench.proofs.matches.filled.Goals as goal

pub loop-turn-preserved : goal.loop-turn-preserved
loop-turn-preserved c =
    Arrives-next c.loop-turn.book c.in_ok-message.field-0 c.in_ok-arrive.field-0 c.arrive.new.self 0 c.in_ok-arrive.ensures.ok
    c.loop-turn.invariant
