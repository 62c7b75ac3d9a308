use Rattle.mpi_call.proofs.ArrayLemmas.{elements_pushed}
use Rattle.mpi_call.proofs.arrays.numbers_in.Goals as goal

pub loop-i-preserved : goal.loop-i-preserved
loop-i-preserved c =
    elements_pushed c.args.bytes.now c.loop-i.numbers c.push.new.self _ c.args.count c.loop-i.i c.read_number.result c.in_ok-push.ensures.ok c.loop-i-test.true
    c.read_number.ensures.value c.loop-i.invariant
