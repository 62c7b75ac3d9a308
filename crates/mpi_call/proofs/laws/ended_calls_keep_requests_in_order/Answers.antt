use Rattle.mpi_call.proofs.OrderLemmas.{stay_in_order}
use Rattle.mpi_call.proofs.laws.ended_calls_keep_requests_in_order.Goals as goal

pub returns : goal.returns
returns c = stay_in_order
