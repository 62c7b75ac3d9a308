use Rattle.std.proofs.Common.{◌∙◌, sym, arith}
use Rattle.mpi_call.proofs.DoesLemmas.{no_buffer}
use Rattle.mpi_call.proofs.messages.receive.Goals as goal

pub receiving-requires-clause-room : goal.receiving-requires-clause-room
receiving-requires-clause-room g c =
    omega (arith, c.receive_faults.ensures.small (no_buffer c.receive_faults.result (sym c.in_default.is ∙ c.cause.ensures)))
