-- What is known of what a complete request has, without the bytes that came.
use Rattle.std.specs.Prelude.{length}
use Rattle.mpi_rules.specs.Requests.{Came}
use Rattle.mpi_call.specs.declared.requests.Sizes.{Sizes}

abbrev pub sizes_of : Came → Sizes
sizes_of c = record { length = length c.body; status = c.status; buffer = c.buffer; room = c.room }
