use Rattle.mpi_types.specs.Tables.{collective_number}
use Rattle.rank_image.specs.Codes.{collective_of}
use Rattle.rank_image.specs.CodeLaws.{is_found, collective_there, collective_here}
use Rattle.rank_image.proofs.codes.collective_of.Goals as goal

pub returns : goal.returns
returns c = is_found collective_of collective_number collective_there collective_here c.args.number c.of_number.result c.of_number.ensures
