use Rattle.std.proofs.Common.{◌≡◌, pos, to_z, of_z, w32, arith}
use Rattle.std.proofs.lemmas.Int.{ints}
use Rattle.mpi_types.proofs.ReduceLemmas.{datatype_found}
use Rattle.mpi_types.proofs.kinds.Datatype.of_byte.Goals as goal

pub returns : goal.returns
returns c =
    let is : to_z w32 (of_z w32 c.from.result) ≡ pos c.args.number = omega (arith, ints) in
    datatype_found c.args.number (to_z w32 (of_z w32 c.from.result)) c.of_number.result is c.of_number.ensures
