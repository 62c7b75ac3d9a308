use Rattle.std.proofs.Common.{sym}
use Rattle.mpi_types.proofs.ReduceLemmas.{less_signed}
use Rattle.mpi_types.proofs.reduce.is_less.Goals as goal

pub returns : goal.returns
returns c =
    rw (c.shifted.ensures, c.shifted-2.ensures)
    (less_signed c.args.datatype c.args.a c.args.b c.half_of-half.result (sym c.if-not-is_signed.ensures) c.half_of-half.ensures.value)
