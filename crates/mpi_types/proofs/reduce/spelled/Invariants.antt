use Rattle.std.proofs.Common.{◌≡◌, take}
use Rattle.mpi_types.specs.Tables.{datatype_size}
use Rattle.mpi_types.specs.Reduce.{bytes_of}
use Rattle.mpi_types.proofs.reduce.spelled.Given as goal

-- the bytes so far
abbrev pub invariant-loop-element : goal.invariant-loop-element
invariant-loop-element l = l.out ≡ bytes_of (datatype_size l.fn.datatype) (take l.element-index l.elements)
