use Rattle.std.proofs.Common.{◌≡◌, map}
use Rattle.mpi_types.specs.Tables.{datatype_size}
use Rattle.mpi_types.specs.Reduce.{begun, elements_of}
use Rattle.mpi_types.proofs.reduce.begun_elements.Given as goal

-- the elements so far
abbrev pub invariant-loop-i : goal.invariant-loop-i
invariant-loop-i l = l.elements.items ≡ map (begun l.operation) (elements_of (datatype_size l.fn.datatype) l.i l.body)
