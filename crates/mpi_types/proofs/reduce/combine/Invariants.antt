use Rattle.std.proofs.Common.{◌≡◌, ◌++◌, length, take, drop}
use Rattle.mpi_types.specs.Tables.{datatype_size}
use Rattle.mpi_types.specs.Reduce.{combined_lists, elements_of}
use Rattle.mpi_types.proofs.reduce.combine.Given as goal

-- those so far are combined, and the others are to be
abbrev pub invariant-loop-i : goal.invariant-loop-i
invariant-loop-i l = record {
  as_long : length l.total.items ≡ length l.initial.total.items;
  rest : take l.i l.total.items
      ++ combined_lists l.operation l.datatype (drop l.i l.total.items)
      (drop l.i (elements_of (datatype_size l.datatype) (length l.initial.total.items) l.body))
      ≡ combined_lists l.operation l.datatype l.initial.total.items
      (elements_of (datatype_size l.datatype) (length l.initial.total.items) l.body);
}
