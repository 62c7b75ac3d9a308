use Rattle.std.proofs.Common.{◌≡◌, length, take, map}
use Rattle.std.specs.Prelude.{fold}
use Rattle.mpi_types.specs.Tables.{datatype_size}
use Rattle.mpi_types.specs.Reduce.{combined_lists, elements_of}
use Rattle.mpi_types.proofs.reduce.reduced_args.Given as goal

-- the members so far are folded
abbrev pub invariant-loop-arg : goal.invariant-loop-arg
invariant-loop-arg l = record {
  as_many : length l.total.items ≡ l.count;
  so_far : l.total.items
      ≡ fold (combined_lists l.operation l.datatype) l.initial.total.items
      (map (λ a. elements_of (datatype_size l.datatype) l.count a.body) (take l.arg-index l.rest));
}
