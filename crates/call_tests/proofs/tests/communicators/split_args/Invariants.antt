use Rattle.std.proofs.Common.{◌≡◌, ◌<◌, ℕ, length, slice_index_or}
use Rattle.mpi_types.specs.declared.group.SplitArg.{SplitArg}
use Rattle.call_tests.proofs.tests.communicators.split_args.Given as goal

abbrev pub invariant-loop-i : goal.invariant-loop-i
invariant-loop-i l = record {
  one_each : length l.list.items ≡ l.i;
  in_order : (k : ℕ) (d : SplitArg) → k < length l.list.items → (slice_index_or l.list.items k d).member ≡ k;
}
