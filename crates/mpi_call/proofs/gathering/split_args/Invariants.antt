use Rattle.std.proofs.Common.{◌≡◌, take}
use Rattle.mpi_types.specs.Groups.{split_args_of}
use Rattle.mpi_call.proofs.gathering.split_args.Given as goal

abbrev pub invariant-loop-arg : goal.invariant-loop-arg
invariant-loop-arg l = l.args.items ≡ split_args_of (take l.arg-index l.list)
