use Rattle.std.proofs.Common.{◌≡◌, take}
use Rattle.mpi_types.proofs.argument.copied_args.Given as goal

-- the copies so far are those of the front
abbrev pub invariant-loop-arg : goal.invariant-loop-arg
invariant-loop-arg l = l.copies ≡ take l.arg-index l.args
