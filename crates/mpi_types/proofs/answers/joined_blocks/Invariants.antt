use Rattle.std.proofs.Common.{◌≡◌, take}
use Rattle.std.specs.List.{flat_map}
use Rattle.mpi_types.specs.Collected.{block_at}
use Rattle.mpi_types.proofs.answers.joined_blocks.Given as goal

-- the blocks so far
abbrev pub invariant-loop-arg : goal.invariant-loop-arg
invariant-loop-arg l = l.out ≡ flat_map (λ a. block_at l.bytes l.number a.body) (take l.arg-index l.list)
