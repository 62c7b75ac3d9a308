use Rattle.std.proofs.Common.{◌<◌, ◌+◌, ◌^◌, sym, subst, arith}
use Rattle.mpi_types.specs.declared.group.Communicator.{Communicator}
use Rattle.mpi_call.proofs.JoinLemmas.{same_at}
use Rattle.mpi_call.proofs.joins.step_positions.Goals as goal

pub next_position-c-requires : goal.next_position-c-requires
next_position-c-requires c =
    subst (λ (x : Communicator). x.position + 1 < 2 ^ 32)
    (sym (same_at c.loop-c.list c.args.list.now c.loop-c.c-index c.c-item.result c.loop-c.invariant.1))
    (c.requires c.loop-c.c-index c.c-item.result (omega arith))
