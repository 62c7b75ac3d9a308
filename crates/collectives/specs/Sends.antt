-- What a member of a collective sends.
use Rattle.std.specs.Prelude.{ℕ, List, map}
use Rattle.mpi_types.specs.declared.argument.Arg.{Arg}
use Rattle.mpi_types.specs.declared.argument.Direction.TheVariants.{Up, Down}
use Rattle.mpi_types.specs.declared.argument.Joined.{Joined}
use Rattle.collectives.specs.declared.sends.TreeSend.{TreeSend}
use Rattle.collectives.specs.Tree.{parent_of, children}

-- these arguments to its parent
abbrev pub up_send : Joined → List Arg → TreeSend
up_send j list = record {
  to = parent_of j.arg.member;
  message = record { ctx = j.ctx; position = j.position; direction = Up; member = j.arg.member; args = list };
}

-- these arguments to a child
abbrev pub down_send : Joined → List Arg → ℕ → TreeSend
down_send j list child = record {
  to = child;
  message = record { ctx = j.ctx; position = j.position; direction = Down; member = j.arg.member; args = list };
}

-- these arguments to each of its children, ascending
abbrev pub down_sends : ℕ → Joined → List Arg → List TreeSend
down_sends n j list = map (down_send j list) (children n j.arg.member)
