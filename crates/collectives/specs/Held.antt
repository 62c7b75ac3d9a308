-- The arguments that a member of a collective holds.
use Rattle.std.specs.Prelude.{ℕ, ◌+◌, ◌==◌, ◌&&◌, not, if◌then◌else◌, Bool, true, false, Option, Some, None, List, [], ◌∷◌, ◌++◌, filter}
use Rattle.mpi_types.specs.declared.argument.Arg.{Arg}
use Rattle.mpi_types.specs.declared.argument.Direction.{Direction}
use Rattle.mpi_types.specs.declared.argument.Direction.TheVariants.{Up, Down}
use Rattle.mpi_types.specs.declared.argument.Joined.{Joined}
use Rattle.mpi_types.specs.declared.argument.TreeMsg.{TreeMsg}
use Rattle.mpi_types.specs.declared.context.Level.{Level}
use Rattle.mpi_types.specs.Accepts.{is_same_ctx}
use Rattle.mpi_types.specs.Order.{is_tree_before}

abbrev pub is_up : Direction → Bool
is_up Up = true
is_up Down = false

-- the message goes up the tree of the collective of this context and position
abbrev pub is_up_of : List Level → ℕ → TreeMsg → Bool
is_up_of ctx position m = is_same_ctx m.ctx ctx && m.position == position && is_up m.direction

-- The number behind the members of these arguments, where they are those of the members from i on, one each and in order.
abbrev pub following : ℕ → List Arg → Option ℕ
following i [] = Some i
following i (a ∷ list) = if a.member == i then following (i + 1) list else None

-- The arguments are those of the members from i on, up to e, one each and in order.
abbrev pub ends_at : ℕ → Option ℕ → Bool
ends_at e None = false
ends_at e (Some i) = i == e

abbrev pub are_from : ℕ → ℕ → List Arg → Bool
are_from i e list = ends_at e (following i list)

-- the arguments that the messages bring which go up the tree of this collective, and the messages that don't
abbrev pub up_args : List Level → ℕ → List TreeMsg → List Arg
up_args ctx position [] = []
up_args ctx position (m ∷ tree) = (if is_up_of ctx position m then m.args else []) ++ up_args ctx position tree

abbrev pub others_of : List Level → ℕ → List TreeMsg → List TreeMsg
others_of ctx position tree = filter (λ m. not (is_up_of ctx position m)) tree

-- what a member holds that has joined: its own argument, and those that came up to it
abbrev pub here_of : Joined → List TreeMsg → List Arg
here_of j tree = j.arg ∷ up_args j.ctx j.position tree

-- one more message among ordered ones
abbrev pub put_message : TreeMsg → List TreeMsg → List TreeMsg
put_message t [] = t ∷ []
put_message t (m ∷ tree) = if is_tree_before t m then t ∷ m ∷ tree else m ∷ put_message t tree

-- where it stands then
abbrev pub place_of : TreeMsg → List TreeMsg → ℕ
place_of t [] = 0
place_of t (m ∷ tree) = if is_tree_before t m then 0 else place_of t tree + 1
