-- How much is under way: it gets less with each arrival. The weights are this profile's own.
use Rattle.std.specs.Prelude.{ℕ, ◌≡◌, ◌+◌, ◌<◌, ◌≤◌, Option, Some, List, length, sum_by}
use Rattle.mpi_types.specs.declared.argument.Direction.{Direction}
use Rattle.mpi_types.specs.declared.argument.Direction.TheVariants.{Up, Down}
use Rattle.mpi_types.specs.declared.argument.Joined.{Joined}
use Rattle.mpi_types.specs.declared.argument.Sweep.{Sweep}
use Rattle.mpi_types.specs.declared.argument.TreeMsg.{TreeMsg}
use Rattle.mpi_types.specs.declared.group.Group.{Group}
use Rattle.collectives.specs.declared.sends.TreeSend.{TreeSend}
use Rattle.collectives.specs.Tree.{lowest_bit, parent_of}
use Rattle.collectives.specs.Sweeps.{arrived}

-- the weight of a message to a member, by its direction and its sender
abbrev pub weight_by : Direction → ℕ → ℕ → ℕ
weight_by Up to sender = 256 + sender
weight_by Down to sender = lowest_bit to

abbrev pub weight : ℕ → TreeMsg → ℕ
weight to m = weight_by m.direction to m.member

abbrev pub weight_of_all : List TreeSend → ℕ
weight_of_all sends = sum_by (λ x. weight x.to x.message) sends

-- The message arrives at this member of at most 256: what goes up is of one of its children, and what goes down isn't for
-- the first member.
pub record ArrivesAt (g : Option Group) (s : Sweep) (t : TreeMsg) (me : ℕ) : Type 0 where
  pub few : (group : Group) → g ≡ Some group → length group.members ≤ 256
  pub member : (group : Group) → g ≡ Some group → me < length group.members
  pub own : (j : Joined) → s.joined ≡ Some j → j.ctx ≡ t.ctx → j.arg.member ≡ me
  pub from_child : t.direction ≡ Up → (0 < t.member) × (parent_of t.member ≡ me)
  pub to_child : t.direction ≡ Down → 0 < me

-- What an arrival sends weighs less than what arrived.
abbrev pub ArrivalsGetLighter : Type 0
ArrivalsGetLighter = (g : Option Group) (s : Sweep) (t : TreeMsg) (me : ℕ) → ArrivesAt g s t me
    → weight_of_all (arrived g s t).out.sends < weight me t
