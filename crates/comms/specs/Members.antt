-- What the members of a communicator give to a split (MPI 3.1, section 6.4.2).
use Rattle.std.specs.Prelude.{ℕ, ℤ, pos, ◌≡◌, ◌<◌, List, length, get_or, slice_index_or}
use Rattle.mpi_types.specs.declared.group.Group.{Group}
use Rattle.mpi_types.specs.declared.group.SplitArg.{SplitArg}

-- one argument for each member of the group, in member order
pub record AreOfMembers (g : Group) (list : List SplitArg) : Type 0 where
  pub one_each : length list ≡ length g.members
  pub in_order : (k : ℕ) (d : SplitArg) → k < length list → (slice_index_or list k d).member ≡ k

-- the colour that a member gives
abbrev pub colour_at : List SplitArg → ℕ → ℤ
colour_at list member = (get_or list member (record { member = 0; colour = pos 0; key = pos 0 })).colour
