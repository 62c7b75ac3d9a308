-- What the two calls of a member of a collective do.
use Rattle.std.specs.Prelude.{ℕ, ◌≡◌, ◌<◌, ◌≤◌, ◌==◌, ◌&&◌, if◌then◌else◌, Bool, true, false, Option, Some, None, is_none, List, [], ◌∷◌, length, All}
use Rattle.mpi_types.specs.declared.argument.Arg.{Arg}
use Rattle.mpi_types.specs.declared.argument.Direction.{Direction}
use Rattle.mpi_types.specs.declared.argument.Direction.TheVariants.{Up, Down}
use Rattle.mpi_types.specs.declared.argument.Joined.{Joined}
use Rattle.mpi_types.specs.declared.argument.Sweep.{Sweep}
use Rattle.mpi_types.specs.declared.argument.TreeMsg.{TreeMsg}
use Rattle.mpi_types.specs.declared.group.Group.{Group}
use Rattle.mpi_types.specs.Accepts.{is_same_ctx}
use Rattle.collectives.specs.declared.sends.SweepOut.{SweepOut}
use Rattle.collectives.specs.Tree.{end_of}
use Rattle.collectives.specs.Held.{are_from, here_of, others_of, put_message}
use Rattle.collectives.specs.Sends.{up_send, down_sends}

-- what a rank then keeps of collectives, and what the call leads to
pub record Went : Type 0 where
  pub sweep : Sweep
  pub out : SweepOut

-- the sweep and what the call gives are these
pub record Goes (went : Went) (sweep : Sweep) (out : SweepOut) : Type 0 where
  pub sweep_is : sweep ≡ went.sweep
  pub out_is : out ≡ went.out

-- nothing is sent, and nothing is gathered
abbrev pub quiet : Option Joined → List TreeMsg → Went
quiet joined tree = record {
  sweep = record { joined = joined; tree = tree };
  out = record { sends = []; gathered = false };
}

-- the message is kept
abbrev pub kept : Option Joined → List TreeMsg → TreeMsg → Went
kept joined tree t = quiet joined (put_message t tree)

-- a member of n gathers this list, and sends it to its children
abbrev pub with_list : Joined → List Arg → Joined
with_list j list = record { ctx = j.ctx; position = j.position; arg = j.arg; gathered = Some list }

abbrev pub closed : ℕ → Joined → List Arg → List TreeMsg → Went
closed n j list tree = record {
  sweep = record { joined = Some (with_list j list); tree = tree };
  out = record { sends = down_sends n j list; gathered = true };
}

-- a member sends this list to its parent
abbrev pub handed_up : Joined → List Arg → List TreeMsg → Went
handed_up j list tree = record {
  sweep = record { joined = Some j; tree = tree };
  out = record { sends = up_send j list ∷ []; gathered = false };
}

-- A member of n that has joined and hasn't gathered holds these messages. Where it has the arguments of its whole subtree,
-- it sends them up; the first member, which has those of all, gathers them. Else it waits.
abbrev pub completed : ℕ → Joined → List TreeMsg → Went
completed n j tree =
    if j.arg.member == 0 then closed n j (here_of j tree) (others_of j.ctx j.position tree)
    else handed_up j (here_of j tree) (others_of j.ctx j.position tree)

abbrev pub looked : ℕ → Joined → List TreeMsg → Went
looked n j tree =
    if are_from j.arg.member (end_of n j.arg.member) (here_of j tree) then completed n j tree else quiet (Some j) tree

-- the member joins
abbrev pub joins : Group → ℕ → Arg → Joined
joins g position a = record { ctx = g.ctx; position = position; arg = a; gathered = None }

abbrev pub begun : Group → ℕ → Arg → Sweep → Went
begun g position a s = looked (length g.members) (joins g position a) s.tree

-- the message is of the collective that was joined and isn't gathered yet
abbrev pub awaits : Joined → TreeMsg → Bool
awaits j t = is_same_ctx j.ctx t.ctx && j.position == t.position && is_none j.gathered

-- what an awaited message leads to: one from above brings the arguments of all members
abbrev pub closed_by : ℕ → Joined → List TreeMsg → TreeMsg → Went
closed_by n j tree t = if are_from 0 n t.args then closed n j t.args tree else kept (Some j) tree t

abbrev pub goes_on : Direction → ℕ → Joined → List TreeMsg → TreeMsg → Went
goes_on Up n j tree t = looked n j (put_message t tree)
goes_on Down n j tree t = closed_by n j tree t

abbrev pub arrived_at : Group → List TreeMsg → TreeMsg → Option Joined → Went
arrived_at g tree t None = kept None tree t
arrived_at g tree t (Some j) = if awaits j t then goes_on t.direction (length g.members) j tree t else kept (Some j) tree t

-- A message arrives. The group is that of its context, where the rank has such a communicator.
abbrev pub arrived : Option Group → Sweep → TreeMsg → Went
arrived None s t = kept s.joined s.tree t
arrived (Some g) s t = arrived_at g s.tree t s.joined

-- the group is that of the message's context
pub record IsOfCtx (g : Group) (t : TreeMsg) : Type 0 where
  pub same_ctx : g.ctx ≡ t.ctx
  pub room : length g.members ≤ 65536

-- a rank that joined a collective in the group gave its own member number
pub record IsMemberOf (g : Group) (joined : Option Joined) : Type 0 where
  pub member : (j : Joined) → joined ≡ Some j → j.ctx ≡ g.ctx → j.arg.member < length g.members

-- no message of the same context, position, direction and member is held
pub record IsSameKey (a b : TreeMsg) : Type 0 where
  pub ctx : a.ctx ≡ b.ctx
  pub position : a.position ≡ b.position
  pub direction : a.direction ≡ b.direction
  pub member : a.member ≡ b.member

abbrev pub IsNotHeld : TreeMsg → List TreeMsg → Type 0
IsNotHeld t tree = All (λ m. IsSameKey t m → ⊥) tree
