-- The orders in which a rank keeps its lists. They are this profile's own.
use Rattle.std.specs.Prelude.{ℕ, ◌<◌, ◌==◌, ◌&&◌, ◌||◌, nat_lt, int_lt, Bool, true, false, IsTrue, List, [], ◌∷◌, AllPairs}
use Rattle.mpi_types.specs.declared.argument.Direction.{Direction}
use Rattle.mpi_types.specs.declared.argument.Direction.TheVariants.{Up, Down}
use Rattle.mpi_types.specs.declared.argument.TreeMsg.{TreeMsg}
use Rattle.mpi_types.specs.declared.context.Level.{Level}
use Rattle.mpi_types.specs.declared.state.HeldMessage.{HeldMessage}
use Rattle.mpi_types.specs.declared.state.OwnData.{OwnData}
use Rattle.mpi_types.specs.Accepts.{is_same_level, is_same_ctx}

-- levels by position, and then by colour
abbrev pub is_level_before : Level → Level → Bool
is_level_before a b = nat_lt a.position b.position || a.position == b.position && int_lt a.colour b.colour

-- contexts level by level, a prefix first
abbrev pub is_ctx_before : List Level → List Level → Bool
is_ctx_before a [] = false
is_ctx_before [] (y ∷ b) = true
is_ctx_before (x ∷ a) (y ∷ b) = is_level_before x y || is_same_level x y && is_ctx_before a b

-- a direction's number in images and packets
abbrev pub direction_number : Direction → ℕ
direction_number Up = 0
direction_number Down = 1

-- messages of the tree by context, position, direction and member
abbrev pub is_tree_before : TreeMsg → TreeMsg → Bool
is_tree_before a b =
    is_ctx_before a.ctx b.ctx
    || is_same_ctx a.ctx b.ctx
    && (nat_lt a.position b.position
    || a.position == b.position
    && (nat_lt (direction_number a.direction) (direction_number b.direction)
    || direction_number a.direction == direction_number b.direction && nat_lt a.member b.member))

abbrev pub IsTreeOrdered : List TreeMsg → Type 0
IsTreeOrdered tree = AllPairs (λ a b. IsTrue (is_tree_before a b)) tree

-- held messages by sender, and then by number
abbrev pub is_held_before : HeldMessage → HeldMessage → Bool
is_held_before a b =
    nat_lt a.message.sender.0 b.message.sender.0 || a.message.sender.0 == b.message.sender.0 && nat_lt a.number b.number

abbrev pub IsHeldOrdered : List HeldMessage → Type 0
IsHeldOrdered held = AllPairs (λ a b. IsTrue (is_held_before a b)) held

-- requests and communicators by number
pub record IsOwnOrdered (own : OwnData) : Type 0 where
  pub requests : AllPairs (λ a b. a.number < b.number) own.complete
  pub communicators : AllPairs (λ a b. a.number < b.number) own.communicators
