-- The groups that a duplicate and a split of a communicator give (MPI 3.1, section 6.4.2).
use Rattle.std.specs.Prelude.{ℕ, ℤ, pos, ◌≡◌, ◌<◌, ◌<ℤ◌, ◌⊎◌, ◌&&◌, ◌||◌, nat_lt, int_lt, if◌then◌else◌, Bool, Option, Some, None, List, [], ◌∷◌, ◌++◌, map, filter, get_or, slice_get, AllPairs, IsPermutation}
use Rattle.std.specs.Ordering.{int_eq}
use Rattle.am_base.specs.declared.numbers.RankId.{RankId}
use Rattle.mpi_types.specs.declared.argument.Arg.{Arg}
use Rattle.mpi_types.specs.declared.context.Level.{Level}
use Rattle.mpi_types.specs.declared.group.Group.{Group}
use Rattle.mpi_types.specs.declared.group.SplitArg.{SplitArg}
use Rattle.mpi_types.specs.declared.constants.TheConstants.{UNDEFINED}

-- the context of a communicator that is made by the collective at this position, with this colour
abbrev pub child_of : List Level → ℕ → ℤ → List Level
child_of ctx position colour = ctx ++ record { position = position; colour = colour } ∷ []

-- A duplicate has the members of the old group, in their order.
abbrev pub dup_of : Group → ℕ → Group
dup_of g position = record { ctx = child_of g.ctx position (pos 0); members = g.members }

-- Members of one colour are ordered by key, and where the keys are equal by their old numbers.
pub record ComesBefore (a b : SplitArg) : Type 0 where
  pub by_key : (a.key <ℤ b.key) ⊎ ((a.key ≡ b.key) × (a.member < b.member))

abbrev pub comes_before : SplitArg → SplitArg → Bool
comes_before a b = int_lt a.key b.key || int_eq a.key b.key && nat_lt a.member b.member

-- one more among ordered ones
abbrev pub put_in : SplitArg → List SplitArg → List SplitArg
put_in a [] = a ∷ []
put_in a (b ∷ list) = if comes_before a b then a ∷ b ∷ list else b ∷ put_in a list

abbrev pub ordered : List SplitArg → List SplitArg
ordered [] = []
ordered (a ∷ list) = put_in a (ordered list)

-- the rank in the world of a member
abbrev pub rank_of : Group → ℕ → RankId
rank_of g member = get_or g.members member (record { 0 = 0 })

-- the members of one colour, in their new order
abbrev pub of_colour : ℤ → List SplitArg → List SplitArg
of_colour colour list = ordered (filter (λ a. int_eq a.colour colour) list)

-- The group of a colour: there is none for `MPI_UNDEFINED`.
abbrev pub group_of_colour : Group → ℕ → List SplitArg → ℤ → Option Group
group_of_colour g position list colour =
    if int_eq colour UNDEFINED then None
    else Some (record { ctx = child_of g.ctx position colour; members = map (λ a. rank_of g a.member) (of_colour colour list) })

-- The group that a split gives to a member, by what all members give to it, in member order.
abbrev pub split_by : Group → ℕ → List SplitArg → Option SplitArg → Option Group
split_by g position list None = None
split_by g position list (Some own) = group_of_colour g position list own.colour

abbrev pub split_of : Group → ℕ → List SplitArg → ℕ → Option Group
split_of g position list member = split_by g position list (slice_get list member)

-- what members give to a split, of their arguments of the collective
abbrev pub split_args_of : List Arg → List SplitArg
split_args_of list = map (λ a. record { member = a.member; colour = a.colour; key = a.key }) list

-- The members of a colour are put in order: each stands before those that come behind it, and none is lost or added.
pub record IsOrderOf (list new : List SplitArg) : Type 0 where
  pub in_order : AllPairs ComesBefore new
  pub same_members : IsPermutation new list

-- old numbers grow along the list
abbrev pub IsInMemberOrder : List SplitArg → Type 0
IsInMemberOrder list = AllPairs (λ a b. a.member < b.member) list

-- Where the list is in member order, `of_colour` gives the members of that colour in their new order.
abbrev pub SplitsAreOrdered : Type 0
SplitsAreOrdered = (list : List SplitArg) (colour : ℤ) → IsInMemberOrder list
    → IsOrderOf (filter (λ a. int_eq a.colour colour) list) (of_colour colour list)
