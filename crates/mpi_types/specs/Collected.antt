-- What the members of a communicator get from a collective, by the arguments of all (MPI 3.1, chapter 5).
use Rattle.std.specs.Prelude.{ℕ, ℤ, pos, negsuc, ◌≡◌, ◌+◌, ◌*◌, ◌<◌, ◌==◌, ◌&&◌, nat_lt, if◌then◌else◌, Bool, true, false, Option, Some, None, is_some, List, [], ◌∷◌, map, length, take, get_or, slice_range}
use Rattle.std.specs.List.{flat_map, list_all}
use Rattle.std.specs.Ordering.{int_eq}
use Rattle.mpi_types.specs.declared.argument.Arg.{Arg}
use Rattle.mpi_types.specs.declared.collective.Collective.{Collective}
use Rattle.mpi_types.specs.declared.collective.Collective.TheVariants.{Barrier, Bcast, Reduce, Allreduce, Scan, Gather, Scatter, Allgather, Alltoall, CommDup, CommSplit, Migrate}
use Rattle.mpi_types.specs.declared.kinds.Datatype.{Datatype}
use Rattle.mpi_types.specs.declared.kinds.Operation.{Operation}
use Rattle.mpi_types.specs.Tables.{datatype_size, collective_number, datatype_of, operation_of, has_operation, is_typed, is_reducing}
use Rattle.mpi_types.specs.Reduce.{reduced}

-- how many blocks a member sends, of n members, and where it is the root
abbrev pub sent_blocks : Collective → ℕ → Bool → ℕ
sent_blocks Barrier n is_root = 0
sent_blocks Bcast n is_root = if is_root then 1 else 0
sent_blocks Reduce n is_root = 1
sent_blocks Allreduce n is_root = 1
sent_blocks Scan n is_root = 1
sent_blocks Gather n is_root = 1
sent_blocks Scatter n is_root = if is_root then n else 0
sent_blocks Allgather n is_root = 1
sent_blocks Alltoall n is_root = n
sent_blocks CommDup n is_root = 0
sent_blocks CommSplit n is_root = 0
sent_blocks Migrate n is_root = 0

-- a root's number, and whether it is that of one of n members
abbrev pub root_of : ℤ → ℕ
root_of (pos r) = r
root_of (negsuc r) = 0

abbrev pub is_member : ℕ → ℤ → Bool
is_member n (pos r) = nat_lt r n
is_member n (negsuc r) = false

-- how many bytes a block has: the elements of one member, or those for one member
abbrev pub size_of : Option Datatype → ℕ
size_of (Some t) = datatype_size t
size_of None = 0

abbrev pub block_bytes : Arg → ℕ
block_bytes a = a.count * size_of (datatype_of a.datatype)

-- Kind, root, operation, type and count are the same.
abbrev pub are_alike : Arg → Arg → Bool
are_alike a b =
    collective_number a.kind == collective_number b.kind && int_eq a.root b.root && a.operation == b.operation
    && a.datatype == b.datatype && a.count == b.count

-- The type and the operation are allowed for the kind, and the operation for the type. What a kind doesn't have is 0.
abbrev pub is_type_allowed : Collective → ℕ → Bool
is_type_allowed kind n = if is_typed kind then is_some (datatype_of n) else n == 0

abbrev pub is_pair_allowed : Option Operation → Option Datatype → Bool
is_pair_allowed (Some o) (Some t) = has_operation t o
is_pair_allowed (Some o) None = false
is_pair_allowed None t = false

abbrev pub is_operation_allowed : Collective → ℕ → ℕ → Bool
is_operation_allowed kind o t = if is_reducing kind then is_pair_allowed (operation_of o) (datatype_of t) else o == 0

abbrev pub is_allowed : ℕ → Arg → Bool
is_allowed n a = is_member n a.root && is_type_allowed a.kind a.datatype && is_operation_allowed a.kind a.operation a.datatype

-- Each body, from that of member i on, has the length that the first argument gives it among n members.
abbrev pub is_body_whole : Arg → ℕ → ℕ → Arg → Bool
is_body_whole first n i a = length a.body == sent_blocks first.kind n (root_of first.root == i) * block_bytes first

abbrev pub are_bodies_whole : Arg → ℕ → ℕ → List Arg → Bool
are_bodies_whole first n i [] = true
are_bodies_whole first n i (a ∷ list) = is_body_whole first n i a && are_bodies_whole first n (i + 1) list

-- The arguments of all members are those of one collective: they are alike, and what they say is allowed.
abbrev pub are_sound : List Arg → Bool
are_sound [] = true
are_sound (first ∷ rest) =
    list_all (are_alike first) rest && is_allowed (length (first ∷ rest)) first
    && are_bodies_whole first (length (first ∷ rest)) 0 (first ∷ rest)

-- What is so where the arguments are sound: the root is a member, and each member sends its blocks.
pub record Brings (first : Arg) (list : List Arg) : Type 0 where
  pub root : root_of first.root < length list
  pub blocks : (k : ℕ) (d : Arg) → k < length list
      → length (get_or list k d).body ≡ sent_blocks first.kind (length list) (root_of first.root == k) * block_bytes first

-- a block of a body, by its number
abbrev pub block_at : ℕ → ℕ → List ℕ → List ℕ
block_at bytes i body = slice_range body (i * bytes) ((i + 1) * bytes)

-- the bodies of all members, and that of one
abbrev pub bodies_of : List Arg → List (List ℕ)
bodies_of list = map (λ a. a.body) list

abbrev pub body_of : List Arg → ℕ → List ℕ
body_of list i = get_or (bodies_of list) i []

-- the reduction of the elements that these arguments bring
abbrev pub reduced_by : Option Operation → Option Datatype → ℕ → List (List ℕ) → List ℕ
reduced_by (Some o) (Some t) count bodies = reduced o t count bodies
reduced_by (Some o) None count bodies = []
reduced_by None t count bodies = []

abbrev pub reduction : Arg → List Arg → List ℕ
reduction first list = reduced_by (operation_of first.operation) (datatype_of first.datatype) first.count (bodies_of list)

-- what the root alone gets
abbrev pub at_root : Arg → ℕ → List ℕ → List ℕ
at_root first member bytes = if root_of first.root == member then bytes else []

-- The bytes that a member gets, by the kind that the first argument names. A root's own block of a broadcast stays
-- where it is.
abbrev pub share_of : Collective → Arg → List Arg → ℕ → List ℕ
share_of Barrier first list member = []
share_of Bcast first list member = if root_of first.root == member then [] else body_of list (root_of first.root)
share_of Reduce first list member = at_root first member (reduction first list)
share_of Allreduce first list member = reduction first list
share_of Scan first list member = reduction first (take (member + 1) list)
share_of Gather first list member = at_root first member (flat_map (λ a. a.body) list)
share_of Scatter first list member = block_at (block_bytes first) member (body_of list (root_of first.root))
share_of Allgather first list member = flat_map (λ a. a.body) list
share_of Alltoall first list member = flat_map (λ a. block_at (block_bytes first) member a.body) list
share_of CommDup first list member = []
share_of CommSplit first list member = []
share_of Migrate first list member = []

abbrev pub share : List Arg → ℕ → List ℕ
share [] member = []
share (first ∷ rest) member = share_of first.kind first (first ∷ rest) member

-- What a member gets, by the arguments of all members in member order, or a mismatch, which is one for all.
abbrev pub collected : List Arg → ℕ → Option (List ℕ)
collected list member = if are_sound list then Some (share list member) else None
