-- What messages, statuses and collectives bring are bytes.
use Rattle.std.proofs.Common.{ℕ, ◌<◌, ◌*◌, ◌==◌, zero, suc, Bool, true, false, cond, List, [], ◌∷◌, ◌++◌, take, drop, map, arith, Option, Some, None}
use Rattle.std.specs.Prelude.{IfSome, unwrap_or, find}
use Rattle.std.specs.List.{AllByRecursion, flat_map}
use Rattle.std.specs.Int.{byte_at, bytes_low_first}
use Rattle.mpi_types.specs.declared.argument.Arg.{Arg}
use Rattle.mpi_types.specs.declared.collective.Collective.{Collective}
use Rattle.mpi_types.specs.declared.collective.Collective.TheVariants.{Barrier, Bcast, Reduce, Allreduce, Scan, Gather, Scatter, Allgather, Alltoall, CommDup, CommSplit, Migrate}
use Rattle.mpi_types.specs.declared.kinds.Datatype.{Datatype}
use Rattle.mpi_types.specs.declared.kinds.Operation.{Operation}
use Rattle.mpi_types.specs.Collected.{root_of, at_root, reduced_by, reduction, body_of, block_at, share_of, share, are_sound, block_bytes}
use Rattle.mpi_types.specs.Reduce.{bytes_of, folded, elements_of}
use Rattle.mpi_types.specs.Tables.{operation_of, datatype_of, datatype_size}
use Rattle.mpi_rules.specs.Answers.{AreBytes}
use Rattle.mpi_rules.specs.Collectives.{share_in}

pub all_append : {X : Type 0} (P : X → Type 0) (xs ys : List X) → AllByRecursion P xs → AllByRecursion P ys → AllByRecursion P (xs ++ ys)
all_append P [] ys hx hy = hy
all_append P (x ∷ xs) ys hx hy = (hx.0, all_append P xs ys hx.1 hy)

pub all_take : {X : Type 0} (P : X → Type 0) (n : ℕ) (xs : List X) → AllByRecursion P xs → AllByRecursion P (take n xs)
all_take P zero xs h = tt
all_take P (suc n) [] h = tt
all_take P (suc n) (x ∷ xs) h = (h.0, all_take P n xs h.1)

pub all_drop : {X : Type 0} (P : X → Type 0) (n : ℕ) (xs : List X) → AllByRecursion P xs → AllByRecursion P (drop n xs)
all_drop P zero xs h = h
all_drop P (suc n) [] h = tt
all_drop P (suc n) (x ∷ xs) h = all_drop P n xs h.1

pub all_flat : {X Y : Type 0} (P : X → Type 0) (Q : Y → Type 0) (f : X → List Y) → ((x : X) → P x → AllByRecursion Q (f x))
    → (xs : List X) → AllByRecursion P xs → AllByRecursion Q (flat_map f xs)
all_flat P Q f step [] h = tt
all_flat P Q f step (x ∷ xs) h = all_append Q (f x) (flat_map f xs) (step x h.0) (all_flat P Q f step xs h.1)

pub all_found : {X : Type 0} (P : X → Type 0) (test : X → Bool) (xs : List X) → AllByRecursion P xs → IfSome (find test xs) P
all_found P test [] h = tt
all_found P test (x ∷ xs) h =
    elim (test x) as (λ b. IfSome (cond b (Some x) (find test xs)) P) [ true ↦ h.0 | false ↦ all_found P test xs h.1 ]

byte_small : (i n : ℕ) → byte_at i n < 256
byte_small zero n = omega arith
byte_small (suc i) n = omega arith

pub low_bytes : (i k n : ℕ) → AreBytes (bytes_low_first i k n)
low_bytes i zero n = tt
low_bytes i (suc k) n = (byte_small i n, low_bytes (suc i) k n)

-- ---- what collectives give

elements_bytes : (size : ℕ) (elements : List ℕ) → AreBytes (bytes_of size elements)
elements_bytes size [] = tt
elements_bytes size (x ∷ xs) = all_append (λ byte. byte < 256) (bytes_low_first 0 size x) (bytes_of size xs) (low_bytes 0 size x) (elements_bytes size xs)

reduced_bytes : (o : Option Operation) (t : Option Datatype) (count : ℕ) (bodies : List (List ℕ)) → AreBytes (reduced_by o t count bodies)
reduced_bytes None t count bodies = tt
reduced_bytes (Some o) None count bodies = tt
reduced_bytes (Some o) (Some t) count bodies =
    elements_bytes (datatype_size t) (folded o t (map (elements_of (datatype_size t) count) bodies))

root_bytes : (first : Arg) (member : ℕ) (bytes : List ℕ) → AreBytes bytes → AreBytes (at_root first member bytes)
root_bytes first member bytes h =
    elim (root_of first.root == member) as (λ b. AreBytes (cond b bytes [])) [ true ↦ h | false ↦ tt ]

body_bytes : (list : List Arg) (i : ℕ) → AllByRecursion (λ a. AreBytes a.body) list → AreBytes (body_of list i)
body_bytes [] i h = tt
body_bytes (a ∷ list) zero h = h.0
body_bytes (a ∷ list) (suc i) h = body_bytes list i h.1

block_bytes_are : (bytes i : ℕ) (body : List ℕ) → AreBytes body → AreBytes (block_at bytes i body)
block_bytes_are bytes i body h = all_take _ _ (drop (i * bytes) body) (all_drop _ (i * bytes) body h)

joined_bytes : (list : List Arg) → AllByRecursion (λ a. AreBytes a.body) list → AreBytes (flat_map (λ a. a.body) list)
joined_bytes list h = all_flat (λ (a : Arg). AreBytes a.body) (λ byte. byte < 256) (λ a. a.body) (λ a is. is) list h

blocks_bytes : (first : Arg) (member : ℕ) (list : List Arg) → AllByRecursion (λ a. AreBytes a.body) list
    → AreBytes (flat_map (λ a. block_at (block_bytes first) member a.body) list)
blocks_bytes first member list h =
    all_flat (λ (a : Arg). AreBytes a.body) (λ byte. byte < 256) (λ a. block_at (block_bytes first) member a.body)
    (λ a is. block_bytes_are (block_bytes first) member a.body is) list h

share_bytes : (kind : Collective) (first : Arg) (list : List Arg) (member : ℕ) → AllByRecursion (λ a. AreBytes a.body) list
    → AreBytes (share_of kind first list member)
share_bytes Barrier first list member h = tt
share_bytes Bcast first list member h =
    elim (root_of first.root == member) as (λ b. AreBytes (cond b [] (body_of list (root_of first.root))))
    [ true ↦ tt | false ↦ body_bytes list (root_of first.root) h ]
share_bytes Reduce first list member h =
    root_bytes first member (reduction first list) (reduced_bytes (operation_of first.operation) (datatype_of first.datatype) _ _)
share_bytes Allreduce first list member h = reduced_bytes (operation_of first.operation) (datatype_of first.datatype) _ _
share_bytes Scan first list member h = reduced_bytes (operation_of first.operation) (datatype_of first.datatype) _ _
share_bytes Gather first list member h = root_bytes first member (flat_map (λ a. a.body) list) (joined_bytes list h)
share_bytes Scatter first list member h =
    block_bytes_are (block_bytes first) member (body_of list (root_of first.root)) (body_bytes list (root_of first.root) h)
share_bytes Allgather first list member h = joined_bytes list h
share_bytes Alltoall first list member h = blocks_bytes first member list h
share_bytes CommDup first list member h = tt
share_bytes CommSplit first list member h = tt
share_bytes Migrate first list member h = tt

whole_bytes : (list : List Arg) (member : ℕ) → AllByRecursion (λ a. AreBytes a.body) list → AreBytes (share list member)
whole_bytes [] member h = tt
whole_bytes (first ∷ rest) member h = share_bytes first.kind first (first ∷ rest) member h

pub given_bytes : (own : Arg) (list : List Arg) → AllByRecursion (λ a. AreBytes a.body) list → AreBytes (share_in own list)
given_bytes own list h =
    elim (are_sound list) as (λ b. AreBytes (unwrap_or (cond b (Some (share list own.member)) None) []))
    [ true ↦ whole_bytes list own.member h | false ↦ tt ]
