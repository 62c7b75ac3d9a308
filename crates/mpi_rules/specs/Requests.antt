-- Calls that end requests, and what a status tells (MPI 3.1, sections 3.2.5 and 3.7).
use Rattle.std.specs.Prelude.{ℕ, ℤ, pos, negsuc, neg_ℤ, ◌+◌, ◌-◌, ◌*◌, ◌/◌, ◌%◌, ◌==◌, ◌&&◌, ◌||◌, not, nat_lt, int_lt, if◌then◌else◌, Bool, false, Option, Some, None, is_some, option_map, option_and_then, List, [], ◌∷◌, ◌++◌, length, drop}
use Rattle.std.specs.List.{list_all, list_any}
use Rattle.byteorder.specs.Endian.{little_number}
use Rattle.rank_range.specs.Areas.{Areas}
use Rattle.mpi_types.specs.declared.call.Write.{Write}
use Rattle.mpi_types.specs.declared.constants.TheConstants.{ANY_SOURCE, ANY_TAG, PROC_NULL, UNDEFINED}
use Rattle.mpi_types.specs.declared.lists.MatchedPair.{MatchedPair}
use Rattle.mpi_types.specs.declared.state.CompleteKind.{CompleteKind}
use Rattle.mpi_types.specs.declared.state.CompleteKind.TheVariants.{Send, NoProcess}
use Rattle.mpi_types.specs.declared.state.CompleteRequest.{CompleteRequest}
use Rattle.mpi_types.specs.declared.status.Status.{Status}
use Rattle.mpi_types.specs.Collected.{size_of}
use Rattle.mpi_types.specs.Reduce.{elements_of}
use Rattle.mpi_rules.specs.declared.faults.Faults.{Faults}
use Rattle.mpi_rules.specs.declared.faults.LateFaults.{LateFaults}
use Rattle.mpi_rules.specs.Data.{MpiData, is_running, complete_of, pair_of, is_live, without}
use Rattle.mpi_rules.specs.Places.{int_of, count_of, datatype_named, is_open, read_at, variable_at, write_of, int_write, status_writes, are_open}
use Rattle.mpi_rules.specs.Reply.{Reply, NotYet, writing, checked, ended, answered, late_address, no_faults}
use Rattle.mpi_rules.specs.Messages.{request_write}

-- What a request that is complete has: the bytes that came, its status, and the buffer with its room, which has no bytes but
-- for a receive that got a message.
pub record Came : Type 0 where
  pub body : List ℕ
  pub status : Status
  pub buffer : ℕ
  pub room : ℕ

abbrev pub status_of : ℤ → ℤ → ℕ → Status
status_of source tag bytes = record { source = source; tag = tag; bytes = bytes }

-- The empty status, which sends and `MPI_REQUEST_NULL` have, and the status of a receive from `MPI_PROC_NULL`.
abbrev pub empty_status : Status
empty_status = status_of ANY_SOURCE ANY_TAG 0

abbrev pub no_process_status : Status
no_process_status = status_of PROC_NULL ANY_TAG 0

abbrev pub came_without : Status → Came
came_without status = record { body = []; status = status; buffer = 0; room = 0 }

abbrev pub came_of_kind : CompleteKind → Came
came_of_kind Send = came_without empty_status
came_of_kind NoProcess = came_without no_process_status

abbrev pub came_of_pair : MatchedPair → Came
came_of_pair p =
    record {
      body = p.message.body;
      status = status_of (pos p.message.member) p.message.tag (length p.message.body);
      buffer = p.receive.buffer;
      room = p.receive.room;
    }

-- What a live request has, if it is complete. One that waits for its message isn't.
abbrev pub came_in : Option CompleteRequest → Option MatchedPair → Option Came
came_in (Some r) pair = Some (came_of_kind r.kind)
came_in None (Some p) = Some (came_of_pair p)
came_in None None = None

unfoldable pub completion : MpiData → ℕ → Option Came
completion mpi n = came_in (complete_of n mpi.own.complete) (pair_of n mpi.matched)

-- the same of the number that a variable holds: 0 is `MPI_REQUEST_NULL`
abbrev pub came_of : MpiData → ℕ → Option Came
came_of mpi n = if n == 0 then Some (came_without empty_status) else completion mpi n

abbrev pub is_request : MpiData → ℕ → Bool
is_request mpi n = n == 0 || is_live mpi n

abbrev pub ending : ℕ → MpiData → MpiData
ending n mpi = if n == 0 then mpi else without n mpi

-- ---- what is checked and written at the end of a request

abbrev pub is_long : Came → Bool
is_long c = nat_lt c.room (length c.body)

-- The whole buffer is looked at, also where the message is shorter.
abbrev pub has_buffer : Areas → Came → Bool
has_buffer areas c = is_open areas c.buffer c.room

abbrev pub came_faults : Areas → Came → List Write → LateFaults
came_faults areas c writes =
    record { long = is_long c; mismatched = false; address = not (has_buffer areas c) || not (are_open areas writes) }

-- A variable that names a request is set to `MPI_REQUEST_NULL`.
abbrev pub variable_writes : ℕ → ℕ → List Write
variable_writes variable n = if n == 0 then [] else request_write variable 0 ∷ []

-- the message's bytes, the variable, then others, and the status
abbrev pub came_writes : Came → List Write → List Write → ℕ → List Write
came_writes c variable others status = write_of c.buffer c.body ++ (variable ++ (others ++ status_writes status c.status))

abbrev pub came_reply : Areas → MpiData → Came → List Write → Reply
came_reply areas after c writes = ended (came_faults areas c writes) (writing after writes)

-- ---- the second tick of a receive, whose request is the last that was taken

abbrev pub received : Areas → MpiData → ℕ → ℕ → Option Came → Reply
received areas mpi n status None = NotYet
received areas mpi n status (Some c) = came_reply areas (without n mpi) c (came_writes c [] [] status)

unfoldable pub received_reply : Areas → MpiData → ℕ → Reply
received_reply areas mpi status =
    received areas mpi (mpi.own.next - 1) status (completion mpi (mpi.own.next - 1))

-- ---- Wait and Test

abbrev pub variable_faults : Areas → MpiData → ℕ → Faults
variable_faults areas mpi variable =
    record no_faults {
      other = not (is_running mpi.own.phase);
      variable = not (is_open areas variable 4);
      request = not (is_request mpi (variable_at areas variable));
    }

abbrev pub waited : Areas → MpiData → ℕ → ℕ → ℕ → Option Came → Reply
waited areas mpi variable n status None = NotYet
waited areas mpi variable n status (Some c) =
    came_reply areas (ending n mpi) c (came_writes c (variable_writes variable n) [] status)

unfoldable pub wait_reply : Areas → MpiData → ℕ → ℕ → Reply
wait_reply areas mpi variable status =
    let n : ℕ = variable_at areas variable in
    checked (variable_faults areas mpi variable) (waited areas mpi variable n status (came_of mpi n))

-- Where the request isn't complete, only the flag is written.
abbrev pub tested : Areas → MpiData → ℕ → ℕ → ℕ → ℕ → Option Came → Reply
tested areas mpi variable n flag status None = answered areas (writing mpi (int_write flag (pos 0) ∷ []))
tested areas mpi variable n flag status (Some c) =
    came_reply areas (ending n mpi) c (came_writes c (variable_writes variable n) (int_write flag (pos 1) ∷ []) status)

unfoldable pub test_reply : Areas → MpiData → ℕ → ℕ → ℕ → Reply
test_reply areas mpi variable flag status =
    let n : ℕ = variable_at areas variable in
    checked (variable_faults areas mpi variable) (tested areas mpi variable n flag status (came_of mpi n))

-- ---- Waitall

-- the numbers that an array of requests holds
abbrev pub numbers_at : Areas → ℕ → ℕ → List ℕ
numbers_at areas requests count = elements_of 4 count (read_at areas requests (count * 4))

-- a number that isn't 0 stands twice
abbrev pub has_twice : List ℕ → Bool
has_twice [] = false
has_twice (n ∷ numbers) = (not (n == 0) && list_any (λ m. m == n) numbers) || has_twice numbers

-- An array of a negative count has no bytes.
abbrev pub waitall_faults : Areas → MpiData → ℤ → ℕ → List ℕ → Faults
waitall_faults areas mpi count requests numbers =
    record no_faults {
      other = not (is_running mpi.own.phase);
      variable = not (is_open areas requests (count_of count * 4));
      request = int_lt count (pos 0) || (not (list_all (is_request mpi) numbers) || has_twice numbers);
    }

-- what all the requests have, where each is complete
abbrev pub all_came : MpiData → List ℕ → Option (List Came)
all_came mpi [] = Some []
all_came mpi (n ∷ numbers) =
    option_and_then (λ c. option_map (λ more. c ∷ more) (all_came mpi numbers)) (came_of mpi n)

abbrev pub all_ending : List ℕ → MpiData → MpiData
all_ending [] mpi = mpi
all_ending (n ∷ numbers) mpi = all_ending numbers (ending n mpi)

-- the place of the next status; there is none where statuses are ignored
abbrev pub next_status : ℕ → ℕ
next_status status = if status == 0 then 0 else status + 16

-- element by element
abbrev pub all_writes : ℕ → ℕ → List ℕ → List Came → List Write
all_writes variable status [] all = []
all_writes variable status (n ∷ numbers) [] = []
all_writes variable status (n ∷ numbers) (c ∷ all) =
    came_writes c (variable_writes variable n) [] status ++ all_writes (variable + 4) (next_status status) numbers all

-- The array of statuses, where it isn't ignored, is in one area.
abbrev pub has_statuses : Areas → ℕ → ℕ → Bool
has_statuses areas status count = status == 0 || is_open areas status (count * 16)

abbrev pub all_faults : Areas → List Came → ℕ → List Write → LateFaults
all_faults areas all status writes =
    record {
      long = list_any is_long all;
      mismatched = false;
      address = not (list_all (has_buffer areas) all)
          || (not (has_statuses areas status (length all)) || not (are_open areas writes));
    }

abbrev pub waited_all : Areas → MpiData → ℕ → ℕ → List ℕ → Option (List Came) → Reply
waited_all areas mpi requests status numbers None = NotYet
waited_all areas mpi requests status numbers (Some all) =
    ended (all_faults areas all status (all_writes requests status numbers all))
    (writing (all_ending numbers mpi) (all_writes requests status numbers all))

unfoldable pub waitall_reply : Areas → MpiData → ℤ → ℕ → ℕ → Reply
waitall_reply areas mpi count requests status =
    let numbers : List ℕ = numbers_at areas requests (count_of count) in
    checked (waitall_faults areas mpi count requests numbers)
    (waited_all areas mpi requests status numbers (all_came mpi numbers))

-- ---- Get_count

-- So many bytes as elements of this size: `MPI_UNDEFINED` where they are no multiple of it.
abbrev pub elements_in : ℕ → ℕ → ℤ
elements_in bytes size = if bytes % size == 0 then pos (bytes / size) else UNDEFINED

abbrev pub count_value : ℤ → ℕ → ℤ
count_value (pos bytes) size = elements_in bytes size
count_value (negsuc bytes) size =
    if (bytes + 1) % size == 0 then neg_ℤ (pos ((bytes + 1) / size)) else UNDEFINED

-- The status is read behind all checks of the table, none of which needs it.
unfoldable pub count_reply : Areas → MpiData → ℕ → ℤ → ℕ → Reply
count_reply areas mpi status datatype to =
    let bytes : ℤ = int_of (little_number 4 (drop 12 (read_at areas status 16))) in
    let writes : List Write = int_write to (count_value bytes (size_of (datatype_named datatype))) ∷ [] in
    checked (record no_faults { other = not (is_running mpi.own.phase); datatype = not (is_some (datatype_named datatype)) })
    (ended (late_address (not (is_open areas status 16) || not (are_open areas writes))) (writing mpi writes))
