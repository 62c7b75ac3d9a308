-- What is known of the requests of an array, and of their end.
use Rattle.std.specs.Prelude.{ℕ, ℤ, pos, ◌≡◌, ◌+◌, ◌*◌, ◌^◌, ◌<◌, ◌==◌, ◌||◌, not, nat_lt, int_lt, if◌then◌else◌, Bool, true, false, Some, None, List, [], ◌++◌, length}
use Rattle.std.specs.List.{list_all, list_any}
use Rattle.rank_range.specs.Areas.{Areas}
use Rattle.mpi_types.specs.declared.call.Write.{Write}
use Rattle.mpi_rules.specs.declared.faults.Faults.{Faults}
use Rattle.mpi_rules.specs.declared.faults.LateFaults.{LateFaults}
use Rattle.mpi_rules.specs.Data.{MpiData, is_running}
use Rattle.mpi_rules.specs.Faults.{cause_of}
use Rattle.mpi_rules.specs.Places.{count_of, is_open}
use Rattle.mpi_rules.specs.Reply.{no_faults}
use Rattle.mpi_rules.specs.Requests.{Came, is_request, ending, all_ending, numbers_at, has_twice, has_statuses, waitall_faults, variable_writes, came_writes, all_writes}
use Rattle.mpi_call.specs.declared.done.CallStop.{CallStop}
use Rattle.mpi_call.specs.declared.done.CallStop.TheVariants.{Trap, End, Memory}
use Rattle.mpi_call.specs.declared.requests.Sizes.{Sizes}
use Rattle.mpi_call.specs.Answers.{Kept, data_in, Took}

-- the checks before the numbers are read, and those of the numbers
abbrev pub array_faults : Areas → MpiData → ℤ → ℕ → Faults
array_faults areas mpi count requests =
    record no_faults { other = not (is_running mpi.own.phase); variable = not (is_open areas requests (count_of count * 4)) }

abbrev pub number_faults : MpiData → ℤ → List ℕ → Faults
number_faults mpi count numbers =
    record no_faults { request = int_lt count (pos 0) || (not (list_all (is_request mpi) numbers) || has_twice numbers) }

-- nothing is wrong with the array, and it holds these numbers
pub record AreHeld (areas : Areas) (mpi : MpiData) (count : ℤ) (requests : ℕ) (numbers : List ℕ) : Type 0 where
  pub numbers_are : numbers ≡ numbers_at areas requests (count_of count)
  pub checks : None ≡ cause_of (waitall_faults areas mpi count requests numbers)
  pub few : length numbers < 2 ^ 31
  pub reached : is_open areas requests (length numbers * 4) ≡ true
  pub live : list_all (is_request mpi) numbers ≡ true
  pub once : has_twice numbers ≡ false

-- the call traps by these checks, or the host has no memory
abbrev pub Refuses : Faults → CallStop → Type 0
Refuses faults (Trap why) = Some why ≡ cause_of faults
Refuses faults (End status) = ⊥
Refuses faults Memory = Unit {0}

-- of what came, without its bytes
abbrev pub is_long : Sizes → Bool
is_long s = nat_lt s.room s.length

abbrev pub has_buffer : Areas → Sizes → Bool
has_buffer areas s = is_open areas s.buffer s.room

abbrev pub has_body : Areas → Sizes → Bool
has_body areas s = is_open areas s.buffer s.length

abbrev pub sizes_faults : Areas → List Sizes → ℕ → LateFaults
sizes_faults areas all status =
    record {
      long = list_any is_long all;
      mismatched = false;
      address = not (list_all (has_buffer areas) all)
          || (not (has_statuses areas status (length all)) || not (list_all (has_body areas) all));
    }

-- the place of a status in the array
abbrev pub status_at : ℕ → ℕ → ℕ
status_at status i = if status == 0 then 0 else status + 16 * i

-- One request ends: what it leaves, and what it writes behind the others.
pub record EndsOne (came : Came) (n variable status : ℕ) (old new : Kept) (old_writes new_writes : List Write) : Type 0 where
  pub body : List ℕ
  pub took : Took came (ending n (data_in old)) old body new
  pub writes : new_writes ≡ old_writes ++ came_writes came (variable_writes variable n) [] status

-- All of them end.
pub record EndsAll (numbers : List ℕ) (came : List Came) (requests status : ℕ) (old new : Kept) (writes : List Write) : Type 0 where
  pub data_is : data_in new ≡ all_ending numbers (data_in old)
  pub arrived : new.lists.arrived ≡ old.lists.arrived
  pub sweep_is : new.sweep ≡ old.sweep
  pub writes_are : writes ≡ all_writes requests status numbers came
