-- What a reply answers, and that each such answer may come.
use Rattle.std.specs.Prelude.{ℕ, ℤ, ◌≡◌, ◌<◌, ◌≤◌, true, Option, Some, None, IfSome, List, length}
use Rattle.std.specs.List.{AllByRecursion}
use Rattle.rank_range.specs.Areas.{Areas}
use Rattle.rank_range.specs.Layout.{range_bytes}
use Rattle.mpi_types.specs.declared.argument.Joined.{Joined}
use Rattle.mpi_types.specs.declared.call.Answer.{Answer}
use Rattle.mpi_types.specs.declared.call.Answer.TheVariants.{Half, Value, Trap, End}
use Rattle.mpi_types.specs.declared.call.Call.{Call}
use Rattle.mpi_types.specs.declared.call.Write.{Write}
use Rattle.mpi_types.specs.Come.{MayCome}
use Rattle.mpi_rules.specs.Calls.{reply}
use Rattle.mpi_rules.specs.Data.{MpiData}
use Rattle.mpi_rules.specs.Places.{is_open}
use Rattle.mpi_rules.specs.Reply.{Reply, Gives, Traps, Ends, NotYet}

abbrev pub value_or_half : Option ℤ → List Write → Answer
value_or_half None writes = Half
value_or_half (Some result) writes = Value result writes

-- what a reply answers, if it answers
abbrev pub answer_of : Reply → Option Answer
answer_of (Gives given) = Some (value_or_half given.answer given.writes)
answer_of (Traps why) = Some (Trap why)
answer_of (Ends status) = Some (End status)
answer_of NotYet = None

abbrev pub AreBytes : List ℕ → Type 0
AreBytes bytes = AllByRecursion (λ byte. byte < 256) bytes

-- the rank's number and its areas are those of a run
pub record FitsMemory (areas : Areas) : Type 0 where
  pub rank : areas.rank < 65536
  pub globals : length areas.globals ≤ range_bytes
  pub heap : length areas.heap ≤ range_bytes
  pub stack : length areas.stack ≤ range_bytes

abbrev pub HasBytes : Joined → Type 0
HasBytes j = IfSome j.gathered (λ list. AllByRecursion (λ a. AreBytes a.body) list)

-- what messages and arguments bring are bytes
pub record FitsData (mpi : MpiData) : Type 0 where
  pub messages : AllByRecursion (λ p. AreBytes p.message.body) mpi.matched
  pub arguments : IfSome mpi.joined HasBytes

-- the n bytes from the address a on are accessible
abbrev pub IsOpen : Areas → ℕ → ℕ → Type 0
IsOpen areas a n = is_open areas a n ≡ true

-- Each answer that a call gives may come.
abbrev pub RepliesMayCome : Type 0
RepliesMayCome = (areas : Areas) (mpi : MpiData) (c : Call) → FitsMemory areas → FitsData mpi
    → IfSome (answer_of (reply areas mpi c)) (MayCome (IsOpen areas))
