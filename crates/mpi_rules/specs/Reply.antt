-- What a call gives, in one of four ways.
use Rattle.std.specs.Prelude.{ℤ, pos, not, Bool, false, Option, Some, None, List, [], ◌∷◌, ◌++◌}
use Rattle.am_base.specs.declared.traps.TrapCause.{TrapCause}
use Rattle.rank_range.specs.Areas.{Areas}
use Rattle.mpi_types.specs.declared.argument.Joined.{Joined}
use Rattle.mpi_types.specs.declared.call.Write.{Write}
use Rattle.mpi_types.specs.declared.message.Posted.{Posted}
use Rattle.mpi_types.specs.declared.state.OwnData.{OwnData}
use Rattle.mpi_rules.specs.declared.faults.Faults.{Faults}
use Rattle.mpi_rules.specs.declared.faults.LateFaults.{LateFaults}
use Rattle.mpi_rules.specs.declared.given.Joining.{Joining}
use Rattle.mpi_rules.specs.declared.given.SendOut.{SendOut}
use Rattle.mpi_rules.specs.Data.{MpiData}
use Rattle.mpi_rules.specs.Faults.{cause_of, late_cause_of}
use Rattle.mpi_rules.specs.Places.{are_open}

-- A call that doesn't trap.
pub record Given : Type 0 where
  -- its value; none at the first of two ticks
  pub answer : Option ℤ
  -- the data then, but for the receive that is posted and the collective that is joined
  pub after : MpiData
  -- what it writes into the rank's memory, one after another
  pub writes : List Write
  -- At most one of these: a message that is sent, a receive that is posted, a collective that is joined.
  pub send : Option SendOut
  pub post : Option Posted
  pub join : Option Joining

-- A call gives something, or traps, or ends the rank with a status, or can't be answered yet.
pub data Reply : Type 0 where
  Gives : Given → Reply
  Traps : TrapCause → Reply
  Ends : ℤ → Reply
  NotYet : Reply

-- the answer 0, and nothing else
abbrev pub quiet : MpiData → Given
quiet mpi = record { answer = Some (pos 0); after = mpi; writes = []; send = None; post = None; join = None }

-- the same with writes
abbrev pub writing : MpiData → List Write → Given
writing mpi writes = record (quiet mpi) { writes = writes }

-- the first of two ticks
abbrev pub half : MpiData → Given
half mpi = record (quiet mpi) { answer = None }

abbrev pub with_own : OwnData → MpiData → MpiData
with_own own mpi = record mpi { own = own }

-- The data with the receive posted, which has no message yet, and with the collective joined, which isn't gathered yet.
abbrev pub with_post : Option Posted → MpiData → MpiData
with_post None mpi = mpi
with_post (Some q) mpi = record mpi { posted = mpi.posted ++ q ∷ [] }

abbrev pub joined_of : Joining → Joined
joined_of j = record { ctx = j.group.ctx; position = j.position; arg = j.arg; gathered = None }

abbrev pub with_join : Option Joining → MpiData → MpiData
with_join None mpi = mpi
with_join (Some j) mpi = record mpi { joined = Some (joined_of j) }

-- ---- checks

-- a reply where nothing is wrong, and the trap where something is
abbrev pub unless : Option TrapCause → Reply → Reply
unless None reply = reply
unless (Some why) reply = Traps why

abbrev pub checked : Faults → Reply → Reply
checked faults reply = unless (cause_of faults) reply

abbrev pub ended : LateFaults → Given → Reply
ended faults given = unless (late_cause_of faults) (Gives given)

-- nothing is wrong so far
abbrev pub no_faults : Faults
no_faults =
    record {
      other = false;
      handle = false;
      comm = false;
      variable = false;
      request = false;
      count = false;
      datatype = false;
      operation = false;
      root = false;
      rank = false;
      tag = false;
      buffer = false;
    }

-- a call that only writes: its bytes are looked at behind all other checks
abbrev pub late_address : Bool → LateFaults
late_address address = record { long = false; mismatched = false; address = address }

abbrev pub answered : Areas → Given → Reply
answered areas given = ended (late_address (not (are_open areas given.writes))) given
