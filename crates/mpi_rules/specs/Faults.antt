-- The table of the causes by which a call traps, in the order of its checks. The order is this profile's own.
use Rattle.std.specs.Prelude.{if◌then◌else◌, Bool, Option, Some, None, List, [], ◌∷◌}
use Rattle.am_base.specs.declared.traps.TrapCause.{TrapCause}
use Rattle.am_base.specs.declared.traps.TrapCause.TheVariants as cause
use Rattle.mpi_rules.specs.declared.faults.Faults.{Faults}
use Rattle.mpi_rules.specs.declared.faults.LateFaults.{LateFaults}

-- a check: whether it fails, and the cause then
pub record Row : Type 0 where
  pub fails : Bool
  pub cause : TrapCause

abbrev pub row : Bool → TrapCause → Row
row fails why = record { fails = fails; cause = why }

-- the cause of the first check that fails
abbrev pub first_of : List Row → Option TrapCause
first_of [] = None
first_of (r ∷ rows) = if r.fails then Some r.cause else first_of rows

-- A variable that a call reads is looked at directly before the first check that needs what it holds.
abbrev pub rows_of : Faults → List Row
rows_of f =
    row f.other cause.ErrOther ∷ row f.handle cause.BadAddress ∷ row f.comm cause.ErrComm ∷ row f.variable cause.BadAddress
    ∷ row f.request cause.ErrRequest ∷ row f.count cause.ErrCount ∷ row f.datatype cause.ErrType ∷ row f.operation cause.ErrOp
    ∷ row f.root cause.ErrRoot ∷ row f.rank cause.ErrRank ∷ row f.tag cause.ErrTag ∷ row f.buffer cause.ErrBuffer ∷ []

-- Behind all of these, at the tick at which the call ends.
abbrev pub late_rows_of : LateFaults → List Row
late_rows_of f =
    row f.long cause.ErrTruncate ∷ row f.mismatched cause.CollectiveMismatch ∷ row f.address cause.BadAddress ∷ []

unfoldable pub cause_of : Faults → Option TrapCause
cause_of f = first_of (rows_of f)

unfoldable pub late_cause_of : LateFaults → Option TrapCause
late_cause_of f = first_of (late_rows_of f)
