-- Whether a call can be answered now.
use Rattle.std.specs.Prelude.{Bool, true, false, Option, Some, None, is_some}
use Rattle.mpi_types.specs.declared.argument.Joined.{Joined}
use Rattle.mpi_rules.specs.Reply.{Reply, Gives, Traps, Ends, NotYet}

-- it gives something, or stops the rank
abbrev pub is_answered : Reply → Bool
is_answered (Gives given) = true
is_answered (Traps why) = true
is_answered (Ends status) = true
is_answered NotYet = false

-- what was joined is gathered
abbrev pub gathered_in : Option Joined → Bool
gathered_in None = false
gathered_in (Some j) = is_some j.gathered
