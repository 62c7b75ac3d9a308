-- Which entries may stand where in a history (MPI 3.1, section 3.5 on order, chapter 5 on collectives).
use Rattle.std.specs.Prelude.{ℕ, ◌≡◌, ◌≢◌, ◌<◌, false, Some, None, List, [], ◌∷◌}
use Rattle.vm_code.specs.Stops.{Paused}
use Rattle.mpi_types.specs.declared.argument.Arg.{Arg}
use Rattle.mpi_types.specs.declared.argument.Joined.{Joined}
use Rattle.mpi_types.specs.declared.entries.Entry.{Entry}
use Rattle.mpi_types.specs.declared.entries.Entry.TheVariants.{Tick, Match, Gather, Commit}
use Rattle.mpi_types.specs.declared.message.Message.{Message}
use Rattle.mpi_types.specs.declared.message.Posted.{Posted}
use Rattle.mpi_types.specs.Accepts.{IsAcceptedBy}
use Rattle.mpi_types.specs.First.{IsFirst}
use Rattle.mpi_types.specs.Runs.{is_mark}
use Rattle.mpi_rules.specs.Reply.{NotYet}
use Rattle.standing.specs.World.{Setting, World, outcome_at, reply_for, args_for, after, start_world, world_of}

-- A rank may take a tick: it is one of the run, neither ended nor trapped, it has fewer ticks than it may take, and where its next
-- tick is at a call of MPI, that call can be answered.
pub record MayTick (s : Setting) (w : World) (r : ℕ) : Type 0 where
  pub one_of_run : r < s.ranks
  pub running : (outcome_at s w r).stop ≡ Paused
  pub below_bound : (w.rank r).ticks < s.bound
  pub answered : reply_for s r (w.rank r) ≢ Some NotYet

-- A receive and a message may meet: of the messages from s to r that met none, it is the first that the receive accepts; of the receives that r
-- posted and that have no message, it is the first that accepts the message.
pub record MayMatch (s : Setting) (w : World) (r request from : ℕ) : Type 0 where
  pub one_of_run : r < s.ranks
  pub receive : Posted
  pub message : Message
  pub earlier : List Posted
  pub later : List Posted
  pub before : List Message
  pub behind : List Message
  pub number : receive.request ≡ request
  pub first_receive : IsFirst (λ p. IsAcceptedBy p message) (w.rank r).mpi.posted earlier receive later
  pub first_message : IsFirst (IsAcceptedBy receive) (w.queue from r) before message behind

-- A rank may gather: it has joined a collective that it hasn't gathered, and every member has joined it.
pub record MayGather (s : Setting) (w : World) (r : ℕ) : Type 0 where
  pub one_of_run : r < s.ranks
  pub joined : Joined
  pub args : List Arg
  pub has_joined : (w.rank r).mpi.joined ≡ Some joined
  pub is_open : joined.gathered ≡ None
  pub all_joined : args_for w (w.rank r).mpi.own joined ≡ Some args

-- Which entries are steps at a world. A mark is none: it may stand anywhere, and makes nothing happen.
abbrev pub IsStep : Setting → World → Entry → Type 0
IsStep s w (Tick r) = MayTick s w r.0
IsStep s w (Match r request sender) = MayMatch s w r.0 request sender.0
IsStep s w (Gather r) = MayGather s w r.0
IsStep s w Commit = ⊥

-- an entry that isn't a mark is a step
abbrev pub MayStand : Setting → World → Entry → Type 0
MayStand s w e = is_mark e ≡ false → IsStep s w e

-- each entry but a mark is a step at the world of the entries before it
abbrev pub IsLegalFrom : Setting → World → List Entry → Type 0
IsLegalFrom s w [] = Unit {0}
IsLegalFrom s w (e ∷ h) = MayStand s w e × IsLegalFrom s (after s w e) h

abbrev pub IsLegal : Setting → List Entry → Type 0
IsLegal s h = IsLegalFrom s (start_world s) h

-- no step is possible
abbrev pub IsStuckAt : Setting → World → Type 0
IsStuckAt s w = (e : Entry) → IsStep s w e → ⊥

abbrev pub IsStuck : Setting → List Entry → Type 0
IsStuck s h = IsStuckAt s (world_of s h)
