-- A history of a run, the world after it, and which entries may stand where. It speaks of ranks that never move, each
-- with a private memory, and of nothing else: no processors, no packets, no copies.
use Rattle.std.specs.Prelude.{ℕ, ◌≡◌, ◌+◌, ◌<◌, ◌==◌, if◌then◌else◌, Bool, true, false, List, [], ◌∷◌}
use Rattle.rank_range.specs.declared.run.Segment.{Segment}
use Rattle.c_types.specs.declared.program.Program.{Program}
use Rattle.vm_code.specs.Stops.{Paused}
use Rattle.c_model.specs.Outcome.{Outcome}
use Rattle.c_model.specs.Statements.{run_of}
use Rattle.mpi_types.specs.declared.call.Answer.{Answer}
use Rattle.mpi_types.specs.declared.entries.Entry.{Entry}
use Rattle.mpi_types.specs.Runs.{is_mark}
use Rattle.mpi_types.specs.declared.entries.Entry.TheVariants.{Tick, Match, Gather, Commit}

-- What a run is given: its program with its segment, how many ranks run it, and how many ticks each may take.
pub record Setting : Type 0 where
  pub program : Program
  pub segment : Segment
  pub ranks : ℕ
  pub bound : ℕ

-- What the world has of one rank: the answers that its calls got, and its ticks.
pub record RankPart : Type 0 where
  pub answers : List Answer
  pub ticks : ℕ

-- The world: each rank's part.
pub record World : Type 0 where
  pub rank : ℕ → RankPart

-- a function, changed at one number
abbrev pub changed_at : {X : Type 0} → (ℕ → X) → ℕ → X → ℕ → X
changed_at f r x q = if q == r then x else f q

-- before anything happened
abbrev pub start_world : World
start_world = record { rank = λ r. record { answers = []; ticks = 0 } }

abbrev pub ticked : RankPart → RankPart
ticked part = record { answers = part.answers; ticks = part.ticks + 1 }

-- The world after one more entry. A mark changes nothing. No call of MPI is answered yet, so there is nothing that a match or a
-- gathering could change.
abbrev pub after : World → Entry → World
after w (Tick r) = record { rank = changed_at w.rank r.0 (ticked (w.rank r.0)) }
after w (Match r request sender) = w
after w (Gather r) = w
after w Commit = w

abbrev pub after_all : World → List Entry → World
after_all w [] = w
after_all w (e ∷ h) = after_all (after w e) h

-- the world after a history
abbrev pub world_of : List Entry → World
world_of h = after_all start_world h

-- what the program did on a rank so far
abbrev pub outcome_at : Setting → World → ℕ → Outcome
outcome_at s w r = run_of s.program s.segment r (w.rank r).answers (w.rank r).ticks

-- A rank may take a tick: it is one of the run, it is at a tick point, and it has fewer ticks than it may take. At a call of MPI no
-- tick is taken, as no call is answered yet.
pub record MayTick (s : Setting) (w : World) (r : ℕ) : Type 0 where
  pub one_of_run : r < s.ranks
  pub running : (outcome_at s w r).stop ≡ Paused
  pub below_bound : (w.rank r).ticks < s.bound

-- Which entries are steps at a world. No receive can be posted and no collective joined yet, so no match and no
-- gathering is a step. A mark is none: it may stand anywhere, and makes nothing happen.
abbrev pub IsStep : Setting → World → Entry → Type 0
IsStep s w (Tick r) = MayTick s w r.0
IsStep s w (Match r request sender) = ⊥
IsStep s w (Gather r) = ⊥
IsStep s w Commit = ⊥

-- an entry that isn't a mark is a step
abbrev pub MayStand : Setting → World → Entry → Type 0
MayStand s w e = is_mark e ≡ false → IsStep s w e

-- each entry but a mark is a step at the world of the entries before it
abbrev pub IsLegalFrom : Setting → World → List Entry → Type 0
IsLegalFrom s w [] = Unit {0}
IsLegalFrom s w (e ∷ h) = MayStand s w e × IsLegalFrom s (after w e) h

abbrev pub IsLegal : Setting → List Entry → Type 0
IsLegal s h = IsLegalFrom s start_world h

-- no step is possible
abbrev pub IsStuck : Setting → List Entry → Type 0
IsStuck s h = (e : Entry) → IsStep s (world_of h) e → ⊥
