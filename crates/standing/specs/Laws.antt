-- What one rank does, and a message that arrives, are steps at the world for which the ranks stand, and they then stand for the world behind them.
use Rattle.std.specs.Prelude.{ℕ, ◌≡◌, ◌+◌, ◌<◌, ◌≤◌, Option, Some, None, List, [], replicate, ◌∷◌}
use Rattle.rank_range.specs.declared.run.Ending.TheVariants.{Running}
use Rattle.vm_code.specs.declared.code.Code.{Code}
use Rattle.mpi_types.specs.declared.call.Call.{Call}
use Rattle.mpi_types.specs.declared.entries.Entry.TheVariants.{Tick}
use Rattle.mpi_types.specs.declared.message.Hit.{Hit}
use Rattle.mpi_types.specs.declared.message.Message.{Message}
use Rattle.mpi_types.specs.Book.{IsOrderly}
use Rattle.mpi_rules.specs.declared.given.SendOut.{SendOut}
use Rattle.rank_steps.specs.Steps.{Standing, HasRun, HasAsked, HasArrived, match_of}
use Rattle.standing.specs.World.{Setting, World}
use Rattle.standing.specs.Steps.{MayTick, MayGather, IsStuckAt}
use Rattle.standing.specs.Stands.{IsAtTick, RanksStand, IsSetAt, IsSentTo, IsTakenFrom, Goes}

-- The rank of this number is one of the run, and stands so.
pub record IsHeld (s : Setting) (held : ℕ → Option Standing) (r : ℕ) (rank : Standing) : Type 0 where
  pub one_of_run : r < s.ranks
  pub here : held r ≡ Some rank

-- A run of ticks at no call of MPI: each was counted, and the rank is at a tick point behind it, unless it is ended or trapped.
pub record IsRunOf (code : Code) (s : Setting) (w : World) (r ticks : ℕ) (old new : Standing) : Type 0 where
  pub ran : HasRun code ticks old new
  pub counted : new.machine.done.ticks ≡ old.machine.done.ticks + ticks
  pub at_tick : new.ending ≡ Running → IsAtTick code new.machine
  pub within : (w.rank r).ticks + ticks ≤ s.bound

-- Ticks at no call of MPI are allowed.
abbrev pub RunsKeep : Type 0
RunsKeep =
    (code : Code) (s : Setting) (w : World) (coming : ℕ → ℕ → List Message) (held held' : ℕ → Option Standing) (r ticks : ℕ) (old new : Standing)
    → RanksStand code s w coming held → IsHeld s held r old → IsRunOf code s w r ticks old new → IsSetAt held r new held'
    → Goes code s w (replicate ticks (Tick (record { 0 = r }))) coming held'

-- A tick at a call of MPI that joins no collective: the numbers of requests stay in order.
pub record IsCallOf (code : Code) (s : Setting) (w : World) (r : ℕ) (call : Call) (send : Option SendOut) (hit : Option Hit) (old new : Standing) : Type 0 where
  pub asked : HasAsked code call send hit None old new
  pub orderly : IsOrderly new.lists
  pub within : (w.rank r).ticks < s.bound

-- It is allowed, and so is, behind it, the match of the receive that it posts with a message that has arrived.
abbrev pub CallsKeep : Type 0
CallsKeep =
    (code : Code) (s : Setting) (w : World) (coming coming' : ℕ → ℕ → List Message) (held held' : ℕ → Option Standing) (r : ℕ) (call : Call)
    (send : Option SendOut) (hit : Option Hit) (old new : Standing)
    → RanksStand code s w coming held → IsHeld s held r old → IsCallOf code s w r call send hit old new
    → IsSentTo coming send coming' → IsSetAt held r new held'
    → Goes code s w (Tick (record { 0 = r }) ∷ match_of (record { 0 = r }) hit) coming' held'

-- An arrival is no entry of its own: the match is one that it makes possible, however the rank stands.
abbrev pub ArrivalsKeep : Type 0
ArrivalsKeep =
    (code : Code) (s : Setting) (w : World) (coming coming' : ℕ → ℕ → List Message) (held held' : ℕ → Option Standing) (r : ℕ) (message : Message)
    (hit : Option Hit) (old new : Standing)
    → RanksStand code s w coming held → IsHeld s held r old → HasArrived message hit old new → IsOrderly new.lists
    → IsTakenFrom coming message r coming' → IsSetAt held r new held'
    → Goes code s w (match_of (record { 0 = r }) hit) coming' held'

-- Where nothing is under way, no rank may take a tick and none may gather, no step is possible.
abbrev pub QuietIsStuck : Type 0
QuietIsStuck =
    (code : Code) (s : Setting) (w : World) (coming : ℕ → ℕ → List Message) (held : ℕ → Option Standing)
    → RanksStand code s w coming held → ((r : ℕ) → r < s.ranks → (rank : Standing) × (held r ≡ Some rank))
    → ((sender to : ℕ) → coming sender to ≡ []) → ((r : ℕ) → MayTick s w r → ⊥) → ((r : ℕ) → MayGather s w r → ⊥)
    → IsStuckAt s w
