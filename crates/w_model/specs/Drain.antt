-- What the parts of a closing drain add to a history.
use Rattle.std.specs.Prelude.{ℕ, ◌≡◌, ◌≢◌, ◌<◌, ◌≤◌, List, [], ◌∷◌, ◌++◌, replicate}
use Rattle.mpi_types.specs.declared.entries.Entry.{Entry}
use Rattle.mpi_types.specs.declared.entries.Entry.TheVariants.{Tick}
use Rattle.w_model.specs.World.{Setting, World, MayTick, after_all, IsLegal, IsLegalFrom, IsStuck, start_world}
use Rattle.w_model.specs.Cut.{rank_numbers, HasNoMark}

abbrev pub tick_of : ℕ → Entry
tick_of r = Tick (record { 0 = r })

-- What `run r k` adds at a world: exactly k ticks of the rank, or fewer where it then can't take one.
pub record IsRunOf (s : Setting) (w : World) (r k : ℕ) (added : List Entry) : Type 0 where
  pub ticks : ℕ
  pub added_is : added ≡ replicate ticks (tick_of r)
  pub within : ticks ≤ k
  pub allowed : IsLegalFrom s w added
  pub stopped : ticks < k → MayTick s (after_all w added) r → ⊥

-- how many ticks a rank gets in a round
abbrev pub ticks_in_round : ℕ
ticks_in_round = 1000

-- what a round adds at a world: a run of each of the ranks, in order
abbrev pub IsRound : Setting → World → List ℕ → List Entry → Type 0
IsRound s w [] added = added ≡ []
IsRound s w (r ∷ rs) added =
    (first rest : List Entry) × (added ≡ first ++ rest) × IsRunOf s w r ticks_in_round first
    × IsRound s (after_all w first) rs rest

-- What a drain adds at a world: rounds over all ranks, up to one that adds nothing.
pub data IsDrain (s : Setting) : World → List Entry → Type 0 where
  last : (w : World) → IsRound s w (rank_numbers s) [] → IsDrain s w []
  more : (w : World) (round rest : List Entry) → IsRound s w (rank_numbers s) round → round ≢ []
      → IsDrain s (after_all w round) rest → IsDrain s w (round ++ rest)

-- A drain adds steps alone, up to where no step is possible.
abbrev pub DrainsAreWhole : Type 0
DrainsAreWhole =
    (s : Setting) (h : List Entry) → IsDrain s start_world h → IsLegal s h × IsStuck s h × HasNoMark h
