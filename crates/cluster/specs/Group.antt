-- The ranks of a run stand for its world.
use Rattle.std.specs.Prelude.{ℕ, ◌≡◌, ◌≢◌, ◌+◌, ◌-◌, ◌*◌, ◌<◌, Bool, true, false, List, [], ◌++◌, length, get_or}
use Rattle.std.specs.List.{sum_by}
use Rattle.mpi_types.specs.declared.entries.Entry.{Entry}
use Rattle.w_model.specs.World.{Setting, RankPart, world_of}
use Rattle.w_model.specs.Drain.{IsRunOf, IsRound, IsDrain, ticks_in_round}
use Rattle.w_model.specs.Cut.{rank_numbers}
use Rattle.vm_code.specs.declared.code.Code.{Code}
use Rattle.cluster.specs.declared.rank.Rank.{Rank}
use Rattle.cluster.specs.Rank.{StandsFor}

-- The rank of this number stands for this part of the world.
pub record IsPart (code : Code) (s : Setting) (number : ℕ) (part : RankPart) (rank : Rank) : Type 0 where
  pub stands : StandsFor code s number rank
  pub ticks : rank.regs.ticks ≡ part.ticks
  pub unanswered : part.answers ≡ []

-- how many ticks a rank may still take
abbrev pub ticks_left : ℕ → Rank → ℕ
ticks_left bound rank = bound - rank.regs.ticks

-- The ranks stand for the world after the history. Each tick of the history is one that a rank can't take any more.
pub record Stand (code : Code) (s : Setting) (ranks : List Rank) (h : List Entry) : Type 0 where
  pub count : length ranks ≡ s.ranks
  pub each : (i : ℕ) (d : Rank) → i < s.ranks → IsPart code s i ((world_of h).rank i) (get_or ranks i d)
  pub used : length h + sum_by (ticks_left s.bound) ranks ≡ s.ranks * s.bound

-- A run of one rank was added to the history.
pub record AddsRun (code : Code) (s : Setting) (at : ℕ) (old : List Entry) (ranks : List Rank) (new : List Entry) (taken : ℕ) : Type 0 where
  pub stand : Stand code s ranks new
  pub added : List Entry
  pub new_is : new ≡ old ++ added
  pub run : IsRunOf s (world_of old) at ticks_in_round added
  pub taken_is : length added ≡ taken

-- A round was added to the history, and it is told whether it has an entry.
pub record AddsRound (code : Code) (s : Setting) (old : List Entry) (ranks : List Rank) (new : List Entry) (some : Bool) : Type 0 where
  pub stand : Stand code s ranks new
  pub added : List Entry
  pub new_is : new ≡ old ++ added
  pub round : IsRound s (world_of old) (rank_numbers s) added
  pub none : some ≡ false → added ≡ []
  pub one : some ≡ true → added ≢ []

-- A whole drain was added to the history.
pub record AddsDrain (code : Code) (s : Setting) (old : List Entry) (ranks : List Rank) (new : List Entry) : Type 0 where
  pub stand : Stand code s ranks new
  pub added : List Entry
  pub new_is : new ≡ old ++ added
  pub drain : IsDrain s (world_of old) added
