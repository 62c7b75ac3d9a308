-- Where ranks are, as a processor knows it. This profile's own.
use Rattle.std.specs.Prelude.{◌≡◌, ◌↔◌, ◌<◌, ℕ, Bool, IsTrue, Some, List, length, map, slice_get, slice_set}
use Rattle.std.specs.Bool.{OnTrue, OnFalse}
use Rattle.am_base.specs.declared.numbers.ProcId.{ProcId}
use Rattle.am_base.specs.declared.numbers.RankId.{RankId}

-- By rank: how often it had moved and where it had gone then, as far as that is known, and its home.
pub record Places : Type 0 where
  pub pairs : List (ℕ × ProcId)
  pub homes : List ProcId

-- a rank of the run
abbrev pub IsRank : Places → RankId → Type 0
IsRank table rank = rank.0 < length table.homes

-- a place for each rank, to which none has moved
abbrev pub unmoved : List ProcId → List (ℕ × ProcId)
unmoved places = map (λ place. (0, place)) places

-- no rank has moved from its home
abbrev pub at_home : List ProcId → Places
at_home homes = record { pairs = unmoved homes; homes = homes }

-- What a pair that is told of a rank does: it is stored just where its count is greater than that of the known pair, and
-- nothing else changes.
pub record Learns (old : Places) (rank : RankId) (told : ℕ × ProcId) (answer : Bool) (new : Places) : Type 0 where
  pub newer : (known : ℕ × ProcId) → slice_get old.pairs rank.0 ≡ Some known → IsTrue answer ↔ (known.0 < told.0)
  pub stored : OnTrue answer (new ≡ record old { pairs = slice_set old.pairs rank.0 told })
  pub kept : OnFalse answer (new ≡ old)
