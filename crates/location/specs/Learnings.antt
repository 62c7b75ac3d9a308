-- Lists of what is told of ranks, one pair after another.
use Rattle.std.specs.Prelude.{◌≡◌, ◌<◌, ◌≤◌, ℕ, ◌==◌, if◌then◌else◌, Bool, Some, List, [], ◌∷◌, ◌++◌, slice_get}
use Rattle.std.specs.List.{AllByRecursion}
use Rattle.am_base.specs.declared.numbers.ProcId.{ProcId}
use Rattle.am_base.specs.declared.numbers.RankId.{RankId}
use Rattle.location.specs.Places.{Places, Learns}

-- a rank, and the pair that is told of it
pub record Learning : Type 0 where
  pub rank : RankId
  pub told : ℕ × ProcId

-- one learning after another leads from the old table to the new one
abbrev pub LearnsAll : Places → List Learning → Places → Type 0
LearnsAll old [] new = new ≡ old
LearnsAll old (l ∷ ls) new =
    (answer : Bool) × (middle : Places) × Learns old l.rank l.told answer middle × LearnsAll middle ls new

-- the pairs that are told of one rank
abbrev pub told_of : RankId → List Learning → List (ℕ × ProcId)
told_of rank [] = []
told_of rank (l ∷ ls) = if l.rank.0 == rank.0 then l.told ∷ told_of rank ls else told_of rank ls

-- the pair has the greatest count of these, and is the first that has it
pub record IsFirstGreatest (pairs : List (ℕ × ProcId)) (pair : ℕ × ProcId) : Type 0 where
  pub before : List (ℕ × ProcId)
  pub behind : List (ℕ × ProcId)
  pub among : pairs ≡ before ++ pair ∷ behind
  pub greater : AllByRecursion (λ p. p.0 < pair.0) before
  pub no_greater : AllByRecursion (λ p. p.0 ≤ pair.0) behind

-- Over any list of learnings a rank has the pair with the greatest count of the one that was known and those that were
-- told of it, the first of equals.
abbrev pub KnowsTheGreatest : Type 0
KnowsTheGreatest =
    (old new : Places) (ls : List Learning) (rank : RankId) (known : ℕ × ProcId)
    → LearnsAll old ls new → slice_get old.pairs rank.0 ≡ Some known
    → (pair : ℕ × ProcId) × (slice_get new.pairs rank.0 ≡ Some pair) × IsFirstGreatest (known ∷ told_of rank ls) pair

-- Over any list of learnings no rank's count falls.
abbrev pub CountsNeverFall : Type 0
CountsNeverFall =
    (old new : Places) (ls : List Learning) (rank : RankId) (known pair : ℕ × ProcId)
    → LearnsAll old ls new → slice_get old.pairs rank.0 ≡ Some known → slice_get new.pairs rank.0 ≡ Some pair
    → known.0 ≤ pair.0

-- Over any list of learnings the homes stay.
abbrev pub HomesStay : Type 0
HomesStay = (old new : Places) (ls : List Learning) → LearnsAll old ls new → new.homes ≡ old.homes
