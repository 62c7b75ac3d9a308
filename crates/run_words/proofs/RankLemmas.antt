-- Accepted words ask for 1 to 256 ranks, and for 16,000,000 ticks at most.
use Rattle.std.proofs.Common.{ℕ, ◌≡◌, ◌≤◌, List, [], ◌∷◌, refl, subst, arith}
use Rattle.std.specs.List.{AllByRecursion}
use Rattle.run_words.specs.Words.{Part, Source, Ranks, Ticks, Journal, ranks_in, ticks_in, IsWellFormed, number_of, Chooses, Asked, AskForRun}

few : (parts : List Part) (word : List ℕ) → AllByRecursion IsWellFormed parts → ranks_in parts ≡ word ∷ []
    → (1 ≤ number_of word) × (number_of word ≤ 256)
few [] word all one = cc
few (Source name ∷ parts) word all one = few parts word all.1 one
few (Ticks value ∷ parts) word all one = few parts word all.1 one
few (Journal name ∷ parts) word all one = few parts word all.1 one
few (Ranks value ∷ parts) word all one =
    let same : value ≡ word = cc in
    let P : List ℕ → Type 0 = λ w. (1 ≤ number_of w) × (number_of w ≤ 256) in
    subst P same (all.0.1, all.0.2)

chosen : (values : List (List ℕ)) (ranks : ℕ) (parts : List Part) → AllByRecursion IsWellFormed parts → ranks_in parts ≡ values
    → Chooses values number_of 1 ranks → (1 ≤ ranks) × (ranks ≤ 256)
chosen [] ranks parts all is choice = (omega (arith, choice), omega (arith, choice))
chosen (word ∷ []) ranks parts all is choice =
    let bounds = few parts word all is in
    (omega (arith, choice, bounds.0), omega (arith, choice, bounds.1))
chosen (word ∷ more ∷ words) ranks parts all is choice = absurd choice

pub few-ranks : (words : List (List ℕ)) (asked : Asked) → AskForRun words asked → (1 ≤ asked.ranks) × (asked.ranks ≤ 256)
few-ranks words asked asks = chosen (ranks_in asks.parts) asked.ranks asks.parts asks.well_formed refl asks.ranks

bounded : (parts : List Part) (word : List ℕ) → AllByRecursion IsWellFormed parts → ticks_in parts ≡ word ∷ [] → number_of word ≤ 16000000
bounded [] word all one = cc
bounded (Source name ∷ parts) word all one = bounded parts word all.1 one
bounded (Ranks value ∷ parts) word all one = bounded parts word all.1 one
bounded (Journal name ∷ parts) word all one = bounded parts word all.1 one
bounded (Ticks value ∷ parts) word all one =
    let same : value ≡ word = cc in
    let P : List ℕ → Type 0 = λ w. number_of w ≤ 16000000 in
    subst P same all.0.1

chosen-ticks : (values : List (List ℕ)) (ticks : ℕ) (parts : List Part) → AllByRecursion IsWellFormed parts → ticks_in parts ≡ values
    → Chooses values number_of 1000000 ticks → ticks ≤ 16000000
chosen-ticks [] ticks parts all is choice = omega (arith, choice)
chosen-ticks (word ∷ []) ticks parts all is choice = omega (arith, choice, bounded parts word all is)
chosen-ticks (word ∷ more ∷ words) ticks parts all is choice = absurd choice

pub bounded-ticks : (words : List (List ℕ)) (asked : Asked) → AskForRun words asked → asked.ticks ≤ 16000000
bounded-ticks words asked asks = chosen-ticks (ticks_in asks.parts) asked.ticks asks.parts asks.well_formed refl asks.ticks
