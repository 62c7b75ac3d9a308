-- The first element of a list that meets a condition.
use Rattle.std.specs.Prelude.{◌≡◌, List, ◌∷◌, ◌++◌, All}

-- no element meets it
abbrev pub NoneOf : {X : Type 0} → (X → Type 0) → List X → Type 0
NoneOf P xs = All (λ x. P x → ⊥) xs

-- x meets it, stands between these two parts, and nothing before it meets it
pub record IsFirst {X : Type 0} (P : X → Type 0) (xs before : List X) (x : X) (behind : List X) : Type 0 where
  pub parts : xs ≡ before ++ x ∷ behind
  pub meets : P x
  pub none_before : NoneOf P before

-- x is the first element that meets it
abbrev pub IsFirstOf : {X : Type 0} → (X → Type 0) → List X → X → Type 0
IsFirstOf {X} P xs x = (before : List X) × (behind : List X) × IsFirst P xs before x behind
