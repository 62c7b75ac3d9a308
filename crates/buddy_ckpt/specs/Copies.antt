-- The copies of ranks that a processor keeps. This profile's own.
use Rattle.std.specs.Prelude.{ℕ, ◌+◌, ◌==◌, if◌then◌else◌, Bool, true, false, List, [], ◌∷◌, Option, Some, None}
use Rattle.buddy_ckpt.specs.declared.store.Copy.{Copy}

-- new copies, and those of the last commit
pub record Kept : Type 0 where
  pub fresh : List Copy
  pub committed : List Copy

-- the copies with one more, in the place of that of its rank where there is one
abbrev pub with_copy : Copy → List Copy → List Copy
with_copy c [] = c ∷ []
with_copy c (x ∷ xs) = if x.rank.0 == c.rank.0 then c ∷ xs else x ∷ with_copy c xs

-- where the copy of a rank stands, or how many copies there are where there is none
abbrev pub place_in : ℕ → List Copy → ℕ
place_in r [] = 0
place_in r (x ∷ xs) = if x.rank.0 == r then 0 else place_in r xs + 1

-- the image of a rank's copy
abbrev pub image_of : ℕ → List Copy → Option (List ℕ)
image_of r [] = None
image_of r (x ∷ xs) = if x.rank.0 == r then Some x.image else image_of r xs

abbrev pub is_there : {X : Type 0} → Option X → Bool
is_there None = false
is_there (Some x) = true
