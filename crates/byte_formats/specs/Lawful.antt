-- What makes a format one: a value is read back from its one spelling, and nothing else is read.
use Rattle.std.specs.Prelude.{◌≡◌, ◌<◌, ℕ, true, List, ◌++◌, Some, slice_index}
use Rattle.byte_formats.specs.Formats.{Format}
use Rattle.byte_formats.specs.Choices.{Kinds}

abbrev pub AreBytes : List ℕ → Type 0
AreBytes bytes = (i : ℕ) → slice_index bytes i < 256

-- The bytes spell the value, all of them.
pub record Spells {X : Type 0} (f : Format X) (bytes : List ℕ) (x : X) : Type 0 where
  pub fits : f.fits x ≡ true
  pub bytes_are : bytes ≡ f.spell x

-- The front of the bytes spells the value, and the rest stands behind it.
pub record IsInFront {X : Type 0} (f : Format X) (bytes : List ℕ) (found : X × List ℕ) : Type 0 where
  pub fits : f.fits found.0 ≡ true
  pub bytes_are : bytes ≡ f.spell found.0 ++ found.1

-- What is spelled is read back, whatever stands behind it.
abbrev pub IsReadBack : {X : Type 0} → Format X → Type 0
IsReadBack {X} f = (x : X) (rest : List ℕ) → f.fits x ≡ true → f.read (f.spell x ++ rest) ≡ Some (x, rest)

-- Nothing else is read.
abbrev pub NothingElse : {X : Type 0} → Format X → Type 0
NothingElse {X} f =
    (bytes : List ℕ) (found : X × List ℕ) → AreBytes bytes → f.read bytes ≡ Some found → IsInFront f bytes found

pub record IsFormat {X : Type 0} (f : Format X) : Type 0 where
  pub back : IsReadBack f
  pub nothing_else : NothingElse f

-- The same of the kinds of a choice, behind their tags.
pub record AreKinds {X : Type 0} (kinds : Kinds X) : Type 0 where
  pub tags : (x : X) → kinds.fits x ≡ true → kinds.has (kinds.tag x) ≡ true
  pub back : (x : X) (rest : List ℕ) → kinds.fits x ≡ true → kinds.read (kinds.tag x) (kinds.spell x ++ rest) ≡ Some (x, rest)
  pub nothing_else : (t : ℕ) (bytes : List ℕ) (found : X × List ℕ) → AreBytes bytes → kinds.read t bytes ≡ Some found
      → (kinds.fits found.0 ≡ true) × (kinds.tag found.0 ≡ t) × (bytes ≡ kinds.spell found.0 ++ found.1)
