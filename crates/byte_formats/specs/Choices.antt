-- Values of one of several kinds, each behind a byte that tells the kind: its tag.
use Rattle.std.specs.Prelude.{◌⊎◌, ◌==◌, if◌then◌else◌, ◌||◌, ℕ, Bool, List, ◌∷◌, Option, Some, None}
use Rattle.byte_formats.specs.Formats.{Format, number8, then_read}
pub use Rattle.std.proofs.Common.{inl, inr}

-- The kinds of a choice: which numbers are tags, and for a value its tag and the format of what follows the tag.
pub record Kinds (X : Type 0) : Type 0 where
  pub has : ℕ → Bool
  pub fits : X → Bool
  pub tag : X → ℕ
  pub spell : X → List ℕ
  pub read : ℕ → List ℕ → Option (X × List ℕ)

-- one kind
abbrev pub kind : {X : Type 0} → ℕ → Format X → Kinds X
kind tag f =
    record {
      has = λ t. t == tag;
      fits = f.fits;
      tag = λ x. tag;
      spell = f.spell;
      read = λ t bytes. if t == tag then f.read bytes else None;
    }

-- what one of two functions gives
abbrev pub of_either : {X Y Z : Type 0} → (X → Z) → (Y → Z) → X ⊎ Y → Z
of_either f g (inl x) = f x
of_either f g (inr y) = g y

-- a kind, or one of others
abbrev pub or_kinds : {X Y : Type 0} → ℕ → Format X → Kinds Y → Kinds (X ⊎ Y)
or_kinds tag f others =
    record {
      has = λ t. (t == tag) || others.has t;
      fits = of_either f.fits others.fits;
      tag = of_either (λ x. tag) others.tag;
      spell = of_either f.spell others.spell;
      read = λ t bytes.
          if t == tag then then_read (f.read bytes) (λ x rest. Some (inl x, rest))
          else then_read (others.read t bytes) (λ y rest. Some (inr y, rest));
    }

-- a tag, and what it tells of
abbrev pub tagged : {X : Type 0} → Kinds X → Format X
tagged kinds =
    record {
      fits = kinds.fits;
      spell = λ x. kinds.tag x ∷ kinds.spell x;
      read = λ bytes. then_read (number8.read bytes) (λ t rest. kinds.read t rest);
    }

-- a choice of two and of three formats
abbrev pub one_of_two : {X Y : Type 0} → ℕ → Format X → ℕ → Format Y → Format (X ⊎ Y)
one_of_two a f b g = tagged (or_kinds a f (kind b g))

abbrev pub one_of_three : {X Y Z : Type 0} → ℕ → Format X → ℕ → Format Y → ℕ → Format Z → Format (X ⊎ (Y ⊎ Z))
one_of_three a f b g c h = tagged (or_kinds a f (or_kinds b g (kind c h)))
