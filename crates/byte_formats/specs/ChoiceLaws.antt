-- The laws of choices, and of whole spellings.
use Rattle.std.proofs.Common.{◌≡◌, ◌∙◌, ◌⊎◌, ◌↔◌, ◌≢◌, ℕ, Bool, true, false, ◌==◌, ◌||◌, List, [], ◌∷◌, ◌++◌, Option, Some, None, refl, sym, ap, subst, inl, inr, append-nil}
use Rattle.std.proofs.lemmas.Bool.{eqb-true, eq-eqb}
use Rattle.std.proofs.lemmas.Bool.Decides.{eqb_tells}
use Rattle.byte_formats.specs.Formats.{Format, number8}
use Rattle.byte_formats.specs.Choices.{Kinds, kind, or_kinds, tagged, one_of_two, one_of_three}
use Rattle.byte_formats.specs.Lawful.{AreBytes, IsInFront, IsFormat, Spells, AreKinds}
use Rattle.byte_formats.specs.FormatLaws.{reads_before, chosen, none_found, behind_are_bytes, read8, was_read8}

pub kind_is : {X : Type 0} (tag : ℕ) (f : Format X) → IsFormat f → AreKinds (kind tag f)
kind_is {X} tag f hf =
    record {
      tags = λ x e. eq-eqb tag tag refl;
      back = λ x rest e. rw (eq-eqb tag tag refl) (hf.back x rest e);
      nothing_else = λ t bytes found h e.
          elim (chosen (t == tag) (f.read bytes) None (Some found) e) [
            | inl own ↦
                let is : IsInFront f bytes found = hf.nothing_else bytes found h own.1 in
                (is.fits, sym (eqb-true t tag own.0), is.bytes_are)
            | inr other ↦ absurd (none_found found other.1)
          ];
    }

or_is_true : (a b : Bool) → b ≡ true → (a || b) ≡ true
or_is_true true b e = refl
or_is_true false b e = e

-- a number that isn't among the others' tags
not_a_tag : (has : ℕ → Bool) (tag t : ℕ) → has tag ≡ false → has t ≡ true → (t == tag) ≡ false
not_a_tag has tag t no_tag is_tag =
    elim (eqb_tells t tag) [
      | inl same ↦ let both : has tag ≡ true = ap has (sym same.1) ∙ is_tag in cc
      | inr other ↦ other.0
    ]

-- a value of one of the kinds, and its tag in front of it
has_tag : {X Y : Type 0} (tag : ℕ) (f : Format X) (others : Kinds Y) → AreKinds others
    → (x : X ⊎ Y) → (or_kinds tag f others).fits x ≡ true
    → (or_kinds tag f others).has ((or_kinds tag f others).tag x) ≡ true
has_tag tag f others ho (inl x) e = ap (λ b. b || others.has tag) (eq-eqb tag tag refl)
has_tag tag f others ho (inr y) e = or_is_true (others.tag y == tag) (others.has (others.tag y)) (ho.tags y e)

kinds_back : {X Y : Type 0} (tag : ℕ) (f : Format X) (others : Kinds Y) → others.has tag ≡ false → IsFormat f → AreKinds others
    → (x : X ⊎ Y) (rest : List ℕ) → (or_kinds tag f others).fits x ≡ true
    → (or_kinds tag f others).read ((or_kinds tag f others).tag x) ((or_kinds tag f others).spell x ++ rest) ≡ Some (x, rest)
kinds_back tag f others free hf ho (inl x) rest e = rw (eq-eqb tag tag refl, hf.back x rest e) refl
kinds_back tag f others free hf ho (inr y) rest e =
    rw (not_a_tag others.has tag (others.tag y) free (ho.tags y e), ho.back y rest e) refl

pub or_kinds_are : {X Y : Type 0} (tag : ℕ) (f : Format X) (others : Kinds Y)
    → others.has tag ≡ false → IsFormat f → AreKinds others → AreKinds (or_kinds tag f others)
or_kinds_are {X} {Y} tag f others free hf ho =
    record {
      tags = has_tag tag f others ho;
      back = kinds_back tag f others free hf ho;
      nothing_else = λ t bytes found h e.
          let P : (X ⊎ Y) × List ℕ → Type 0 =
          λ p. ((or_kinds tag f others).fits p.0 ≡ true) × ((or_kinds tag f others).tag p.0 ≡ t)
          × (bytes ≡ (or_kinds tag f others).spell p.0 ++ p.1) in
          elim (chosen (t == tag) _ _ (Some found) e) [
            | inl own ↦
                let first = reads_before (f.read bytes) _ found own.1 in
                let f_is : IsInFront f bytes first.0 = hf.nothing_else bytes first.0 h first.1 in
                let is : (inl first.0.0, first.0.1) ≡ found = cc in
                subst P is (f_is.fits, sym (eqb-true t tag own.0), f_is.bytes_are)
            | inr other ↦
                let first = reads_before (others.read t bytes) _ found other.1 in
                let is : (inr first.0.0, first.0.1) ≡ found = cc in
                subst P is (ho.nothing_else t bytes first.0 h first.1)
          ];
    }

pub tagged_is : {X : Type 0} (kinds : Kinds X) → AreKinds kinds → IsFormat (tagged kinds)
tagged_is kinds hk =
    record {
      back = λ x rest e. rw (read8 (kinds.tag x) (kinds.spell x ++ rest)) (hk.back x rest e);
      nothing_else = λ bytes found h e.
          let first = reads_before (number8.read bytes) _ found e in
          let was : bytes ≡ first.0.0 ∷ first.0.1 = was_read8 bytes first.0 first.1 in
          let rest_fits : AreBytes first.0.1 = behind_are_bytes (first.0.0 ∷ []) first.0.1 bytes was h in
          let is = hk.nothing_else first.0.0 first.0.1 found rest_fits first.2 in
          record {
            fits = is.0;
            bytes_are = was ∙ ap (λ t. t ∷ first.0.1) (sym is.1) ∙ ap (λ bs. kinds.tag found.0 ∷ bs) is.2;
          };
    }

differ : (a b : ℕ) → a ≢ b → (a == b) ≡ false
differ a b h = elim (eqb_tells a b) [ inl same ↦ absurd (h same.1) | inr other ↦ other.0 ]

pub one_of_two_is : {X Y : Type 0} (a b : ℕ) (f : Format X) (g : Format Y) → a ≢ b → IsFormat f → IsFormat g
    → IsFormat (one_of_two a f b g)
one_of_two_is a b f g ab hf hg = tagged_is (or_kinds a f (kind b g)) (or_kinds_are a f (kind b g) (differ a b ab) hf (kind_is b g hg))

pub one_of_three_is : {X Y Z : Type 0} (a b c : ℕ) (f : Format X) (g : Format Y) (h : Format Z) → a ≢ b → a ≢ c → b ≢ c
    → IsFormat f → IsFormat g → IsFormat h → IsFormat (one_of_three a f b g c h)
one_of_three_is a b c f g h ab ac bc hf hg hh =
    let last = or_kinds_are b g (kind c h) (differ b c bc) hg (kind_is c h hh) in
    let free : ((a == b) || (a == c)) ≡ false = rw (differ a b ab, differ a c ac) refl in
    tagged_is (or_kinds a f (or_kinds b g (kind c h))) (or_kinds_are a f (or_kinds b g (kind c h)) free hf last)

-- Bytes spell one value at most, and are read as a whole just where they spell it.
pub one_value : {X : Type 0} (f : Format X) → IsFormat f → (bytes : List ℕ) (x y : X) → Spells f bytes x → Spells f bytes y → x ≡ y
one_value {X} f hf bytes x y s t =
    let read_x : f.read bytes ≡ Some (x, []) = ap f.read (s.bytes_are ∙ sym (append-nil (f.spell x))) ∙ hf.back x [] s.fits in
    let read_y : f.read bytes ≡ Some (y, []) = ap f.read (t.bytes_are ∙ sym (append-nil (f.spell y))) ∙ hf.back y [] t.fits in
    let same : ◌≡◌ {A = Option (X × List ℕ)} (Some (x, [])) (Some (y, [])) = sym read_x ∙ read_y in
    let pairs : ◌≡◌ {A = X × List ℕ} (x, []) (y, []) = cc in
    ap (λ (p : X × List ℕ). p.0) pairs

pub whole_is_read : {X : Type 0} (f : Format X) → IsFormat f → (bytes : List ℕ) (x : X) → AreBytes bytes
    → (f.read bytes ≡ Some (x, [])) ↔ Spells f bytes x
whole_is_read f hf bytes x h = (
  λ e. (let is : IsInFront f bytes (x, []) = hf.nothing_else bytes (x, []) h e in
      record { fits = is.fits; bytes_are = is.bytes_are ∙ append-nil (f.spell x) }),
  λ s. ap f.read (s.bytes_are ∙ sym (append-nil (f.spell x))) ∙ hf.back x [] s.fits,
)
