-- An image is read back.
use Rattle.std.proofs.Common.{◌≡◌, ◌∙◌, ◌==◌, ℕ, true, List, [], ◌∷◌, length, Option, Some, None, refl, sym, ap, inl, inr, arith, append-nil}
use Rattle.std.proofs.lemmas.Bool.{eqb-true}
use Rattle.byte_formats.specs.Formats.{Format}
use Rattle.byte_formats.specs.Lawful.{IsFormat, IsInFront, AreBytes}
use Rattle.byte_formats.specs.FormatLaws.{block_is, both_is, made_is, restricted_is, chosen, none_found}
use Rattle.rank_image.specs.HeadLaws.{head_is}
use Rattle.rank_image.specs.MiddleLaws.{rank_is, middle_is, tail_is}
use Rattle.rank_image.specs.Image.{image, ended, is_there, is_image, IsImage}
use Rattle.rank_range.specs.Layout.{range_bytes}

pub image_is : IsFormat image
unfolding image
image_is =
    made_is _ _ _ (λ y. refl) (λ x. refl)
    (restricted_is _ _ (both_is _ _ (both_is _ _ rank_is (block_is range_bytes)) (both_is _ _ head_is (both_is _ _ middle_is tail_is))))

-- ---- bytes to the end

no_bytes : (rest : List ℕ) → (length rest == 0) ≡ true → rest ≡ []
no_bytes [] e = refl
no_bytes (b ∷ rest) e = absurd (omega (arith, eqb-true (length (b ∷ rest)) 0 e))

pub ended_front : {X : Type 0} (o : Option (X × List ℕ)) (x : X) → ended o ≡ Some x → o ≡ Some (x, [])
ended_front None x e = absurd (none_found x e)
ended_front {X} (Some found) x e =
    elim (chosen (length found.1 == 0) (Some found.0) None (Some x) e) [
      | inl whole ↦
          let none : found.1 ≡ [] = no_bytes found.1 whole.0 in
          let same : found.0 ≡ x = cc in
          ap (λ r. Some (found.0, r)) none ∙ ap (λ y. Some (y, [])) same
      | inr more ↦ absurd (none_found x more.1)
    ]

-- a format's spelling is read to its end, and what is read to its end is spelled
pub ends_back : {X : Type 0} (f : Format X) (x : X) → IsFormat f → f.fits x ≡ true → ended (f.read (f.spell x)) ≡ Some x
ends_back f x hf e =
    ap (λ bs. ended (f.read bs)) (sym (append-nil (f.spell x))) ∙ ap ended (hf.back x [] e)

pub ends_only : {X : Type 0} (f : Format X) (bytes : List ℕ) (x : X) → IsFormat f → AreBytes bytes → ended (f.read bytes) ≡ Some x
    → (f.fits x ≡ true) × (bytes ≡ f.spell x)
ends_only f bytes x hf h e =
    let is : IsInFront f bytes (x, []) = hf.nothing_else bytes (x, []) h (ended_front (f.read bytes) x e) in
    (is.fits, is.bytes_are ∙ append-nil (f.spell x))

-- ---- images

there_some : {X : Type 0} (o : Option X) → is_there o ≡ true → (x : X) × (o ≡ Some x)
there_some None e = absurd (cc)
there_some (Some x) e = (x, refl)

some_there : {X : Type 0} (o : Option X) (x : X) → o ≡ Some x → is_there o ≡ true
some_there o x e = ap is_there e

pub image_told : (bytes : List ℕ) → AreBytes bytes → is_image bytes ≡ true → IsImage bytes
unfolding is_image
image_told bytes h e =
    let found = there_some (ended (image.read bytes)) e in
    let is = ends_only image bytes found.0 image_is h found.1 in
    (found.0, record { fits = is.0; bytes_are = is.1 })

pub image_tells : (bytes : List ℕ) → IsImage bytes → is_image bytes ≡ true
unfolding is_image
image_tells bytes i =
    some_there (ended (image.read bytes)) i.0 (ap (λ bs. ended (image.read bs)) i.1.bytes_are ∙ ends_back image i.0 image_is i.1.fits)
