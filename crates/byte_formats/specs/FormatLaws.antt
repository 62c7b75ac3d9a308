-- The laws by which formats are put together.
use Rattle.std.proofs.Common.{◌≡◌, ◌∙◌, ◌+◌, ◌<◌, ◌≤◌, ◌^◌, ◌⊎◌, ℕ, ℤ, pos, negsuc, zero, suc, Bool, true, false, ◌&&◌, ◌==◌, nat_lt, cond, List, [], ◌∷◌, ◌++◌, length, take, drop, get_or, Option, Some, None, refl, sym, ap, subst, inl, inr, arith, append_assoc, length-append, length-take}
use Rattle.std.specs.List.{flat_map, list_all}
use Rattle.std.specs.Option.{option_map}
use Rattle.std.proofs.lemmas.List.{get_or-append-add, take-append-drop}
use Rattle.std.proofs.lemmas.Bool.{eqb-true, eq-eqb, ltb-true, lt-ltb}
use Rattle.std.proofs.Math.Seq.{take-append_seam, drop-append_seam}
use Rattle.std.proofs.lemmas.Bool.Decides.{nat_tests}
use Rattle.std.proofs.lemmas.Nat.{le_bytes_2, le_bytes_4, le_bytes_8, from_le_bytes-to_le_bytes_2, from_le_bytes-to_le_bytes_4, from_le_bytes-to_le_bytes_8}
use Rattle.std.proofs.lemmas.Int.{ints, to_z-of_z, of_z-to_z}
use Rattle.std.proofs.Math.Facts.{sfits_to_z}
use mir.Val.{SFits}
use Rattle.std.specs.Int.{w16, w32, w64, from_le_bytes, cast_signed, cast_unsigned}
use Rattle.std.specs.Prelude.{FitsSigned}
use Rattle.am_base.proofs.FieldLemmas.{fits_take}
use Rattle.byte_formats.specs.Formats.{number16, number32, number64, fixed, Format, then_read, nothing, read_block, block, both, made, coded, restricted, ascends, ascending, optional, read_many, many, counted, listed, number8, text, signed32, is_signed32}
use Rattle.byte_formats.specs.Lawful.{AreBytes, IsInFront, IsReadBack, IsFormat}

-- what was read before what was read then
pub reads_before : {X Y : Type 0} (o : Option (X × List ℕ)) (next : X → List ℕ → Option Y) (y : Y)
    → then_read o next ≡ Some y → (found : X × List ℕ) × (o ≡ Some found) × (next found.0 found.1 ≡ Some y)
reads_before None next y e = absurd (cc)
reads_before (Some found) next y e = (found, refl, e)

-- what is read behind what was read
pub reads_on : {X Y : Type 0} (o : Option (X × List ℕ)) (next : X → List ℕ → Option Y) (x : X) (rest : List ℕ)
    → o ≡ Some (x, rest) → then_read o next ≡ next x rest
reads_on o next x rest e = ap (λ p. then_read p next) e

pub both_true : (a b : Bool) → (a && b) ≡ true → (a ≡ true) × (b ≡ true)
both_true true b e = (refl, e)
both_true false b e = absurd (cc)

pub and_is_true : (a b : Bool) → a ≡ true → b ≡ true → (a && b) ≡ true
and_is_true true b e h = h
and_is_true false b e h = absurd (cc)

pub none_found : {X : Type 0} (x : X) → None ≡ Some x → ⊥
none_found x e = cc

-- which way a test went
pub chosen : {A : Type 0} (b : Bool) (x y z : A) → cond b x y ≡ z → ((b ≡ true) × (x ≡ z)) ⊎ ((b ≡ false) × (y ≡ z))
chosen true x y z e = inl (refl, e)
chosen false x y z e = inr (refl, e)

-- the bytes behind others are bytes
pub behind_are_bytes : (front rest bytes : List ℕ) → bytes ≡ front ++ rest → AreBytes bytes → AreBytes rest
behind_are_bytes front rest bytes e h i =
    let P : List ℕ → Type 0 = λ bs. AreBytes bs in
    let whole : get_or (front ++ rest) (length front + i) 0 < 256 = subst P e h (length front + i) in
    omega (arith, get_or-append-add front rest i 0, whole)

pub nothing_is : IsFormat nothing
nothing_is =
    record {
      back = λ x rest e. refl;
      nothing_else = λ bytes found h e. record { fits = refl; bytes_are = (let same : bytes ≡ found.1 = cc in same) };
    }

pub both_is : {X Y : Type 0} (f : Format X) (g : Format Y) → IsFormat f → IsFormat g → IsFormat (both f g)
both_is {X} {Y} f g hf hg =
    record {
      back = λ x rest e.
          let fits : (f.fits x.0 ≡ true) × (g.fits x.1 ≡ true) = both_true (f.fits x.0) (g.fits x.1) e in
          rw (append_assoc (f.spell x.0) (g.spell x.1) rest, hf.back x.0 (g.spell x.1 ++ rest) fits.0, hg.back x.1 rest fits.1) refl;
      nothing_else = λ bytes found h e.
          let first = reads_before (f.read bytes) _ found e in
          let second = reads_before (g.read first.0.1) _ found first.2 in
          let f_is : IsInFront f bytes first.0 = hf.nothing_else bytes first.0 h first.1 in
          let rest_fits : AreBytes first.0.1 = behind_are_bytes (f.spell first.0.0) first.0.1 bytes f_is.bytes_are h in
          let g_is : IsInFront g first.0.1 second.0 = hg.nothing_else first.0.1 second.0 rest_fits second.1 in
          let is : ((first.0.0, second.0.0), second.0.1) ≡ found = cc in
          let P : (X × Y) × List ℕ → Type 0 = λ p. IsInFront (both f g) bytes p in
          subst P is (record {
            fits = and_is_true (f.fits first.0.0) (g.fits second.0.0) f_is.fits g_is.fits;
            bytes_are = f_is.bytes_are ∙ ap (λ bs. f.spell first.0.0 ++ bs) g_is.bytes_are ∙ sym (append_assoc (f.spell first.0.0) (g.spell second.0.0) second.0.1);
          });
    }

pub made_is : {X Y : Type 0} (f : Format X) (to : X → Y) (from : Y → X)
    → ((y : Y) → to (from y) ≡ y) → ((x : X) → from (to x) ≡ x) → IsFormat f → IsFormat (made f to from)
made_is {X} {Y} f to from there here hf =
    record {
      back = λ y rest e. rw (hf.back (from y) rest e) (ap (λ z. Some (z, rest)) (there y));
      nothing_else = λ bytes found h e.
          let first = reads_before (f.read bytes) _ found e in
          let f_is : IsInFront f bytes first.0 = hf.nothing_else bytes first.0 h first.1 in
          let is : (to first.0.0, first.0.1) ≡ found = cc in
          let P : Y × List ℕ → Type 0 = λ p. IsInFront (made f to from) bytes p in
          subst P is (record {
            fits = ap f.fits (here first.0.0) ∙ f_is.fits;
            bytes_are = f_is.bytes_are ∙ ap (λ x. f.spell x ++ first.0.1) (sym (here first.0.0));
          });
    }

maps_before : {X Y : Type 0} (o : Option X) (g : X → Y) (y : Y) → option_map g o ≡ Some y → (x : X) × (o ≡ Some x) × (g x ≡ y)
maps_before None g y e = absurd (cc)
maps_before (Some x) g y e = (x, refl, cc)

pub coded_is : {X Y : Type 0} (f : Format X) (to : X → Option Y) (from : Y → X)
    → ((y : Y) → f.fits (from y) ≡ true → to (from y) ≡ Some y) → ((x : X) (y : Y) → to x ≡ Some y → from y ≡ x)
    → IsFormat f → IsFormat (coded f to from)
coded_is {X} {Y} f to from there here hf =
    record {
      back = λ y rest e. rw (hf.back (from y) rest e) (ap (option_map (λ z. (z, rest))) (there y e));
      nothing_else = λ bytes found h e.
          let first = reads_before (f.read bytes) _ found e in
          let f_is : IsInFront f bytes first.0 = hf.nothing_else bytes first.0 h first.1 in
          let second = maps_before (to first.0.0) _ found first.2 in
          let P : Y × List ℕ → Type 0 = λ p. IsInFront (coded f to from) bytes p in
          subst P second.2 (record {
            fits = ap f.fits (here first.0.0 second.0 second.1) ∙ f_is.fits;
            bytes_are = f_is.bytes_are ∙ ap (λ x. f.spell x ++ first.0.1) (sym (here first.0.0 second.0 second.1));
          });
    }

pub restricted_is : {X : Type 0} (f : Format X) (test : X → Bool) → IsFormat f → IsFormat (restricted f test)
restricted_is {X} f test hf =
    record {
      back = λ x rest e.
          let fits : (f.fits x ≡ true) × (test x ≡ true) = both_true (f.fits x) (test x) e in
          rw (hf.back x rest fits.0, fits.1) refl;
      nothing_else = λ bytes found h e.
          let first = reads_before (f.read bytes) _ found e in
          let f_is : IsInFront f bytes first.0 = hf.nothing_else bytes first.0 h first.1 in
          elim (chosen (test first.0.0) (Some (first.0.0, first.0.1)) None (Some found) first.2) [
            | inl passes ↦
                let is : first.0 ≡ found = cc in
                let P : X × List ℕ → Type 0 = λ p. IsInFront (restricted f test) bytes p in
                subst P is (record { fits = and_is_true (f.fits first.0.0) (test first.0.0) f_is.fits passes.0; bytes_are = f_is.bytes_are })
            | inr fails ↦ absurd (none_found found fails.1)
          ];
    }

pub ascending_is : {X : Type 0} (before : X → X → Bool) (f : Format (List X)) → IsFormat f → IsFormat (ascending before f)
ascending_is before f hf = restricted_is f (ascends before) hf

not_less : (a b : ℕ) → b ≤ a → nat_lt a b ≡ false
not_less a b h = grind (arith, nat_tests)

take_are_bytes : (n : ℕ) (bs : List ℕ) → AreBytes bs → AreBytes (take n bs)
take_are_bytes = fits_take

pub fixed_is : (size limit : ℕ) (to : ℕ → List ℕ) (from : List ℕ → ℕ)
    → ((x : ℕ) → x < limit → length (to x) ≡ size) → ((x : ℕ) → x < limit → from (to x) ≡ x)
    → ((bs : List ℕ) → length bs ≡ size → AreBytes bs → (to (from bs) ≡ bs) × (from bs < limit))
    → IsFormat (fixed size limit to from)
fixed_is size limit to from long there here =
    record {
      back = λ x rest e.
          let small : x < limit = ltb-true x limit e in
          let long_enough : nat_lt (length (to x ++ rest)) size ≡ false =
          not_less (length (to x ++ rest)) size (omega (arith, long x small, length-append (to x) rest)) in
          let front : take size (to x ++ rest) ≡ to x = ap (λ n. take n (to x ++ rest)) (sym (long x small)) ∙ take-append_seam (to x) rest in
          let behind : drop size (to x ++ rest) ≡ rest = ap (λ n. drop n (to x ++ rest)) (sym (long x small)) ∙ drop-append_seam (to x) rest in
          rw (long_enough, front, behind) (ap (λ y. Some (y, rest)) (there x small));
      nothing_else = λ bytes found h e.
          elim (chosen (nat_lt (length bytes) size) None (Some (from (take size bytes), drop size bytes)) (Some found) e) [
            | inl short ↦ absurd (none_found found short.1)
            | inr enough ↦
                let inside : size ≤ length bytes = grind (arith, nat_tests, enough.0) in
                let parts : (to (from (take size bytes)) ≡ take size bytes) × (from (take size bytes) < limit) =
                here (take size bytes) (omega (arith, length-take size bytes, inside)) (take_are_bytes size bytes h) in
                let is : (from (take size bytes), drop size bytes) ≡ found = cc in
                let P : ℕ × List ℕ → Type 0 = λ p. IsInFront (fixed size limit to from) bytes p in
                subst P is (record {
                  fits = lt-ltb (from (take size bytes)) limit parts.1;
                  bytes_are = sym (take-append-drop size bytes) ∙ ap (λ bs. bs ++ drop size bytes) (sym parts.0);
                })
          ];
    }

-- a list of one byte
one_byte : (bs : List ℕ) → length bs ≡ 1 → get_or bs 0 0 ∷ [] ≡ bs
one_byte [] e = absurd (omega arith)
one_byte (b ∷ []) e = refl
one_byte (b ∷ c ∷ bs) e = absurd (omega (arith, e))

pub number8_is : IsFormat number8
unfolding number8
number8_is = fixed_is 1 256 _ _ (λ x h. refl) (λ x h. refl) (λ bs e h. (one_byte bs e, h 0))

pub number16_is : IsFormat number16
unfolding number16
number16_is =
    fixed_is 2 (2 ^ 16) _ _ (λ x h. refl) from_le_bytes-to_le_bytes_2
    (λ bs e h. (le_bytes_2 bs (from_le_bytes w16 bs) e h refl, omega (arith, h 0, h 1)))

pub number32_is : IsFormat number32
unfolding number32
number32_is =
    fixed_is 4 (2 ^ 32) _ _ (λ x h. refl) from_le_bytes-to_le_bytes_4
    (λ bs e h. (le_bytes_4 bs (from_le_bytes w32 bs) e h refl, omega (arith, h 0, h 1, h 2, h 3)))

pub number64_is : IsFormat number64
unfolding number64
number64_is =
    fixed_is 8 (2 ^ 64) _ _ (λ x h. refl) from_le_bytes-to_le_bytes_8
    (λ bs e h. (le_bytes_8 bs (from_le_bytes w64 bs) e h refl, omega (arith, h 0, h 1, h 2, h 3, h 4, h 5, h 6, h 7)))

pub block_is : (size : ℕ) → IsFormat (block size)
unfolding read_block
block_is size =
    record {
      back = λ x rest e.
          let long : length x ≡ size = eqb-true (length x) size e in
          let long_enough : nat_lt (length (x ++ rest)) size ≡ false =
          not_less (length (x ++ rest)) size (omega (arith, long, length-append x rest)) in
          let front : take size (x ++ rest) ≡ x = ap (λ n. take n (x ++ rest)) (sym long) ∙ take-append_seam x rest in
          let behind : drop size (x ++ rest) ≡ rest = ap (λ n. drop n (x ++ rest)) (sym long) ∙ drop-append_seam x rest in
          rw (long_enough, front, behind) refl;
      nothing_else = λ bytes found h e.
          elim (chosen (nat_lt (length bytes) size) None (Some (take size bytes, drop size bytes)) (Some found) e) [
            | inl short ↦ absurd (none_found found short.1)
            | inr enough ↦
                let inside : size ≤ length bytes = grind (arith, nat_tests, enough.0) in
                let is : (take size bytes, drop size bytes) ≡ found = cc in
                let P : List ℕ × List ℕ → Type 0 = λ p. IsInFront (block size) bytes p in
                subst P is (record {
                  fits = eq-eqb (length (take size bytes)) size (omega (arith, length-take size bytes, inside));
                  bytes_are = sym (take-append-drop size bytes);
                })
          ];
    }

-- what a byte in front is read as, and what was in front
pub read8 : (b : ℕ) (rest : List ℕ) → number8.read (b ∷ rest) ≡ Some (b, rest)
unfolding number8
read8 b rest = let long_enough : nat_lt (length (b ∷ rest)) 1 ≡ false = not_less (length (b ∷ rest)) 1 (omega arith) in rw long_enough refl

-- nothing is read of no bytes
read_of_none : (found : ℕ × List ℕ) → number8.read [] ≡ Some found → ⊥
unfolding number8
read_of_none found e = none_found found e

pub was_read8 : (bytes : List ℕ) (found : ℕ × List ℕ) → number8.read bytes ≡ Some found → bytes ≡ found.0 ∷ found.1
was_read8 [] found e = absurd (read_of_none found e)
was_read8 (b ∷ rest) found e = let first : Some (b, rest) ≡ Some found = sym (read8 b rest) ∙ e in let is : (b, rest) ≡ found = cc in ap (λ (p : ℕ × List ℕ). p.0 ∷ p.1) is

option_back : {X : Type 0} (f : Format X) → IsFormat f → IsReadBack (optional f)
option_back f hf None rest e = rw (read8 0 rest) refl
option_back f hf (Some x) rest e = rw (read8 1 (f.spell x ++ rest), hf.back x rest e) refl

pub optional_is : {X : Type 0} (f : Format X) → IsFormat f → IsFormat (optional f)
optional_is {X} f hf =
    record {
      back = option_back f hf;
      nothing_else = λ bytes found h e.
          let first = reads_before (number8.read bytes) _ found e in
          let was : bytes ≡ first.0.0 ∷ first.0.1 = was_read8 bytes first.0 first.1 in
          let rest_fits : AreBytes first.0.1 = behind_are_bytes (first.0.0 ∷ []) first.0.1 bytes was h in
          let P : Option X × List ℕ → Type 0 = λ p. IsInFront (optional f) bytes p in
          elim (chosen (first.0.0 == 0) _ _ (Some found) first.2) [
            | inl none ↦
                let tag : first.0.0 ≡ 0 = eqb-true first.0.0 0 none.0 in
                let is : (None, first.0.1) ≡ found = cc in
                subst P is (record { fits = refl; bytes_are = was ∙ ap (λ t. t ∷ first.0.1) tag })
            | inr some ↦
                elim (chosen (first.0.0 == 1) _ _ (Some found) some.1) [
                  | inl one ↦
                      let tag : first.0.0 ≡ 1 = eqb-true first.0.0 1 one.0 in
                      let second = reads_before (f.read first.0.1) _ found one.1 in
                      let f_is : IsInFront f first.0.1 second.0 = hf.nothing_else first.0.1 second.0 rest_fits second.1 in
                      let is : (Some second.0.0, second.0.1) ≡ found = cc in
                      subst P is (record {
                        fits = f_is.fits;
                        bytes_are = was ∙ ap (λ t. t ∷ first.0.1) tag ∙ ap (λ bs. 1 ∷ bs) f_is.bytes_are;
                      })
                  | inr other ↦ absurd (none_found found other.1)
                ]
          ];
    }

many_back : {X : Type 0} (f : Format X) → IsFormat f → (n : ℕ) (xs : List X) (rest : List ℕ)
    → length xs ≡ n → list_all f.fits xs ≡ true → read_many f n (flat_map f.spell xs ++ rest) ≡ Some (xs, rest)
many_back f hf zero [] rest long fit = refl
many_back f hf zero (x ∷ xs) rest long fit = absurd (omega (arith, long))
many_back f hf (suc n) [] rest long fit = absurd (omega (arith, long))
many_back f hf (suc n) (x ∷ xs) rest long fit =
    let fits : (f.fits x ≡ true) × (list_all f.fits xs ≡ true) = both_true (f.fits x) (list_all f.fits xs) fit in
    let rest_is : read_many f n (flat_map f.spell xs ++ rest) ≡ Some (xs, rest) = many_back f hf n xs rest (omega (arith, long)) fits.1 in
    rw (append_assoc (f.spell x) (flat_map f.spell xs) rest, hf.back x (flat_map f.spell xs ++ rest) fits.0, rest_is) refl

many_nothing_else : {X : Type 0} (f : Format X) → IsFormat f → (n : ℕ) (bytes : List ℕ) (found : List X × List ℕ)
    → AreBytes bytes → read_many f n bytes ≡ Some found
    → (length found.0 ≡ n) × (list_all f.fits found.0 ≡ true) × (bytes ≡ flat_map f.spell found.0 ++ found.1)
many_nothing_else {X} f hf zero bytes found h e =
    let is : ([], bytes) ≡ found = cc in
    let P : List X × List ℕ → Type 0 = λ p. (length p.0 ≡ 0) × (list_all f.fits p.0 ≡ true) × (bytes ≡ flat_map f.spell p.0 ++ p.1) in
    subst P is (refl, refl, refl)
many_nothing_else {X} f hf (suc n) bytes found h e =
    let first = reads_before (f.read bytes) _ found e in
    let second = reads_before (read_many f n first.0.1) _ found first.2 in
    let f_is : IsInFront f bytes first.0 = hf.nothing_else bytes first.0 h first.1 in
    let rest_fits : AreBytes first.0.1 = behind_are_bytes (f.spell first.0.0) first.0.1 bytes f_is.bytes_are h in
    let others = many_nothing_else f hf n first.0.1 second.0 rest_fits second.1 in
    let is : (first.0.0 ∷ second.0.0, second.0.1) ≡ found = cc in
    let P : List X × List ℕ → Type 0 = λ p. (length p.0 ≡ suc n) × (list_all f.fits p.0 ≡ true) × (bytes ≡ flat_map f.spell p.0 ++ p.1) in
    subst P is (
      omega (arith, others.0),
      and_is_true (f.fits first.0.0) (list_all f.fits second.0.0) f_is.fits others.1,
      f_is.bytes_are ∙ ap (λ bs. f.spell first.0.0 ++ bs) others.2
          ∙ sym (append_assoc (f.spell first.0.0) (flat_map f.spell second.0.0) second.0.1),
    )

pub many_is : {X : Type 0} (f : Format X) (n : ℕ) → IsFormat f → IsFormat (many f n)
many_is f n hf =
    record {
      back = λ xs rest e.
          let fits : ((length xs == n) ≡ true) × (list_all f.fits xs ≡ true) = both_true (length xs == n) (list_all f.fits xs) e in
          many_back f hf n xs rest (eqb-true (length xs) n fits.0) fits.1;
      nothing_else = λ bytes found h e.
          let facts = many_nothing_else f hf n bytes found h e in
          record {
            fits = and_is_true (length found.0 == n) (list_all f.fits found.0) (eq-eqb (length found.0) n facts.0) facts.1;
            bytes_are = facts.2;
          };
    }

pub counted_is : {X : Type 0} (count : Format ℕ) (sized : ℕ → Format X) (size : X → ℕ)
    → IsFormat count → ((n : ℕ) → IsFormat (sized n)) → ((n : ℕ) (x : X) → (sized n).fits x ≡ true → size x ≡ n)
    → IsFormat (counted count sized size)
counted_is {X} count sized size hc hs sizes =
    record {
      back = λ x rest e.
          let fits : (count.fits (size x) ≡ true) × ((sized (size x)).fits x ≡ true) =
          both_true (count.fits (size x)) ((sized (size x)).fits x) e in
          rw (append_assoc (count.spell (size x)) ((sized (size x)).spell x) rest, hc.back (size x) ((sized (size x)).spell x ++ rest) fits.0)
          ((hs (size x)).back x rest fits.1);
      nothing_else = λ bytes found h e.
          let first = reads_before (count.read bytes) _ found e in
          let c_is : IsInFront count bytes first.0 = hc.nothing_else bytes first.0 h first.1 in
          let rest_fits : AreBytes first.0.1 = behind_are_bytes (count.spell first.0.0) first.0.1 bytes c_is.bytes_are h in
          let x_is : IsInFront (sized first.0.0) first.0.1 found = (hs first.0.0).nothing_else first.0.1 found rest_fits first.2 in
          let of_size : size found.0 ≡ first.0.0 = sizes first.0.0 found.0 x_is.fits in
          record {
            fits = and_is_true (count.fits (size found.0)) ((sized (size found.0)).fits found.0)
                (ap count.fits of_size ∙ c_is.fits) (ap (λ n. (sized n).fits found.0) of_size ∙ x_is.fits);
            bytes_are =
                c_is.bytes_are ∙ ap (λ bs. count.spell first.0.0 ++ bs) x_is.bytes_are
                ∙ ap (λ n. count.spell n ++ ((sized n).spell found.0 ++ found.1)) (sym of_size)
                ∙ sym (append_assoc (count.spell (size found.0)) ((sized (size found.0)).spell found.0) found.1);
          };
    }

pub listed_is : {X : Type 0} (count : Format ℕ) (f : Format X) → IsFormat count → IsFormat f → IsFormat (listed count f)
listed_is count f hc hf =
    counted_is count (many f) length hc (λ n. many_is f n hf)
    (λ n xs e. eqb-true (length xs) n (both_true (length xs == n) (list_all f.fits xs) e).0)

-- what fits a field
pub fits_number8 : (n : ℕ) → n < 256 → number8.fits n ≡ true
unfolding number8
fits_number8 n small = lt-ltb n (256) small

pub number8_fits : (n : ℕ) → number8.fits n ≡ true → n < 256
unfolding number8
number8_fits n fits = ltb-true n (256) fits

pub fits_number16 : (n : ℕ) → n < 2 ^ 16 → number16.fits n ≡ true
unfolding number16
fits_number16 n small = lt-ltb n (2 ^ 16) small

pub number16_fits : (n : ℕ) → number16.fits n ≡ true → n < 2 ^ 16
unfolding number16
number16_fits n fits = ltb-true n (2 ^ 16) fits

pub fits_number32 : (n : ℕ) → n < 2 ^ 32 → number32.fits n ≡ true
unfolding number32
fits_number32 n small = lt-ltb n (2 ^ 32) small

pub number32_fits : (n : ℕ) → number32.fits n ≡ true → n < 2 ^ 32
unfolding number32
number32_fits n fits = ltb-true n (2 ^ 32) fits

pub fits_number64 : (n : ℕ) → n < 2 ^ 64 → number64.fits n ≡ true
unfolding number64
fits_number64 n small = lt-ltb n (2 ^ 64) small

pub number64_fits : (n : ℕ) → number64.fits n ≡ true → n < 2 ^ 64
unfolding number64
number64_fits n fits = ltb-true n (2 ^ 64) fits

block_size : (n : ℕ) (bytes : List ℕ) → (block n).fits bytes ≡ true → length bytes ≡ n
block_size n bytes e = eqb-true (length bytes) n e

pub text_fits : (bytes : List ℕ) → text.fits bytes ≡ true → length bytes < 2 ^ 32
text_fits bytes e = number32_fits (length bytes) (both_true (number32.fits (length bytes)) ((block (length bytes)).fits bytes) e).0

pub fits_text : (bytes : List ℕ) → length bytes < 2 ^ 32 → text.fits bytes ≡ true
fits_text bytes small =
    and_is_true (number32.fits (length bytes)) ((block (length bytes)).fits bytes) (fits_number32 (length bytes) small)
    (eq-eqb (length bytes) (length bytes) refl)

pub text_is : IsFormat text
text_is = counted_is number32 block length number32_is block_is block_size

is_signed_fits : (z : ℤ) → is_signed32 z ≡ true → SFits w32 z
is_signed_fits (pos n) e = record { sfits = ltb-true n (2 ^ 31) e }
is_signed_fits (negsuc n) e = record { sfits = ltb-true n (2 ^ 31) e }

fits_is_signed : (z : ℤ) → SFits w32 z → is_signed32 z ≡ true
fits_is_signed (pos n) h = lt-ltb n (2 ^ 31) h.sfits
fits_is_signed (negsuc n) h = lt-ltb n (2 ^ 31) h.sfits

pub fits_signed32 : (z : ℤ) → FitsSigned w32 z → signed32.fits z ≡ true
unfolding signed32
fits_signed32 = fits_is_signed

pub signed32_is : IsFormat signed32
unfolding signed32
signed32_is =
    record {
      back = λ z rest e.
          let fits : SFits w32 z = is_signed_fits z e in
          let small : cast_unsigned w32 z < 2 ^ 32 = omega (arith, ints) in
          rw (number32_is.back (cast_unsigned w32 z) rest (fits_number32 (cast_unsigned w32 z) small))
          (ap (λ y. Some (y, rest)) (to_z-of_z w32 z fits));
      nothing_else = λ bytes found h e.
          let first = reads_before (number32.read bytes) _ found e in
          let n_is : IsInFront number32 bytes first.0 = number32_is.nothing_else bytes first.0 h first.1 in
          let small : first.0.0 < 2 ^ 32 = number32_fits first.0.0 n_is.fits in
          let is : (cast_signed w32 first.0.0, first.0.1) ≡ found = cc in
          let P : ℤ × List ℕ → Type 0 = λ p. IsInFront signed32 bytes p in
          subst P is (record {
            fits = fits_is_signed (cast_signed w32 first.0.0) (sfits_to_z {w = w32} {n = first.0.0} (record { fits = small }));
            bytes_are = n_is.bytes_are ∙ ap (λ n. number32.spell n ++ first.0.1) (sym (of_z-to_z w32 first.0.0 small));
          });
    }
