-- The words of a line are found exactly where they stand, and a number is read exactly where a word spells it.
use Rattle.std.proofs.Common.{◌≡◌, ℕ, zero, suc, ◌+◌, ◌-◌, ◌*◌, ◌^◌, ◌<◌, ◌≤◌, ◌&&◌, Bool, true, false, cond, eqb, leb, ltb, List, [], ◌∷◌, ◌++◌, length, take, drop, fold, Option, Some, None, length-append, refl, sym, ap, ◌∙◌, subst, arith, inl, inr, ◌⊎◌}
use Rattle.std.proofs.lemmas.Bool.{cases_Bool, not-true, eqb-true, ne_eqb, and_parts, ltb-true, lt-ltb, leb-true, le-leb}
use Rattle.std.proofs.lemmas.List.{take-append-drop, append-nil}
use Rattle.std.proofs.lemmas.List.Folds.{length-prefix_len}
use Rattle.std.proofs.Math.Seq.{drop-append_seam, take-append_seam}
use Rattle.std.proofs.lemmas.Option.{some_pair_parts}
use Rattle.std.specs.List.{prefix_len, AllByRecursion}
use Rattle.std.specs.Prelude.{IsTrue}
use Rattle.schedule.specs.Grammar.{is_blank, is_solid, AreBlanks, IsWord, EndsWord, BeginsWith, is_digit, IsNumber}
use Rattle.schedule.specs.Reading.{behind_blanks, word_at, number_from, number_in}

-- ---- a front of bytes that pass a test

abbrev Pass : (ℕ → Bool) → List ℕ → Type 0
Pass p bytes = AllByRecursion (λ b. IsTrue (p b)) bytes

abbrev Stops : (ℕ → Bool) → List ℕ → Type 0
Stops p [] = Unit {0}
Stops p (b ∷ bs) = p b ≡ false

one_more : (n : ℕ) → 1 + n ≡ suc n
one_more n = omega arith

prefix_whole : (p : ℕ → Bool) (xs ys : List ℕ) → Pass p xs → Stops p ys → prefix_len p (xs ++ ys) ≡ length xs
prefix_whole p [] [] all stop = refl
prefix_whole p [] (y ∷ ys) all stop = rw stop refl
prefix_whole p (x ∷ xs) ys (h, all) stop = rw (h, one_more) (ap (λ (n : ℕ). suc n) (prefix_whole p xs ys all stop))

prefix_passes : (p : ℕ → Bool) (xs : List ℕ) → Pass p (take (prefix_len p xs) xs)
prefix_passes p [] = tt
prefix_passes p (x ∷ xs) =
    elim (cases_Bool (p x)) [
      | inl y ↦ rw (y, one_more) (y, prefix_passes p xs)
      | inr z ↦ rw z tt
    ]

prefix_stops : (p : ℕ → Bool) (xs : List ℕ) → Stops p (drop (prefix_len p xs) xs)
prefix_stops p [] = tt
prefix_stops p (x ∷ xs) =
    elim (cases_Bool (p x)) [
      | inl y ↦ rw (y, one_more) (prefix_stops p xs)
      | inr z ↦ rw z (rw z refl)
    ]

-- ---- words

abbrev pub found : List ℕ → List ℕ → Option (List ℕ × List ℕ)
found word rest = Some (word, rest)

ends_stops : (rest : List ℕ) → EndsWord rest → Stops is_solid rest
ends_stops [] e = tt
ends_stops (b ∷ bs) e = rw e refl

stops_ends : (rest : List ℕ) → Stops is_solid rest → EndsWord rest
stops_ends [] e = tt
stops_ends (b ∷ bs) e =
    elim (cases_Bool (is_blank b)) [
      | inl y ↦ y
      | inr z ↦ let k : true ≡ false = rw z at e in absurd cc
    ]

solid_stops : (word rest : List ℕ) → IsWord word → Stops is_blank (word ++ rest)
solid_stops [] rest (some, all) = absurd (omega (arith, some))
solid_stops (b ∷ bs) rest (some, (h, all)) = not-true (is_blank b) h

-- what was chosen where the test failed
taken : {A : Type 0} (b : Bool) (x y : A) → b ≡ false → cond b x y ≡ y
taken b x y e = rw e refl

pub chosen : {A : Type 0} (b : Bool) (x y z : A) → cond b x y ≡ z → ((b ≡ true) × (x ≡ z)) ⊎ ((b ≡ false) × (y ≡ z))
chosen true x y z e = inl (refl, e)
chosen false x y z e = inr (refl, e)

apart_zero : (n : ℕ) → eqb n 0 ≡ false → 0 < n
apart_zero zero e = absurd cc
apart_zero (suc n) e = omega arith

pub word_at-complete : (line word rest : List ℕ) → BeginsWith line word rest → word_at line ≡ found word rest
unfolding word_at
word_at-complete line word rest b =
    let gap : prefix_len is_blank line ≡ length b.gap =
    ap (prefix_len is_blank) b.line_is ∙ prefix_whole is_blank b.gap (word ++ rest) b.blanks (solid_stops word rest b.is_word) in
    let start : drop (prefix_len is_blank line) line ≡ word ++ rest =
    ap (λ (n : ℕ). drop n line) gap ∙ ap (drop (length b.gap)) b.line_is ∙ drop-append_seam b.gap (word ++ rest) in
    let len : prefix_len is_solid (word ++ rest) ≡ length word = prefix_whole is_solid word rest b.is_word.1 (ends_stops rest b.ends) in
    let some : eqb (length word) 0 ≡ false = ne_eqb (length word) 0 (λ e. absurd (omega (arith, e, b.is_word.0))) in
    rw (start, len, some, take-append_seam word rest, drop-append_seam word rest) refl

pub word_at-sound : (line word rest : List ℕ) → word_at line ≡ found word rest → BeginsWith line word rest
unfolding word_at
word_at-sound line word rest e =
    let start = behind_blanks line in
    let len = prefix_len is_solid start in
    elim (chosen (eqb len 0) None (found (take len start) (drop len start)) (found word rest) e) [
      | inl (y, s) ↦ absurd cc
      | inr (n, s) ↦
          let parts = some_pair_parts (take len start) word (drop len start) rest s in
          let size : length word ≡ len = ap length (sym parts.0) ∙ length-prefix_len is_solid start in
          record {
            gap = take (prefix_len is_blank line) line;
            line_is = sym (take-append-drop (prefix_len is_blank line) line)
                ∙ ap (λ (x : List ℕ). take (prefix_len is_blank line) line ++ x) (sym (take-append-drop len start) ∙ joined (take len start) word (drop len start) rest parts.0 parts.1);
            blanks = prefix_passes is_blank line;
            is_word = (omega (arith, size, apart_zero len n), let P : List ℕ → Type 0 = λ x. Pass is_solid x in subst P parts.0 (prefix_passes is_solid start));
            ends = subst EndsWord parts.1 (stops_ends (drop len start) (prefix_stops is_solid start));
          }
    ]
  where
    joined : (a b x y : List ℕ) → a ≡ b → x ≡ y → a ++ x ≡ b ++ y
    joined a b x y e f = cc

pub word_at-none : (line : List ℕ) → AreBlanks line → word_at line ≡ None
unfolding word_at
word_at-none line blanks =
    let whole : prefix_len is_blank (line ++ []) ≡ length line = prefix_whole is_blank line [] blanks tt in
    let same : prefix_len is_blank line ≡ length line = ap (prefix_len is_blank) (sym (append-nil line)) ∙ whole in
    let rest : drop (length line) (line ++ []) ≡ [] = drop-append_seam line [] in
    let start : drop (prefix_len is_blank line) line ≡ [] =
    ap (λ (n : ℕ). drop n line) same ∙ ap (drop (length line)) (sym (append-nil line)) ∙ rest in
    rw start refl

pub word_at-blank : (line : List ℕ) → word_at line ≡ None → AreBlanks line
unfolding word_at
word_at-blank line e =
    let start = behind_blanks line in
    let len = prefix_len is_solid start in
    elim (chosen (eqb len 0) None (found (take len start) (drop len start)) None e) [
      | inl (y, s) ↦
          let none : start ≡ [] = nothing start (eqb-true len 0 y) (prefix_stops is_blank line) in
          let whole : line ≡ take (prefix_len is_blank line) line =
          sym (take-append-drop (prefix_len is_blank line) line) ∙ ap (λ (x : List ℕ). take (prefix_len is_blank line) line ++ x) none
          ∙ append-nil (take (prefix_len is_blank line) line) in
          subst AreBlanks (sym whole) (prefix_passes is_blank line)
      | inr (n, s) ↦ absurd cc
    ]
  where
    nothing : (xs : List ℕ) → prefix_len is_solid xs ≡ 0 → Stops is_blank xs → xs ≡ []
    nothing [] e s = refl
    nothing (x ∷ xs) e s =
        let solid : is_solid x ≡ true = rw s refl in
        let k : 1 + prefix_len is_solid xs ≡ 0 = rw solid at e in
        absurd (omega (arith, k))

pub word_at-shorter : (line word rest : List ℕ) → word_at line ≡ found word rest → length rest < length line
word_at-shorter line word rest e =
    let b = word_at-sound line word rest e in
    omega (arith, ap length b.line_is, length-append b.gap (word ++ rest), length-append word rest, b.is_word.0)

-- ---- numbers

abbrev read_on : ℕ → List ℕ → ℕ
read_on n word = fold (λ m d. 10 * m + (d - 48)) n word

read_on-ge : (n : ℕ) (ds : List ℕ) → n ≤ read_on n ds
read_on-ge n [] = omega arith
read_on-ge n (d ∷ ds) = omega (arith, read_on-ge (10 * n + (d - 48)) ds)

number_from-sound : (n : ℕ) (ds : List ℕ) (v : ℕ) → n < 2 ^ 32 → number_from n ds ≡ Some v → Pass is_digit ds × (v ≡ read_on n ds) × (v < 2 ^ 32)
unfolding number_from
number_from-sound n [] v small e = let same : v ≡ n = cc in (tt, same, omega (arith, same))
number_from-sound n (d ∷ ds) v small e =
    let next = 10 * n + (d - 48) in
    elim (chosen (is_digit d && ltb next (2 ^ 32)) (number_from next ds) None (Some v) e) [
      | inl (y, s) ↦
          let both = and_parts (is_digit d) (ltb next (2 ^ 32)) y in
          let rest = number_from-sound next ds v (ltb-true next (2 ^ 32) both.1) s in
          ((both.0, rest.0), rest.1, rest.2)
      | inr (m, s) ↦ absurd cc
    ]

number_from-complete : (n : ℕ) (ds : List ℕ) → Pass is_digit ds → read_on n ds < 2 ^ 32 → number_from n ds ≡ Some (read_on n ds)
unfolding number_from
number_from-complete n [] digits small = refl
number_from-complete n (d ∷ ds) (h, digits) small =
    let next = 10 * n + (d - 48) in
    let low : ltb next (2 ^ 32) ≡ true = lt-ltb next (2 ^ 32) (omega (arith, read_on-ge next ds, small)) in
    rw (h, low) (number_from-complete next ds digits small)

pub number_in-sound : (word : List ℕ) (n : ℕ) → number_in word ≡ Some n → IsNumber word n
unfolding number_in
number_in-sound word n e =
    elim (chosen (leb 1 (length word) && leb (length word) 10) (number_from 0 word) None (Some n) e) [
      | inl (y, s) ↦
          let both = and_parts (leb 1 (length word)) (leb (length word) 10) y in
          let parts = number_from-sound 0 word n (omega arith) s in
          record {
            some = leb-true 1 (length word) both.0;
            few = leb-true (length word) 10 both.1;
            digits = parts.0;
            value = parts.1;
            small = omega (arith, parts.2);
          }
      | inr (m, s) ↦ absurd cc
    ]

pub number_in-complete : (word : List ℕ) (n : ℕ) → IsNumber word n → number_in word ≡ Some n
unfolding number_in
number_in-complete word n is =
    let some : leb 1 (length word) ≡ true = le-leb 1 (length word) is.some in
    let few : leb (length word) 10 ≡ true = le-leb (length word) 10 is.few in
    rw (some, few) (number_from-complete 0 word is.digits (omega (arith, is.value, is.small)) ∙ ap (λ (x : ℕ). Some x) (sym is.value))
