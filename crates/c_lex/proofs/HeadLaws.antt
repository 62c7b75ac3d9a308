-- The word at the front of a text, and the head of a directive, as they are read.
use Rattle.std.proofs.Common.{◌≡◌, ℕ, suc, ◌+◌, ◌≤◌, IsTrue, Bool, true, List, [], ◌∷◌, ◌++◌, length, take, drop, refl, sym, ap, subst, ◌∙◌, arith, inl, inr}
use Rattle.std.specs.Prelude.{◌||◌, ◌&&◌, nat_le}
use Rattle.std.specs.List.{prefix_len, AllByRecursion}
use Rattle.std.proofs.lemmas.Bool.{cases_Bool}
use Rattle.std.proofs.lemmas.List.{take-append-drop}
use Rattle.std.proofs.lemmas.List.Sums.{prefix_len-le-length}
use Rattle.c_lex.specs.Blanks.{First, NotFirst, AreGaps}
use Rattle.c_lex.specs.Words.{starts_word, continues_word, IsWord}
use Rattle.c_lex.specs.Pieces.{IsHead}
use Rattle.c_lex.specs.Fronts.{IsOneFront}
use Rattle.c_lex.specs.Progress.{NoGap}
use Rattle.c_lex.proofs.DirectiveLaws.{same-gaps, word-no-gap, one-word}

-- ---- a front of bytes that pass a test

abbrev Pass : (ℕ → Bool) → List ℕ → Type 0
Pass p bytes = AllByRecursion (λ b. IsTrue (p b)) bytes

one_more : (n : ℕ) → 1 + n ≡ suc n
one_more n = omega arith

prefix_passes : (p : ℕ → Bool) (xs : List ℕ) → Pass p (take (prefix_len p xs) xs)
prefix_passes p [] = tt
prefix_passes p (x ∷ xs) =
    elim (cases_Bool (p x)) [
      | inl y ↦ rw (y, one_more) (y, prefix_passes p xs)
      | inr z ↦ rw z tt
    ]

prefix_stops : (p : ℕ → Bool) (xs : List ℕ) → NotFirst p (drop (prefix_len p xs) xs)
prefix_stops p [] = tt
prefix_stops p (x ∷ xs) =
    elim (cases_Bool (p x)) [
      | inl y ↦ rw (y, one_more) (prefix_stops p xs)
      | inr z ↦ rw z (rw z refl)
    ]

pub word-here : (t : List ℕ) → First starts_word (take (prefix_len continues_word t) t)
    → IsWord t (take (prefix_len continues_word t) t) (drop (prefix_len continues_word t) t)
word-here t s = record {
  text_is = sym (take-append-drop (prefix_len continues_word t) t);
  starts = s;
  all = prefix_passes continues_word t;
  ends = prefix_stops continues_word t;
}

starts_continues : (b : ℕ) → starts_word b ≡ true → IsTrue (starts_word b || (nat_le 48 b && nat_le b 57))
starts_continues b y = ap (λ (x : Bool). x || (nat_le 48 b && nat_le b 57)) y

some_word : (w : List ℕ) (r t : List ℕ) → t ≡ w ++ r → First starts_word w → First starts_word (take (prefix_len continues_word t) t)
some_word [] r t e s = absurd s
some_word (b ∷ w) r t e s =
    let P : List ℕ → Type 0 = λ x. First starts_word (take (prefix_len continues_word x) x) in
    let y : continues_word b ≡ true = starts_continues b s in
    subst P (sym e) (rw (y, one_more) s)

-- the word at a text's front is the longest one
pub word-cut : (t w r : List ℕ) → IsWord t w r → (w ≡ take (prefix_len continues_word t) t) × (r ≡ drop (prefix_len continues_word t) t)
word-cut t w r i =
    one-word t w (take (prefix_len continues_word t) t) r (drop (prefix_len continues_word t) t) i (word-here t (some_word w r t i.text_is i.starts))

pub word-len-fits : (t : List ℕ) → prefix_len continues_word t ≤ length t
word-len-fits t = prefix_len-le-length continues_word t

-- ---- the head of a directive

tail_of : (x y : List ℕ) → 35 ∷ x ≡ 35 ∷ y → x ≡ y
tail_of x y e = cc

-- behind a `#` stands its word, where the gaps end
pub head-is : (t mid word rest : List ℕ) → AreGaps t mid → word ≡ take (prefix_len continues_word mid) mid → rest ≡ drop (prefix_len continues_word mid) mid
    → First starts_word word → IsHead word (35 ∷ t) rest
head-is t mid word rest g e f s =
    let P : List ℕ → Type 0 = λ x. First starts_word x in
    let Q : List ℕ → Type 0 = λ x. IsWord mid x rest in
    let R : List ℕ → Type 0 = λ x. IsWord mid (take (prefix_len continues_word mid) mid) x in
    (t, mid, refl, g, subst Q (sym e) (subst R (sym f) (word-here mid (subst P e s))))

pub head-only : IsOneFront → (t mid word rest w r : List ℕ) → AreGaps t mid → NoGap mid → word ≡ take (prefix_len continues_word mid) mid
    → rest ≡ drop (prefix_len continues_word mid) mid → IsHead w (35 ∷ t) r → (w ≡ word) × (r ≡ rest)
head-only one t mid word rest w r g n e f (behind, start, i, h, j) =
    let P : List ℕ → Type 0 = λ x. AreGaps x start in
    let same : start ≡ mid = same-gaps one t start mid (subst P (sym (tail_of t behind i)) h) g (word-no-gap start w r j) n in
    let Q : List ℕ → Type 0 = λ x. IsWord x w r in
    let cut = word-cut mid w r (subst Q same j) in
    (cut.0 ∙ sym e, cut.1 ∙ sym f)
