-- Just one punctuator stands at the front of a text that begins one.
use Rattle.std.proofs.Common.{◌≡◌, ℕ, ◌<◌, ◌≤◌, Bool, true, false, List, [], ◌∷◌, ◌++◌, length, take, drop, Option, Some, None, refl, sym, ap, ◌∙◌, arith}
use Rattle.std.specs.Prelude.{find, codes, nat_lt}
use Rattle.std.specs.Str.{bytes_eq}
use Rattle.std.specs.List.{AllByRecursion}
use Rattle.std.proofs.lemmas.Bool.Decides.{nat_tests}
use Rattle.std.proofs.lemmas.Slice.Eq.{bytes_eq-Decides}
use Rattle.std.proofs.Math.Seq.{take-append_seam, drop-append_seam}
use Rattle.c_lex.specs.declared.token.Mark.{Mark}
use Rattle.c_lex.specs.Blanks.{BeginsWith}
use Rattle.c_lex.specs.Words.{mark_text, IsMark, StartsMark}
use Rattle.c_lex.specs.Reading.{begins_with}
use Rattle.c_lex.proofs.KeywordLaws.{passes, none_passes}
use Rattle.c_lex.proofs.MarkLaws.{one, two, three, every, found_all, mark_of_three, mark_of_two, mark_of_one, begins_not}

-- ---- a punctuator by its text

abbrev decoded : List ℕ → Option Mark
decoded text = find (λ m. bytes_eq (mark_text m) text) (one ++ two ++ three)

decodes : (m : Mark) → decoded (mark_text m) ≡ Some m
decodes = every (λ m. decoded (mark_text m) ≡ Some m)
    (refl, (refl, (refl, (refl, (refl, (refl, (refl, (refl, (refl, (refl, (refl, (refl, (refl, (refl, (refl, (refl, (refl, (refl, (refl, (refl, (refl, (refl, (refl, (refl, tt))))))))))))))))))))))))
    (refl, (refl, (refl, (refl, (refl, (refl, (refl, (refl, (refl, (refl, (refl, (refl, (refl, (refl, (refl, (refl, (refl, (refl, (refl, tt)))))))))))))))))))
    (refl, (refl, tt))

pub same_mark : (m n : Mark) → mark_text m ≡ mark_text n → m ≡ n
same_mark m n e = let f : Some m ≡ Some n = sym (decodes m) ∙ ap decoded e ∙ decodes n in cc

-- ---- the longest one

not_longer : (text : List ℕ) (m n : Mark) (r s : List ℕ) → IsMark text m r → IsMark text n s → length (mark_text n) ≤ length (mark_text m)
not_longer text m n r s is it = by_test (nat_lt (length (mark_text m)) (length (mark_text n))) refl
  where
    below : (a b : ℕ) → nat_lt a b ≡ true → a < b
    below a b e = grind (arith, nat_tests)

    above : (a b : ℕ) → nat_lt a b ≡ false → b ≤ a
    above a b e = grind (arith, nat_tests)

    by_test : (test : Bool) → nat_lt (length (mark_text m)) (length (mark_text n)) ≡ test → length (mark_text n) ≤ length (mark_text m)
    by_test true e = absurd (is.longest n (below (length (mark_text m)) (length (mark_text n)) e) (s, it.text_is))
    by_test false e = above (length (mark_text m)) (length (mark_text n)) e

pub mark_once : (text : List ℕ) (m n : Mark) (r s : List ℕ) → IsMark text m r → IsMark text n s → (m ≡ n) × (r ≡ s)
mark_once text m n r s is it =
    let size : length (mark_text m) ≡ length (mark_text n) = omega (arith, not_longer text m n r s is it, not_longer text n m s r it is) in
    let front : mark_text m ≡ take (length (mark_text m)) text = sym (ap (take (length (mark_text m))) is.text_is ∙ take-append_seam (mark_text m) r) in
    let other : mark_text n ≡ take (length (mark_text n)) text = sym (ap (take (length (mark_text n))) it.text_is ∙ take-append_seam (mark_text n) s) in
    let behind : r ≡ drop (length (mark_text m)) text = sym (ap (drop (length (mark_text m))) is.text_is ∙ drop-append_seam (mark_text m) r) in
    let rest : s ≡ drop (length (mark_text n)) text = sym (ap (drop (length (mark_text n))) it.text_is ∙ drop-append_seam (mark_text n) s) in
    (same_mark m n (front ∙ ap (λ (x : ℕ). take x text) size ∙ sym other), behind ∙ ap (λ (x : ℕ). drop x text) size ∙ sym rest)

-- ---- the first byte of punctuators

-- the punctuator of this one byte
abbrev pub of_byte : ℕ → Option Mark
of_byte b = find (λ m. begins_with (mark_text m) (b ∷ [])) one

abbrev pub is_there : Option Mark → Bool
is_there None = false
is_there (Some m) = true

-- a punctuator begins with this byte
abbrev pub starts_mark : ℕ → Bool
starts_mark b = is_there (of_byte b)

abbrev first_byte : List ℕ → ℕ
first_byte [] = 0
first_byte (b ∷ bs) = b

all_start : (m : Mark) → starts_mark (first_byte (mark_text m)) ≡ true
all_start = every (λ m. starts_mark (first_byte (mark_text m)) ≡ true)
    (refl, (refl, (refl, (refl, (refl, (refl, (refl, (refl, (refl, (refl, (refl, (refl, (refl, (refl, (refl, (refl, (refl, (refl, (refl, (refl, (refl, (refl, (refl, (refl, tt))))))))))))))))))))))))
    (refl, (refl, (refl, (refl, (refl, (refl, (refl, (refl, (refl, (refl, (refl, (refl, (refl, (refl, (refl, (refl, (refl, (refl, (refl, tt)))))))))))))))))))
    (refl, (refl, tt))

pub starts_mark-complete : (b : ℕ) → StartsMark b → starts_mark b ≡ true
starts_mark-complete b (m, (rest, e)) = sym (ap (λ (x : List ℕ). starts_mark (first_byte x)) e) ∙ all_start m

one_size : AllByRecursion (λ m. length (mark_text m) ≡ 1) one
one_size = (refl, (refl, (refl, (refl, (refl, (refl, (refl, (refl, (refl, (refl, (refl, (refl, (refl, (refl, (refl, (refl, (refl, (refl, (refl, (refl, (refl, (refl, (refl, (refl, tt))))))))))))))))))))))))

of_byte-text : (b : ℕ) (m : Mark) → Some m ≡ of_byte b → mark_text m ≡ b ∷ []
of_byte-text b m e =
    let test : Mark → Bool = λ m. begins_with (mark_text m) (b ∷ []) in
    let size : length (mark_text m) ≡ 1 = found_all (λ m. length (mark_text m) ≡ 1) test one m one_size e in
    (bytes_eq-Decides (mark_text m) (take (length (mark_text m)) (b ∷ []))).0 (passes test one m e)
    ∙ ap (λ (x : ℕ). take x (b ∷ [])) size

-- the punctuator of one byte that a byte begins
pub record OneByte (b : ℕ) : Type 0 where
  pub mark : Mark
  pub text_is : mark_text mark ≡ b ∷ []

pub starts_mark-sound : (b : ℕ) → starts_mark b ≡ true → OneByte b
starts_mark-sound b e = by_find (of_byte b) refl e
  where
    by_find : (o : Option Mark) → o ≡ of_byte b → is_there o ≡ true → OneByte b
    by_find None f g = absurd cc
    by_find (Some m) f g = record { mark = m; text_is = of_byte-text b m f }

pub one_starts : (b : ℕ) → OneByte b → StartsMark b
one_starts b o = (o.mark, ([], o.text_is))

-- ---- a punctuator begins there

pub record HasMark (text : List ℕ) : Type 0 where
  pub mark : Mark
  pub rest : List ℕ
  pub is : IsMark text mark rest

none_begins : (text : List ℕ) → None ≡ find (λ m. begins_with (mark_text m) text) three
    → None ≡ find (λ m. begins_with (mark_text m) text) two → None ≡ find (λ m. begins_with (mark_text m) text) one
    → (m : Mark) → begins_with (mark_text m) text ≡ false
none_begins text e f g m =
    every (λ m. begins_with (mark_text m) text ≡ false) (none_passes (λ m. begins_with (mark_text m) text) one g)
    (none_passes (λ m. begins_with (mark_text m) text) two f) (none_passes (λ m. begins_with (mark_text m) text) three e) m

mark_in : (text : List ℕ) (m : Mark) → BeginsWith (mark_text m) text → (BeginsWith (codes "/*") text → ⊥) → (BeginsWith (codes "//") text → ⊥)
    → HasMark text
mark_in text m begins no_block no_line =
    by_three (find (λ m. begins_with (mark_text m) text) three) refl
  where
    by_one : (o : Option Mark) → o ≡ find (λ m. begins_with (mark_text m) text) one
        → None ≡ find (λ m. begins_with (mark_text m) text) three → None ≡ find (λ m. begins_with (mark_text m) text) two → HasMark text
    by_one None e f g = absurd (begins_not (mark_text m) text (none_begins text f g e m) begins)
    by_one (Some n) e f g = record { mark = n; rest = _; is = mark_of_one text n f g e no_block no_line }

    by_two : (o : Option Mark) → o ≡ find (λ m. begins_with (mark_text m) text) two → None ≡ find (λ m. begins_with (mark_text m) text) three
        → HasMark text
    by_two None e f = by_one (find (λ m. begins_with (mark_text m) text) one) refl f e
    by_two (Some n) e f = record { mark = n; rest = _; is = mark_of_two text n f e no_block no_line }

    by_three : (o : Option Mark) → o ≡ find (λ m. begins_with (mark_text m) text) three → HasMark text
    by_three None e = by_two (find (λ m. begins_with (mark_text m) text) two) refl e
    by_three (Some n) e = record { mark = n; rest = _; is = mark_of_three text n e no_block no_line }

pub mark_there : (b : ℕ) (bs : List ℕ) → OneByte b → (BeginsWith (codes "/*") (b ∷ bs) → ⊥) → (BeginsWith (codes "//") (b ∷ bs) → ⊥)
    → HasMark (b ∷ bs)
mark_there b bs o no_block no_line =
    mark_in (b ∷ bs) o.mark (bs, ap (λ (x : List ℕ). x ++ bs) (sym o.text_is)) no_block no_line
