-- The kinds of text by the first byte.
use Rattle.std.proofs.Common.{◌≡◌, ◌≢◌, ℕ, ◌⊎◌, ◌≤◌, Bool, true, false, cond, eqb, List, [], ◌∷◌, ◌++◌, refl, sym, ap, subst, ◌∙◌, arith, IsTrue, inl, inr}
use Rattle.std.specs.Prelude.{codes}
use Rattle.std.specs.List.{AllByRecursion}
use Rattle.std.proofs.lemmas.Bool.{eqb-true}
use Rattle.std.proofs.lemmas.Bool.Decides.{nat_tests}
use Rattle.c_lex.specs.declared.token.Mark.{Mark}
use Rattle.c_lex.specs.declared.numbers.Notation.{Notation}
use Rattle.c_lex.specs.declared.numbers.Notation.TheVariants.{Decimal, Octal, Hexadecimal}
use Rattle.c_lex.specs.Blanks.{is_blank}
use Rattle.c_lex.specs.Words.{starts_word, mark_text, IsWord, IsMark}
use Rattle.c_lex.specs.Literals.{is_digit, is_run_digit, Begins, IsRun}
use Rattle.c_lex.proofs.DigitLaws.{chosen_true, chosen_false}
use Rattle.c_lex.proofs.CloseQuoteLaws.{apart}
use Rattle.c_lex.proofs.MarkLaws.{every}
use Rattle.c_lex.proofs.MarkFronts.{starts_mark}

pub data Kind : Type 0 where
  Ended : Kind
  Feed : Kind
  Blank : Kind
  Backslash : Kind
  Slash : Kind
  Letter : Kind
  Digit : Kind
  Double : Kind
  Single : Kind
  Marked : Kind
  Other : Kind

abbrev pub kind_of : ℕ → Kind
kind_of b =
    cond (is_blank b) Blank
    (cond (starts_word b) Letter
    (cond (is_digit 10 b) Digit
    (cond (eqb b 10) Feed
    (cond (eqb b 34) Double
    (cond (eqb b 39) Single
    (cond (eqb b 92) Backslash
    (cond (eqb b 47) Slash
    (cond (starts_mark b) Marked Other))))))))

abbrev pub kind : List ℕ → Kind
kind [] = Ended
kind (b ∷ bs) = kind_of b

-- ---- what a kind tells of the byte

-- a byte that nothing begins with
pub record BeginsNothing (b : ℕ) : Type 0 where
  pub no_blank : is_blank b ≡ false
  pub no_word : starts_word b ≡ false
  pub no_digit : is_digit 10 b ≡ false
  pub no_feed : b ≢ 10
  pub no_double : b ≢ 34
  pub no_single : b ≢ 39
  pub no_backslash : b ≢ 92
  pub no_slash : b ≢ 47
  pub no_mark : starts_mark b ≡ false

abbrev pub Tells : Kind → ℕ → Type 0
Tells Ended b = ⊥
Tells Feed b = b ≡ 10
Tells Blank b = is_blank b ≡ true
Tells Backslash b = b ≡ 92
Tells Slash b = b ≡ 47
Tells Letter b = starts_word b ≡ true
Tells Digit b = is_digit 10 b ≡ true
Tells Double b = b ≡ 34
Tells Single b = b ≡ 39
Tells Marked b = starts_mark b ≡ true
Tells Other b = BeginsNothing b

either : (b : ℕ) (test t : Bool) (x y : Kind) → test ≡ t → (test ≡ true → Tells x b) → (test ≡ false → Tells y b) → Tells (cond t x y) b
either b test true x y e f g = f e
either b test false x y e f g = g e

pub tells : (b : ℕ) → Tells (kind_of b) b
tells b =
    either b (is_blank b) (is_blank b) Blank _ refl (λ e. e) (λ n1.
    either b (starts_word b) (starts_word b) Letter _ refl (λ e. e) (λ n2.
    either b (is_digit 10 b) (is_digit 10 b) Digit _ refl (λ e. e) (λ n3.
    either b (eqb b 10) (eqb b 10) Feed _ refl (λ e. eqb-true b 10 e) (λ n4.
    either b (eqb b 34) (eqb b 34) Double _ refl (λ e. eqb-true b 34 e) (λ n5.
    either b (eqb b 39) (eqb b 39) Single _ refl (λ e. eqb-true b 39 e) (λ n6.
    either b (eqb b 92) (eqb b 92) Backslash _ refl (λ e. eqb-true b 92 e) (λ n7.
    either b (eqb b 47) (eqb b 47) Slash _ refl (λ e. eqb-true b 47 e) (λ n8.
    either b (starts_mark b) (starts_mark b) Marked Other refl (λ e. e) (λ n9.
    record {
      no_blank = n1;
      no_word = n2;
      no_digit = n3;
      no_feed = apart b 10 n4;
      no_double = apart b 34 n5;
      no_single = apart b 39 n6;
      no_backslash = apart b 92 n7;
      no_slash = apart b 47 n8;
      no_mark = n9;
    })))))))))

pub tells_of : (b : ℕ) (k : Kind) → kind_of b ≡ k → Tells k b
tells_of b k e = let P : Kind → Type 0 = λ x. Tells x b in subst P e (tells b)

-- ---- the kind of a byte

pub blank_kind : (b : ℕ) → is_blank b ≡ true → kind_of b ≡ Blank
blank_kind b e = chosen_true (is_blank b) Blank _ e

word_no_blank : (b : ℕ) → starts_word b ≡ true → is_blank b ≡ false
word_no_blank b e = grind (arith, nat_tests)

pub letter_kind : (b : ℕ) → starts_word b ≡ true → kind_of b ≡ Letter
letter_kind b e = chosen_false (is_blank b) Blank _ (word_no_blank b e) ∙ chosen_true (starts_word b) Letter _ e

ten_low : (b : ℕ) → is_digit 10 b ≡ true → 48 ≤ b
ten_low b e = grind (arith, nat_tests)

ten_high : (b : ℕ) → is_digit 10 b ≡ true → b ≤ 57
ten_high b e = grind (arith, nat_tests)

no_blank_between : (b : ℕ) → 48 ≤ b → is_blank b ≡ false
no_blank_between b low = grind (arith, nat_tests)

no_word_between : (b : ℕ) → 48 ≤ b → b ≤ 57 → starts_word b ≡ false
no_word_between b low high = grind (arith, nat_tests)

pub digit_kind : (b : ℕ) → is_digit 10 b ≡ true → kind_of b ≡ Digit
digit_kind b e =
    let low = ten_low b e in
    let high = ten_high b e in
    chosen_false (is_blank b) Blank _ (no_blank_between b low) ∙ chosen_false (starts_word b) Letter _ (no_word_between b low high)
    ∙ chosen_true (is_digit 10 b) Digit _ e

-- ---- the kind of a text

pub word_kind : (text word rest : List ℕ) → IsWord text word rest → kind text ≡ Letter
word_kind text [] rest w = absurd w.starts
word_kind text (b ∷ bs) rest w = ap kind w.text_is ∙ letter_kind b w.starts

from_zero : (text digits rest : List ℕ) → text ≡ 48 ∷ digits ++ rest → kind text ≡ Digit
from_zero text digits rest e = ap kind e

hexadecimal_kind : (text prefix digits rest : List ℕ) → text ≡ prefix ++ digits ++ rest → (prefix ≡ codes "0x") ⊎ (prefix ≡ codes "0X")
    → kind text ≡ Digit
hexadecimal_kind text prefix digits rest e (inl f) = ap kind (e ∙ ap (λ (x : List ℕ). x ++ digits ++ rest) f)
hexadecimal_kind text prefix digits rest e (inr f) = ap kind (e ∙ ap (λ (x : List ℕ). x ++ digits ++ rest) f)

decimal_kind : (text digits rest : List ℕ) → text ≡ digits ++ rest → digits ≢ [] → AllByRecursion (λ b. IsTrue (is_digit 10 b)) digits
    → kind text ≡ Digit
decimal_kind text [] rest e some all = absurd (some refl)
decimal_kind text (b ∷ bs) rest e some all = ap kind e ∙ digit_kind b all.0

octal_kind : (text digits more rest : List ℕ) → text ≡ digits ++ rest → digits ≡ 48 ∷ more → kind text ≡ Digit
octal_kind text digits more rest e f = ap kind (e ∙ ap (λ (x : List ℕ). x ++ rest) f)

no_prefix : (text prefix digits rest : List ℕ) → text ≡ prefix ++ digits ++ rest → prefix ≡ [] → text ≡ digits ++ rest
no_prefix text prefix digits rest e f = e ∙ ap (λ (x : List ℕ). x ++ digits ++ rest) f

run_by : (notation : Notation) (text prefix digits rest : List ℕ) → text ≡ prefix ++ digits ++ rest → Begins notation text prefix digits
    → AllByRecursion (λ b. IsTrue (is_run_digit notation b)) digits → kind text ≡ Digit
run_by Hexadecimal text prefix digits rest e (begins, some) all = hexadecimal_kind text prefix digits rest e begins
run_by Octal text prefix digits rest e (none, (more, f), apart_of) all =
    octal_kind text digits more rest (no_prefix text prefix digits rest e none) f
run_by Decimal text prefix digits rest e (none, some, differ) all =
    decimal_kind text digits rest (no_prefix text prefix digits rest e none) some all

pub run_kind : (text : List ℕ) (notation : Notation) (digits rest : List ℕ) → IsRun text notation digits rest → kind text ≡ Digit
run_kind text notation digits rest r = run_by notation text r.prefix digits rest r.text_is r.begins r.all

abbrev pub IsMarkKind : List ℕ → Type 0
IsMarkKind text = (kind text ≡ Slash) ⊎ (kind text ≡ Marked)

pub mark_kinds : (m : Mark) → IsMarkKind (mark_text m)
mark_kinds = every (λ m. IsMarkKind (mark_text m))
    (inr refl, (inr refl, (inr refl, (inr refl, (inr refl, (inr refl, (inr refl, (inr refl, (inr refl, (inr refl, (inr refl, (inr refl, (inr refl, (inr refl, (inr refl, (inr refl, (inr refl, (inr refl, (inr refl, (inr refl, (inl refl, (inr refl, (inr refl, (inr refl, tt))))))))))))))))))))))))
    (inr refl, (inr refl, (inr refl, (inr refl, (inl refl, (inr refl, (inr refl, (inr refl, (inr refl, (inr refl, (inr refl, (inr refl, (inr refl, (inr refl, (inr refl, (inr refl, (inr refl, (inr refl, (inr refl, tt)))))))))))))))))))
    (inr refl, (inr refl, tt))

same_kind : (front rest : List ℕ) → IsMarkKind front → IsMarkKind (front ++ rest)
same_kind [] rest (inl e) = absurd cc
same_kind [] rest (inr e) = absurd cc
same_kind (b ∷ bs) rest s = s

pub mark_kind : (text : List ℕ) (m : Mark) (rest : List ℕ) → IsMark text m rest → (kind text ≡ Slash) ⊎ (kind text ≡ Marked)
mark_kind text m rest is =
    let P : List ℕ → Type 0 = λ x. IsMarkKind x in
    subst P (sym is.text_is) (same_kind (mark_text m) rest (mark_kinds m))
