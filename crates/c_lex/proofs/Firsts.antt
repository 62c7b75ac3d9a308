-- Which byte a gap, a token or a fault begins with.
use Rattle.std.proofs.Common.{◌≡◌, ℕ, ◌||◌, Bool, true, eqb, List, [], ◌∷◌, ◌++◌, refl, sym, ap, subst, ◌∙◌, arith, inl, inr}
use Rattle.std.proofs.lemmas.Bool.{and_parts}
use Rattle.std.proofs.lemmas.Bool.Decides.{nat_tests}
use Rattle.std.specs.Prelude.{IsTrue, not, ◌==◌}
use Rattle.c_lex.specs.declared.token.Mark.{Mark}
use Rattle.c_lex.specs.declared.token.Mark.TheVariants as mark
use Rattle.c_lex.specs.declared.numbers.Notation.{Notation}
use Rattle.c_lex.specs.declared.numbers.Notation.TheVariants.{Decimal, Octal, Hexadecimal}
use Rattle.c_lex.specs.Blanks.{First, IsGap, blank, joined, joined_cr, block, line, IsOpenComment, is_blank}
use Rattle.c_lex.specs.Words.{starts_word, mark_text, IsWord, IsMark}
use Rattle.c_lex.specs.Literals.{is_digit, IsRun, begins_fraction}

pub begins : (p : ℕ → Bool) (text front rest : List ℕ) → First p front → text ≡ front ++ rest → First p text
begins p text [] rest f e = absurd f
begins p text (b ∷ bs) rest f e = subst (First p) (sym e) f

-- two classes of bytes that have none in common
pub clash : (p q : ℕ → Bool) → ((b : ℕ) → IsTrue (p b) → IsTrue (q b) → ⊥) → (text : List ℕ) → First p text → First q text → ⊥
clash p q apart [] f g = f
clash p q apart (b ∷ bs) f g = apart b f g

-- the first byte is this one
abbrev pub is_byte : ℕ → ℕ → Bool
is_byte a b = b == a

pub first_is : (a : ℕ) (text rest : List ℕ) → text ≡ a ∷ rest → First (is_byte a) text
first_is a text rest e = subst (First (is_byte a)) (sym e) (grind (arith, nat_tests))

-- ---- classes

abbrev pub is_gap_byte : ℕ → Bool
is_gap_byte b = is_blank b || (b == 92 || b == 47)

pub gap-first : (text rest : List ℕ) → IsGap text rest → First is_gap_byte text
gap-first text rest (blank b y e) = subst (First is_gap_byte) (sym e) (grind (arith, nat_tests, y))
gap-first text rest (joined e) = subst (First is_gap_byte) (sym e) refl
gap-first text rest (joined_cr e) = subst (First is_gap_byte) (sym e) refl
gap-first text rest (block body none e) = subst (First is_gap_byte) (sym e) refl
gap-first text rest (line body one ends unjoined e) = subst (First is_gap_byte) (sym e) refl

pub comment-first : (text : List ℕ) → IsOpenComment text → First is_gap_byte text
comment-first text o = subst (First is_gap_byte) (sym o.2) refl

abbrev pub is_mark_byte : ℕ → Bool
is_mark_byte b = not (starts_word b || (is_digit 10 b || (b == 34 || (b == 39 || (b == 10 || is_blank b)))))

mark_text-first : (m : Mark) → First is_mark_byte (mark_text m)
mark_text-first mark.OpenParen = refl
mark_text-first mark.CloseParen = refl
mark_text-first mark.OpenBracket = refl
mark_text-first mark.CloseBracket = refl
mark_text-first mark.OpenBrace = refl
mark_text-first mark.CloseBrace = refl
mark_text-first mark.Semicolon = refl
mark_text-first mark.Comma = refl
mark_text-first mark.Colon = refl
mark_text-first mark.Question = refl
mark_text-first mark.Dot = refl
mark_text-first mark.Arrow = refl
mark_text-first mark.Assign = refl
mark_text-first mark.PlusAssign = refl
mark_text-first mark.MinusAssign = refl
mark_text-first mark.StarAssign = refl
mark_text-first mark.SlashAssign = refl
mark_text-first mark.PercentAssign = refl
mark_text-first mark.AmpersandAssign = refl
mark_text-first mark.CaretAssign = refl
mark_text-first mark.BarAssign = refl
mark_text-first mark.ShiftLeftAssign = refl
mark_text-first mark.ShiftRightAssign = refl
mark_text-first mark.OrOr = refl
mark_text-first mark.AndAnd = refl
mark_text-first mark.Bar = refl
mark_text-first mark.Caret = refl
mark_text-first mark.Ampersand = refl
mark_text-first mark.Equal = refl
mark_text-first mark.NotEqual = refl
mark_text-first mark.Less = refl
mark_text-first mark.Greater = refl
mark_text-first mark.AtMost = refl
mark_text-first mark.AtLeast = refl
mark_text-first mark.ShiftLeft = refl
mark_text-first mark.ShiftRight = refl
mark_text-first mark.Plus = refl
mark_text-first mark.Minus = refl
mark_text-first mark.Star = refl
mark_text-first mark.Slash = refl
mark_text-first mark.Percent = refl
mark_text-first mark.PlusPlus = refl
mark_text-first mark.MinusMinus = refl
mark_text-first mark.Tilde = refl
mark_text-first mark.Bang = refl

pub mark-first : (text : List ℕ) (m : Mark) (rest : List ℕ) → IsMark text m rest → First is_mark_byte text
mark-first text m rest i = begins is_mark_byte text (mark_text m) rest (mark_text-first m) i.text_is

pub word-first : (text word rest : List ℕ) → IsWord text word rest → First starts_word text
word-first text word rest i = begins starts_word text word rest i.starts i.text_is

abbrev pub is_decimal_digit : ℕ → Bool
is_decimal_digit b = is_digit 10 b

pub run-first : (text : List ℕ) (n : Notation) (digits rest : List ℕ) → IsRun text n digits rest → First is_decimal_digit text
run-first text Hexadecimal digits rest i = elim i.begins.0 [
  | inl e ↦ subst (First is_decimal_digit) (sym (i.text_is ∙ ap (λ (x : List ℕ). x ++ digits ++ rest) e)) refl
  | inr e ↦ subst (First is_decimal_digit) (sym (i.text_is ∙ ap (λ (x : List ℕ). x ++ digits ++ rest) e)) refl
]
run-first text Octal digits rest i =
    let e : text ≡ 48 ∷ i.begins.1.0 ++ rest = i.text_is ∙ ap (λ (x : List ℕ). x ++ digits ++ rest) i.begins.0 ∙ ap (λ (x : List ℕ). x ++ rest) i.begins.1.1 in
    subst (First is_decimal_digit) (sym e) refl
run-first text Decimal [] rest i = absurd (i.begins.1 refl)
run-first text Decimal (d ∷ ds) rest i =
    let e : text ≡ d ∷ ds ++ rest = i.text_is ∙ ap (λ (x : List ℕ). x ++ d ∷ ds ++ rest) i.begins.0 in
    subst (First is_decimal_digit) (sym e) i.all.0

pub fraction-first : (text : List ℕ) → begins_fraction text ≡ true → First (is_byte 46) text
fraction-first [] e = absurd cc
fraction-first (a ∷ []) e = absurd cc
fraction-first (a ∷ b ∷ bs) e = (and_parts (eqb a 46) (is_digit 10 b) e).0
