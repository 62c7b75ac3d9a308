-- What begins no word, number or literal, as the code reads it.
use Rattle.std.proofs.Common.{◌≡◌, ◌≢◌, ℕ, ◌||◌, Bool, true, false, eqb, List, [], ◌∷◌, ◌++◌, length, take, drop, Some, None, refl, sym, ap, subst, ◌∙◌, arith}
use Rattle.std.specs.Prelude.{codes, not}
use Rattle.std.proofs.lemmas.Bool.Decides.{nat_tests}
use Rattle.std.proofs.lemmas.Slice.Eq.{bytes_eq-Decides}
use Rattle.std.proofs.lemmas.List.{take-append-drop}
use Rattle.c_lex.specs.declared.token.Mark.{Mark}
use Rattle.c_lex.specs.declared.token.TokenKind.TheVariants as kind
use Rattle.c_lex.specs.declared.lexeme.Lexeme.{Lexeme}
use Rattle.c_lex.specs.Blanks.{First, BeginsWith}
use Rattle.c_lex.specs.Words.{starts_word, IsMark}
use Rattle.c_lex.specs.Literals.{is_digit, begins_fraction}
use Rattle.c_lex.specs.Lexemes.{IsLexeme, mark}
use Rattle.c_lex.specs.Faults.{BadByte, Unclosed, IsBadToken, byte, open_comment}
use Rattle.c_lex.specs.Reading.{after_gap, from_line_end, begins_with, is_other_byte}
use Rattle.c_lex.proofs.GapComplete.{no_gap, reads_line}
use Rattle.c_lex.proofs.GapComplete.{open_comment as opens_comment}
use Rattle.c_lex.proofs.MarkLaws.{begins_not}
use Rattle.c_lex.proofs.MarkFronts.{starts_mark, starts_mark-sound, mark_there}
use Rattle.c_lex.proofs.FrontLaws.{starts_none}

begins-sound : (bytes text : List ℕ) → begins_with bytes text ≡ true → BeginsWith bytes text
begins-sound bytes text e =
    let n = length bytes in
    let same : bytes ≡ take n text = (bytes_eq-Decides bytes (take n text)).0 e in
    (drop n text, sym (take-append-drop n text) ∙ ap (λ (x : List ℕ). x ++ drop n text) (sym same))

pub comment_open : (text : List ℕ) → None ≡ after_gap text → true ≡ begins_with (codes "/*") text → IsBadToken text Unclosed 0
comment_open text none e =
    let begins = begins-sound (codes "/*") text (sym e) in
    open_comment (opens_comment text begins.0 begins.1 (sym none)) refl refl

line_is_read : (text : List ℕ) → after_gap text ≡ None → BeginsWith (codes "//") text → ⊥
line_is_read text none (t, e) =
    let reads : after_gap text ≡ Some (from_line_end t) = ap after_gap e ∙ reads_line t in absurd cc

-- ---- a byte that begins nothing

none_of : (a b c d e : Bool) → not (a || (b || (c || (d || e)))) ≡ true
    → (a ≡ false) × (b ≡ false) × (c ≡ false) × (d ≡ false) × (e ≡ false)
none_of false false false false false f = (refl, refl, refl, refl, refl)
none_of true b c d e f = absurd cc
none_of false true c d e f = absurd cc
none_of false false true d e f = absurd cc
none_of false false false true e f = absurd cc
none_of false false false false true f = absurd cc

differs : (b x : ℕ) → eqb b x ≡ false → b ≢ x
differs b x e = λ f. grind (arith, nat_tests)

bad_by : (b : ℕ) (bs : List ℕ) (test : Bool) → starts_mark b ≡ test → is_other_byte b ≡ true → after_gap (b ∷ bs) ≡ None
    → (BeginsWith (codes "/*") (b ∷ bs) → ⊥) → ((m : Mark) (rest : List ℕ) → IsMark (b ∷ bs) m rest → ⊥) → IsBadToken (b ∷ bs) BadByte 0
bad_by b bs true e other none no_block no_mark =
    let found = mark_there b bs (starts_mark-sound b e) no_block (line_is_read (b ∷ bs) none) in
    absurd (no_mark found.mark found.rest found.is)
bad_by b bs false e other none no_block no_mark =
    let parts = none_of (starts_word b) (is_digit 10 b) (eqb b 10) (eqb b 34) (eqb b 39) other in
    byte b bs refl (starts_none b parts.0 parts.1 (differs b 34 parts.3) (differs b 39 parts.4) e) (no_gap (b ∷ bs) none)
    (differs b 10 parts.2) refl refl

pub bad_other : (text : List ℕ) → First is_other_byte text → None ≡ after_gap text → false ≡ begins_with (codes "/*") text
    → ((m : Mark) (rest : List ℕ) → IsMark text m rest → ⊥) → IsBadToken text BadByte 0
bad_other [] other none no_block no_mark = absurd other
bad_other (b ∷ bs) other none no_block no_mark =
    bad_by b bs (starts_mark b) refl other (sym none) (begins_not (codes "/*") (b ∷ bs) (sym no_block)) no_mark

-- ---- punctuators

abbrev pub mark_of : Mark → List ℕ → Lexeme
mark_of m text = record { kind = kind.Mark m; value = 0; text = text }

pub mark_lexeme : (text : List ℕ) (m : Mark) (rest bytes behind : List ℕ) → IsMark text m rest → behind ≡ rest → bytes ≡ []
    → false ≡ begins_fraction text → IsLexeme text (mark_of m bytes) behind
mark_lexeme text m rest bytes behind is same nothing none =
    let P : List ℕ → Type 0 = λ x. IsMark text m x in
    mark m (subst P (sym same) is) (sym none) (ap (λ (x : List ℕ). mark_of m x) nothing)
