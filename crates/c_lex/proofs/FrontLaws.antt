-- Just one thing stands at the front of a text, by the kind of its first byte.
use Rattle.std.proofs.Common.{◌≡◌, ◌≢◌, ℕ, ◌+◌, ◌⊎◌, Bool, true, false, eqb, List, [], ◌∷◌, ◌++◌, Option, Some, None, append_assoc, refl, sym, ap, subst, ◌∙◌, inl, inr}
use Rattle.std.specs.Prelude.{codes}
use Rattle.std.proofs.lemmas.Bool.{eqb-true, and_parts}
use Rattle.c_lex.specs.declared.token.Mark.{Mark}
use Rattle.c_lex.specs.declared.lexeme.Lexeme.{Lexeme}
use Rattle.c_lex.specs.declared.fronts.Seen.TheVariants as seen
use Rattle.c_lex.specs.declared.numbers.Notation.TheVariants.{Octal}
use Rattle.c_lex.specs.Blanks.{BeginsWith, First, IsGap, blank, joined, joined_cr, block, line, IsOpenComment}
use Rattle.c_lex.specs.Words.{starts_word, IsMark}
use Rattle.c_lex.specs.Literals.{is_digit, begins_fraction, IsClosed}
use Rattle.c_lex.specs.Lexemes.{IsLexeme, keyword, name, number, character, string, mark, mark_token}
use Rattle.c_lex.specs.Faults.{Cause, BadByte, FloatLiteral, Unclosed, StartsToken, IsBadToken, byte, open_comment, out_word, float, fraction, octal, wide, open_literal, string as bad_string, character as bad_character}
use Rattle.c_lex.specs.Reading.{after_gap, from_line_end}
use Rattle.c_lex.specs.Fronts.{Front, Right, Wrong, IsFront, HasFront, IsOneFront}
use Rattle.c_lex.proofs.GapComplete.{gap_once, reads_line, open_comment-no_gap, no_gap}
use Rattle.c_lex.proofs.GapComplete.{open_comment as opens_comment}
use Rattle.c_lex.proofs.GapSound.{after_gap-sound}
use Rattle.c_lex.proofs.LiteralFronts.{StringFront, CharacterFront, told, unclosed, bad, one as one_character, open_one, bad_one, string_once, is_string, string_some, character_front_once, is_character, character_some}
use Rattle.c_lex.proofs.CloseQuoteLaws.{apart}
use Rattle.c_lex.proofs.MarkFronts.{starts_mark, HasMark, mark_once, mark_there, starts_mark-sound, starts_mark-complete, one_starts}
use Rattle.c_lex.proofs.ByteKinds.{Kind, Ended, Feed, Blank, Backslash, Slash, Letter, Digit, Double, Single, Marked, Other, kind_of, kind, BeginsNothing, tells_of, blank_kind, word_kind, run_kind, mark_kind}

-- ---- what a text of a kind has at its front

abbrev HasGap : List ℕ → Front → Type 0
HasGap text a = (rest : List ℕ) × IsGap text rest × (a ≡ Right seen.Gap rest)

abbrev HasOpenComment : List ℕ → Front → Type 0
HasOpenComment text a = IsOpenComment text × (a ≡ Wrong Unclosed 0)

abbrev HasMarkToken : List ℕ → Front → Type 0
HasMarkToken text a = (m : Mark) × (rest : List ℕ) × IsMark text m rest × (begins_fraction text ≡ false) × (a ≡ Right (seen.Token (mark_token m)) rest)

abbrev HasBadByte : List ℕ → Front → Type 0
HasBadByte text a = ((rest : List ℕ) → IsGap text rest → ⊥) × (a ≡ Wrong BadByte 0)

abbrev HasFraction : List ℕ → Front → Type 0
HasFraction text a = (begins_fraction text ≡ true) × (a ≡ Wrong FloatLiteral 0)

abbrev Fact : Kind → List ℕ → Front → Type 0
Fact Ended text a = (text ≡ []) × (a ≡ Right seen.End [])
Fact Feed text a = (bs : List ℕ) × (text ≡ 10 ∷ bs) × (a ≡ Right seen.LineEnd bs)
Fact Blank text a = HasGap text a
Fact Backslash text a = HasGap text a ⊎ HasBadByte text a
Fact Slash text a = HasGap text a ⊎ (HasOpenComment text a ⊎ HasMarkToken text a)
Fact Letter text a = Unit {0}
Fact Digit text a = Unit {0}
Fact Double text a = (body : List ℕ) × (text ≡ 34 ∷ body) × StringFront body a
Fact Single text a = (body : List ℕ) × (text ≡ 39 ∷ body) × CharacterFront body a
Fact Marked text a = HasFraction text a ⊎ HasMarkToken text a
Fact Other text a = a ≡ Wrong BadByte 0

at_kind : (k : Kind) (text : List ℕ) (a : Front) → kind text ≡ k → Fact k text a → Fact (kind text) text a
at_kind k text a e f = let P : Kind → Type 0 = λ x. Fact x text a in subst P (sym e) f

-- ---- each front is one of its kind

gap_facts : (text rest : List ℕ) → IsGap text rest → Fact (kind text) text (Right seen.Gap rest)
gap_facts text rest (blank b is e) = at_kind Blank text (Right seen.Gap rest) (ap kind e ∙ blank_kind b is) (rest, blank b is e, refl)
gap_facts text rest (joined e) = at_kind Backslash text (Right seen.Gap rest) (ap kind e) (inl (rest, joined e, refl))
gap_facts text rest (joined_cr e) = at_kind Backslash text (Right seen.Gap rest) (ap kind e) (inl (rest, joined_cr e, refl))
gap_facts text rest (block body none e) = at_kind Slash text (Right seen.Gap rest) (ap kind e) (inl (rest, block body none e, refl))
gap_facts text rest (line body one ends unjoined e) =
    at_kind Slash text (Right seen.Gap rest) (ap kind e) (inl (rest, line body one ends unjoined e, refl))

fraction_kind : (text : List ℕ) → begins_fraction text ≡ true → kind text ≡ Marked
fraction_kind [] e = absurd cc
fraction_kind (a ∷ []) e = absurd cc
fraction_kind (a ∷ b ∷ bs) e =
    let both = and_parts (eqb a 46) (is_digit 10 b) e in
    ap kind_of (eqb-true a 46 both.0)

mark_facts : (text : List ℕ) (m : Mark) (rest : List ℕ) (a : Front) → IsMark text m rest → begins_fraction text ≡ false
    → a ≡ Right (seen.Token (mark_token m)) rest → Fact (kind text) text a
mark_facts text m rest a is none e =
    elim (mark_kind text m rest is) [
      | inl k ↦ at_kind Slash text a k (inr (inr (m, rest, is, none, e)))
      | inr k ↦ at_kind Marked text a k (inr (m, rest, is, none, e))
    ]

lexeme_facts : (text : List ℕ) (l : Lexeme) (rest : List ℕ) → IsLexeme text l rest → Fact (kind text) text (Right (seen.Token l) rest)
lexeme_facts text l rest (keyword k w e) = at_kind Letter text (Right (seen.Token l) rest) (word_kind text _ rest w) tt
lexeme_facts text l rest (name word w n e) = at_kind Letter text (Right (seen.Token l) rest) (word_kind text word rest w) tt
lexeme_facts text l rest (number value t is e) =
    at_kind Digit text (Right (seen.Token l) rest) (run_kind text is.notation is.digits is.behind is.has_digits.run) tt
lexeme_facts text l rest (character b body is it e) =
    at_kind Single text (Right (seen.Token l) rest) (ap kind is)
    (body, is, one_character b rest it (ap (λ (x : Lexeme). Right (seen.Token x) rest) e))
lexeme_facts text l rest (string bytes body is it e) =
    at_kind Double text (Right (seen.Token l) rest) (ap kind is)
    (body, is, told bytes rest it (ap (λ (x : Lexeme). Right (seen.Token x) rest) e))
lexeme_facts text l rest (mark m is none e) =
    mark_facts text m rest (Right (seen.Token l) rest) is none (ap (λ (x : Lexeme). Right (seen.Token x) rest) e)

-- a byte that begins nothing is of one of two kinds
wrong_at : (cause other : Cause) (k n : ℕ) → cause ≡ other → k ≡ n → Wrong cause k ≡ Wrong other n
wrong_at cause other k n e f = ap (λ (x : Cause). Wrong x k) e ∙ ap (λ (x : ℕ). Wrong other x) f

byte_facts : (b : ℕ) (bs text : List ℕ) (a : Front) → text ≡ b ∷ bs → (StartsToken b → ⊥) → ((rest : List ℕ) → IsGap text rest → ⊥)
    → b ≢ 10 → a ≡ Wrong BadByte 0 → (k : Kind) → kind_of b ≡ k → Fact k text a
byte_facts b bs text a is none gap feed e Ended k = absurd (tells_of b Ended k)
byte_facts b bs text a is none gap feed e Feed k = absurd (feed (tells_of b Feed k))
byte_facts b bs text a is none gap feed e Blank k = absurd (gap bs (blank b (tells_of b Blank k) is))
byte_facts b bs text a is none gap feed e Backslash k = inr (gap, e)
byte_facts b bs text a is none gap feed e Slash k =
    let same : b ≡ 47 = tells_of b Slash k in
    absurd (none (inr (inr (inr (inr (one_starts b (starts_mark-sound b (ap starts_mark same))))))))
byte_facts b bs text a is none gap feed e Letter k = tt
byte_facts b bs text a is none gap feed e Digit k = tt
byte_facts b bs text a is none gap feed e Double k = absurd (none (inr (inr (inl (tells_of b Double k)))))
byte_facts b bs text a is none gap feed e Single k = absurd (none (inr (inr (inr (inl (tells_of b Single k))))))
byte_facts b bs text a is none gap feed e Marked k =
    absurd (none (inr (inr (inr (inr (one_starts b (starts_mark-sound b (tells_of b Marked k))))))))
byte_facts b bs text a is none gap feed e Other k = e

quote_facts : (quote : ℕ) (text body : List ℕ) (a : Front) → (quote ≡ 34) ⊎ (quote ≡ 39) → text ≡ quote ∷ body → (IsClosed quote body → ⊥)
    → a ≡ Wrong Unclosed 0 → Fact (kind text) text a
quote_facts quote text body a (inl q) is none e =
    let P : ℕ → Type 0 = λ x. IsClosed x body → ⊥ in
    let first : text ≡ 34 ∷ body = is ∙ ap (λ (x : ℕ). x ∷ body) q in
    at_kind Double text a (ap kind first) (body, first, unclosed (subst P q none) e)
quote_facts quote text body a (inr q) is none e =
    let P : ℕ → Type 0 = λ x. IsClosed x body → ⊥ in
    let first : text ≡ 39 ∷ body = is ∙ ap (λ (x : ℕ). x ∷ body) q in
    at_kind Single text a (ap kind first) (body, first, open_one (subst P q none) e)

bad_facts : (text : List ℕ) (cause : Cause) (k : ℕ) → IsBadToken text cause k → Fact (kind text) text (Wrong cause k)
bad_facts text cause k (byte b bs is none gap feed e f) =
    let a = Wrong cause k in
    at_kind (kind_of b) text a (ap kind is) (byte_facts b bs text a is none gap feed (wrong_at cause BadByte k 0 e f) (kind_of b) refl)
bad_facts text cause k (open_comment o e f) =
    at_kind Slash text (Wrong cause k) (ap kind o.2) (inr (inl (o, wrong_at cause Unclosed k 0 e f)))
bad_facts text cause k (out_word word rest before behind among w e f) = at_kind Letter text (Wrong cause k) (word_kind text word rest w) tt
bad_facts text cause k (float notation digits rest r s e f) =
    at_kind Digit text (Wrong cause k) (run_kind text notation digits rest r) tt
bad_facts text cause k (fraction is e f) =
    at_kind Marked text (Wrong cause k) (fraction_kind text is) (inl (is, wrong_at cause FloatLiteral k 0 e f))
bad_facts text cause k (octal front behind rest d r n all no_octal e f) =
    at_kind Digit text (Wrong cause k) (run_kind text Octal (front ++ d ∷ behind) rest r) tt
bad_facts text cause k (wide notation digits rest has w e f) =
    at_kind Digit text (Wrong cause k) (run_kind text notation digits rest has.run) tt
bad_facts text cause k (open_literal quote body q is none e f) =
    quote_facts quote text body (Wrong cause k) q is none (wrong_at cause Unclosed k 0 e f)
bad_facts text cause k (bad_string body n is closed it e f) =
    at_kind Double text (Wrong cause k) (ap kind is) (body, is, bad n closed it (wrong_at cause BadByte k (1 + n) e f))
bad_facts text cause k (bad_character body n is closed it e f) =
    at_kind Single text (Wrong cause k) (ap kind is) (body, is, bad_one n closed it (wrong_at cause BadByte k (1 + n) e f))

pub facts : (text : List ℕ) (a : Front) → IsFront text a → Fact (kind text) text a
facts text (Right seen.End rest) (e, f) =
    at_kind Ended text (Right seen.End rest) (ap kind e) (e, ap (λ (x : List ℕ). Right seen.End x) f)
facts text (Right seen.Gap rest) is = gap_facts text rest is
facts text (Right seen.LineEnd rest) e = at_kind Feed text (Right seen.LineEnd rest) (ap kind e) (rest, e, refl)
facts text (Right (seen.Token l) rest) is = lexeme_facts text l rest is
facts text (Wrong cause k) is = bad_facts text cause k is

-- ---- just one

gap_same : (text : List ℕ) (a b : Front) → HasGap text a → HasGap text b → a ≡ b
gap_same text a b (r, is, e) (s, it, f) = e ∙ ap (λ (x : List ℕ). Right seen.Gap x) (gap_once text r s is it) ∙ sym f

mark_same : (text : List ℕ) (a b : Front) → HasMarkToken text a → HasMarkToken text b → a ≡ b
mark_same text a b (m, r, is, none, e) (n, s, it, other, f) =
    let same = mark_once text m n r s is it in
    e ∙ ap (λ (x : Mark). Right (seen.Token (mark_token x)) r) same.0 ∙ ap (λ (x : List ℕ). Right (seen.Token (mark_token n)) x) same.1 ∙ sym f

-- where a comment begins, no punctuator does
open_no_mark : (text : List ℕ) (m : Mark) (rest : List ℕ) → IsOpenComment text → IsMark text m rest → ⊥
open_no_mark text m rest (body, none, e) is = is.no_block (body, e)

gap_no_mark : (text : List ℕ) (m : Mark) (r s : List ℕ) → kind text ≡ Slash → IsGap text r → IsMark text m s → ⊥
gap_no_mark text m r s k (blank b is e) it =
    let clash : Blank ≡ Slash = sym (ap kind e ∙ blank_kind b is) ∙ k in absurd cc
gap_no_mark text m r s k (joined e) it = let clash : Backslash ≡ Slash = sym (ap kind e) ∙ k in absurd cc
gap_no_mark text m r s k (joined_cr e) it = let clash : Backslash ≡ Slash = sym (ap kind e) ∙ k in absurd cc
gap_no_mark text m r s k (block body none e) it =
    it.no_block (body ++ 42 ∷ 47 ∷ r, e ∙ append_assoc (47 ∷ 42 ∷ body) (42 ∷ 47 ∷ []) r)
gap_no_mark text m r s k (line body alone ends unjoined e) it = it.no_line (body ++ r, e)

string_same : (text : List ℕ) (a b : Front) → Fact Double text a → Fact Double text b → a ≡ b
string_same text a b (body, is, s) (other, it, t) =
    let split : 34 ∷ body ≡ 34 ∷ other = sym is ∙ it in
    let same : body ≡ other = cc in
    let P : List ℕ → Type 0 = λ x. StringFront x b in
    string_once body a b s (subst P (sym same) t)

character_same : (text : List ℕ) (a b : Front) → Fact Single text a → Fact Single text b → a ≡ b
character_same text a b (body, is, s) (other, it, t) =
    let split : 39 ∷ body ≡ 39 ∷ other = sym is ∙ it in
    let same : body ≡ other = cc in
    let P : List ℕ → Type 0 = λ x. CharacterFront x b in
    character_front_once body a b s (subst P (sym same) t)

feed_same : (text : List ℕ) (a b : Front) → Fact Feed text a → Fact Feed text b → a ≡ b
feed_same text a b (r, is, e) (s, it, f) =
    let split : 10 ∷ r ≡ 10 ∷ s = sym is ∙ it in
    let same : r ≡ s = cc in
    e ∙ ap (λ (x : List ℕ). Right seen.LineEnd x) same ∙ sym f

backslash_same : (text : List ℕ) (a b : Front) → Fact Backslash text a → Fact Backslash text b → a ≡ b
backslash_same text a b (inl g) (inl h) = gap_same text a b g h
backslash_same text a b (inl (r, is, e)) (inr (none, f)) = absurd (none r is)
backslash_same text a b (inr (none, e)) (inl (r, is, f)) = absurd (none r is)
backslash_same text a b (inr (none, e)) (inr (other, f)) = e ∙ sym f

slash_same : (text : List ℕ) (a b : Front) → kind text ≡ Slash → Fact Slash text a → Fact Slash text b → a ≡ b
slash_same text a b k (inl g) (inl h) = gap_same text a b g h
slash_same text a b k (inl (r, is, e)) (inr (inl (o, f))) = absurd (open_comment-no_gap text r o is)
slash_same text a b k (inl (r, is, e)) (inr (inr (m, s, it, none, f))) = absurd (gap_no_mark text m r s k is it)
slash_same text a b k (inr (inl (o, e))) (inl (r, is, f)) = absurd (open_comment-no_gap text r o is)
slash_same text a b k (inr (inl (o, e))) (inr (inl (p, f))) = e ∙ sym f
slash_same text a b k (inr (inl (o, e))) (inr (inr (m, s, it, none, f))) = absurd (open_no_mark text m s o it)
slash_same text a b k (inr (inr (m, s, it, none, e))) (inl (r, is, f)) = absurd (gap_no_mark text m r s k is it)
slash_same text a b k (inr (inr (m, s, it, none, e))) (inr (inl (o, f))) = absurd (open_no_mark text m s o it)
slash_same text a b k (inr (inr g)) (inr (inr h)) = mark_same text a b g h

mark_or_fraction_same : (text : List ℕ) (a b : Front) → Fact Marked text a → Fact Marked text b → a ≡ b
mark_or_fraction_same text a b (inl (is, e)) (inl (it, f)) = e ∙ sym f
mark_or_fraction_same text a b (inl (is, e)) (inr (m, s, it, none, f)) = absurd (clash (sym is ∙ none))
  where
    clash : true ≡ false → ⊥
    clash g = cc
mark_or_fraction_same text a b (inr (m, s, it, none, e)) (inl (is, f)) = absurd (clash (sym is ∙ none))
  where
    clash : true ≡ false → ⊥
    clash g = cc
mark_or_fraction_same text a b (inr g) (inr h) = mark_same text a b g h

-- what is left to words and to numbers
abbrev pub IsOnlyOf : (ℕ → Bool) → Type 0
IsOnlyOf is_one = (text : List ℕ) (a b : Front) → First is_one text → IsFront text a → IsFront text b → a ≡ b

abbrev pub HasOf : (ℕ → Bool) → Type 0
HasOf is_one = (text : List ℕ) → First is_one text → (a : Front) × IsFront text a

first_letter : (text : List ℕ) → kind text ≡ Letter → First starts_word text
first_letter [] e = absurd cc
first_letter (b ∷ bs) e = tells_of b Letter e

first_digit : (text : List ℕ) → kind text ≡ Digit → First (is_digit 10) text
first_digit [] e = absurd cc
first_digit (b ∷ bs) e = tells_of b Digit e

same_by : (k : Kind) (text : List ℕ) (a b : Front) → kind text ≡ k → IsOnlyOf starts_word → IsOnlyOf (is_digit 10) → IsFront text a → IsFront text b
    → Fact k text a → Fact k text b → a ≡ b
same_by Ended text a b k words numbers is it (none, e) (other, f) = e ∙ sym f
same_by Feed text a b k words numbers is it e f = feed_same text a b e f
same_by Blank text a b k words numbers is it e f = gap_same text a b e f
same_by Backslash text a b k words numbers is it e f = backslash_same text a b e f
same_by Slash text a b k words numbers is it e f = slash_same text a b k e f
same_by Letter text a b k words numbers is it e f = words text a b (first_letter text k) is it
same_by Digit text a b k words numbers is it e f = numbers text a b (first_digit text k) is it
same_by Double text a b k words numbers is it e f = string_same text a b e f
same_by Single text a b k words numbers is it e f = character_same text a b e f
same_by Marked text a b k words numbers is it e f = mark_or_fraction_same text a b e f
same_by Other text a b k words numbers is it e f = e ∙ sym f

pub only_front : IsOnlyOf starts_word → IsOnlyOf (is_digit 10) → IsOneFront
only_front words numbers text a b is it = same_by (kind text) text a b refl words numbers is it (facts text a is) (facts text b it)

-- ---- something always

gap_kinds : (text rest : List ℕ) → IsGap text rest → (kind text ≡ Blank) ⊎ ((kind text ≡ Backslash) ⊎ (kind text ≡ Slash))
gap_kinds text rest (blank b is e) = inl (ap kind e ∙ blank_kind b is)
gap_kinds text rest (joined e) = inr (inl (ap kind e))
gap_kinds text rest (joined_cr e) = inr (inl (ap kind e))
gap_kinds text rest (block body none e) = inr (inr (ap kind e))
gap_kinds text rest (line body alone ends unjoined e) = inr (inr (ap kind e))

other_no_gap : (text rest : List ℕ) → kind text ≡ Other → IsGap text rest → ⊥
other_no_gap text rest k g =
    elim (gap_kinds text rest g) [
      | inl e ↦ let clash : Other ≡ Blank = sym k ∙ e in absurd cc
      | inr (inl e) ↦ let clash : Other ≡ Backslash = sym k ∙ e in absurd cc
      | inr (inr e) ↦ let clash : Other ≡ Slash = sym k ∙ e in absurd cc
    ]

true_not_false : (b : Bool) → b ≡ true → b ≡ false → ⊥
true_not_false b e f = let clash : true ≡ false = sym e ∙ f in absurd cc

pub starts_none : (b : ℕ) → starts_word b ≡ false → is_digit 10 b ≡ false → b ≢ 34 → b ≢ 39 → starts_mark b ≡ false → StartsToken b → ⊥
starts_none b no_word no_digit no_double no_single no_mark (inl e) = true_not_false (starts_word b) e no_word
starts_none b no_word no_digit no_double no_single no_mark (inr (inl e)) = true_not_false (is_digit 10 b) e no_digit
starts_none b no_word no_digit no_double no_single no_mark (inr (inr (inl e))) = no_double e
starts_none b no_word no_digit no_double no_single no_mark (inr (inr (inr (inl e)))) = no_single e
starts_none b no_word no_digit no_double no_single no_mark (inr (inr (inr (inr e)))) =
    true_not_false (starts_mark b) (starts_mark-complete b e) no_mark

no_token : (b : ℕ) → BeginsNothing b → StartsToken b → ⊥
no_token b n = starts_none b n.no_word n.no_digit n.no_double n.no_single n.no_mark

backslash_no_mark : starts_mark 92 ≡ false
backslash_no_mark = refl

pub backslash_no_token : StartsToken 92 → ⊥
backslash_no_token = starts_none 92 refl refl (λ e. absurd cc) (λ e. absurd cc) backslash_no_mark

bad_byte : (b : ℕ) (bs text : List ℕ) → text ≡ b ∷ bs → (StartsToken b → ⊥) → ((rest : List ℕ) → IsGap text rest → ⊥) → b ≢ 10
    → (a : Front) × IsFront text a
bad_byte b bs text is none gap feed = (Wrong BadByte 0, byte b bs is none gap feed refl refl)

feed_some : (b : ℕ) (bs : List ℕ) → b ≡ 10 → (a : Front) × IsFront (b ∷ bs) a
feed_some b bs e = (Right seen.LineEnd bs, ap (λ (x : ℕ). x ∷ bs) e)

backslash_some : (b : ℕ) (bs : List ℕ) → b ≡ 92 → (o : Option (List ℕ)) → after_gap (b ∷ bs) ≡ o → (a : Front) × IsFront (b ∷ bs) a
backslash_some b bs e (Some r) f = (Right seen.Gap r, after_gap-sound (b ∷ bs) r f)
backslash_some b bs e None f =
    let P : ℕ → Type 0 = λ x. StartsToken x → ⊥ in
    bad_byte b bs (b ∷ bs) refl (subst P (sym e) backslash_no_token) (no_gap (b ∷ bs) f) (λ g. let clash : 92 ≡ 10 = sym e ∙ g in absurd cc)

mark_token_at : (text : List ℕ) → HasMark text → begins_fraction text ≡ false → (a : Front) × IsFront text a
mark_token_at text h none = let l = mark_token h.mark in (Right (seen.Token l) h.rest, mark h.mark h.is none refl)

slash_no_fraction : (bs : List ℕ) → begins_fraction (47 ∷ bs) ≡ false
slash_no_fraction [] = refl
slash_no_fraction (b ∷ bs) = refl

line_reads : (bs : List ℕ) → after_gap (47 ∷ bs) ≡ None → BeginsWith (codes "//") (47 ∷ bs) → ⊥
line_reads bs e (t, f) =
    let reads : after_gap (47 ∷ bs) ≡ Some (from_line_end t) = ap after_gap f ∙ reads_line t in absurd cc

slash_mark : (bs : List ℕ) → after_gap (47 ∷ bs) ≡ None → (BeginsWith (codes "/*") (47 ∷ bs) → ⊥) → (a : Front) × IsFront (47 ∷ bs) a
slash_mark bs e none =
    mark_token_at (47 ∷ bs) (mark_there 47 bs (starts_mark-sound 47 refl) none (line_reads bs e)) (slash_no_fraction bs)

slash_none : (bs : List ℕ) → after_gap (47 ∷ bs) ≡ None → (a : Front) × IsFront (47 ∷ bs) a
slash_none [] e = slash_mark [] e (λ (t, f). absurd cc)
slash_none (c ∷ cs) e = by_test (eqb c 42) refl
  where
    by_test : (test : Bool) → eqb c 42 ≡ test → (a : Front) × IsFront (47 ∷ c ∷ cs) a
    by_test true f =
        let first : 47 ∷ c ∷ cs ≡ 47 ∷ 42 ∷ cs = ap (λ (x : ℕ). 47 ∷ x ∷ cs) (eqb-true c 42 f) in
        (Wrong Unclosed 0, open_comment (opens_comment (47 ∷ c ∷ cs) cs first e) refl refl)
    by_test false f = slash_mark (c ∷ cs) e (λ begins. let g : 47 ∷ c ∷ cs ≡ 47 ∷ 42 ∷ begins.0 = begins.1 in
        let same : c ≡ 42 = cc in absurd (apart c 42 f same))

slash_found : (bs : List ℕ) (o : Option (List ℕ)) → after_gap (47 ∷ bs) ≡ o → (a : Front) × IsFront (47 ∷ bs) a
slash_found bs (Some r) e = (Right seen.Gap r, after_gap-sound (47 ∷ bs) r e)
slash_found bs None e = slash_none bs e

slash_some : (b : ℕ) (bs : List ℕ) → b ≡ 47 → (a : Front) × IsFront (b ∷ bs) a
slash_some b bs e =
    let P : ℕ → Type 0 = λ x. (a : Front) × IsFront (x ∷ bs) a in
    subst P (sym e) (slash_found bs (after_gap (47 ∷ bs)) refl)

string_at : (b : ℕ) (bs : List ℕ) → b ≡ 34 → (a : Front) × IsFront (b ∷ bs) a
string_at b bs e = let s = string_some bs in (s.0, is_string (b ∷ bs) bs s.0 (ap (λ (x : ℕ). x ∷ bs) e) s.1)

character_front_at : (b : ℕ) (bs : List ℕ) → b ≡ 39 → (a : Front) × IsFront (b ∷ bs) a
character_front_at b bs e = let s = character_some bs in (s.0, is_character (b ∷ bs) bs s.0 (ap (λ (x : ℕ). x ∷ bs) e) s.1)

marked_no_comment : (b c : ℕ) (bs : List ℕ) → kind_of b ≡ Marked → (t : List ℕ) → b ∷ bs ≡ 47 ∷ c ∷ t → ⊥
marked_no_comment b c bs k t e =
    let same : b ≡ 47 = cc in
    let clash : Slash ≡ Marked = sym (ap kind_of same) ∙ k in absurd cc

marked_some : (b : ℕ) (bs : List ℕ) → kind_of b ≡ Marked → (test : Bool) → begins_fraction (b ∷ bs) ≡ test → (a : Front) × IsFront (b ∷ bs) a
marked_some b bs k true e = (Wrong FloatLiteral 0, fraction e refl refl)
marked_some b bs k false e =
    mark_token_at (b ∷ bs) (mark_there b bs (starts_mark-sound b (tells_of b Marked k))
    (λ begins. marked_no_comment b 42 bs k begins.0 begins.1) (λ begins. marked_no_comment b 47 bs k begins.0 begins.1)) e

some_by : (b : ℕ) (bs : List ℕ) (k : Kind) → kind_of b ≡ k → HasOf starts_word → HasOf (is_digit 10) → (a : Front) × IsFront (b ∷ bs) a
some_by b bs Ended k words numbers = absurd (tells_of b Ended k)
some_by b bs Feed k words numbers = feed_some b bs (tells_of b Feed k)
some_by b bs Blank k words numbers = (Right seen.Gap bs, blank b (tells_of b Blank k) refl)
some_by b bs Backslash k words numbers = backslash_some b bs (tells_of b Backslash k) (after_gap (b ∷ bs)) refl
some_by b bs Slash k words numbers = slash_some b bs (tells_of b Slash k)
some_by b bs Letter k words numbers = words (b ∷ bs) (tells_of b Letter k)
some_by b bs Digit k words numbers = numbers (b ∷ bs) (tells_of b Digit k)
some_by b bs Double k words numbers = string_at b bs (tells_of b Double k)
some_by b bs Single k words numbers = character_front_at b bs (tells_of b Single k)
some_by b bs Marked k words numbers = marked_some b bs k (begins_fraction (b ∷ bs)) refl
some_by b bs Other k words numbers =
    let n = tells_of b Other k in
    bad_byte b bs (b ∷ bs) refl (no_token b n) (λ rest g. other_no_gap (b ∷ bs) rest k g) n.no_feed

pub some_front : HasOf starts_word → HasOf (is_digit 10) → HasFront
some_front words numbers [] = (Right seen.End [], (refl, refl))
some_front words numbers (b ∷ bs) = some_by b bs (kind_of b) refl words numbers
