-- A word at the front of a text is read exactly as it is defined.
use Rattle.std.proofs.Common.{◌≡◌, ◌≢◌, ℕ, ◌⊎◌, Bool, true, false, List, [], ◌∷◌, ◌++◌, take, drop, Option, Some, None, refl, sym, ap, subst, ◌∙◌, arith, inl, inr}
use Rattle.std.specs.Prelude.{IsTrue}
use Rattle.std.specs.List.{prefix_len, list_any, AllByRecursion}
use Rattle.std.specs.Str.{bytes_eq}
use Rattle.std.proofs.lemmas.Bool.{cases_Bool, false≢true, eqb-true}
use Rattle.std.proofs.lemmas.Bool.Decides.{nat_tests}
use Rattle.std.proofs.lemmas.List.{take-append-drop}
use Rattle.std.proofs.lemmas.Slice.Eq.{bytes_eq-Decides}
use Rattle.c_lex.specs.declared.token.Keyword.{Keyword}
use Rattle.c_lex.specs.declared.token.Keyword.TheVariants as word
use Rattle.c_lex.specs.declared.lexeme.Lexeme.{Lexeme}
use Rattle.c_lex.specs.declared.fronts.Seen.TheVariants as seen
use Rattle.c_lex.specs.Blanks.{First}
use Rattle.c_lex.specs.Words.{starts_word, continues_word, keyword_text, out_words, IsWord, IsName}
use Rattle.c_lex.specs.Lexemes.{keyword_token, name_token, IsLexeme, keyword, name, number, character, string, mark}
use Rattle.c_lex.specs.Faults.{Cause, OutWord, IsBadToken, byte, open_comment, out_word, float, fraction, octal, wide, open_literal, string as bad_string, character as bad_character}
use Rattle.c_lex.specs.Fronts.{Front, Right, Wrong, IsFront}
use Rattle.c_lex.specs.Reading.{word_len, is_out_word}
use Rattle.c_lex.specs.WordVerdicts.{keyword_of, token_of_keyword, word_verdict, word_front}
use Rattle.c_lex.proofs.KeywordLaws.{keyword_found, keyword_missing}
use Rattle.c_lex.proofs.Runs.{one_more, run-all, run-stops, cut-run}
use Rattle.c_lex.proofs.Firsts.{clash, is_byte, first_is, gap-first, is_gap_byte, comment-first, mark-first, is_mark_byte, run-first, is_decimal_digit, fraction-first}

-- ---- the word that stands in a text

starts-continues : (b : ℕ) → IsTrue (starts_word b) → continues_word b ≡ true
starts-continues b y = rw y refl

word-starts : (text : List ℕ) → First starts_word text → First starts_word (take (word_len text) text)
word-starts [] f = absurd f
word-starts (b ∷ bs) f = rw (starts-continues b f, one_more) f

abbrev word_of : List ℕ → List ℕ
word_of text = take (word_len text) text

abbrev behind_word : List ℕ → List ℕ
behind_word text = drop (word_len text) text

pub the-word : (text : List ℕ) → First starts_word text → IsWord text (take (word_len text) text) (drop (word_len text) text)
the-word text f = record {
  text_is = sym (take-append-drop (word_len text) text);
  starts = word-starts text f;
  all = run-all continues_word text;
  ends = run-stops continues_word text;
}

pub one-word : (text word rest : List ℕ) → IsWord text word rest
    → (word ≡ take (word_len text) text) × (rest ≡ drop (word_len text) text)
one-word text word rest i = cut-run continues_word text word rest i.text_is i.all i.ends

-- ---- the kinds of words

-- a word that is found in a list of words
pub record Stands (word : List ℕ) (words : List (List ℕ)) : Type 0 where
  pub before : List (List ℕ)
  pub behind : List (List ℕ)
  pub words_are : words ≡ before ++ word ∷ behind

any-stands : (word : List ℕ) (words : List (List ℕ)) → list_any (λ other. bytes_eq word other) words ≡ true → Stands word words
any-stands word [] e = absurd cc
any-stands word (w ∷ ws) e =
    elim (cases_Bool (bytes_eq word w)) [
      | inl y ↦
          let same = (bytes_eq-Decides word w).0 y in
          record { before = []; behind = ws; words_are = ap (λ (x : List ℕ). x ∷ ws) (sym same) }
      | inr n ↦
          let s = any-stands word ws (sym (rw n refl) ∙ e) in
          record { before = w ∷ s.before; behind = s.behind; words_are = ap (λ (x : List (List ℕ)). w ∷ x) s.words_are }
    ]

stands-any : (word : List ℕ) (before behind : List (List ℕ)) → list_any (λ other. bytes_eq word other) (before ++ word ∷ behind) ≡ true
stands-any word [] behind = rw ((bytes_eq-Decides word word).1 refl) refl
stands-any word (w ∷ ws) behind =
    elim (cases_Bool (bytes_eq word w)) [
      | inl y ↦ rw y refl
      | inr n ↦ rw n (stands-any word ws behind)
    ]

all-other : (word : List ℕ) (words : List (List ℕ)) → list_any (λ other. bytes_eq word other) words ≡ false
    → AllByRecursion (λ other. word ≢ other) words
all-other word [] e = tt
all-other word (w ∷ ws) e =
    elim (cases_Bool (bytes_eq word w)) [
      | inl t ↦ absurd (false≢true (sym e ∙ rw t refl))
      | inr f ↦ (λ same. false≢true (sym f ∙ (bytes_eq-Decides word w).1 same), all-other word ws (sym (rw f refl) ∙ e))
    ]

none-of : (word : List ℕ) (words : List (List ℕ)) → AllByRecursion (λ other. word ≢ other) words
    → list_any (λ other. bytes_eq word other) words ≡ false
none-of word [] all = refl
none-of word (w ∷ ws) all =
    elim (cases_Bool (bytes_eq word w)) [
      | inl t ↦ absurd (all.0 ((bytes_eq-Decides word w).0 t))
      | inr f ↦ rw f (none-of word ws all.1)
    ]

keyword-read : (k : Keyword) → (keyword_of (keyword_text k) ≡ Some k) × (is_out_word (keyword_text k) ≡ false)
unfolding keyword_of
keyword-read word.Auto = (refl, refl)
keyword-read word.Break = (refl, refl)
keyword-read word.Case = (refl, refl)
keyword-read word.Char = (refl, refl)
keyword-read word.Const = (refl, refl)
keyword-read word.Continue = (refl, refl)
keyword-read word.Default = (refl, refl)
keyword-read word.Do = (refl, refl)
keyword-read word.Else = (refl, refl)
keyword-read word.Enum = (refl, refl)
keyword-read word.Extern = (refl, refl)
keyword-read word.For = (refl, refl)
keyword-read word.If = (refl, refl)
keyword-read word.Inline = (refl, refl)
keyword-read word.Int = (refl, refl)
keyword-read word.Long = (refl, refl)
keyword-read word.Register = (refl, refl)
keyword-read word.Restrict = (refl, refl)
keyword-read word.Return = (refl, refl)
keyword-read word.Short = (refl, refl)
keyword-read word.Signed = (refl, refl)
keyword-read word.Sizeof = (refl, refl)
keyword-read word.Static = (refl, refl)
keyword-read word.Struct = (refl, refl)
keyword-read word.Switch = (refl, refl)
keyword-read word.Typedef = (refl, refl)
keyword-read word.Unsigned = (refl, refl)
keyword-read word.Void = (refl, refl)
keyword-read word.Volatile = (refl, refl)
keyword-read word.While = (refl, refl)

pub keyword-some : (word : List ℕ) (k : Keyword) → keyword_of word ≡ Some k → word ≡ keyword_text k
unfolding keyword_of
keyword-some word k e = keyword_found word (Some k) (sym e)

keyword-none : (word : List ℕ) → keyword_of word ≡ None → (k : Keyword) → word ≢ keyword_text k
unfolding keyword_of
keyword-none word e = keyword_missing word None (sym e)

cases_keyword : (o : Option Keyword) → (o ≡ None) ⊎ ((k : Keyword) × (o ≡ Some k))
cases_keyword None = inl refl
cases_keyword (Some k) = inr (k, refl)

name-none : (word : List ℕ) → IsName word → keyword_of word ≡ None
name-none word i = elim (cases_keyword (keyword_of word)) [
  | inl none ↦ none
  | inr (k, e) ↦ absurd (i.no_keyword k (keyword-some word k e))
]

-- ---- both ways

lexeme-of-word : (text word rest : List ℕ) → IsWord text word rest → is_out_word word ≡ false → (o : Option Keyword)
    → keyword_of word ≡ o → IsLexeme text (token_of_keyword o word) rest
lexeme-of-word text word rest i out (Some k) e =
    keyword k (subst (λ x. IsWord text x rest) (keyword-some word k e) i) refl
lexeme-of-word text word rest i out None e =
    name word i (record { no_keyword = keyword-none word e; no_out_word = all-other word out_words out }) refl

word-verdict-is : (text word rest : List ℕ) → IsWord text word rest → IsFront text (word_verdict word rest)
word-verdict-is text word rest i =
    elim (cases_Bool (is_out_word word)) [
      | inl y ↦
          let s = any-stands word out_words y in
          rw y (out_word word rest s.before s.behind s.words_are i refl refl)
      | inr n ↦ rw n (lexeme-of-word text word rest i n (keyword_of word) refl)
    ]

pub word_front-is : (text : List ℕ) → First starts_word text → IsFront text (word_front text)
unfolding word_front
word_front-is text f = word-verdict-is text (word_of text) (behind_word text) (the-word text f)

-- the verdict of a word is the one that the text's own word has
verdict-here : (text word rest : List ℕ) (a : Front) → IsWord text word rest → a ≡ word_verdict word rest → a ≡ word_front text
unfolding word_front
verdict-here text word rest a i e =
    let o = one-word text word rest i in
    e ∙ ap (λ x. word_verdict x rest) o.0 ∙ ap (word_verdict (word_of text)) o.1

keyword-verdict : (k : Keyword) (rest : List ℕ) → Right (seen.Token (keyword_token k)) rest ≡ word_verdict (keyword_text k) rest
keyword-verdict k rest = rw ((keyword-read k).1, (keyword-read k).0) refl

name-verdict : (word rest : List ℕ) → IsName word → Right (seen.Token (name_token word)) rest ≡ word_verdict word rest
name-verdict word rest i = rw (none-of word out_words i.no_out_word, name-none word i) refl

out-verdict : (word rest : List ℕ) (before behind : List (List ℕ)) → out_words ≡ before ++ word ∷ behind
    → Wrong OutWord 0 ≡ word_verdict word rest
out-verdict word rest before behind e =
    let t : is_out_word word ≡ true = ap (list_any (λ other. bytes_eq word other)) e ∙ stands-any word before behind in
    rw t refl

-- ---- nothing else begins with a letter or an underscore

abbrev no_letter : (ℕ → Bool) → Type 0
no_letter q = (b : ℕ) → IsTrue (starts_word b) → IsTrue (q b) → ⊥

digit-no-letter : no_letter is_decimal_digit
digit-no-letter b f g = grind (arith, nat_tests, f, g)

byte-no-letter : (a : ℕ) → starts_word a ≡ false → no_letter (is_byte a)
byte-no-letter a n b f g = false≢true (sym n ∙ ap starts_word (sym (eqb-true b a g)) ∙ f)

gap-no-letter : no_letter is_gap_byte
gap-no-letter b f g = grind (arith, nat_tests, f, g)

mark-no-letter : no_letter is_mark_byte
mark-no-letter b f g = grind (arith, nat_tests, f, g)

not_letter : (q : ℕ → Bool) (text : List ℕ) (A : Type 0) → no_letter q → First starts_word text → First q text → A
not_letter q text A apart f g = absurd (clash starts_word q apart text f g)

lexeme-here : (text : List ℕ) (l : Lexeme) (rest : List ℕ) → First starts_word text → IsLexeme text l rest
    → Right (seen.Token l) rest ≡ word_front text
lexeme-here text l rest f (keyword k i l_is) =
    verdict-here text (keyword_text k) rest (Right (seen.Token l) rest) i
    (ap (λ x. Right (seen.Token x) rest) l_is ∙ keyword-verdict k rest)
lexeme-here text l rest f (name word i is l_is) =
    verdict-here text word rest (Right (seen.Token l) rest) i
    (ap (λ x. Right (seen.Token x) rest) l_is ∙ name-verdict word rest is)
lexeme-here text l rest f (number value t i l_is) =
    not_letter is_decimal_digit text _ digit-no-letter f (run-first text i.notation i.digits i.behind i.has_digits.run)
lexeme-here text l rest f (character b body e i l_is) =
    not_letter (is_byte 39) text _ (byte-no-letter 39 refl) f (first_is 39 text body e)
lexeme-here text l rest f (string bytes body e i l_is) =
    not_letter (is_byte 34) text _ (byte-no-letter 34 refl) f (first_is 34 text body e)
lexeme-here text l rest f (mark m i frac l_is) =
    not_letter is_mark_byte text _ mark-no-letter f (mark-first text m rest i)

first-letter : (text : List ℕ) (b : ℕ) (bs : List ℕ) → text ≡ b ∷ bs → First starts_word text → IsTrue (starts_word b)
first-letter text b bs e f = subst (First starts_word) e f

quote-here : (text : List ℕ) (quote : ℕ) (body : List ℕ) (A : Type 0) → (quote ≡ 34) ⊎ (quote ≡ 39) → text ≡ quote ∷ body
    → First starts_word text → A
quote-here text quote body A (inl q) e f =
    not_letter (is_byte 34) text A (byte-no-letter 34 refl) f (first_is 34 text body (e ∙ ap (λ (x : ℕ). x ∷ body) q))
quote-here text quote body A (inr q) e f =
    not_letter (is_byte 39) text A (byte-no-letter 39 refl) f (first_is 39 text body (e ∙ ap (λ (x : ℕ). x ∷ body) q))

bad-here : (text : List ℕ) (cause : Cause) (k : ℕ) → First starts_word text → IsBadToken text cause k → Wrong cause k ≡ word_front text
bad-here text cause k f (byte b bs e no_start no_gap no_end cause_is k_is) =
    absurd (no_start (inl (first-letter text b bs e f)))
bad-here text cause k f (open_comment o cause_is k_is) =
    not_letter is_gap_byte text _ gap-no-letter f (comment-first text o)
bad-here text cause k f (out_word word rest before behind e i cause_is k_is) =
    verdict-here text word rest (Wrong cause k) i
    (ap (λ x. Wrong x k) cause_is ∙ ap (Wrong OutWord) k_is ∙ out-verdict word rest before behind e)
bad-here text cause k f (float notation digits rest i sign cause_is k_is) =
    not_letter is_decimal_digit text _ digit-no-letter f (run-first text notation digits rest i)
bad-here text cause k f (fraction e cause_is k_is) =
    not_letter (is_byte 46) text _ (byte-no-letter 46 refl) f (fraction-first text e)
bad-here text cause k f (octal front behind rest d i no_float of_base is cause_is k_is) =
    not_letter is_decimal_digit text _ digit-no-letter f (run-first text _ (front ++ d ∷ behind) rest i)
bad-here text cause k f (wide notation digits rest i is cause_is k_is) =
    not_letter is_decimal_digit text _ digit-no-letter f (run-first text notation digits rest i.run)
bad-here text cause k f (open_literal quote body q e not_closed cause_is k_is) = quote-here text quote body _ q e f
bad-here text cause k f (bad_string body n e closed bad cause_is k_is) = quote-here text 34 body _ (inl refl) e f
bad-here text cause k f (bad_character body n e closed bad cause_is k_is) = quote-here text 39 body _ (inr refl) e f

pub word_front-only : (text : List ℕ) (a : Front) → First starts_word text → IsFront text a → a ≡ word_front text
word_front-only text (Right seen.End rest) f i = absurd (subst (First starts_word) i.0 f)
word_front-only text (Right seen.Gap rest) f i = not_letter is_gap_byte text _ gap-no-letter f (gap-first text rest i)
word_front-only text (Right seen.LineEnd rest) f i =
    not_letter (is_byte 10) text _ (byte-no-letter 10 refl) f (first_is 10 text rest i)
word_front-only text (Right (seen.Token l) rest) f i = lexeme-here text l rest f i
word_front-only text (Wrong cause k) f i = bad-here text cause k f i

-- the same, told of a word that is cut from its text

cut-word : (text cut rest : List ℕ) (n : ℕ) → First starts_word text → n ≡ prefix_len continues_word text → cut ≡ take n text
    → rest ≡ drop n text → IsWord text cut rest
cut-word text cut rest n f n_is cut_is rest_is =
    let a : take (word_len text) text ≡ cut = sym (cut_is ∙ ap (λ k. take k text) n_is) in
    let b : drop (word_len text) text ≡ rest = sym (rest_is ∙ ap (λ k. drop k text) n_is) in
    subst (λ x. IsWord text cut x) b (subst (λ x. IsWord text x (behind_word text)) a (the-word text f))

pub cut-out-word : (text cut rest : List ℕ) (n : ℕ) → First starts_word text → n ≡ prefix_len continues_word text → cut ≡ take n text
    → rest ≡ drop n text → is_out_word cut ≡ true → IsBadToken text OutWord 0
cut-out-word text cut rest n f n_is cut_is rest_is y =
    let s = any-stands cut out_words y in
    out_word cut rest s.before s.behind s.words_are (cut-word text cut rest n f n_is cut_is rest_is) refl refl

pub cut-lexeme : (text cut rest : List ℕ) (n : ℕ) (l : Lexeme) → First starts_word text → n ≡ prefix_len continues_word text
    → cut ≡ take n text → rest ≡ drop n text → is_out_word cut ≡ false → l ≡ token_of_keyword (keyword_of cut) cut
    → IsLexeme text l rest
cut-lexeme text cut rest n l f n_is cut_is rest_is out l_is =
    subst (λ x. IsLexeme text x rest) (sym l_is)
    (lexeme-of-word text cut rest (cut-word text cut rest n f n_is cut_is rest_is) out (keyword_of cut) refl)
