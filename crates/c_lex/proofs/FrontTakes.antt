-- What is seen at a text's front takes some of its bytes.
use Rattle.std.proofs.Common.{◌≡◌, ◌≢◌, ℕ, ◌<◌, ◌⊎◌, List, [], ◌∷◌, ◌++◌, append_assoc, refl, sym, ap, ◌∙◌, length, inl, inr}
use Rattle.std.specs.Prelude.{codes}
use Rattle.c_lex.specs.declared.token.Mark.{Mark}
use Rattle.c_lex.specs.declared.lexeme.Lexeme.{Lexeme}
use Rattle.c_lex.specs.declared.fronts.Seen.TheVariants as seen
use Rattle.c_lex.specs.declared.numbers.Notation.{Notation}
use Rattle.c_lex.specs.declared.numbers.Notation.TheVariants.{Decimal, Octal, Hexadecimal}
use Rattle.c_lex.specs.declared.token.NumberType.{NumberType}
use Rattle.c_lex.specs.Blanks.{IsGap, blank, joined, joined_cr, block, line}
use Rattle.c_lex.specs.Words.{mark_text, IsWord}
use Rattle.c_lex.specs.Literals.{Begins, IsNumber}
use Rattle.c_lex.specs.Lexemes.{IsLexeme, keyword, name, number, character, string, mark}
use Rattle.c_lex.specs.Fronts.{EndsWith, TakesBytes}
use Rattle.c_lex.proofs.LiteralLaws.{Takes, takes, takes-shorter, character_takes, characters_front}
use Rattle.c_lex.proofs.ByteKinds.{Ended, Slash, Marked, kind, mark_kinds, IsMarkKind}

pub gap_takes : (text rest : List ℕ) → IsGap text rest → Takes text rest
gap_takes text rest (blank b is e) = takes b [] rest text e
gap_takes text rest (joined e) = takes 92 (10 ∷ []) rest text e
gap_takes text rest (joined_cr e) = takes 92 (13 ∷ 10 ∷ []) rest text e
gap_takes text rest (block body none e) = takes 47 (42 ∷ body ++ codes "*/") rest text e
gap_takes text rest (line body alone ends unjoined e) = takes 47 (47 ∷ body) rest text e

pub word_takes : (text word rest : List ℕ) → IsWord text word rest → Takes text rest
word_takes text [] rest w = absurd w.starts
word_takes text (b ∷ bs) rest w = takes b bs rest text w.text_is

takes_some : (text front rest : List ℕ) → front ≢ [] → text ≡ front ++ rest → Takes text rest
takes_some text front rest some e = record { front = front; some = some; text_is = e }

more_than_none : (front behind : List ℕ) → front ≢ [] → front ++ behind ≢ []
more_than_none [] behind some = λ e. some refl
more_than_none (x ∷ xs) behind some = λ e. absurd cc

none_before : (front behind : List ℕ) → behind ≢ [] → front ++ behind ≢ []
none_before [] behind some = some
none_before (x ∷ xs) behind some = λ e. absurd cc

some_digits : (notation : Notation) (text prefix digits : List ℕ) → Begins notation text prefix digits → digits ≢ []
some_digits Hexadecimal text prefix digits (begins, some) = some
some_digits Octal text prefix digits (none, (more, e), apart) = λ f. let clash : 48 ∷ more ≡ [] = sym e ∙ f in absurd cc
some_digits Decimal text prefix digits (none, some, apart) = some

number_takes : (text : List ℕ) (value : ℕ) (t : NumberType) (rest : List ℕ) → IsNumber text value t rest → Takes text rest
number_takes text value t rest n =
    let run = n.has_digits.run in
    let some : n.digits ≢ [] = some_digits n.notation text run.prefix n.digits run.begins in
    takes_some text ((run.prefix ++ n.digits) ++ n.suffix) rest
    (more_than_none (run.prefix ++ n.digits) n.suffix (none_before run.prefix n.digits some))
    (run.text_is ∙ ap (λ (x : List ℕ). (run.prefix ++ n.digits) ++ x) n.has_suffix.text_is
    ∙ sym (append_assoc (run.prefix ++ n.digits) n.suffix rest))

-- a literal, from one quote to the other
literal_takes : (quote : ℕ) (text body front rest : List ℕ) → text ≡ quote ∷ body → body ≡ front ++ quote ∷ rest → Takes text rest
literal_takes quote text body front rest e f =
    takes quote (front ++ quote ∷ []) rest text
    (e ∙ ap (λ (x : List ℕ). quote ∷ x) (f ∙ sym (append_assoc front (quote ∷ []) rest)))

some_mark : (m : Mark) → mark_text m ≢ []
some_mark m = λ e. none (mark_kinds m) e
  where
    none : IsMarkKind (mark_text m) → mark_text m ≡ [] → ⊥
    none (inl k) e = let clash : Ended ≡ Slash = sym (ap kind e) ∙ k in absurd cc
    none (inr k) e = let clash : Ended ≡ Marked = sym (ap kind e) ∙ k in absurd cc

lexeme_takes : (text : List ℕ) (l : Lexeme) (rest : List ℕ) → IsLexeme text l rest → Takes text rest
lexeme_takes text l rest (keyword k w e) = word_takes text _ rest w
lexeme_takes text l rest (name word w n e) = word_takes text word rest w
lexeme_takes text l rest (number value t is e) = number_takes text value t rest is
lexeme_takes text l rest (character b body is it e) =
    let t = character_takes 39 body b (39 ∷ rest) it in
    literal_takes 39 text body t.front rest is t.text_is
lexeme_takes text l rest (string bytes body is it e) =
    let f = characters_front 34 body bytes (34 ∷ rest) it in
    literal_takes 34 text body f.0 rest is f.1
lexeme_takes text l rest (mark m is none e) = takes_some text (mark_text m) rest (some_mark m) is.text_is

takes_bytes : (text rest : List ℕ) → Takes text rest → EndsWith text rest × ((text ≡ []) ⊎ (length rest < length text))
takes_bytes text rest t = ((t.front, t.text_is), inr (takes-shorter text rest t))

pub each_takes : TakesBytes
each_takes text seen.End rest (e, f) = (([], e ∙ sym f), inl e)
each_takes text seen.Gap rest is = takes_bytes text rest (gap_takes text rest is)
each_takes text seen.LineEnd rest e = takes_bytes text rest (takes 10 [] rest text e)
each_takes text (seen.Token l) rest is = takes_bytes text rest (lexeme_takes text l rest is)
