-- Literals as the code reads them.
use Rattle.std.proofs.Common.{◌≡◌, ℕ, ◌+◌, ◌-◌, ◌<◌, ◌≤◌, true, false, eqb, List, [], ◌∷◌, ◌++◌, Some, None, refl, sym, ap, subst, ◌∙◌, arith, length, length-append, inl, inr}
use Rattle.std.proofs.lemmas.Bool.{eqb-true}
use Rattle.c_lex.specs.Blanks.{NotFirst}
use Rattle.c_lex.specs.declared.token.TokenKind.TheVariants as kind
use Rattle.c_lex.specs.declared.lexeme.Lexeme.{Lexeme}
use Rattle.c_lex.specs.Literals.{IsCharacter, AreCharacters, IsClosed, char_value}
use Rattle.c_lex.specs.Lexemes.{IsLexeme, character, string, character_token, text_token}
use Rattle.c_lex.specs.Faults.{BadByte, IsBadToken, string as bad_string, character as bad_character}
use Rattle.c_lex.specs.Reading.{character_at, is_closed, after_quote}
use Rattle.c_lex.proofs.CloseLaws.{chosen}
use Rattle.c_lex.proofs.DigitLaws.{found, not_is}
use Rattle.c_lex.proofs.CharacterLaws.{character_at-sound, no_character}
use Rattle.c_lex.proofs.CloseQuoteLaws.{is_closed-sound, not_closed}
use Rattle.c_lex.proofs.LiteralLaws.{character_takes, characters_front, characters_more, takes-shorter, Reads}
use Rattle.c_lex.proofs.LiteralFronts.{string_bad, goes_on_bad}

pub quote_found : (quote : ℕ) (rest behind : List ℕ) → Some behind ≡ after_quote quote rest → rest ≡ quote ∷ behind
unfolding after_quote
quote_found quote [] behind e = absurd cc
quote_found quote (a ∷ bs) behind e =
    elim (chosen (eqb a quote) (Some bs) None (Some behind) (sym e)) [
      | inl (y, f) ↦ let same : a ≡ quote = eqb-true a quote y in cc
      | inr (n, f) ↦ absurd cc
    ]

pub no_quote : (quote : ℕ) (rest : List ℕ) → None ≡ after_quote quote rest → NotFirst (λ b. eqb b quote) rest
unfolding after_quote
no_quote quote [] e = tt
no_quote quote (a ∷ bs) e =
    elim (chosen (eqb a quote) (Some bs) None None (sym e)) [
      | inl (y, f) ↦ absurd cc
      | inr (n, f) ↦ not_is (eqb a quote) n
    ]

-- what is behind a front is as much shorter
front_size : (body front rest : List ℕ) → body ≡ front ++ rest → length front ≡ length body - length rest
front_size body front rest e = omega (arith, ap length e, length-append front rest)

pub rest_no_longer : (quote : ℕ) (body bytes rest : List ℕ) → AreCharacters quote body bytes rest → length rest ≤ length body
rest_no_longer quote body bytes rest are =
    let f = characters_front quote body bytes rest are in
    omega (arith, ap length f.1, length-append f.0 rest)

pub open_at : (quote : ℕ) (body : List ℕ) → false ≡ is_closed quote body → IsClosed quote body → ⊥
open_at quote body e = not_closed quote body (sym e)

pub next_shorter : (quote : ℕ) (rest : List ℕ) (b : ℕ) (next : List ℕ) → found b next ≡ character_at quote rest → length next < length rest
next_shorter quote rest b next e =
    takes-shorter rest next (character_takes quote rest b next (character_at-sound quote rest b next (sym e)))

pub none_yet : (quote : ℕ) (body bytes : List ℕ) → bytes ≡ [] → AreCharacters quote body bytes body
none_yet quote body bytes e = let P : List ℕ → Type 0 = λ x. AreCharacters quote body x body in subst P (sym e) refl

pub one_more : (quote : ℕ) (body bytes rest : List ℕ) (b : ℕ) (next bytes_now : List ℕ) → AreCharacters quote body bytes rest
    → found b next ≡ character_at quote rest → bytes_now ≡ bytes ++ b ∷ [] → AreCharacters quote body bytes_now next
one_more quote body bytes rest b next bytes_now are e f =
    let P : List ℕ → Type 0 = λ x. AreCharacters quote body x next in
    subst P (sym f) (characters_more quote body bytes rest b next are (character_at-sound quote rest b next (sym e)))

-- ---- strings

pub string_token : (body bytes rest behind : List ℕ) → AreCharacters 34 body bytes rest → Some behind ≡ after_quote 34 rest
    → IsLexeme (34 ∷ body) (text_token bytes) behind
string_token body bytes rest behind are e =
    let P : List ℕ → Type 0 = λ x. AreCharacters 34 body bytes x in
    string bytes body refl (subst P (quote_found 34 rest behind e) are) refl

pub string_wrong : (body bytes rest : List ℕ) → true ≡ is_closed 34 body → AreCharacters 34 body bytes rest → None ≡ character_at 34 rest
    → None ≡ after_quote 34 rest → IsBadToken (34 ∷ body) BadByte (1 + (length body - length rest))
string_wrong body bytes rest closed are last none =
    let f = characters_front 34 body bytes rest are in
    let size : length f.0 ≡ length body - length rest = front_size body f.0 rest f.1 in
    let reads : Reads 34 body bytes rest = record { are = are; none = no_character 34 rest (sym last) } in
    bad_string body (length f.0) refl (is_closed-sound 34 body (sym closed)) (string_bad body bytes rest f.0 reads f.1 (no_quote 34 rest none))
    refl (ap (λ (x : ℕ). 1 + x) (sym size))

-- ---- characters

abbrev pub literal_of : ℕ → List ℕ → Lexeme
literal_of value text = record { kind = kind.Character; value = value; text = text }

pub character_literal : (body : List ℕ) (b : ℕ) (rest behind : List ℕ) (value : ℕ) (text : List ℕ) → found b rest ≡ character_at 39 body
    → Some behind ≡ after_quote 39 rest → value ≡ char_value b → text ≡ [] → IsLexeme (39 ∷ body) (literal_of value text) behind
character_literal body b rest behind value text is e f g =
    let P : List ℕ → Type 0 = λ x. IsCharacter 39 body b x in
    let same : literal_of value text ≡ character_token b =
    ap (λ (x : ℕ). literal_of x text) f ∙ ap (λ (x : List ℕ). literal_of (char_value b) x) g in
    character b body refl (subst P (quote_found 39 rest behind e) (character_at-sound 39 body b rest (sym is))) same

pub no_character_wrong : (body : List ℕ) → true ≡ is_closed 39 body → None ≡ character_at 39 body → IsBadToken (39 ∷ body) BadByte 1
no_character_wrong body closed none =
    bad_character body 0 refl (is_closed-sound 39 body (sym closed)) (inl (no_character 39 body (sym none), refl)) refl refl

pub long_character_wrong : (body : List ℕ) (b : ℕ) (rest : List ℕ) → true ≡ is_closed 39 body → found b rest ≡ character_at 39 body
    → None ≡ after_quote 39 rest → IsBadToken (39 ∷ body) BadByte (1 + (length body - length rest))
long_character_wrong body b rest closed is none =
    let it = character_at-sound 39 body b rest (sym is) in
    let t = character_takes 39 body b rest it in
    let size : length t.front ≡ length body - length rest = front_size body t.front rest t.text_is in
    bad_character body (length t.front) refl (is_closed-sound 39 body (sym closed))
    (goes_on_bad body b rest t.front it t.text_is (no_quote 39 rest none)) refl (ap (λ (x : ℕ). 1 + x) (sym size))
