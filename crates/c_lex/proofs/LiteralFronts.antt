-- What stands at the front of a text that begins with a quote, in one way.
use Rattle.std.proofs.Common.{◌≡◌, ℕ, ◌+◌, Bool, true, false, eqb, List, [], ◌∷◌, ◌++◌, Option, Some, None, refl, sym, ap, subst, ◌∙◌, arith, length, length-append, inl, inr}
use Rattle.std.proofs.lemmas.Bool.{eqb-true}
use Rattle.std.proofs.lemmas.Bool.Decides.{nat_tests}
use Rattle.c_lex.specs.Blanks.{NotFirst}
use Rattle.c_lex.specs.Literals.{IsCharacter, AreCharacters, IsClosed, here}
use Rattle.c_lex.specs.Lexemes.{IsLexeme, character, string, character_token, text_token}
use Rattle.c_lex.specs.Faults.{BadByte, Unclosed, IsBadLiteral, IsBadCharacter, IsBadToken, open_literal, string as bad_string, character as bad_character}
use Rattle.c_lex.specs.Reading.{character_at, is_closed}
use Rattle.c_lex.specs.declared.fronts.Seen.TheVariants as seen
use Rattle.c_lex.specs.Fronts.{Front, Right, Wrong, IsFront}
use Rattle.c_lex.proofs.DigitLaws.{not_is}
use Rattle.c_lex.proofs.CharacterLaws.{character_once, character_at-sound, no_character}
use Rattle.c_lex.proofs.CloseQuoteLaws.{is_closed-sound, not_closed}
use Rattle.c_lex.proofs.LiteralLaws.{character_takes, characters_front, Reads, read, reads_once, character_closed, characters_closed, double_quote}

-- ---- strings

pub data StringFront (body : List ℕ) (a : Front) : Type 0 where
  told : (bytes rest : List ℕ) → AreCharacters 34 body bytes (34 ∷ rest) → a ≡ Right (seen.Token (text_token bytes)) rest → StringFront body a
  unclosed : (IsClosed 34 body → ⊥) → a ≡ Wrong Unclosed 0 → StringFront body a
  bad : (n : ℕ) → IsClosed 34 body → IsBadLiteral 34 body n → a ≡ Wrong BadByte (1 + n) → StringFront body a

told_reads : (body bytes rest : List ℕ) → AreCharacters 34 body bytes (34 ∷ rest) → Reads 34 body bytes (34 ∷ rest)
told_reads body bytes rest are = record { are = are; none = double_quote rest }

told_closed : (body bytes rest : List ℕ) → AreCharacters 34 body bytes (34 ∷ rest) → IsClosed 34 body
told_closed body bytes rest are = characters_closed 34 body bytes (34 ∷ rest) (omega arith) are (here rest)

begins_not : (quote : ℕ) (rest more : List ℕ) → quote ∷ rest ≡ more → NotFirst (λ b. eqb b quote) more → ⊥
begins_not quote rest [] e none = absurd cc
begins_not quote rest (x ∷ xs) e none = let same : x ≡ quote = cc in grind (arith, nat_tests)

told_not_bad : (body bytes rest : List ℕ) (n : ℕ) → AreCharacters 34 body bytes (34 ∷ rest) → IsBadLiteral 34 body n → ⊥
told_not_bad body bytes rest n are (cs, front, more, split, others, none, last, k) =
    let same = reads_once 34 body bytes cs (34 ∷ rest) more (told_reads body bytes rest are) (record { are = others; none = last }) in
    begins_not 34 rest more same.1 none

-- fronts of one text with one rest are of one length
pub same_length : (text f g r s : List ℕ) → text ≡ f ++ r → text ≡ g ++ s → r ≡ s → length f ≡ length g
same_length text f g r s d e same =
    omega (arith, sym (ap length d) ∙ ap length e, length-append f r, length-append g s, ap length same)

bad_once : (body : List ℕ) (m n : ℕ) → IsBadLiteral 34 body m → IsBadLiteral 34 body n → m ≡ n
bad_once body m n (bs, f, r, d, one, b1, none, k) (cs, g, s, e, other, b2, last, l) =
    let same = reads_once 34 body bs cs r s (record { are = one; none = none }) (record { are = other; none = last }) in
    k ∙ same_length body f g r s d e same.1 ∙ sym l

told_once : (body bs cs r s : List ℕ) → AreCharacters 34 body bs (34 ∷ r) → AreCharacters 34 body cs (34 ∷ s) → (bs ≡ cs) × (r ≡ s)
told_once body bs cs r s one other =
    let same = reads_once 34 body bs cs (34 ∷ r) (34 ∷ s) (told_reads body bs r one) (told_reads body cs s other) in
    let behind : 34 ∷ r ≡ 34 ∷ s = same.1 in
    (same.0, cc)

pub string_once : (body : List ℕ) (a b : Front) → StringFront body a → StringFront body b → a ≡ b
string_once body a b (told bs r are e) (told cs s others f) =
    let same = told_once body bs cs r s are others in
    e ∙ ap (λ (x : List ℕ). Right (seen.Token (text_token x)) r) same.0 ∙ ap (λ (x : List ℕ). Right (seen.Token (text_token cs)) x) same.1
    ∙ sym f
string_once body a b (told bs r are e) (unclosed none f) = absurd (none (told_closed body bs r are))
string_once body a b (told bs r are e) (bad n closed is f) = absurd (told_not_bad body bs r n are is)
string_once body a b (unclosed none e) (told cs s others f) = absurd (none (told_closed body cs s others))
string_once body a b (unclosed none e) (unclosed other f) = e ∙ sym f
string_once body a b (unclosed none e) (bad n closed is f) = absurd (none closed)
string_once body a b (bad m closed is e) (told cs s others f) = absurd (told_not_bad body cs s m others is)
string_once body a b (bad m closed is e) (unclosed none f) = absurd (none closed)
string_once body a b (bad m closed is e) (bad n other it f) =
    e ∙ ap (λ (x : ℕ). Wrong BadByte (1 + x)) (bad_once body m n is it) ∙ sym f

-- so many bytes of a closed literal are right, and it goes on with no quote
pub string_bad : (body bytes rest front : List ℕ) → Reads 34 body bytes rest → body ≡ front ++ rest → NotFirst (λ b. eqb b 34) rest
    → IsBadLiteral 34 body (length front)
string_bad body bytes rest front r e none = (bytes, front, rest, e, r.are, none, r.none, refl)

pub is_string : (text body : List ℕ) (a : Front) → text ≡ 34 ∷ body → StringFront body a → IsFront text a
is_string text body a is (told bytes rest are e) =
    let P : Front → Type 0 = λ x. IsFront text x in
    let l : IsLexeme text (text_token bytes) rest = string bytes body is are refl in
    subst P (sym e) l
is_string text body a is (unclosed none e) =
    let P : Front → Type 0 = λ x. IsFront text x in
    let t : IsBadToken text Unclosed 0 = open_literal 34 body (inl refl) is none refl refl in
    subst P (sym e) t
is_string text body a is (bad n closed it e) =
    let P : Front → Type 0 = λ x. IsFront text x in
    let t : IsBadToken text BadByte (1 + n) = bad_string body n is closed it refl refl in
    subst P (sym e) t

string_behind : (body bytes rest : List ℕ) → IsClosed 34 body → Reads 34 body bytes rest → (a : Front) × StringFront body a
string_behind body bytes [] closed r =
    let f = characters_front 34 body bytes [] r.are in
    (Wrong BadByte (1 + length f.0), bad (length f.0) closed (string_bad body bytes [] f.0 r f.1 tt) refl)
string_behind body bytes (x ∷ xs) closed r = by_test (eqb x 34) refl
  where
    by_test : (test : Bool) → eqb x 34 ≡ test → (a : Front) × StringFront body a
    by_test true e =
        let P : ℕ → Type 0 = λ y. AreCharacters 34 body bytes (y ∷ xs) in
        let l = text_token bytes in
        (Right (seen.Token l) xs, told bytes xs (subst P (eqb-true x 34 e) r.are) refl)
    by_test false e =
        let f = characters_front 34 body bytes (x ∷ xs) r.are in
        (Wrong BadByte (1 + length f.0), bad (length f.0) closed (string_bad body bytes (x ∷ xs) f.0 r f.1 (not_is (eqb x 34) e)) refl)

pub string_some : (body : List ℕ) → (a : Front) × StringFront body a
string_some body = by_test (is_closed 34 body) refl
  where
    by_test : (test : Bool) → is_closed 34 body ≡ test → (a : Front) × StringFront body a
    by_test true e = let r = read 34 body in string_behind body r.bytes r.rest (is_closed-sound 34 body e) r.reads
    by_test false e = (Wrong Unclosed 0, unclosed (not_closed 34 body e) refl)

-- ---- characters

pub data CharacterFront (body : List ℕ) (a : Front) : Type 0 where
  one : (b : ℕ) (rest : List ℕ) → IsCharacter 39 body b (39 ∷ rest) → a ≡ Right (seen.Token (character_token b)) rest → CharacterFront body a
  open_one : (IsClosed 39 body → ⊥) → a ≡ Wrong Unclosed 0 → CharacterFront body a
  bad_one : (n : ℕ) → IsClosed 39 body → IsBadCharacter body n → a ≡ Wrong BadByte (1 + n) → CharacterFront body a

one_closed : (body : List ℕ) (b : ℕ) (rest : List ℕ) → IsCharacter 39 body b (39 ∷ rest) → IsClosed 39 body
one_closed body b rest is = character_closed 39 body b (39 ∷ rest) (omega arith) is (here rest)

one_not_bad : (body : List ℕ) (b : ℕ) (rest : List ℕ) (n : ℕ) → IsCharacter 39 body b (39 ∷ rest) → IsBadCharacter body n → ⊥
one_not_bad body b rest n is (inl (none, k)) = none b (39 ∷ rest) is
one_not_bad body b rest n is (inr (c, front, more, split, it, none, k)) =
    begins_not 39 rest more (character_once 39 body b c (39 ∷ rest) more is it).1 none

bad_one_once : (body : List ℕ) (m n : ℕ) → IsBadCharacter body m → IsBadCharacter body n → m ≡ n
bad_one_once body m n (inl (none, k)) (inl (other, l)) = k ∙ sym l
bad_one_once body m n (inl (none, k)) (inr (c, g, s, e, it, last, l)) = absurd (none c s it)
bad_one_once body m n (inr (b, f, r, d, is, none, k)) (inl (other, l)) = absurd (other b r is)
bad_one_once body m n (inr (b, f, r, d, is, none, k)) (inr (c, g, s, e, it, last, l)) =
    let same = character_once 39 body b c r s is it in
    k ∙ same_length body f g r s d e same.1 ∙ sym l

one_once : (body : List ℕ) (b c : ℕ) (r s : List ℕ) → IsCharacter 39 body b (39 ∷ r) → IsCharacter 39 body c (39 ∷ s) → (b ≡ c) × (r ≡ s)
one_once body b c r s is it =
    let same = character_once 39 body b c (39 ∷ r) (39 ∷ s) is it in
    let behind : 39 ∷ r ≡ 39 ∷ s = same.1 in
    (same.0, cc)

pub character_front_once : (body : List ℕ) (a b : Front) → CharacterFront body a → CharacterFront body b → a ≡ b
character_front_once body a b (one c r is e) (one d s it f) =
    let same = one_once body c d r s is it in
    e ∙ ap (λ (x : ℕ). Right (seen.Token (character_token x)) r) same.0 ∙ ap (λ (x : List ℕ). Right (seen.Token (character_token d)) x) same.1
    ∙ sym f
character_front_once body a b (one c r is e) (open_one none f) = absurd (none (one_closed body c r is))
character_front_once body a b (one c r is e) (bad_one n closed it f) = absurd (one_not_bad body c r n is it)
character_front_once body a b (open_one none e) (one d s it f) = absurd (none (one_closed body d s it))
character_front_once body a b (open_one none e) (open_one other f) = e ∙ sym f
character_front_once body a b (open_one none e) (bad_one n closed it f) = absurd (none closed)
character_front_once body a b (bad_one m closed is e) (one d s it f) = absurd (one_not_bad body d s m it is)
character_front_once body a b (bad_one m closed is e) (open_one none f) = absurd (none closed)
character_front_once body a b (bad_one m closed is e) (bad_one n other it f) =
    e ∙ ap (λ (x : ℕ). Wrong BadByte (1 + x)) (bad_one_once body m n is it) ∙ sym f

-- a character, and then no quote
pub goes_on_bad : (body : List ℕ) (b : ℕ) (rest front : List ℕ) → IsCharacter 39 body b rest → body ≡ front ++ rest
    → NotFirst (λ c. eqb c 39) rest → IsBadCharacter body (length front)
goes_on_bad body b rest front is e none = inr (b, front, rest, e, is, none, refl)

pub is_character : (text body : List ℕ) (a : Front) → text ≡ 39 ∷ body → CharacterFront body a → IsFront text a
is_character text body a is (one b rest it e) =
    let P : Front → Type 0 = λ x. IsFront text x in
    let l : IsLexeme text (character_token b) rest = character b body is it refl in
    subst P (sym e) l
is_character text body a is (open_one none e) =
    let P : Front → Type 0 = λ x. IsFront text x in
    let t : IsBadToken text Unclosed 0 = open_literal 39 body (inr refl) is none refl refl in
    subst P (sym e) t
is_character text body a is (bad_one n closed it e) =
    let P : Front → Type 0 = λ x. IsFront text x in
    let t : IsBadToken text BadByte (1 + n) = bad_character body n is closed it refl refl in
    subst P (sym e) t

one_behind : (body : List ℕ) (b : ℕ) (rest : List ℕ) → IsClosed 39 body → IsCharacter 39 body b rest → (a : Front) × CharacterFront body a
one_behind body b [] closed is =
    let t = character_takes 39 body b [] is in
    (Wrong BadByte (1 + length t.front), bad_one (length t.front) closed (goes_on_bad body b [] t.front is t.text_is tt) refl)
one_behind body b (x ∷ xs) closed is = by_test (eqb x 39) refl
  where
    by_test : (test : Bool) → eqb x 39 ≡ test → (a : Front) × CharacterFront body a
    by_test true e =
        let P : ℕ → Type 0 = λ y. IsCharacter 39 body b (y ∷ xs) in
        let l = character_token b in
        (Right (seen.Token l) xs, one b xs (subst P (eqb-true x 39 e) is) refl)
    by_test false e =
        let t = character_takes 39 body b (x ∷ xs) is in
        (Wrong BadByte (1 + length t.front), bad_one (length t.front) closed (goes_on_bad body b (x ∷ xs) t.front is t.text_is (not_is (eqb x 39) e)) refl)

pub character_some : (body : List ℕ) → (a : Front) × CharacterFront body a
character_some body = by_test (is_closed 39 body) refl
  where
    read_it : (o : Option (ℕ × List ℕ)) → character_at 39 body ≡ o → IsClosed 39 body → (a : Front) × CharacterFront body a
    read_it None e closed = (Wrong BadByte (1 + 0), bad_one 0 closed (inl (no_character 39 body e, refl)) refl)
    read_it (Some (b, rest)) e closed = one_behind body b rest closed (character_at-sound 39 body b rest e)

    by_test : (test : Bool) → is_closed 39 body ≡ test → (a : Front) × CharacterFront body a
    by_test true e = read_it (character_at 39 body) refl (is_closed-sound 39 body e)
    by_test false e = (Wrong Unclosed 0, open_one (not_closed 39 body e) refl)
