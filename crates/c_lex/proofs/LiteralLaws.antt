-- The bytes of a literal: how far they go, and that a closed one goes on behind each.
use Rattle.std.proofs.Common.{◌≡◌, ◌≢◌, ℕ, zero, suc, ◌<◌, ◌≤◌, true, List, [], ◌∷◌, ◌++◌, Option, Some, None, append_assoc, refl, sym, ap, subst, ◌∙◌, arith, length, length-append}
use Rattle.std.specs.Prelude.{nat_lt}
use Rattle.std.specs.List.{AllByRecursion}
use Rattle.std.proofs.lemmas.Bool.Decides.{nat_tests}
use Rattle.c_lex.specs.Literals.{digit_value, is_digit, is_plain, letters, IsCharacter, plain, letter, hexadecimal, octal, AreCharacters, AreDigits, IsClosed, byte, escape}
use Rattle.c_lex.specs.Reading.{character_at}
use Rattle.c_lex.specs.Fronts.{EndsWith}
use Rattle.c_lex.proofs.CharacterLaws.{all_hold, character_once, character_at-sound, no_character}

-- ---- what is taken

-- the text is some bytes, at least one, and then the rest
pub record Takes (text rest : List ℕ) : Type 0 where
  pub front : List ℕ
  pub some : front ≢ []
  pub text_is : text ≡ front ++ rest

pub takes : (b : ℕ) (bs rest text : List ℕ) → text ≡ b ∷ bs ++ rest → Takes text rest
takes b bs rest text e = record { front = b ∷ bs; some = λ f. absurd cc; text_is = e }

shorter_by : (front text rest : List ℕ) → front ≢ [] → text ≡ front ++ rest → length rest < length text
shorter_by [] text rest some e = absurd (some refl)
shorter_by (x ∷ xs) text rest some e = omega (arith, ap length e, length-append xs rest)

pub takes-shorter : (text rest : List ℕ) → Takes text rest → length rest < length text
takes-shorter text rest t = shorter_by t.front text rest t.some t.text_is

pub character_takes : (quote : ℕ) (text : List ℕ) (b : ℕ) (rest : List ℕ) → IsCharacter quote text b rest → Takes text rest
character_takes quote text b rest (plain is e) = takes b [] rest text e
character_takes quote text b rest (letter c before behind t e) = takes 92 (c ∷ []) rest text e
character_takes quote text b rest (hexadecimal digits all some few longest value e) = takes 92 (120 ∷ digits) rest text e
character_takes quote text b rest (octal digits all some few longest value fits e) = takes 92 digits rest text e

pub characters_front : (quote : ℕ) (text bytes rest : List ℕ) → AreCharacters quote text bytes rest → EndsWith text rest
characters_front quote text [] rest e = ([], e)
characters_front quote text (b ∷ bs) rest (mid, is, more) =
    let first = character_takes quote text b mid is in
    let later = characters_front quote mid bs rest more in
    (first.front ++ later.0, first.text_is ∙ ap (λ (x : List ℕ). first.front ++ x) later.1 ∙ sym (append_assoc first.front later.0 rest))

-- one more
pub characters_more : (quote : ℕ) (text bytes mid : List ℕ) (b : ℕ) (rest : List ℕ) → AreCharacters quote text bytes mid
    → IsCharacter quote mid b rest → AreCharacters quote text (bytes ++ b ∷ []) rest
characters_more quote text [] mid b rest e is =
    let P : List ℕ → Type 0 = λ x. IsCharacter quote x b rest in
    (rest, subst P (sym e) is, refl)
characters_more quote text (c ∷ cs) mid b rest (next, first, more) is = (next, first, characters_more quote next cs mid b rest more is)

-- ---- as far as there are any

pub record Reads (quote : ℕ) (body bytes rest : List ℕ) : Type 0 where
  pub are : AreCharacters quote body bytes rest
  pub none : (b : ℕ) (more : List ℕ) → IsCharacter quote rest b more → ⊥

reads_more : (quote : ℕ) (body : List ℕ) (b : ℕ) (mid bytes rest : List ℕ) → IsCharacter quote body b mid
    → Reads quote mid bytes rest → Reads quote body (b ∷ bytes) rest
reads_more quote body b mid bytes rest is r = record { are = (mid, is, r.are); none = r.none }

-- what is read as far as there are any
pub record Read (quote : ℕ) (body : List ℕ) : Type 0 where
  pub bytes : List ℕ
  pub rest : List ℕ
  pub reads : Reads quote body bytes rest

read_by : (n quote : ℕ) (body : List ℕ) → length body ≤ n → (o : Option (ℕ × List ℕ)) → character_at quote body ≡ o → Read quote body
read_by n quote body small None e =
    record { bytes = []; rest = body; reads = record { are = refl; none = no_character quote body e } }
read_by zero quote body small (Some (b, mid)) e =
    let is = character_at-sound quote body b mid e in
    absurd (omega (arith, small, takes-shorter body mid (character_takes quote body b mid is)))
read_by (suc n) quote body small (Some (b, mid)) e =
    let is = character_at-sound quote body b mid e in
    let less : length mid < length body = takes-shorter body mid (character_takes quote body b mid is) in
    let later = read_by n quote mid (omega (arith, small, less)) (character_at quote mid) refl in
    record { bytes = b ∷ later.bytes; rest = later.rest; reads = reads_more quote body b mid later.bytes later.rest is later.reads }

pub read : (quote : ℕ) (body : List ℕ) → Read quote body
read quote body = read_by (length body) quote body (omega arith) (character_at quote body) refl

pub reads_once : (quote : ℕ) (body bs cs r s : List ℕ) → Reads quote body bs r → Reads quote body cs s → (bs ≡ cs) × (r ≡ s)
reads_once quote body [] [] r s one other = (refl, sym one.are ∙ other.are)
reads_once quote body [] (c ∷ cs) r s one other =
    let P : List ℕ → Type 0 = λ x. IsCharacter quote x c other.are.0 in
    absurd (one.none c other.are.0 (subst P one.are other.are.1))
reads_once quote body (b ∷ bs) [] r s one other =
    let P : List ℕ → Type 0 = λ x. IsCharacter quote x b one.are.0 in
    absurd (other.none b one.are.0 (subst P other.are one.are.1))
reads_once quote body (b ∷ bs) (c ∷ cs) r s one other =
    let same = character_once quote body b c one.are.0 other.are.0 one.are.1 other.are.1 in
    let first : b ≡ c = same.0 in
    let P : List ℕ → Type 0 = λ x. AreCharacters quote x cs s in
    let later = reads_once quote one.are.0 bs cs r s (record { are = one.are.2; none = one.none })
    (record { are = subst P (sym same.1) other.are.2; none = other.none }) in
    let bytes : bs ≡ cs = later.0 in
    (cc, later.1)

-- ---- a closed literal goes on behind each character

pub plain_no_quote : (quote b : ℕ) → quote < 48 → is_plain quote b ≡ true → b ≢ quote
plain_no_quote quote b small is = λ e. grind (arith, nat_tests)

pub plain_no_slash : (quote b : ℕ) → is_plain quote b ≡ true → b ≢ 92
plain_no_slash quote b is = λ e. grind (arith, nat_tests)

pub plain_no_feed : (quote b : ℕ) → is_plain quote b ≡ true → b ≢ 10
plain_no_feed quote b is = λ e. grind (arith, nat_tests)

digit_high : (d : ℕ) → is_digit 16 d ≡ true → 48 ≤ d
digit_high d is = grind (arith, nat_tests)

digit_no_slash : (d : ℕ) → is_digit 16 d ≡ true → d ≢ 92
digit_no_slash d is = λ e. grind (arith, nat_tests)

digit_wider : (d : ℕ) → is_digit 8 d ≡ true → is_digit 16 d ≡ true
digit_wider d is = wider (digit_value d) is
  where
    wider : (n : ℕ) → nat_lt n 8 ≡ true → nat_lt n 16 ≡ true
    wider n e = grind (arith, nat_tests)

digits_wider : (digits : List ℕ) → AreDigits 8 digits → AreDigits 16 digits
digits_wider [] all = tt
digits_wider (d ∷ ds) all = (digit_wider d all.0, digits_wider ds all.1)

digits_close : (quote : ℕ) (digits rest : List ℕ) → quote < 48 → AreDigits 16 digits → IsClosed quote rest → IsClosed quote (digits ++ rest)
digits_close quote [] rest small all s = s
digits_close quote (d ∷ ds) rest small all s =
    let high = digit_high d all.0 in
    byte d (ds ++ rest) (λ e. absurd (omega (arith, high, e, small))) (digit_no_slash d all.0) (λ e. absurd (omega (arith, high, e)))
    (digits_close quote ds rest small all.1 s)

abbrev IsNoFeed : ℕ × ℕ → Type 0
IsNoFeed entry = entry.0 ≢ 10

no_feeds : AllByRecursion IsNoFeed letters
no_feeds = ((λ e. absurd cc), ((λ e. absurd cc), ((λ e. absurd cc), ((λ e. absurd cc), ((λ e. absurd cc), ((λ e. absurd cc), ((λ e. absurd cc), ((λ e. absurd cc), ((λ e. absurd cc), ((λ e. absurd cc), ((λ e. absurd cc), tt)))))))))))

at_text : (quote : ℕ) (text other : List ℕ) → text ≡ other → IsClosed quote other → IsClosed quote text
at_text quote text other e s = let P : List ℕ → Type 0 = λ x. IsClosed quote x in subst P (sym e) s

octal_close : (quote : ℕ) (text digits rest : List ℕ) → quote < 48 → AreDigits 8 digits → digits ≢ [] → text ≡ 92 ∷ digits ++ rest
    → IsClosed quote rest → IsClosed quote text
octal_close quote text [] rest small all some e s = absurd (some refl)
octal_close quote text (d ∷ ds) rest small all some e s =
    let wide = digits_wider (d ∷ ds) all in
    let high = digit_high d wide.0 in
    at_text quote text (92 ∷ d ∷ ds ++ rest) e
    (escape d (ds ++ rest) (λ f. absurd (omega (arith, high, f))) (digits_close quote ds rest small wide.1 s))

pub character_closed : (quote : ℕ) (text : List ℕ) (b : ℕ) (rest : List ℕ) → quote < 48 → IsCharacter quote text b rest
    → IsClosed quote rest → IsClosed quote text
character_closed quote text b rest small (plain is e) s =
    at_text quote text (b ∷ rest) e
    (byte b rest (plain_no_quote quote b small is) (plain_no_slash quote b is) (plain_no_feed quote b is) s)
character_closed quote text b rest small (letter c before behind t e) s =
    at_text quote text (92 ∷ c ∷ rest) e (escape c rest (all_hold IsNoFeed letters before behind (c, b) no_feeds t) s)
character_closed quote text b rest small (hexadecimal digits all some few longest value e) s =
    at_text quote text (92 ∷ 120 ∷ digits ++ rest) e
    (escape 120 (digits ++ rest) (λ f. absurd cc) (digits_close quote digits rest small all s))
character_closed quote text b rest small (octal digits all some few longest value fits e) s =
    octal_close quote text digits rest small all some e s

pub characters_closed : (quote : ℕ) (text bytes rest : List ℕ) → quote < 48 → AreCharacters quote text bytes rest
    → IsClosed quote rest → IsClosed quote text
characters_closed quote text [] rest small e s = at_text quote text rest e s
characters_closed quote text (b ∷ bs) rest small (mid, is, more) s =
    character_closed quote text b mid small is (characters_closed quote mid bs rest small more s)

-- ---- a quote is no character

no_double : (r : List ℕ) → character_at 34 (34 ∷ r) ≡ None
unfolding character_at
no_double r = refl

no_single : (r : List ℕ) → character_at 39 (39 ∷ r) ≡ None
unfolding character_at
no_single r = refl

pub double_quote : (r : List ℕ) (b : ℕ) (more : List ℕ) → IsCharacter 34 (34 ∷ r) b more → ⊥
double_quote r = no_character 34 (34 ∷ r) (no_double r)

pub single_quote : (r : List ℕ) (b : ℕ) (more : List ℕ) → IsCharacter 39 (39 ∷ r) b more → ⊥
single_quote r = no_character 39 (39 ∷ r) (no_single r)
