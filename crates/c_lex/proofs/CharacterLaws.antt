-- What stands for one byte in a literal is read as that byte, and nothing else is.
use Rattle.std.proofs.Common.{◌≡◌, ◌≢◌, ℕ, ◌+◌, ◌*◌, ◌<◌, ◌≤◌, ◌⊎◌, ◌||◌, ◌&&◌, Bool, true, false, cond, eqb, List, [], ◌∷◌, ◌++◌, Option, Some, None, refl, sym, ap, subst, ◌∙◌, arith, take, drop, length, inl, inr}
use Rattle.std.specs.Prelude.{nat_lt, nat_le, not}
use Rattle.std.specs.List.{AllByRecursion}
use Rattle.std.proofs.lemmas.Bool.{eqb-true}
use Rattle.std.proofs.lemmas.Bool.Decides.{nat_tests}
use Rattle.c_lex.specs.Literals.{digit_value, is_digit, is_plain, letters, IsCharacter, plain, letter, hexadecimal, octal, number_of, AreDigits}
use Rattle.c_lex.specs.Reading.{digits_at, letter_of, letter_or, escape_at, character_at}
use Rattle.c_lex.proofs.CloseLaws.{chosen}
use Rattle.c_lex.proofs.DigitLaws.{Spells, chosen_true, chosen_false, digits_at-complete, digits_at-sound, found, some_once, pair_once}

-- ---- letters

-- what holds of all holds of one
pub all_hold : {X : Type 0} (P : X → Type 0) (xs before behind : List X) (x : X) → AllByRecursion P xs → xs ≡ before ++ x ∷ behind → P x
all_hold P [] [] behind x all e = absurd cc
all_hold P [] (z ∷ zs) behind x all e = absurd cc
all_hold P (y ∷ ys) [] behind x all e = let same : y ≡ x = cc in subst P same all.0
all_hold P (y ∷ ys) (z ∷ zs) behind x all e = let same : ys ≡ zs ++ x ∷ behind = cc in all_hold P ys zs behind x all.1 same

abbrev Gives : ℕ × ℕ → Type 0
Gives entry = letter_of entry.0 ≡ Some entry.1

all_given : AllByRecursion Gives letters
unfolding letter_of
all_given = (refl, (refl, (refl, (refl, (refl, (refl, (refl, (refl, (refl, (refl, (refl, tt)))))))))))

-- the entry stands in the table
pub record Entry (c b : ℕ) : Type 0 where
  pub before : List (ℕ × ℕ)
  pub behind : List (ℕ × ℕ)
  pub table_is : letters ≡ before ++ (c, b) ∷ behind

letter_of-complete : (c b : ℕ) → Entry c b → letter_of c ≡ Some b
letter_of-complete c b e = all_hold Gives letters e.before e.behind (c, b) all_given e.table_is

put : (c b x y : ℕ) (before behind : List (ℕ × ℕ)) → letters ≡ before ++ (x, y) ∷ behind → c ≡ x → b ≡ y → Entry c b
put c b x y before behind e f g = record {
  before = before;
  behind = behind;
  table_is = e ∙ ap (λ (z : ℕ). before ++ (z, y) ∷ behind) (sym f) ∙ ap (λ (z : ℕ). before ++ (c, z) ∷ behind) (sym g);
}

one_letter : (c x y b : ℕ) (other : Option ℕ) (P : Type 0) → (c ≡ x → b ≡ y → P) → (other ≡ Some b → P)
    → cond (eqb c x) (Some y) other ≡ Some b → P
one_letter c x y b other P here later e =
    elim (chosen (eqb c x) (Some y) other (Some b) e) [
      | inl (t, f) ↦ here (eqb-true c x t) (some_once b y (sym f))
      | inr (t, f) ↦ later f
    ]

either : (a b : Bool) → (a || b) ≡ true → (a ≡ true) ⊎ (b ≡ true)
either true b e = inl refl
either false b e = inr e

itself : (c x y b : ℕ) → (eqb c x ≡ true) → Some c ≡ Some b → x ≡ y → (c ≡ x) × (b ≡ y)
itself c x y b t e f = let same : c ≡ x = eqb-true c x t in (same, sym (some_once c b e) ∙ same ∙ f)

last_letters : (c b : ℕ) → cond (eqb c 92 || (eqb c 39 || (eqb c 34 || eqb c 63))) (Some c) None ≡ Some b → Entry c b
last_letters c b e =
    elim (chosen (eqb c 92 || (eqb c 39 || (eqb c 34 || eqb c 63))) (Some c) None (Some b) e) [
      | inr (t, f) ↦ absurd cc
      | inl (t, f) ↦ elim (either (eqb c 92) (eqb c 39 || (eqb c 34 || eqb c 63)) t) [
        | inl t1 ↦ let both = itself c 92 92 b t1 f refl in put c b 92 92 (take 7 letters) (drop 8 letters) refl both.0 both.1
        | inr t1 ↦ elim (either (eqb c 39) (eqb c 34 || eqb c 63) t1) [
          | inl t2 ↦ let both = itself c 39 39 b t2 f refl in put c b 39 39 (take 8 letters) (drop 9 letters) refl both.0 both.1
          | inr t2 ↦ elim (either (eqb c 34) (eqb c 63) t2) [
            | inl t3 ↦ let both = itself c 34 34 b t3 f refl in put c b 34 34 (take 9 letters) (drop 10 letters) refl both.0 both.1
            | inr t3 ↦ let both = itself c 63 63 b t3 f refl in put c b 63 63 (take 10 letters) (drop 11 letters) refl both.0 both.1
          ]
        ]
      ]
    ]

letter_of-sound : (c b : ℕ) → letter_of c ≡ Some b → Entry c b
unfolding letter_of
letter_of-sound c b e =
    one_letter c 110 10 b _ (Entry c b) (put c b 110 10 [] (drop 1 letters) refl)
    (one_letter c 116 9 b _ (Entry c b) (put c b 116 9 (take 1 letters) (drop 2 letters) refl)
    (one_letter c 114 13 b _ (Entry c b) (put c b 114 13 (take 2 letters) (drop 3 letters) refl)
    (one_letter c 97 7 b _ (Entry c b) (put c b 97 7 (take 3 letters) (drop 4 letters) refl)
    (one_letter c 98 8 b _ (Entry c b) (put c b 98 8 (take 4 letters) (drop 5 letters) refl)
    (one_letter c 102 12 b _ (Entry c b) (put c b 102 12 (take 5 letters) (drop 6 letters) refl)
    (one_letter c 118 11 b _ (Entry c b) (put c b 118 11 (take 6 letters) (drop 7 letters) refl)
    (last_letters c b))))))) e

-- ---- escapes

abbrev IsNoDigit : ℕ × ℕ → Type 0
IsNoDigit entry = 48 ≤ entry.0 → entry.0 ≤ 57 → ⊥

no_digits : AllByRecursion IsNoDigit letters
no_digits = ((λ l h. omega (arith, h)), ((λ l h. omega (arith, h)), ((λ l h. omega (arith, h)), ((λ l h. omega (arith, h)), ((λ l h. omega (arith, h)), ((λ l h. omega (arith, h)), ((λ l h. omega (arith, h)), ((λ l h. omega (arith, h)), ((λ l h. omega (arith, l)), ((λ l h. omega (arith, l)), ((λ l h. omega (arith, h)), tt)))))))))))

digit_no_letter : (d : ℕ) (o : Option ℕ) → letter_of d ≡ o → 48 ≤ d → d ≤ 57 → letter_of d ≡ None
digit_no_letter d None e low high = e
digit_no_letter d (Some b) e low high =
    let entry = letter_of-sound d b e in
    absurd (all_hold IsNoDigit letters entry.before entry.behind (d, b) no_digits entry.table_is low high)

pub octal_low : (d : ℕ) → is_digit 8 d ≡ true → 48 ≤ d
octal_low d e = grind (arith, nat_tests)

pub octal_high : (d : ℕ) → is_digit 8 d ≡ true → d ≤ 55
octal_high d e = grind (arith, nat_tests)

not_x : (d : ℕ) → d ≤ 55 → eqb d 120 ≡ false
not_x d e = grind (arith, nat_tests)

by_letter : (c b : ℕ) (bs : List ℕ) (other : Option (ℕ × List ℕ)) (o : Option ℕ) → o ≡ Some b → letter_or o bs other ≡ found b bs
by_letter c b bs other (Some x) e = let same : x ≡ b = some_once x b e in ap (λ (y : ℕ). found y bs) same
by_letter c b bs other None e = absurd cc

no_letter : (bs : List ℕ) (other : Option (ℕ × List ℕ)) (o : Option ℕ) → o ≡ None → letter_or o bs other ≡ other
no_letter bs other (Some x) e = absurd cc
no_letter bs other None e = refl

escape_letter : (c b : ℕ) (bs : List ℕ) → Entry c b → escape_at (c ∷ bs) ≡ found b bs
unfolding escape_at
escape_letter c b bs e =
    by_letter c b bs (cond (eqb c 120) (digits_at 16 2 bs) (digits_at 8 3 (c ∷ bs))) (letter_of c) (letter_of-complete c b e)

escape_hexadecimal : (bs : List ℕ) → escape_at (120 ∷ bs) ≡ digits_at 16 2 bs
unfolding escape_at letter_of
escape_hexadecimal bs = refl

escape_octal : (d : ℕ) (bs : List ℕ) → is_digit 8 d ≡ true → escape_at (d ∷ bs) ≡ digits_at 8 3 (d ∷ bs)
unfolding escape_at
escape_octal d bs is =
    let low = octal_low d is in
    let high = octal_high d is in
    no_letter bs (cond (eqb d 120) (digits_at 16 2 bs) (digits_at 8 3 (d ∷ bs))) (letter_of d)
    (digit_no_letter d (letter_of d) refl low (omega (arith, high)))
    ∙ chosen_false (eqb d 120) (digits_at 16 2 bs) (digits_at 8 3 (d ∷ bs)) (not_x d high)

-- ---- characters

plain_slash : (test : Bool) (x y z : Bool) → x ≡ true → y ≡ true → z ≡ false → ((x && (y && not (test || true))) || z) ≡ false
plain_slash true true true false e f g = refl
plain_slash false true true false e f g = refl
plain_slash test false y z e f g = absurd cc
plain_slash test true false z e f g = absurd cc
plain_slash test true true true e f g = absurd cc

pub slash_not_plain : (quote : ℕ) → is_plain quote 92 ≡ false
slash_not_plain quote = plain_slash (eqb 92 quote) (nat_le 32 92) (nat_le 92 126) (nat_le 128 92) refl refl refl

reads_escape : (quote : ℕ) (bs : List ℕ) → character_at quote (92 ∷ bs) ≡ escape_at bs
unfolding character_at
reads_escape quote bs = chosen_false (is_plain quote 92) (found 92 bs) (escape_at bs) (slash_not_plain quote)

reads_plain : (quote b : ℕ) (bs : List ℕ) → is_plain quote b ≡ true → character_at quote (b ∷ bs) ≡ found b bs
unfolding character_at
reads_plain quote b bs is = chosen_true (is_plain quote b) (found b bs) (cond (eqb b 92) (escape_at bs) None) is

two_digits : (digits : List ℕ) → AreDigits 16 digits → digits ≢ [] → length digits ≤ 2 → number_of 16 digits ≤ 255
two_digits [] all some few = absurd (some refl)
two_digits (a ∷ []) all some few = one (digit_value a) (below (digit_value a) all.0)
  where
    one : (n : ℕ) → n < 16 → 16 * 0 + n ≤ 255
    one n e = omega (arith, e)

    below : (n : ℕ) → nat_lt n 16 ≡ true → n < 16
    below n e = grind (arith, nat_tests)
two_digits (a ∷ b ∷ []) all some few = two (digit_value a) (digit_value b) (below (digit_value a) all.0) (below (digit_value b) all.1.0)
  where
    two : (m n : ℕ) → m < 16 → n < 16 → 16 * (16 * 0 + m) + n ≤ 255
    two m n e f = omega (arith, e, f)

    below : (n : ℕ) → nat_lt n 16 ≡ true → n < 16
    below n e = grind (arith, nat_tests)
two_digits (a ∷ b ∷ c ∷ ds) all some few = absurd (omega (arith, few))

octal_text : (b : ℕ) (bs digits rest : List ℕ) → Spells 8 3 bs b rest → bs ≡ digits ++ rest → digits ≢ [] → AreDigits 8 digits
    → escape_at bs ≡ found b rest
octal_text b bs [] rest s e some all = absurd (some refl)
octal_text b bs (d ∷ ds) rest s e some all =
    ap escape_at e ∙ escape_octal d (ds ++ rest) all.0 ∙ sym (ap (digits_at 8 3) e) ∙ digits_at-complete 8 3 bs b rest s

pub character_at-complete : (quote : ℕ) (text : List ℕ) (b : ℕ) (rest : List ℕ) → IsCharacter quote text b rest
    → character_at quote text ≡ found b rest
character_at-complete quote text b rest (plain is e) = ap (character_at quote) e ∙ reads_plain quote b rest is
character_at-complete quote text b rest (letter c before behind t e) =
    ap (character_at quote) e ∙ reads_escape quote (c ∷ rest)
    ∙ escape_letter c b rest (record { before = before; behind = behind; table_is = t })
character_at-complete quote text b rest (hexadecimal digits all some few longest value e) =
    let fits : number_of 16 digits ≤ 255 = two_digits digits all some few in
    ap (character_at quote) e ∙ reads_escape quote (120 ∷ digits ++ rest) ∙ escape_hexadecimal (digits ++ rest)
    ∙ digits_at-complete 16 2 (digits ++ rest) b rest
    (record { digits = digits; all = all; some = some; few = few; longest = longest; value_is = value; fits = omega (arith, value, fits); text_is = refl })
character_at-complete quote text b rest (octal digits all some few longest value fits e) =
    ap (character_at quote) e ∙ reads_escape quote (digits ++ rest)
    ∙ octal_text b (digits ++ rest) digits rest
    (record { digits = digits; all = all; some = some; few = few; longest = longest; value_is = value; fits = fits; text_is = refl })
    refl some all

-- ---- what is read is one

letter_found : (quote a c b x : ℕ) (bs cs rest : List ℕ) → a ≡ 92 → letter_of c ≡ Some x → found x cs ≡ found b rest
    → IsCharacter quote (a ∷ c ∷ cs) b rest
letter_found quote a c b x bs cs rest e is f =
    let pair = pair_once x b cs rest f in
    let same : x ≡ b = pair.0 in
    let behind : cs ≡ rest = pair.1 in
    let entry = letter_of-sound c b (is ∙ ap (λ (y : ℕ). Some y) same) in
    letter c entry.before entry.behind entry.table_is (cc)

hexadecimal_found : (quote a c b : ℕ) (cs rest : List ℕ) → a ≡ 92 → c ≡ 120 → Spells 16 2 cs b rest → IsCharacter quote (a ∷ c ∷ cs) b rest
hexadecimal_found quote a c b cs rest e f s =
    let is : cs ≡ s.digits ++ rest = s.text_is in
    hexadecimal s.digits s.all s.some s.few s.longest s.value_is (cc)

octal_found : (quote a b : ℕ) (bs rest : List ℕ) → a ≡ 92 → Spells 8 3 bs b rest → IsCharacter quote (a ∷ bs) b rest
octal_found quote a b bs rest e s =
    let is : bs ≡ s.digits ++ rest = s.text_is in
    octal s.digits s.all s.some s.few s.longest s.value_is s.fits (cc)

by_escape : (quote a c b : ℕ) (cs rest : List ℕ) (o : Option ℕ) → letter_of c ≡ o → a ≡ 92
    → letter_or o cs (cond (eqb c 120) (digits_at 16 2 cs) (digits_at 8 3 (c ∷ cs))) ≡ found b rest
    → IsCharacter quote (a ∷ c ∷ cs) b rest
by_escape quote a c b cs rest (Some x) is e f = letter_found quote a c b x cs cs rest e is f
by_escape quote a c b cs rest None is e f =
    elim (chosen (eqb c 120) (digits_at 16 2 cs) (digits_at 8 3 (c ∷ cs)) (found b rest) f) [
      | inl (y, g) ↦ hexadecimal_found quote a c b cs rest e (eqb-true c 120 y) (digits_at-sound 16 2 cs b rest g)
      | inr (n, g) ↦ octal_found quote a b (c ∷ cs) rest e (digits_at-sound 8 3 (c ∷ cs) b rest g)
    ]

escape_found : (quote a b : ℕ) (bs rest : List ℕ) → a ≡ 92 → escape_at bs ≡ found b rest → IsCharacter quote (a ∷ bs) b rest
unfolding escape_at
escape_found quote a b [] rest e f = absurd cc
escape_found quote a b (c ∷ cs) rest e f = by_escape quote a c b cs rest (letter_of c) refl e f

plain_found : (quote a b : ℕ) (bs rest : List ℕ) → is_plain quote a ≡ true → found a bs ≡ found b rest → IsCharacter quote (a ∷ bs) b rest
plain_found quote a b bs rest is e =
    let pair = pair_once a b bs rest e in
    let same : a ≡ b = pair.0 in
    let behind : bs ≡ rest = pair.1 in
    plain (sym (ap (is_plain quote) same) ∙ is) (cc)

pub character_at-sound : (quote : ℕ) (text : List ℕ) (b : ℕ) (rest : List ℕ) → character_at quote text ≡ found b rest
    → IsCharacter quote text b rest
unfolding character_at
character_at-sound quote [] b rest e = absurd cc
character_at-sound quote (a ∷ bs) b rest e =
    elim (chosen (is_plain quote a) (found a bs) (cond (eqb a 92) (escape_at bs) None) (found b rest) e) [
      | inl (y, f) ↦ plain_found quote a b bs rest y f
      | inr (n, f) ↦ elim (chosen (eqb a 92) (escape_at bs) None (found b rest) f) [
        | inl (y, g) ↦ escape_found quote a b bs rest (eqb-true a 92 y) g
        | inr (m, g) ↦ absurd cc
      ]
    ]

pub no_character : (quote : ℕ) (text : List ℕ) → character_at quote text ≡ None → (b : ℕ) (rest : List ℕ) → IsCharacter quote text b rest → ⊥
no_character quote text e b rest is = let f : character_at quote text ≡ found b rest = character_at-complete quote text b rest is in absurd cc

-- a text begins with one character, if with any
pub character_once : (quote : ℕ) (text : List ℕ) (b c : ℕ) (r s : List ℕ) → IsCharacter quote text b r → IsCharacter quote text c s
    → (b ≡ c) × (r ≡ s)
character_once quote text b c r s one other =
    pair_once b c r s (sym (character_at-complete quote text b r one) ∙ character_at-complete quote text c s other)
