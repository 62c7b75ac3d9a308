-- A number at the front of a text is read exactly as it is defined.
use Rattle.std.proofs.Common.{◌≡◌, ◌≢◌, ℕ, suc, ◌+◌, ◌^◌, ◌≤◌, ◌<◌, ◌⊎◌, ◌&&◌, ◌||◌, Bool, true, false, eqb, List, [], ◌∷◌, ◌++◌, length, take, drop, Some, None, refl, sym, ap, subst, ◌∙◌, length-append, arith, inl, inr}
use Rattle.std.specs.Prelude.{IsTrue, not, nat_lt, ◌==◌, codes}
use Rattle.std.specs.List.{prefix_len, AllByRecursion}
use Rattle.std.proofs.lemmas.Bool.{cases_Bool, not-true, false≢true, eqb-true, and_parts, or_cases}
use Rattle.std.proofs.lemmas.Bool.Decides.{nat_tests}
use Rattle.std.proofs.lemmas.List.{take-append-drop}
use Rattle.c_lex.specs.declared.token.NumberType.{NumberType}
use Rattle.c_lex.specs.declared.token.NumberType.TheVariants as type
use Rattle.c_lex.specs.declared.numbers.Notation.{Notation}
use Rattle.c_lex.specs.declared.numbers.Notation.TheVariants.{Decimal, Octal, Hexadecimal}
use Rattle.c_lex.specs.declared.lexeme.Lexeme.{Lexeme}
use Rattle.c_lex.specs.declared.suffixes.Suffix.{Suffix}
use Rattle.c_lex.specs.declared.fronts.Seen.TheVariants as seen
use Rattle.c_lex.specs.Blanks.{First, NotFirst}
use Rattle.c_lex.specs.Words.{starts_word}
use Rattle.c_lex.specs.Literals.{base_of, number_of, is_digit, is_run_digit, is_float_sign, AreDigits, begins_hexadecimal, IsRun, HasDigits, suits, types, IsFirstType, IsNumber}
use Rattle.c_lex.specs.Lexemes.{number_token, IsLexeme, keyword, name, number, character, string, mark}
use Rattle.c_lex.specs.Faults.{Cause, BadByte, FloatLiteral, TooWide, IsBadToken, byte, open_comment, out_word, float, fraction, octal, wide, open_literal, string as bad_string, character as bad_character}
use Rattle.c_lex.specs.Fronts.{Front, Right, Wrong, IsFront}
use Rattle.c_lex.specs.Reading.{notation_of, in_64_bits}
use Rattle.c_lex.specs.NumberVerdicts.{suffix_at, the_type, prefix_of, begins_so, typed, value_verdict, digits_verdict, run_verdict, number_front}
use Rattle.c_lex.proofs.Firsts.{clash, is_byte, first_is, gap-first, is_gap_byte, comment-first, mark-first, is_mark_byte, word-first, is_decimal_digit, fraction-first}
use Rattle.c_lex.proofs.Runs.{one_more, run-length, run-all, run-stops, cut-run}
use Rattle.c_lex.proofs.SuffixLaws.{suffix-is, one-suffix}
use Rattle.c_lex.proofs.NumberLaws.{is_int, is_unsigned_int, is_long, is_unsigned_long}

-- ---- the first byte of a list

pub first_so : (p : ℕ → Bool) (text : List ℕ) → begins_so p text ≡ true → First p text
first_so p [] e = absurd cc
first_so p (b ∷ bs) e = e

pub so_first : (p : ℕ → Bool) (text : List ℕ) → First p text → begins_so p text ≡ true
so_first p [] f = absurd f
so_first p (b ∷ bs) f = f

no_true : (b : Bool) → b ≡ false → IsTrue (not b)
no_true b e = ap not e

pub not_first_so : (p : ℕ → Bool) (text : List ℕ) → begins_so p text ≡ false → NotFirst p text
not_first_so p [] e = tt
not_first_so p (b ∷ bs) e = no_true (p b) e

pub so_not_first : (p : ℕ → Bool) (text : List ℕ) → NotFirst p text → begins_so p text ≡ false
so_not_first p [] f = refl
so_not_first p (b ∷ bs) f = not-true (p b) f

-- ---- types

one-type : (s : NumberType → Bool) (t : NumberType) → IsFirstType s t → t ≡ the_type s
one-type s t i = by-before i.before i.behind i.types_are i.none_before i.is_suited
  where
    by-before : (before behind : List NumberType) → types ≡ before ++ t ∷ behind → AllByRecursion (λ other. IsTrue (not (s other))) before → IsTrue (s t)
        → t ≡ the_type s
    by-before [] behind e none is =
        let same : type.Int ≡ t = cc in
        let yes_int : s type.Int ≡ true = ap s same ∙ is in
        sym same ∙ sym (rw yes_int refl)
    by-before (a ∷ []) behind e none is =
        let same : type.UnsignedInt ≡ t = cc in
        let first : type.Int ≡ a = cc in
        let f1 : s type.Int ≡ false = ap s first ∙ not-true (s a) none.0 in
        let y : s type.UnsignedInt ≡ true = ap s same ∙ is in
        sym same ∙ sym (rw (f1, y) refl)
    by-before (a ∷ b ∷ []) behind e none is =
        let same : type.Long ≡ t = cc in
        let first : type.Int ≡ a = cc in
        let second : type.UnsignedInt ≡ b = cc in
        let f1 : s type.Int ≡ false = ap s first ∙ not-true (s a) none.0 in
        let f2 : s type.UnsignedInt ≡ false = ap s second ∙ not-true (s b) none.1.0 in
        let y : s type.Long ≡ true = ap s same ∙ is in
        sym same ∙ sym (rw (f1, f2, y) refl)
    by-before (a ∷ b ∷ c ∷ []) behind e none is =
        let same : type.UnsignedLong ≡ t = cc in
        let first : type.Int ≡ a = cc in
        let second : type.UnsignedInt ≡ b = cc in
        let third : type.Long ≡ c = cc in
        let f1 : s type.Int ≡ false = ap s first ∙ not-true (s a) none.0 in
        let f2 : s type.UnsignedInt ≡ false = ap s second ∙ not-true (s b) none.1.0 in
        let f3 : s type.Long ≡ false = ap s third ∙ not-true (s c) none.1.1.0 in
        sym same ∙ sym (rw (f1, f2, f3) refl)
    by-before (a ∷ b ∷ c ∷ d ∷ ds) behind e none is = absurd (too_many ds behind cc)
      where
        too_many : (ds behind : List NumberType) → [] ≡ ds ++ t ∷ behind → ⊥
        too_many [] behind e = cc
        too_many (x ∷ xs) behind e = cc

first-type : (s : NumberType → Bool) → s type.UnsignedLong ≡ true → IsFirstType s (the_type s)
first-type s last =
    elim (cases_Bool (s type.Int)) [
      | inl y ↦ rw y (is_int s (sym y))
      | inr n ↦
          elim (cases_Bool (s type.UnsignedInt)) [
            | inl y ↦ rw (n, y) (is_unsigned_int s (sym n) (sym y))
            | inr m ↦
                elim (cases_Bool (s type.Long)) [
                  | inl y ↦ rw (n, m, y) (is_long s (sym n) (sym m) (sym y))
                  | inr k ↦ rw (n, m, k) (is_unsigned_long s (sym n) (sym m) (sym k) last)
                ]
          ]
    ]

-- ---- the digits

abbrev digits_of : Notation → List ℕ → List ℕ
digits_of n body = take (prefix_len (is_run_digit n) body) body

abbrev behind_digits : Notation → List ℕ → List ℕ
behind_digits n body = drop (prefix_len (is_run_digit n) body) body

-- the run that stands in a text behind what is before the digits
pub record TheRun (text : List ℕ) (n : Notation) : Type 0 where
  pub notation_is : notation_of text ≡ n
  pub run : IsRun text n (digits_of n (drop (prefix_of n) text)) (behind_digits n (drop (prefix_of n) text))

not_nil : (p : ℕ → Bool) (b : ℕ) (bs : List ℕ) → p b ≡ true → take (prefix_len p (b ∷ bs)) (b ∷ bs) ≢ []
not_nil p b bs y e = clash_nil (sym (rw (y, one_more) refl) ∙ e)
  where
    clash_nil : b ∷ take (prefix_len p bs) bs ≡ [] → ⊥
    clash_nil f = cc

hexadecimal-run : (a b c : ℕ) (bs : List ℕ) → begins_hexadecimal (a ∷ b ∷ c ∷ bs) ≡ true → TheRun (a ∷ b ∷ c ∷ bs) Hexadecimal
hexadecimal-run a b c bs e =
    let outer = and_parts (eqb a 48) ((eqb b 120 || eqb b 88) && is_digit 16 c) e in
    let inner = and_parts (eqb b 120 || eqb b 88) (is_digit 16 c) outer.1 in
    let first = eqb-true a 48 outer.0 in
    let body = c ∷ bs in
    record {
      notation_is = rw e refl;
      run = record {
        prefix = a ∷ b ∷ [];
        text_is = ap (λ (x : List ℕ). a ∷ b ∷ x) (sym (take-append-drop (prefix_len (is_run_digit Hexadecimal) body) body));
        begins = (spelled a b first (or_cases (eqb b 120) (eqb b 88) inner.0), not_nil (is_run_digit Hexadecimal) c bs inner.1);
        all = run-all (is_run_digit Hexadecimal) body;
        ends = run-stops (is_run_digit Hexadecimal) body;
      };
    }
  where
    spelled : (a b : ℕ) → a ≡ 48 → (eqb b 120 ≡ true) ⊎ (eqb b 88 ≡ true) → (a ∷ b ∷ [] ≡ codes "0x") ⊎ (a ∷ b ∷ [] ≡ codes "0X")
    spelled a b f (inl y) = let g = eqb-true b 120 y in inl cc
    spelled a b f (inr y) = let g = eqb-true b 88 y in inr cc

octal-run : (b : ℕ) (bs : List ℕ) → begins_hexadecimal (b ∷ bs) ≡ false → b ≡ 48 → TheRun (b ∷ bs) Octal
octal-run b bs no_hex e = record {
  notation_is = rw (no_hex, e) refl;
  run = record {
    prefix = [];
    text_is = sym (take-append-drop (prefix_len (is_run_digit Octal) (b ∷ bs)) (b ∷ bs));
    begins = (refl, (take (prefix_len (is_run_digit Octal) bs) bs, begins-zero b bs e), no_hex);
    all = run-all (is_run_digit Octal) (b ∷ bs);
    ends = run-stops (is_run_digit Octal) (b ∷ bs);
  };
}
  where
    zero_goes : (b : ℕ) → b ≡ 48 → is_run_digit Octal b ≡ true
    zero_goes b e = rw e refl

    begins-zero : (b : ℕ) (bs : List ℕ) → b ≡ 48
        → take (prefix_len (is_run_digit Octal) (b ∷ bs)) (b ∷ bs) ≡ 48 ∷ take (prefix_len (is_run_digit Octal) bs) bs
    begins-zero b bs e = rw (zero_goes b e, one_more) (ap (λ (x : ℕ). x ∷ take (prefix_len (is_run_digit Octal) bs) bs) e)

decimal-run : (b : ℕ) (bs : List ℕ) → begins_hexadecimal (b ∷ bs) ≡ false → eqb b 48 ≡ false → is_digit 10 b ≡ true → TheRun (b ∷ bs) Decimal
decimal-run b bs no_hex no_zero y = record {
  notation_is = rw (no_hex, no_zero) refl;
  run = record {
    prefix = [];
    text_is = sym (take-append-drop (prefix_len (is_run_digit Decimal) (b ∷ bs)) (b ∷ bs));
    begins = (refl, not_nil (is_run_digit Decimal) b bs y, begins-other b bs no_zero y);
    all = run-all (is_run_digit Decimal) (b ∷ bs);
    ends = run-stops (is_run_digit Decimal) (b ∷ bs);
  };
}
  where
    begins-other : (b : ℕ) (bs : List ℕ) → eqb b 48 ≡ false → is_digit 10 b ≡ true
        → NotFirst (λ x. x == 48) (take (prefix_len (is_run_digit Decimal) (b ∷ bs)) (b ∷ bs))
    begins-other b bs n y = rw (y, one_more, n) refl

any-run : (text : List ℕ) → First (is_digit 10) text → TheRun text (notation_of text)
any-run [] f = absurd f
any-run (b ∷ bs) f =
    elim (cases_Bool (begins_hexadecimal (b ∷ bs))) [
      | inl y ↦ of-hexadecimal (b ∷ bs) y
      | inr n ↦
          elim (cases_Bool (eqb b 48)) [
            | inl z ↦ settle (b ∷ bs) Octal (octal-run b bs n (eqb-true b 48 z))
            | inr m ↦ settle (b ∷ bs) Decimal (decimal-run b bs n m f)
          ]
    ]
  where
    settle : (text : List ℕ) (n : Notation) → TheRun text n → TheRun text (notation_of text)
    settle text n r = subst (TheRun text) (sym r.notation_is) r

    of-hexadecimal : (text : List ℕ) → begins_hexadecimal text ≡ true → TheRun text (notation_of text)
    of-hexadecimal [] e = absurd cc
    of-hexadecimal (a ∷ []) e = absurd cc
    of-hexadecimal (a ∷ b ∷ []) e = absurd cc
    of-hexadecimal (a ∷ b ∷ c ∷ cs) e = settle (a ∷ b ∷ c ∷ cs) Hexadecimal (hexadecimal-run a b c cs e)

-- what a run says of its text
record RunSays (text : List ℕ) (n : Notation) (digits rest : List ℕ) : Type 0 where
  notation_is : notation_of text ≡ n
  body_is : drop (prefix_of n) text ≡ digits ++ rest

hexadecimal-says : (text prefix digits rest : List ℕ) → (prefix ≡ codes "0x") ⊎ (prefix ≡ codes "0X") → digits ≢ []
    → AllByRecursion (λ b. IsTrue (is_digit 16 b)) digits → text ≡ prefix ++ digits ++ rest → RunSays text Hexadecimal digits rest
hexadecimal-says text prefix [] rest spelled some all e = absurd (some refl)
hexadecimal-says text prefix (d ∷ ds) rest (inl p) some all e =
    let f : text ≡ 48 ∷ 120 ∷ d ∷ ds ++ rest = e ∙ ap (λ (x : List ℕ). x ++ d ∷ ds ++ rest) p in
    let hex : begins_hexadecimal (48 ∷ 120 ∷ d ∷ ds ++ rest) ≡ true = all.0 in
    record { notation_is = ap notation_of f ∙ rw hex refl; body_is = ap (drop 2) f }
hexadecimal-says text prefix (d ∷ ds) rest (inr p) some all e =
    let f : text ≡ 48 ∷ 88 ∷ d ∷ ds ++ rest = e ∙ ap (λ (x : List ℕ). x ++ d ∷ ds ++ rest) p in
    let hex : begins_hexadecimal (48 ∷ 88 ∷ d ∷ ds ++ rest) ≡ true = all.0 in
    record { notation_is = ap notation_of f ∙ rw hex refl; body_is = ap (drop 2) f }

octal-says : (text prefix digits rest more : List ℕ) → prefix ≡ [] → digits ≡ 48 ∷ more → begins_hexadecimal text ≡ false
    → text ≡ prefix ++ digits ++ rest → RunSays text Octal digits rest
octal-says text prefix digits rest more p d no_hex e =
    let f : text ≡ digits ++ rest = e ∙ ap (λ (x : List ℕ). x ++ digits ++ rest) p in
    let g : text ≡ 48 ∷ more ++ rest = f ∙ ap (λ (x : List ℕ). x ++ rest) d in
    let hex : begins_hexadecimal (48 ∷ more ++ rest) ≡ false = ap begins_hexadecimal (sym g) ∙ no_hex in
    record { notation_is = ap notation_of g ∙ rw hex refl; body_is = f }

no-hexadecimal : (a : ℕ) (bs : List ℕ) → eqb a 48 ≡ false → begins_hexadecimal (a ∷ bs) ≡ false
no-hexadecimal a [] n = refl
no-hexadecimal a (b ∷ []) n = refl
no-hexadecimal a (b ∷ c ∷ cs) n = rw n refl

decimal-says : (text prefix digits rest : List ℕ) → prefix ≡ [] → digits ≢ [] → NotFirst (λ b. b == 48) digits
    → text ≡ prefix ++ digits ++ rest → RunSays text Decimal digits rest
decimal-says text prefix [] rest p some other e = absurd (some refl)
decimal-says text prefix (d ∷ ds) rest p some other e =
    let f : text ≡ d ∷ ds ++ rest = e ∙ ap (λ (x : List ℕ). x ++ d ∷ ds ++ rest) p in
    let no_zero : eqb d 48 ≡ false = not-true (eqb d 48) other in
    record { notation_is = ap notation_of f ∙ rw (no-hexadecimal d (ds ++ rest) no_zero, no_zero) refl; body_is = f }

run-says : (text : List ℕ) (n : Notation) (digits rest : List ℕ) → IsRun text n digits rest → RunSays text n digits rest
run-says text Hexadecimal digits rest i = hexadecimal-says text i.prefix digits rest i.begins.0 i.begins.1 i.all i.text_is
run-says text Octal digits rest i = octal-says text i.prefix digits rest i.begins.1.0 i.begins.0 i.begins.1.1 i.begins.2 i.text_is
run-says text Decimal digits rest i = decimal-says text i.prefix digits rest i.begins.0 i.begins.1 i.begins.2 i.text_is

-- the front of a text with a run is the verdict on this run
front-of-run : (text : List ℕ) (n : Notation) (digits rest : List ℕ) → IsRun text n digits rest → digits_verdict n digits rest ≡ number_front text
unfolding number_front
front-of-run text n digits rest i =
    let s = run-says text n digits rest i in
    let cut = cut-run (is_run_digit n) (drop (prefix_of n) text) digits rest s.body_is i.all i.ends in
    ap (λ x. digits_verdict n x rest) cut.0 ∙ ap (digits_verdict n (digits_of n (drop (prefix_of n) text))) cut.1
    ∙ ap (λ m. run_verdict m (drop (prefix_of m) text)) (sym s.notation_is)

-- ---- digits of the base

whole-run : (p : ℕ → Bool) (run : List ℕ) → AllByRecursion (λ b. IsTrue (p b)) run → prefix_len p run ≡ length run
whole-run p [] all = refl
whole-run p (x ∷ xs) all = rw (all.0, one_more) (ap (λ (n : ℕ). suc n) (whole-run p xs all.1))

run-whole : (p : ℕ → Bool) (run : List ℕ) → prefix_len p run ≡ length run → AllByRecursion (λ b. IsTrue (p b)) run
run-whole p [] e = tt
run-whole p (x ∷ xs) e =
    elim (cases_Bool (p x)) [
      | inl y ↦ (y, run-whole p xs (one_less (prefix_len p xs) (length xs) (sym (rw y refl) ∙ e)))
      | inr n ↦ absurd (no_length (length xs) (sym (rw n refl) ∙ e))
    ]
  where
    one_less : (a b : ℕ) → 1 + a ≡ suc b → a ≡ b
    one_less a b e = omega (arith, e)

    no_length : (a : ℕ) → 0 ≡ suc a → ⊥
    no_length a e = omega (arith, e)

-- where a run fails a test
record Fails (p : ℕ → Bool) (run : List ℕ) : Type 0 where
  byte : ℕ
  behind : List ℕ
  run_is : run ≡ take (prefix_len p run) run ++ byte ∷ behind
  fails : p byte ≡ false

fails-later : (p : ℕ → Bool) (x : ℕ) (xs : List ℕ) → p x ≡ true → Fails p xs → Fails p (x ∷ xs)
fails-later p x xs y f = record {
  byte = f.byte;
  behind = f.behind;
  run_is = rw (y, one_more) (ap (λ (z : List ℕ). x ∷ z) f.run_is);
  fails = f.fails;
}

run-fails : (p : ℕ → Bool) (run : List ℕ) → eqb (prefix_len p run) (length run) ≡ false → Fails p run
run-fails p [] e = absurd cc
run-fails p (x ∷ xs) e =
    elim (cases_Bool (p x)) [
      | inl y ↦ fails-later p x xs y (run-fails p xs (shift (prefix_len p xs) (length xs) (sym (rw y refl) ∙ e)))
      | inr n ↦ record { byte = x; behind = xs; run_is = rw n refl; fails = n }
    ]
  where
    shift : (a b : ℕ) → eqb (1 + a) (suc b) ≡ false → eqb a b ≡ false
    shift a b e = grind (arith, nat_tests, e)

take-length : (p : ℕ → Bool) (run : List ℕ) → length (take (prefix_len p run) run) ≡ prefix_len p run
take-length p [] = refl
take-length p (x ∷ xs) =
    elim (cases_Bool (p x)) [
      | inl y ↦ rw (y, one_more) (ap (λ (n : ℕ). suc n) (take-length p xs))
      | inr n ↦ rw n refl
    ]

-- only an octal run may have digits of another base
only-octal : (n : Notation) (digits : List ℕ) → AllByRecursion (λ b. IsTrue (is_run_digit n b)) digits
    → eqb (prefix_len (is_digit (base_of n)) digits) (length digits) ≡ false → n ≡ Octal
only-octal Decimal digits all e = absurd (false≢true (sym e ∙ same_true (whole-run (is_digit 10) digits all)))
  where
    same_true : {a b : ℕ} → a ≡ b → eqb a b ≡ true
    same_true e = grind (arith, nat_tests, e)
only-octal Octal digits all e = refl
only-octal Hexadecimal digits all e = absurd (false≢true (sym e ∙ same_true (whole-run (is_digit 16) digits all)))
  where
    same_true : {a b : ℕ} → a ≡ b → eqb a b ≡ true
    same_true e = grind (arith, nat_tests, e)

-- ---- the verdict is the front

float-verdict : (n : Notation) (digits rest : List ℕ) → begins_so (is_float_sign n) rest ≡ true → digits_verdict n digits rest ≡ Wrong FloatLiteral 0
float-verdict n digits rest y = rw y refl

wrong-verdict : (n : Notation) (digits rest : List ℕ) → begins_so (is_float_sign n) rest ≡ false
    → eqb (prefix_len (is_digit (base_of n)) digits) (length digits) ≡ false
    → digits_verdict n digits rest ≡ Wrong BadByte (prefix_len (is_digit (base_of n)) digits)
wrong-verdict n digits rest f e = rw (f, e) refl

right-verdict : (n : Notation) (digits rest : List ℕ) → begins_so (is_float_sign n) rest ≡ false
    → eqb (prefix_len (is_digit (base_of n)) digits) (length digits) ≡ true
    → digits_verdict n digits rest ≡ value_verdict n (number_of (base_of n) digits) rest
right-verdict n digits rest f e = rw (f, e) refl

wide-verdict : (n : Notation) (value : ℕ) (rest : List ℕ) → nat_lt value (2 ^ 64) ≡ false → value_verdict n value rest ≡ Wrong TooWide 0
wide-verdict n value rest e = rw e refl

narrow-verdict : (n : Notation) (value : ℕ) (rest : List ℕ) → nat_lt value (2 ^ 64) ≡ true
    → value_verdict n value rest ≡ typed n value (suffix_at rest) rest
narrow-verdict n value rest e = rw e refl

front-as : (text : List ℕ) (a b : Front) → b ≡ a → IsFront text a → IsFront text b
front-as text a b e i = subst (IsFront text) (sym e) i

not-less : (a b : ℕ) → nat_lt a b ≡ false → b ≤ a
not-less a b e = grind (arith, nat_tests, e)

octal-is : (text : List ℕ) (n : Notation) (digits rest : List ℕ) → IsRun text n digits rest → begins_so (is_float_sign n) rest ≡ false
    → eqb (prefix_len (is_digit (base_of n)) digits) (length digits) ≡ false → n ≡ Octal
    → IsFront text (Wrong BadByte (prefix_len (is_digit (base_of n)) digits))
octal-is text Octal digits rest i f e is_octal =
    let x = run-fails (is_digit 8) digits e in
    let front = take (prefix_len (is_digit 8) digits) digits in
    let run : IsRun text Octal (front ++ x.byte ∷ x.behind) rest = subst (λ d. IsRun text Octal d rest) x.run_is i in
    octal front x.behind rest x.byte run (not_first_so (is_float_sign Octal) rest f) (run-all (is_digit 8) digits)
    (no_true (is_digit 8 x.byte) x.fails) refl (sym (take-length (is_digit 8) digits))
octal-is text Decimal digits rest i f e is_octal = absurd (no_octal is_octal)
  where
    no_octal : Decimal ≡ Octal → ⊥
    no_octal x = cc
octal-is text Hexadecimal digits rest i f e is_octal = absurd (no_octal is_octal)
  where
    no_octal : Hexadecimal ≡ Octal → ⊥
    no_octal x = cc

number-is : (text : List ℕ) (n : Notation) (digits rest : List ℕ) → HasDigits text n digits rest
    → nat_lt (number_of (base_of n) digits) (2 ^ 64) ≡ true
    → IsFront text (typed n (number_of (base_of n) digits) (suffix_at rest) rest)
number-is text n digits rest has small =
    let value = number_of (base_of n) digits in
    let s = suffix_at rest in
    number value (the_type (suits n s.unsigned s.long value))
    (record {
      notation = n;
      digits = digits;
      behind = rest;
      suffix = take s.len rest;
      unsigned = s.unsigned;
      long = s.long;
      has_digits = has;
      has_suffix = suffix-is rest;
      value_is = refl;
      type_is = first-type (suits n s.unsigned s.long value) small;
    })
    refl

value-is : (text : List ℕ) (n : Notation) (digits rest : List ℕ) → HasDigits text n digits rest
    → IsFront text (value_verdict n (number_of (base_of n) digits) rest)
value-is text n digits rest has =
    let value = number_of (base_of n) digits in
    elim (cases_Bool (nat_lt value (2 ^ 64))) [
      | inl y ↦ front-as text _ _ (narrow-verdict n value rest y) (number-is text n digits rest has y)
      | inr f ↦
          front-as text _ _ (wide-verdict n value rest f) (wide n digits rest has (not-less value (2 ^ 64) f) refl refl)
    ]

digits-is : (text : List ℕ) (n : Notation) (digits rest : List ℕ) → IsRun text n digits rest → IsFront text (digits_verdict n digits rest)
digits-is text n digits rest i =
    elim (cases_Bool (begins_so (is_float_sign n) rest)) [
      | inl y ↦
          front-as text _ _ (float-verdict n digits rest y) (float n digits rest i (first_so (is_float_sign n) rest y) refl refl)
      | inr f ↦
          elim (cases_Bool (eqb (prefix_len (is_digit (base_of n)) digits) (length digits))) [
            | inl y ↦
                front-as text _ _ (right-verdict n digits rest f y)
                (value-is text n digits rest
                (record {
                  run = i;
                  of_base = run-whole (is_digit (base_of n)) digits (eqb-true _ _ y);
                  no_float = not_first_so (is_float_sign n) rest f;
                }))
            | inr e ↦
                front-as text _ _ (wrong-verdict n digits rest f e)
                (octal-is text n digits rest i f e (only-octal n digits i.all e))
          ]
    ]

pub number_front-is : (text : List ℕ) → First (is_digit 10) text → IsFront text (number_front text)
unfolding number_front
number_front-is text f = digits-is text (notation_of text) _ _ (any-run text f).run

-- ---- the front is the verdict

same-true : (a b : ℕ) → a ≡ b → eqb a b ≡ true
same-true a b e = grind (arith, nat_tests, e)

less-true : (a b : ℕ) → a < b → nat_lt a b ≡ true
less-true a b e = grind (arith, nat_tests, e)

less-false : (a b : ℕ) → b ≤ a → nat_lt a b ≡ false
less-false a b e = grind (arith, nat_tests, e)

differ-false : (a b : ℕ) → a < b → eqb a b ≡ false
differ-false a b e = grind (arith, nat_tests, e)

-- digits of the base, and no floating constant
has-verdict : (text : List ℕ) (n : Notation) (digits rest : List ℕ) → HasDigits text n digits rest
    → value_verdict n (number_of (base_of n) digits) rest ≡ number_front text
has-verdict text n digits rest has =
    sym (right-verdict n digits rest (so_not_first (is_float_sign n) rest has.no_float)
    (same-true _ _ (whole-run (is_digit (base_of n)) digits has.of_base)))
    ∙ front-of-run text n digits rest has.run

suits-small : (n : Notation) (u l : Bool) (value : ℕ) (t : NumberType) → IsTrue (suits n u l value t) → nat_lt value (2 ^ 64) ≡ true
suits-small n u l value type.Int is = less-true value (2 ^ 64) (below (2 ^ 31) ((and_parts _ (nat_lt value (2 ^ 31)) is).1) (omega arith))
  where
    below : (b : ℕ) → nat_lt value b ≡ true → b ≤ 2 ^ 64 → value < 2 ^ 64
    below b y small = grind (arith, nat_tests, y, small)
suits-small n u l value type.UnsignedInt is = less-true value (2 ^ 64) (below (2 ^ 32) ((and_parts _ (nat_lt value (2 ^ 32)) is).1) (omega arith))
  where
    below : (b : ℕ) → nat_lt value b ≡ true → b ≤ 2 ^ 64 → value < 2 ^ 64
    below b y small = grind (arith, nat_tests, y, small)
suits-small n u l value type.Long is = less-true value (2 ^ 64) (below (2 ^ 63) ((and_parts _ (nat_lt value (2 ^ 63)) is).1) (omega arith))
  where
    below : (b : ℕ) → nat_lt value b ≡ true → b ≤ 2 ^ 64 → value < 2 ^ 64
    below b y small = grind (arith, nat_tests, y, small)
suits-small n u l value type.UnsignedLong is = is

-- the token of a number, told of its flags
abbrev told : Notation → ℕ → Bool → Bool → List ℕ → Front
told n value u l rest = Right (seen.Token (number_token value (the_type (suits n u l value)))) rest

number-verdict : (text : List ℕ) (value : ℕ) (t : NumberType) (rest : List ℕ) → IsNumber text value t rest
    → Right (seen.Token (number_token value t)) rest ≡ number_front text
number-verdict text value t rest i =
    let s = suffix_at i.behind in
    let one = one-suffix i.behind i.suffix rest (take s.len i.behind) (drop s.len i.behind) i.unsigned i.long s.unsigned s.long i.has_suffix (suffix-is i.behind) in
    let the = number_of (base_of i.notation) i.digits in
    let small : nat_lt the (2 ^ 64) ≡ true = ap (λ v. nat_lt v (2 ^ 64)) (sym i.value_is) ∙ suits-small i.notation i.unsigned i.long value t i.type_is.is_suited in
    ap (λ x. Right (seen.Token (number_token value x)) rest) (one-type (suits i.notation i.unsigned i.long value) t i.type_is)
    ∙ ap (λ v. told i.notation v i.unsigned i.long rest) i.value_is
    ∙ ap (λ u. told i.notation the u i.long rest) one.unsigned
    ∙ ap (λ l. told i.notation the s.unsigned l rest) one.long
    ∙ ap (told i.notation the s.unsigned s.long) one.rest
    ∙ sym (narrow-verdict i.notation the i.behind small)
    ∙ has-verdict text i.notation i.digits i.behind i.has_digits

float-here : (text : List ℕ) (n : Notation) (digits rest : List ℕ) → IsRun text n digits rest → First (is_float_sign n) rest
    → Wrong FloatLiteral 0 ≡ number_front text
float-here text n digits rest i sign =
    sym (float-verdict n digits rest (so_first (is_float_sign n) rest sign)) ∙ front-of-run text n digits rest i

octal-here : (text front behind rest : List ℕ) (d : ℕ) → IsRun text Octal (front ++ d ∷ behind) rest → NotFirst (is_float_sign Octal) rest
    → AreDigits 8 front → IsTrue (not (is_digit 8 d)) → Wrong BadByte (length front) ≡ number_front text
octal-here text front behind rest d i no_float all bad =
    let digits = front ++ d ∷ behind in
    let len : prefix_len (is_digit 8) digits ≡ length front = run-length (is_digit 8) front (d ∷ behind) all bad in
    let less : length front < length digits = omega (arith, length-append front (d ∷ behind)) in
    let differs : eqb (prefix_len (is_digit 8) digits) (length digits) ≡ false = ap (λ k. eqb k (length digits)) len ∙ differ-false _ _ less in
    ap (Wrong BadByte) (sym len)
    ∙ sym (wrong-verdict Octal digits rest (so_not_first (is_float_sign Octal) rest no_float) differs)
    ∙ front-of-run text Octal digits rest i

wide-here : (text : List ℕ) (n : Notation) (digits rest : List ℕ) → HasDigits text n digits rest → 2 ^ 64 ≤ number_of (base_of n) digits
    → Wrong TooWide 0 ≡ number_front text
wide-here text n digits rest has is =
    sym (wide-verdict n (number_of (base_of n) digits) rest (less-false _ _ is)) ∙ has-verdict text n digits rest has

-- ---- nothing else begins with a digit

abbrev no_digit : (ℕ → Bool) → Type 0
no_digit q = (b : ℕ) → IsTrue (is_decimal_digit b) → IsTrue (q b) → ⊥

byte-no-digit : (a : ℕ) → is_digit 10 a ≡ false → no_digit (is_byte a)
byte-no-digit a n b f g = false≢true (sym n ∙ ap (is_digit 10) (sym (eqb-true b a g)) ∙ f)

gap-no-digit : no_digit is_gap_byte
gap-no-digit b f g = grind (arith, nat_tests, f, g)

mark-no-digit : no_digit is_mark_byte
mark-no-digit b f g = grind (arith, nat_tests, f, g)

letter-no-digit : no_digit starts_word
letter-no-digit b f g = grind (arith, nat_tests, f, g)

not_digit : (q : ℕ → Bool) (text : List ℕ) (A : Type 0) → no_digit q → First (is_digit 10) text → First q text → A
not_digit q text A apart f g = absurd (clash is_decimal_digit q apart text f g)

quote-here : (text : List ℕ) (quote : ℕ) (body : List ℕ) (A : Type 0) → (quote ≡ 34) ⊎ (quote ≡ 39) → text ≡ quote ∷ body
    → First (is_digit 10) text → A
quote-here text quote body A (inl q) e f =
    not_digit (is_byte 34) text A (byte-no-digit 34 refl) f (first_is 34 text body (e ∙ ap (λ (x : ℕ). x ∷ body) q))
quote-here text quote body A (inr q) e f =
    not_digit (is_byte 39) text A (byte-no-digit 39 refl) f (first_is 39 text body (e ∙ ap (λ (x : ℕ). x ∷ body) q))

lexeme-here : (text : List ℕ) (l : Lexeme) (rest : List ℕ) → First (is_digit 10) text → IsLexeme text l rest
    → Right (seen.Token l) rest ≡ number_front text
lexeme-here text l rest f (keyword k i l_is) = not_digit starts_word text _ letter-no-digit f (word-first text _ rest i)
lexeme-here text l rest f (name word i is l_is) = not_digit starts_word text _ letter-no-digit f (word-first text word rest i)
lexeme-here text l rest f (number value t i l_is) =
    ap (λ x. Right (seen.Token x) rest) l_is ∙ number-verdict text value t rest i
lexeme-here text l rest f (character b body e i l_is) =
    not_digit (is_byte 39) text _ (byte-no-digit 39 refl) f (first_is 39 text body e)
lexeme-here text l rest f (string bytes body e i l_is) =
    not_digit (is_byte 34) text _ (byte-no-digit 34 refl) f (first_is 34 text body e)
lexeme-here text l rest f (mark m i frac l_is) = not_digit is_mark_byte text _ mark-no-digit f (mark-first text m rest i)

first-digit : (text : List ℕ) (b : ℕ) (bs : List ℕ) → text ≡ b ∷ bs → First (is_digit 10) text → IsTrue (is_digit 10 b)
first-digit text b bs e f = subst (First (is_digit 10)) e f

as-wrong : (text : List ℕ) (cause cause' : Cause) (k k' : ℕ) → cause ≡ cause' → k ≡ k' → Wrong cause' k' ≡ number_front text
    → Wrong cause k ≡ number_front text
as-wrong text cause cause' k k' e f is = ap (λ x. Wrong x k) e ∙ ap (Wrong cause') f ∙ is

bad-here : (text : List ℕ) (cause : Cause) (k : ℕ) → First (is_digit 10) text → IsBadToken text cause k → Wrong cause k ≡ number_front text
bad-here text cause k f (byte b bs e no_start no_gap no_end cause_is k_is) =
    absurd (no_start (inr (inl (first-digit text b bs e f))))
bad-here text cause k f (open_comment o cause_is k_is) =
    not_digit is_gap_byte text _ gap-no-digit f (comment-first text o)
bad-here text cause k f (out_word word rest before behind e i cause_is k_is) =
    not_digit starts_word text _ letter-no-digit f (word-first text word rest i)
bad-here text cause k f (float notation digits rest i sign cause_is k_is) =
    as-wrong text cause FloatLiteral k 0 cause_is k_is (float-here text notation digits rest i sign)
bad-here text cause k f (fraction e cause_is k_is) =
    not_digit (is_byte 46) text _ (byte-no-digit 46 refl) f (fraction-first text e)
bad-here text cause k f (octal front behind rest d i no_float of_base is cause_is k_is) =
    as-wrong text cause BadByte k (length front) cause_is k_is (octal-here text front behind rest d i no_float of_base is)
bad-here text cause k f (wide notation digits rest i is cause_is k_is) =
    as-wrong text cause TooWide k 0 cause_is k_is (wide-here text notation digits rest i is)
bad-here text cause k f (open_literal quote body q e not_closed cause_is k_is) = quote-here text quote body _ q e f
bad-here text cause k f (bad_string body n e closed bad cause_is k_is) = quote-here text 34 body _ (inl refl) e f
bad-here text cause k f (bad_character body n e closed bad cause_is k_is) = quote-here text 39 body _ (inr refl) e f

pub number_front-only : (text : List ℕ) (a : Front) → First (is_digit 10) text → IsFront text a → a ≡ number_front text
number_front-only text (Right seen.End rest) f i = absurd (subst (First (is_digit 10)) i.0 f)
number_front-only text (Right seen.Gap rest) f i = not_digit is_gap_byte text _ gap-no-digit f (gap-first text rest i)
number_front-only text (Right seen.LineEnd rest) f i =
    not_digit (is_byte 10) text _ (byte-no-digit 10 refl) f (first_is 10 text rest i)
number_front-only text (Right (seen.Token l) rest) f i = lexeme-here text l rest f i
number_front-only text (Wrong cause k) f i = bad-here text cause k f i

-- ---- told of digits that are cut from a text

pub cut-digits : (text : List ℕ) (n : Notation) (m : ℕ) (body digits behind : List ℕ) → First (is_digit 10) text
    → n ≡ notation_of text → body ≡ drop (prefix_of n) text → m ≡ prefix_len (is_run_digit n) body
    → digits ≡ take m body → behind ≡ drop m body → IsFront text (digits_verdict n digits behind)
unfolding number_front
cut-digits text n m body digits behind f n_is body_is m_is digits_are behind_is =
    let whole = prefix_len (is_run_digit n) body in
    let a : digits_verdict n digits behind ≡ run_verdict n body =
    ap (λ x. digits_verdict n x behind) (digits_are ∙ ap (λ k. take k body) m_is)
    ∙ ap (digits_verdict n (take whole body)) (behind_is ∙ ap (λ k. drop k body) m_is) in
    let b : run_verdict n body ≡ number_front text =
    ap (run_verdict n) body_is ∙ ap (λ x. run_verdict x (drop (prefix_of x) text)) n_is in
    front-as text (number_front text) (digits_verdict n digits behind) (a ∙ b) (number_front-is text f)

in-64-bits : (n value : ℕ) → Some value ≡ in_64_bits n → (value ≡ n) × (nat_lt n (2 ^ 64) ≡ true)
in-64-bits n value e =
    elim (cases_Bool (nat_lt n (2 ^ 64))) [
      | inl y ↦ (some_is (e ∙ rw y refl), y)
      | inr f ↦ absurd (no_some (e ∙ rw f refl))
    ]
  where
    some_is : Some value ≡ Some n → value ≡ n
    some_is e = cc

    no_some : Some value ≡ None → ⊥
    no_some e = cc

pub cut-number : (text : List ℕ) (n : Notation) (digits behind rest : List ℕ) (k value : ℕ) (s : Suffix) (t : NumberType) (l : Lexeme)
    → IsFront text (digits_verdict n digits behind) → begins_so (is_float_sign n) behind ≡ false
    → k ≡ prefix_len (is_digit (base_of n)) digits → k ≡ length digits → Some value ≡ in_64_bits (number_of (base_of n) digits)
    → s ≡ suffix_at behind → IsFirstType (suits n s.unsigned s.long value) t → rest ≡ drop s.len behind
    → l ≡ number_token value t → IsLexeme text l rest
cut-number text n digits behind rest k value s t l i no_float k_is whole value_some s_is first rest_is l_is =
    let the = number_of (base_of n) digits in
    let value_is' = in-64-bits the value value_some in
    let e : Right (seen.Token l) rest ≡ digits_verdict n digits behind =
    ap (λ x. Right (seen.Token x) rest) l_is
    ∙ ap (λ x. Right (seen.Token (number_token value x)) rest) (one-type (suits n s.unsigned s.long value) t first)
    ∙ ap (λ v. told n v s.unsigned s.long rest) value_is'.0
    ∙ ap (told n the s.unsigned s.long) rest_is
    ∙ ap (λ x. typed n the x behind) s_is
    ∙ sym (narrow-verdict n the behind value_is'.1)
    ∙ sym (right-verdict n digits behind no_float (same-true _ _ (sym k_is ∙ whole))) in
    front-as text (digits_verdict n digits behind) (Right (seen.Token l) rest) e i
