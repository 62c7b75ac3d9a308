-- What a number at the front of a text is.
use Rattle.std.specs.Prelude.{ℕ, ◌+◌, ◌^◌, ◌==◌, ◌||◌, not, nat_lt, if◌then◌else◌, Bool, true, false, List, [], ◌∷◌, length, take, drop}
use Rattle.std.specs.List.{prefix_len}
use Rattle.c_lex.specs.declared.token.NumberType.{NumberType}
use Rattle.c_lex.specs.declared.token.NumberType.TheVariants as type
use Rattle.c_lex.specs.declared.numbers.Notation.{Notation}
use Rattle.c_lex.specs.declared.numbers.Notation.TheVariants.{Decimal, Octal, Hexadecimal}
use Rattle.c_lex.specs.declared.suffixes.Suffix.{Suffix}
use Rattle.c_lex.specs.declared.fronts.Seen.TheVariants as seen
use Rattle.c_lex.specs.Literals.{base_of, number_of, is_digit, is_run_digit, is_float_sign, suits}
use Rattle.c_lex.specs.Lexemes.{number_token}
use Rattle.c_lex.specs.Faults.{BadByte, FloatLiteral, TooWide}
use Rattle.c_lex.specs.Fronts.{Front, Right, Wrong}
use Rattle.c_lex.specs.Reading.{notation_of}

-- ---- suffixes

abbrev pub is_long_byte : ℕ → Bool
is_long_byte b = b == 108 || b == 76

abbrev pub is_unsigned_byte : ℕ → Bool
is_unsigned_byte b = b == 117 || b == 85

-- how many bytes of `l`, `L`, `ll` or `LL` stand here
unfoldable pub long_len : List ℕ → ℕ
long_len [] = 0
long_len (a ∷ []) = if is_long_byte a then 1 else 0
long_len (a ∷ b ∷ bs) = if is_long_byte a then (if b == a then 2 else 1) else 0

unfoldable pub unsigned_len : List ℕ → ℕ
unsigned_len [] = 0
unsigned_len (a ∷ bs) = if is_unsigned_byte a then 1 else 0

abbrev pub unsigned_then_long : ℕ → Suffix
unsigned_then_long n = record { len = 1 + n; unsigned = true; long = not (n == 0) }

abbrev pub long_then_unsigned : ℕ → ℕ → Suffix
long_then_unsigned n m =
    if n == 0 then record { len = 0; unsigned = false; long = false }
    else record { len = n + m; unsigned = m == 1; long = true }

unfoldable pub suffix_at : List ℕ → Suffix
suffix_at text =
    if unsigned_len text == 1 then unsigned_then_long (long_len (drop 1 text))
    else long_then_unsigned (long_len text) (unsigned_len (drop (long_len text) text))

-- ---- types

abbrev pub the_type : (NumberType → Bool) → NumberType
the_type suits =
    if suits type.Int then type.Int
    else (if suits type.UnsignedInt then type.UnsignedInt
    else (if suits type.Long then type.Long
    else type.UnsignedLong))

-- ---- numbers

-- how many bytes stand before the digits
abbrev pub prefix_of : Notation → ℕ
prefix_of Decimal = 0
prefix_of Octal = 0
prefix_of Hexadecimal = 2

-- whether the first byte is such a one
abbrev pub begins_so : (ℕ → Bool) → List ℕ → Bool
begins_so p [] = false
begins_so p (b ∷ bs) = p b

abbrev pub typed : Notation → ℕ → Suffix → List ℕ → Front
typed n value s behind =
    Right (seen.Token (number_token value (the_type (suits n s.unsigned s.long value)))) (drop s.len behind)

abbrev pub value_verdict : Notation → ℕ → List ℕ → Front
value_verdict n value behind =
    if nat_lt value (2 ^ 64) then typed n value (suffix_at behind) behind else Wrong TooWide 0

abbrev pub digits_verdict : Notation → List ℕ → List ℕ → Front
digits_verdict n digits behind =
    if begins_so (is_float_sign n) behind then Wrong FloatLiteral 0
    else (if prefix_len (is_digit (base_of n)) digits == length digits
    then value_verdict n (number_of (base_of n) digits) behind
    else Wrong BadByte (prefix_len (is_digit (base_of n)) digits))

abbrev pub run_verdict : Notation → List ℕ → Front
run_verdict n text =
    let m = prefix_len (is_run_digit n) text in digits_verdict n (take m text) (drop m text)

unfoldable pub number_front : List ℕ → Front
number_front text = run_verdict (notation_of text) (drop (prefix_of (notation_of text)) text)
