-- Numbers (C11, 6.4.4.1, cut to this profile), and the bytes of character and string literals (6.4.4.4 and 6.4.5).
use Rattle.std.specs.Prelude.{◌≡◌, ◌≢◌, ◌⊎◌, ℕ, ◌+◌, ◌-◌, ◌*◌, ◌^◌, ◌<◌, ◌≤◌, ◌==◌, ◌||◌, ◌&&◌, not, nat_le, nat_lt, if◌then◌else◌, Bool, true, false, IsTrue, List, [], ◌∷◌, ◌++◌, length, codes}
use Rattle.std.specs.List.{AllByRecursion, fold}
use Rattle.c_lex.specs.declared.token.NumberType.{NumberType}
use Rattle.c_lex.specs.declared.token.NumberType.TheVariants as type
use Rattle.c_lex.specs.declared.numbers.Notation.{Notation}
use Rattle.c_lex.specs.declared.numbers.Notation.TheVariants.{Decimal, Octal, Hexadecimal}
use Rattle.c_lex.specs.Blanks.{BeginsWith, NotFirst}

-- ---- digits

abbrev pub base_of : Notation → ℕ
base_of Decimal = 10
base_of Octal = 8
base_of Hexadecimal = 16

-- what a digit counts; what is no digit counts 16
abbrev pub digit_value : ℕ → ℕ
digit_value b =
    if nat_le 48 b && nat_le b 57 then b - 48
    else (if nat_le 97 b && nat_le b 102 then b - 87
    else (if nat_le 65 b && nat_le b 70 then b - 55
    else 16))

abbrev pub is_digit : ℕ → ℕ → Bool
is_digit base b = nat_lt (digit_value b) base

abbrev pub AreDigits : ℕ → List ℕ → Type 0
AreDigits base digits = AllByRecursion (λ b. IsTrue (is_digit base b)) digits

-- the number that digits spell
abbrev pub number_of : ℕ → List ℕ → ℕ
number_of base digits = fold (λ n d. base * n + digit_value d) 0 digits

-- `0x` and a hexadecimal digit
abbrev pub begins_hexadecimal : List ℕ → Bool
begins_hexadecimal [] = false
begins_hexadecimal (a ∷ []) = false
begins_hexadecimal (a ∷ b ∷ []) = false
begins_hexadecimal (a ∷ b ∷ c ∷ bs) = a == 48 && ((b == 120 || b == 88) && is_digit 16 c)

-- the bytes that a sequence of digits goes on with: an octal one may have an 8 or a 9, to be refused
abbrev pub is_run_digit : Notation → ℕ → Bool
is_run_digit Hexadecimal b = is_digit 16 b
is_run_digit Octal b = is_digit 10 b
is_run_digit Decimal b = is_digit 10 b

-- a point and a digit
abbrev pub begins_fraction : List ℕ → Bool
begins_fraction [] = false
begins_fraction (a ∷ []) = false
begins_fraction (a ∷ b ∷ bs) = a == 46 && is_digit 10 b

-- how a sequence of digits begins
abbrev pub Begins : Notation → List ℕ → List ℕ → List ℕ → Type 0
Begins Hexadecimal text prefix digits = ((prefix ≡ codes "0x") ⊎ (prefix ≡ codes "0X")) × (digits ≢ [])
Begins Octal text prefix digits = (prefix ≡ []) × BeginsWith (48 ∷ []) digits × (begins_hexadecimal text ≡ false)
Begins Decimal text prefix digits = (prefix ≡ []) × (digits ≢ []) × NotFirst (λ b. b == 48) digits

-- The text begins with this sequence of digits, a longest one, and then comes the rest.
pub record IsRun (text : List ℕ) (notation : Notation) (digits rest : List ℕ) : Type 0 where
  pub prefix : List ℕ
  pub text_is : text ≡ prefix ++ digits ++ rest
  pub begins : Begins notation text prefix digits
  pub all : AllByRecursion (λ b. IsTrue (is_run_digit notation b)) digits
  pub ends : NotFirst (is_run_digit notation) rest

-- a sequence of digits that goes on so is a floating constant
abbrev pub is_float_sign : Notation → ℕ → Bool
is_float_sign Hexadecimal b = b == 46
is_float_sign Octal b = b == 46 || (b == 101 || b == 69)
is_float_sign Decimal b = b == 46 || (b == 101 || b == 69)

-- ---- suffixes and types

abbrev pub IsUnsignedSuffix : List ℕ → Type 0
IsUnsignedSuffix bytes = (bytes ≡ codes "u") ⊎ (bytes ≡ codes "U")

abbrev pub IsLongSuffix : List ℕ → Type 0
IsLongSuffix bytes = (bytes ≡ codes "l") ⊎ ((bytes ≡ codes "L") ⊎ ((bytes ≡ codes "ll") ⊎ (bytes ≡ codes "LL")))

-- the bytes are a suffix; whether it has a `u`, and whether it has an `l` or two
abbrev pub IsSuffix : List ℕ → Bool → Bool → Type 0
IsSuffix bytes false false = bytes ≡ []
IsSuffix bytes true false = IsUnsignedSuffix bytes
IsSuffix bytes false true = IsLongSuffix bytes
IsSuffix bytes true true =
    (u l : List ℕ) × IsUnsignedSuffix u × IsLongSuffix l × ((bytes ≡ u ++ l) ⊎ (bytes ≡ l ++ u))

-- The text begins with this suffix, a longest one.
pub record HasSuffix (text suffix rest : List ℕ) (unsigned long : Bool) : Type 0 where
  pub text_is : text ≡ suffix ++ rest
  pub is_suffix : IsSuffix suffix unsigned long
  pub longest : (other : List ℕ) (u l : Bool) → IsSuffix other u l → length suffix < length other → BeginsWith other text → ⊥

abbrev pub is_decimal : Notation → Bool
is_decimal Decimal = true
is_decimal Octal = false
is_decimal Hexadecimal = false

-- whether a number so written may be of the type
abbrev pub is_allowed : Notation → Bool → Bool → NumberType → Bool
is_allowed notation unsigned long type.Int = not unsigned && not long
is_allowed notation unsigned long type.UnsignedInt = (unsigned || not (is_decimal notation)) && not long
is_allowed notation unsigned long type.Long = not unsigned
is_allowed notation unsigned long type.UnsignedLong = true

-- the values of a type are below
abbrev pub end_of_type : NumberType → ℕ
end_of_type type.Int = 2 ^ 31
end_of_type type.UnsignedInt = 2 ^ 32
end_of_type type.Long = 2 ^ 63
end_of_type type.UnsignedLong = 2 ^ 64

abbrev pub types : List NumberType
types = type.Int ∷ type.UnsignedInt ∷ type.Long ∷ type.UnsignedLong ∷ []

abbrev pub suits : Notation → Bool → Bool → ℕ → NumberType → Bool
suits notation unsigned long value t = is_allowed notation unsigned long t && nat_lt value (end_of_type t)

-- the first of the types that suits
pub record IsFirstType (suits : NumberType → Bool) (t : NumberType) : Type 0 where
  pub before : List NumberType
  pub behind : List NumberType
  pub types_are : types ≡ before ++ t ∷ behind
  pub is_suited : IsTrue (suits t)
  pub none_before : AllByRecursion (λ other. IsTrue (not (suits other))) before

-- The text begins with a whole sequence of digits of its base that goes on as no floating constant.
pub record HasDigits (text : List ℕ) (notation : Notation) (digits rest : List ℕ) : Type 0 where
  pub run : IsRun text notation digits rest
  pub of_base : AreDigits (base_of notation) digits
  pub no_float : NotFirst (is_float_sign notation) rest

-- The text begins with a number of this value and type, and then comes the rest.
pub record IsNumber (text : List ℕ) (value : ℕ) (t : NumberType) (rest : List ℕ) : Type 0 where
  pub notation : Notation
  pub digits : List ℕ
  pub behind : List ℕ
  pub suffix : List ℕ
  pub unsigned : Bool
  pub long : Bool
  pub has_digits : HasDigits text notation digits behind
  pub has_suffix : HasSuffix behind suffix rest unsigned long
  pub value_is : value ≡ number_of (base_of notation) digits
  pub type_is : IsFirstType (suits notation unsigned long value) t

-- ---- characters

-- A byte that stands for itself between these quotes: printable ASCII but for the quote and the backslash, or above 127.
abbrev pub is_plain : ℕ → ℕ → Bool
is_plain quote b = (nat_le 32 b && (nat_le b 126 && not (b == quote || b == 92))) || nat_le 128 b

-- what stands for one byte behind a backslash, digits aside: the letter, and its byte
abbrev pub letters : List (ℕ × ℕ)
letters =
    (110, 10) ∷ (116, 9) ∷ (114, 13) ∷ (97, 7) ∷ (98, 8) ∷ (102, 12) ∷ (118, 11) ∷ (92, 92) ∷ (39, 39) ∷ (34, 34)
    ∷ (63, 63) ∷ []

-- The text begins with what stands for this one byte, and then comes the rest.
pub data IsCharacter (quote : ℕ) (text : List ℕ) (b : ℕ) (rest : List ℕ) : Type 0 where
  plain : IsTrue (is_plain quote b) → text ≡ b ∷ rest → IsCharacter quote text b rest
  letter : (c : ℕ) (before behind : List (ℕ × ℕ)) → letters ≡ before ++ (c, b) ∷ behind → text ≡ 92 ∷ c ∷ rest
      → IsCharacter quote text b rest
  -- `\x` and one or two hexadecimal digits, as many as stand there
  hexadecimal : (digits : List ℕ) → AreDigits 16 digits → digits ≢ [] → length digits ≤ 2
      → (length digits < 2 → NotFirst (is_digit 16) rest) → b ≡ number_of 16 digits → text ≡ 92 ∷ 120 ∷ digits ++ rest
      → IsCharacter quote text b rest
  -- one to three octal digits, as many as stand there, of a value up to 255
  octal : (digits : List ℕ) → AreDigits 8 digits → digits ≢ [] → length digits ≤ 3
      → (length digits < 3 → NotFirst (is_digit 8) rest) → b ≡ number_of 8 digits → b ≤ 255 → text ≡ 92 ∷ digits ++ rest
      → IsCharacter quote text b rest

-- the text begins with what stands for these bytes
abbrev pub AreCharacters : ℕ → List ℕ → List ℕ → List ℕ → Type 0
AreCharacters quote text [] rest = text ≡ rest
AreCharacters quote text (b ∷ bs) rest = (mid : List ℕ) × IsCharacter quote text b mid × AreCharacters quote mid bs rest

-- a signed char's value, as an int that is extended to 64 bits with its sign
abbrev pub char_value : ℕ → ℕ
char_value b = if nat_le 128 b then 2 ^ 64 - 256 + b else b

-- Behind its first quote, a literal is closed in its line: a quote stands there that belongs to no backslash.
pub data IsClosed (quote : ℕ) : List ℕ → Type 0 where
  here : (rest : List ℕ) → IsClosed quote (quote ∷ rest)
  byte : (b : ℕ) (bs : List ℕ) → b ≢ quote → b ≢ 92 → b ≢ 10 → IsClosed quote bs → IsClosed quote (b ∷ bs)
  escape : (b : ℕ) (bs : List ℕ) → b ≢ 10 → IsClosed quote bs → IsClosed quote (92 ∷ b ∷ bs)
