-- How a source is read from its front: each function gives what it finds there and the text behind it, or nothing.
use Rattle.std.specs.Prelude.{ℕ, ◌^◌, ◌==◌, nat_lt, nat_le, ◌&&◌, ◌||◌, not, if◌then◌else◌, Bool, true, false, Option, Some, None, List, [], ◌∷◌, length, take, drop}
use Rattle.std.specs.List.{prefix_len, list_any}
use Rattle.std.specs.Str.{bytes_eq}
use Rattle.c_lex.specs.declared.numbers.Notation.{Notation}
use Rattle.c_lex.specs.declared.numbers.Notation.TheVariants.{Decimal, Octal, Hexadecimal}
use Rattle.c_lex.specs.Blanks.{is_blank}
use Rattle.c_lex.specs.Words.{starts_word, continues_word, out_words}
use Rattle.c_lex.specs.Literals.{begins_hexadecimal, number_of, is_digit, is_plain}

-- ---- blanks and comments

-- behind a line's end, LF or CR LF
unfoldable pub after_line_end : List ℕ → Option (List ℕ)
after_line_end [] = None
after_line_end (a ∷ []) = if a == 10 then Some [] else None
after_line_end (a ∷ b ∷ bs) = if a == 10 then Some (b ∷ bs) else (if a == 13 && b == 10 then Some bs else None)

-- behind `*/`
unfoldable pub after_star_slash : List ℕ → Option (List ℕ)
after_star_slash [] = None
after_star_slash (a ∷ []) = None
after_star_slash (a ∷ b ∷ bs) = if a == 42 && b == 47 then Some bs else None

-- behind the first `*/`
unfoldable pub after_close : List ℕ → Option (List ℕ)
after_close [] = None
after_close (a ∷ []) = None
after_close (a ∷ b ∷ bs) = if a == 42 && b == 47 then Some bs else after_close (b ∷ bs)

-- behind a joined line, or behind one byte that doesn't end its line
unfoldable pub in_line : List ℕ → Option (List ℕ)
in_line [] = None
in_line (a ∷ []) = if a == 10 then None else Some []
in_line (a ∷ b ∷ []) = if a == 10 then None else (if a == 92 && b == 10 then Some [] else Some (b ∷ []))
in_line (a ∷ b ∷ c ∷ bs) =
    if a == 10 then None
    else (if a == 92 && b == 10 then Some (c ∷ bs)
    else (if a == 92 && (b == 13 && c == 10) then Some bs
    else Some (b ∷ c ∷ bs)))

-- from the first end of a line on that isn't joined
unfoldable pub from_line_end : List ℕ → List ℕ
from_line_end [] = []
from_line_end (a ∷ []) = if a == 10 then a ∷ [] else []
from_line_end (a ∷ b ∷ []) =
    if a == 10 then a ∷ b ∷ [] else (if a == 92 && b == 10 then [] else from_line_end (b ∷ []))
from_line_end (a ∷ b ∷ c ∷ bs) =
    if a == 10 then a ∷ b ∷ c ∷ bs
    else (if a == 92 && b == 10 then from_line_end (c ∷ bs)
    else (if a == 92 && (b == 13 && c == 10) then from_line_end bs
    else from_line_end (b ∷ c ∷ bs)))

-- behind a comment, of which the first `/` is taken
unfoldable pub after_comment : List ℕ → Option (List ℕ)
after_comment [] = None
after_comment (b ∷ bs) = if b == 42 then after_close bs else (if b == 47 then Some (from_line_end bs) else None)

-- behind one blank, joined line or comment
unfoldable pub after_gap : List ℕ → Option (List ℕ)
after_gap [] = None
after_gap (b ∷ bs) =
    if is_blank b then Some bs else (if b == 92 then after_line_end bs else (if b == 47 then after_comment bs else None))

-- ---- words

-- the word that a text begins with, and what is behind it
abbrev pub word_len : List ℕ → ℕ
word_len text = prefix_len continues_word text

abbrev pub is_out_word : List ℕ → Bool
is_out_word word = list_any (λ other. bytes_eq word other) out_words

-- ---- numbers

abbrev pub notation_of : List ℕ → Notation
notation_of [] = Decimal
notation_of (b ∷ bs) = if begins_hexadecimal (b ∷ bs) then Hexadecimal else (if b == 48 then Octal else Decimal)

-- a value, where it has 64 bits at most
abbrev pub in_64_bits : ℕ → Option ℕ
in_64_bits n = if nat_lt n (2 ^ 64) then Some n else None

-- ---- punctuators

abbrev pub begins_with : List ℕ → List ℕ → Bool
begins_with bytes text = bytes_eq bytes (take (length bytes) text)

-- a byte that begins a gap, a punctuator or nothing
abbrev pub is_other_byte : ℕ → Bool
is_other_byte b = not (starts_word b || (is_digit 10 b || (b == 10 || (b == 34 || b == 39))))

-- ---- characters

-- how many digits stand at the front, counted up to a limit
abbrev pub digits_len : ℕ → ℕ → List ℕ → ℕ
digits_len base most text = prefix_len (is_digit base) (take most text)

abbrev pub byte_before : ℕ → List ℕ → Option (ℕ × List ℕ)
byte_before n rest = if nat_le n 255 then Some (n, rest) else None

-- the byte that these digits spell, up to a limit
unfoldable pub digits_at : ℕ → ℕ → List ℕ → Option (ℕ × List ℕ)
digits_at base most text =
    let n = digits_len base most text in
    if n == 0 then None else byte_before (number_of base (take n text)) (drop n text)

-- the byte that a letter behind a backslash stands for
unfoldable pub letter_of : ℕ → Option ℕ
letter_of c =
    if c == 110 then Some 10
    else (if c == 116 then Some 9
    else (if c == 114 then Some 13
    else (if c == 97 then Some 7
    else (if c == 98 then Some 8
    else (if c == 102 then Some 12
    else (if c == 118 then Some 11
    else (if c == 92 || (c == 39 || (c == 34 || c == 63)) then Some c
    else None)))))))

abbrev pub letter_or : Option ℕ → List ℕ → Option (ℕ × List ℕ) → Option (ℕ × List ℕ)
letter_or (Some b) rest other = Some (b, rest)
letter_or None rest other = other

-- behind the backslash
unfoldable pub escape_at : List ℕ → Option (ℕ × List ℕ)
escape_at [] = None
escape_at (c ∷ bs) = letter_or (letter_of c) bs (if c == 120 then digits_at 16 2 bs else digits_at 8 3 (c ∷ bs))

-- what stands for one byte between these quotes
unfoldable pub character_at : ℕ → List ℕ → Option (ℕ × List ℕ)
character_at quote [] = None
character_at quote (b ∷ bs) = if is_plain quote b then Some (b, bs) else (if b == 92 then escape_at bs else None)

-- behind one byte of a literal that isn't at its end: of a quote, of a line or of the text
unfoldable pub in_literal : ℕ → List ℕ → Option (List ℕ)
in_literal quote [] = None
in_literal quote (a ∷ []) = if a == quote || (a == 92 || a == 10) then None else Some []
in_literal quote (a ∷ b ∷ bs) =
    if a == quote then None
    else (if a == 92 then (if b == 10 then None else Some bs)
    else (if a == 10 then None else Some (b ∷ bs)))

-- whether a literal is closed in its line, of which the first quote is taken
unfoldable pub is_closed : ℕ → List ℕ → Bool
is_closed quote [] = false
is_closed quote (a ∷ []) = a == quote
is_closed quote (a ∷ b ∷ bs) =
    if a == quote then true
    else (if a == 92 then (if b == 10 then false else is_closed quote bs)
    else (if a == 10 then false else is_closed quote (b ∷ bs)))

abbrev pub begins_quote : ℕ → List ℕ → Bool
begins_quote quote [] = false
begins_quote quote (a ∷ bs) = a == quote

-- behind a quote
unfoldable pub after_quote : ℕ → List ℕ → Option (List ℕ)
after_quote quote [] = None
after_quote quote (a ∷ bs) = if a == quote then Some bs else None
