-- The formats of `printf` (C11, 7.21.6.1), of those that this profile has, and how a number is written by one. A flag is `-` or
-- `0`, a width has up to three digits, and the conversions are `d i u x`, also with `l` or `ll`, `c`, `s` and `%%`. All else is a
-- bad format.
use Rattle.std.specs.Prelude.{ℕ, zero, suc, ◌+◌, ◌-◌, ◌*◌, ◌^◌, ◌%◌, ◌==◌, ◌&&◌, ◌||◌, ℤ, pos, negsuc, if◌then◌else◌, Bool, true, false, nat_le, List, [], ◌∷◌, ◌++◌, length, replicate, Option, Some, None, codes, unsigned_abs, int_lt}
use Rattle.std.specs.Fmt.{decimal, digits}
use Rattle.rank_range.specs.declared.kinds.Kind.{Kind}
use Rattle.rank_range.specs.declared.kinds.Kind.TheVariants as kind
use Rattle.rank_range.specs.Kinds.{value_of}

-- what a conversion writes
pub data What : Type 0 where
  -- `d` and `i`: a number of a signed kind
  Signed : Kind → What
  -- `u` and `x`: a number of an unsigned kind
  Unsigned : Kind → What
  Hexadecimal : Kind → What
  Character : What
  Text : What

-- How the text is put into its width: to the left, with zeros behind the sign, or to the right.
pub data Side : Type 0 where
  Left : Side
  Zeros : Side
  Right : Side

-- A conversion: how its text is put into a width, and what it writes.
pub record Conversion : Type 0 where
  pub side : Side
  pub width : ℕ
  pub what : What

-- a piece of a format: a byte that stands for itself, or a conversion
pub data Piece : Type 0 where
  Plain : ℕ → Piece
  Converts : Conversion → Piece

-- how a format ends: at its zero, at a bad conversion, or where its area ends
pub data End : Type 0 where
  Whole : End
  Bad : End
  Open : End

-- the pieces of a format before it ends, and how it ends
pub record Format : Type 0 where
  pub pieces : List Piece
  pub end : End

abbrev pub is_digit : ℕ → Bool
is_digit b = nat_le 48 b && nat_le b 57

-- the conversion that a byte names, with or without an `l`
abbrev pub what_of : Bool → ℕ → Option What
what_of false b =
    if b == 100 || b == 105 then Some (Signed kind.Int)
    else (if b == 117 then Some (Unsigned kind.Unsigned)
    else (if b == 120 then Some (Hexadecimal kind.Unsigned)
    else (if b == 99 then Some Character
    else (if b == 115 then Some Text else None))))
what_of true b =
    if b == 100 || b == 105 then Some (Signed kind.Long)
    else (if b == 117 then Some (Unsigned kind.UnsignedLong)
    else (if b == 120 then Some (Hexadecimal kind.UnsignedLong) else None))

-- a conversion, and the bytes behind it; or how the format ends in it
pub data Read : Type 0 where
  Found : Piece → List ℕ → Read
  Ends : End → Read

abbrev pub found : Side → ℕ → Option What → List ℕ → Read
found side width None rest = Ends Bad
found side width (Some what) rest = Found (Converts (record { side = side; width = width; what = what })) rest

abbrev pub behind_long : Side → ℕ → List ℕ → Read
behind_long side width [] = Ends Open
behind_long side width (b ∷ rest) = found side width (what_of true b) rest

-- behind the width: an `l` or two, and the conversion
abbrev pub behind_width : Side → ℕ → List ℕ → Read
behind_width side width [] = Ends Open
behind_width side width (b ∷ []) = if b == 108 then Ends Open else found side width (what_of false b) []
behind_width side width (b ∷ c ∷ rest) =
    if b == 108 then (if c == 108 then behind_long side width rest else found side width (what_of true c) rest)
    else found side width (what_of false b) (c ∷ rest)

-- a width of n more digits at most
abbrev pub width_from : ℕ → Side → ℕ → List ℕ → Read
width_from zero side width bytes = behind_width side width bytes
width_from (suc n) side width [] = Ends Open
width_from (suc n) side width (b ∷ rest) =
    if is_digit b then width_from n side (10 * width + (b - 48)) rest else behind_width side width (b ∷ rest)

-- Behind a `%`: one more `%`, or a flag, a width and a conversion.
abbrev pub behind_percent : List ℕ → Read
behind_percent [] = Ends Open
behind_percent (b ∷ rest) =
    if b == 37 then Found (Plain 37) rest
    else (if b == 45 then width_from 3 Left 0 rest
    else (if b == 48 then width_from 3 Zeros 0 rest
    else width_from 3 Right 0 (b ∷ rest)))

-- The piece that stands first, and the bytes behind it; or how the format ends.
abbrev pub first_piece : List ℕ → Read
first_piece [] = Ends Open
first_piece (b ∷ rest) = if b == 0 then Ends Whole else (if b == 37 then behind_percent rest else Found (Plain b) rest)

abbrev pub with_piece : Piece → Format → Format
with_piece piece format = record { pieces = piece ∷ format.pieces; end = format.end }

-- the format that goes on behind its first piece
abbrev pub going_on : (List ℕ → Format) → Read → Format
going_on next (Found piece rest) = with_piece piece (next rest)
going_on next (Ends end) = record { pieces = []; end = end }

-- the format in bytes, of which at most n pieces are read
abbrev pub format_within : ℕ → List ℕ → Format
format_within zero bytes = record { pieces = []; end = Open }
format_within (suc n) bytes = going_on (format_within n) (first_piece bytes)

-- The format that begins these bytes: each piece has a byte at least.
unfoldable pub format_of : List ℕ → Format
format_of bytes = format_within (suc (length bytes)) bytes

-- a text in its width
abbrev pub in_width : Side → ℕ → List ℕ → List ℕ
in_width Left width text = text ++ replicate (width - length text) 32
in_width Zeros width text = replicate (width - length text) 32 ++ text
in_width Right width text = replicate (width - length text) 32 ++ text

abbrev pub sign_of : ℤ → List ℕ
sign_of z = if int_lt z (pos 0) then codes "-" else []

-- The digits of a number with its sign; zeros stand between them.
abbrev pub number_in_width : Side → ℕ → List ℕ → List ℕ → List ℕ
number_in_width Left width sign ds = in_width Left width (sign ++ ds)
number_in_width Zeros width sign ds = sign ++ replicate (width - length (sign ++ ds)) 48 ++ ds
number_in_width Right width sign ds = in_width Right width (sign ++ ds)

abbrev pub written_number : Conversion → ℤ → List ℕ → List ℕ
written_number c z ds = number_in_width c.side c.width (sign_of z) ds
