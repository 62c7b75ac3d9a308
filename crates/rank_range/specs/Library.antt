-- What the functions of the library do (C11, 7.21 to 7.24), but for those of the heap and `exit`: from the words of their
-- arguments and the areas of memory to a value, a text and the areas then, or a trap. All bytes that are read or written are
-- checked before any is written. What this profile has otherwise than C is said at each.
use Rattle.std.specs.Prelude.{ℕ, ◌+◌, ◌-◌, ◌*◌, ◌^◌, ◌%◌, ◌==◌, ◌&&◌, ◌||◌, ℤ, pos, negsuc, if◌then◌else◌, Bool, true, false, nat_lt, nat_le, List, [], ◌∷◌, ◌++◌, length, slice_index, drop, replicate, Option, Some, None, codes, unsigned_abs, neg_ℤ}
use Rattle.std.specs.Fmt.{decimal, digits}
use Rattle.am_base.specs.declared.traps.TrapCause.{TrapCause}
use Rattle.am_base.specs.declared.traps.TrapCause.TheVariants.{BadAddress, BadFormat}
use Rattle.am_base.specs.declared.calls.LibCall.{LibCall}
use Rattle.am_base.specs.declared.calls.LibCall.TheVariants as lib
use Rattle.rank_range.specs.declared.kinds.Kind.TheVariants as kind
use Rattle.rank_range.specs.Kinds.{value_of, word_of, reduced}
use Rattle.rank_range.specs.Areas.{Areas, bytes_from, bytes_at, with_bytes_at, copied_at, text_at}
use Rattle.rank_range.specs.Formats.{What, Signed, Unsigned, Hexadecimal, Character, Text, Conversion, Piece, Plain, Converts, Format, End, Whole, Bad, Open, format_of, in_width, written_number}

-- What a call does: a value, a text that is printed, and the areas then; or a trap, which changes nothing.
pub data LibraryDone : Type 0 where
  Does : ℕ → List ℕ → Areas → LibraryDone
  Fails : TrapCause → LibraryDone

-- the word of a number
abbrev pub answer : ℤ → Areas → LibraryDone
answer z areas = Does (word_of z) [] areas

-- what goes on with bytes, with a text or with changed areas, or traps where they aren't accessible
abbrev pub with_read : Option (List ℕ) → (List ℕ → LibraryDone) → LibraryDone
with_read None next = Fails BadAddress
with_read (Some bytes) next = next bytes

abbrev pub with_written : Option Areas → (Areas → LibraryDone) → LibraryDone
with_written None next = Fails BadAddress
with_written (Some areas) next = next areas

-- the word of the argument of that number, from 0
abbrev pub argument : List ℕ → ℕ → ℕ
argument words n = slice_index words n

-- What pieces of a format write, or why they don't. Each conversion takes one more argument; one that is missing is a bad
-- format, as is all that is read of a format behind its bad conversion.
pub data Written : Type 0 where
  Writes : List ℕ → Written
  Wrong : TrapCause → Written

-- The text of a conversion: numbers are read from the low bits of their word, and a text up to its zero.
abbrev pub text_in : Conversion → Option (List ℕ) → Written
text_in c None = Wrong BadAddress
text_in c (Some text) = Writes (in_width c.side c.width text)

abbrev pub converts : Areas → Conversion → What → ℕ → Written
converts areas c (Signed k) word = Writes (written_number c (value_of k word) (decimal (unsigned_abs (value_of k word))))
converts areas c (Unsigned k) word = Writes (written_number c (value_of k word) (decimal (unsigned_abs (value_of k word))))
converts areas c (Hexadecimal k) word = Writes (written_number c (value_of k word) (digits 16 false (unsigned_abs (value_of k word))))
converts areas c Character word = Writes (in_width c.side c.width (word % 256 ∷ []))
converts areas c Text word = text_in c (text_at areas word)

abbrev pub behind_text : List ℕ → Written → Written
behind_text text (Writes more) = Writes (text ++ more)
behind_text text (Wrong cause) = Wrong cause

abbrev pub ended : End → Written
ended Whole = Writes []
ended Bad = Wrong BadFormat
ended Open = Wrong BadAddress

abbrev pub joined : Written → Written → Written
joined (Writes text) more = behind_text text more
joined (Wrong cause) more = Wrong cause

-- The pieces in order: the first that can't be written is told.
abbrev pub written : Areas → List Piece → End → List ℕ → Written
written areas [] end words = ended end
written areas (Plain b ∷ pieces) end words = behind_text (b ∷ []) (written areas pieces end words)
written areas (Converts c ∷ pieces) end [] = Wrong BadFormat
written areas (Converts c ∷ pieces) end (word ∷ words) = joined (converts areas c c.what word) (written areas pieces end words)

-- `printf` answers the number of its bytes.
abbrev pub printed : Areas → Written → LibraryDone
printed areas (Writes text) = Does (word_of (reduced kind.Int (pos (length text)))) text areas
printed areas (Wrong cause) = Fails cause

abbrev pub printf_does : Areas → Format → List ℕ → LibraryDone
printf_does areas format words = printed areas (written areas format.pieces format.end words)

-- -1, 0 or 1, by the first bytes that differ, as unsigned numbers
abbrev pub compared : List ℕ → List ℕ → ℤ
compared [] ys = pos 0
compared (x ∷ xs) [] = pos 0
compared (x ∷ xs) (y ∷ ys) = if x == y then compared xs ys else (if nat_lt x y then negsuc 0 else pos 1)

-- The order of two texts, which are read no further than to the first difference or the end of both; none where that isn't
-- accessible.
abbrev pub texts_compared : List ℕ → List ℕ → Option ℤ
texts_compared [] ys = None
texts_compared (x ∷ xs) [] = None
texts_compared (x ∷ xs) (y ∷ ys) =
    if x == y then (if x == 0 then Some (pos 0) else texts_compared xs ys)
    else Some (if nat_lt x y then negsuc 0 else pos 1)

abbrev pub with_number : Option ℤ → Areas → LibraryDone
with_number None areas = Fails BadAddress
with_number (Some z) areas = answer z areas

-- `atoi` reads white space, a sign and digits, and no further than to the first byte behind them; none where that isn't
-- accessible.
abbrev pub is_space : ℕ → Bool
is_space b = (nat_le 9 b && nat_le b 13) || b == 32

abbrev pub is_digit : ℕ → Bool
is_digit b = nat_le 48 b && nat_le b 57

abbrev pub digits_value : ℕ → List ℕ → Option ℕ
digits_value n [] = None
digits_value n (b ∷ bs) = if is_digit b then digits_value (10 * n + (b - 48)) bs else Some n

abbrev pub negated_if_any : Option ℕ → Option ℤ
negated_if_any None = None
negated_if_any (Some n) = Some (neg_ℤ (pos n))

abbrev pub whole_if_any : Option ℕ → Option ℤ
whole_if_any None = None
whole_if_any (Some n) = Some (pos n)

abbrev pub behind_spaces : List ℕ → Option ℤ
behind_spaces [] = None
behind_spaces (b ∷ bs) =
    if b == 45 then negated_if_any (digits_value 0 bs)
    else (if b == 43 then whole_if_any (digits_value 0 bs)
    else whole_if_any (digits_value 0 (b ∷ bs)))

abbrev pub atoi_value : List ℕ → Option ℤ
atoi_value [] = None
atoi_value (b ∷ bs) = if is_space b then atoi_value bs else behind_spaces (b ∷ bs)

abbrev pub with_int : Option ℤ → Areas → LibraryDone
with_int None areas = Fails BadAddress
with_int (Some z) areas = answer (reduced kind.Int z) areas

-- The functions. Numbers that overflow lose their high bits. A copy goes as if by a buffer, where the ranges overlap too, which C
-- leaves open. A comparison gives -1, 0 or 1.
unfoldable pub library_does : LibCall → List ℕ → Areas → LibraryDone
library_does lib.Printf words areas = printf_does areas (format_of (bytes_from areas (argument words 0))) (drop 1 words)
library_does lib.Puts words areas = with_read (text_at areas (argument words 0)) (λ text. Does 0 (text ++ codes "\n") areas)
library_does lib.Putchar words areas = Does (argument words 0 % 256) (argument words 0 % 256 ∷ []) areas
library_does lib.Memcpy words areas =
    with_written (copied_at areas (argument words 0) (argument words 1) (argument words 2)) (λ new. Does (argument words 0) [] new)
library_does lib.Memset words areas =
    with_written (with_bytes_at areas (argument words 0) (replicate (argument words 2) (argument words 1 % 256)))
    (λ new. Does (argument words 0) [] new)
library_does lib.Memcmp words areas =
    with_read (bytes_at areas (argument words 0) (argument words 2)) (λ xs.
    with_read (bytes_at areas (argument words 1) (argument words 2)) (λ ys. answer (compared xs ys) areas))
library_does lib.Strlen words areas = with_read (text_at areas (argument words 0)) (λ text. Does (length text) [] areas)
library_does lib.Strcmp words areas =
    with_number (texts_compared (bytes_from areas (argument words 0)) (bytes_from areas (argument words 1))) areas
library_does lib.Strcpy words areas =
    with_read (text_at areas (argument words 1)) (λ text.
    with_written (with_bytes_at areas (argument words 0) (text ++ 0 ∷ [])) (λ new. Does (argument words 0) [] new))
library_does lib.Atoi words areas = with_int (atoi_value (bytes_from areas (argument words 0))) areas
library_does lib.Abs words areas = answer (reduced kind.Int (pos (unsigned_abs (value_of kind.Int (argument words 0))))) areas
library_does _ words areas = Fails BadAddress
