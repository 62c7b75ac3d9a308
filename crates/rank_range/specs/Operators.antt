-- The operators on whole numbers (C11, 6.5.3.3 and 6.5.5 to 6.5.12): on mathematical numbers, and then reduced to the
-- kind. The traps, the sign of a right shift, and that signed numbers lose their high bits as unsigned ones do are this
-- profile's own.
use Rattle.std.specs.Prelude.{ℕ, ℤ, pos, negsuc, ◌≡◌, ◌^◌, ◌&&◌, not, if◌then◌else◌, Bool, nat_lt, int_lt, int_le, int_div, int_rem, ◌+ℤ◌, ◌-ℤ◌, ◌*ℤ◌, neg_ℤ, Option, Some, None, Result, Ok, Err}
use Rattle.std.specs.Ordering.{int_eq}
use Rattle.std.specs.Int.{int_shr}
use Rattle.std.specs.Int.RustNames.{bit_and, bit_or, bit_xor}
use Rattle.am_base.specs.declared.traps.TrapCause.{TrapCause}
use Rattle.am_base.specs.declared.traps.TrapCause.TheVariants.{DivisionByZero, DivisionOverflow, ShiftCount}
use Rattle.rank_range.specs.declared.kinds.Kind.{Kind}
use Rattle.rank_range.specs.declared.kinds.Kind.TheVariants.{Char, UnsignedChar, Short, UnsignedShort, Int, Unsigned, Long, UnsignedLong}
use Rattle.rank_range.specs.declared.operators.Unary.{Unary}
use Rattle.rank_range.specs.declared.operators.Unary.TheVariants.{Negate, Complement}
use Rattle.rank_range.specs.declared.operators.Binary.{Binary}
use Rattle.rank_range.specs.declared.operators.Binary.TheVariants.{Add, Subtract, Multiply, Divide, Remainder, And, Or, Xor, ShiftLeft, ShiftRight, Equal, NotEqual, Less, AtMost}
use Rattle.rank_range.specs.Kinds.{bits_of, reduced, word_of, value_of, extended, IsWordOf}

-- the value of a test
abbrev pub truth : Bool → ℕ
truth b = if b then 1 else 0

-- the least number of the kind
abbrev pub least : Kind → ℤ
least Char = negsuc 127
least UnsignedChar = pos 0
least Short = negsuc 32767
least UnsignedShort = pos 0
least Int = negsuc 2147483647
least Unsigned = pos 0
least Long = negsuc 9223372036854775807
least UnsignedLong = pos 0

-- what a number becomes: `-x`, and `~x`, which is -1 - x in two's complement
abbrev pub changed : Unary → ℤ → ℤ
changed Negate x = neg_ℤ x
changed Complement x = negsuc 0 -ℤ x

-- the word of what becomes of the number of the kind in a word
unfoldable pub operate_one : Unary → Kind → ℕ → ℕ
operate_one op kind a = word_of (reduced kind (changed op (value_of kind a)))

-- the word of a number, reduced to the kind
abbrev pub gives : Kind → ℤ → Result ℕ TrapCause
gives kind z = Ok (word_of (reduced kind z))

abbrev pub tells : Bool → Result ℕ TrapCause
tells b = Ok (truth b)

-- Why a number can't be divided by another, if so: the divisor is 0, or the least number is divided by -1, and the kind
-- doesn't hold the quotient.
abbrev pub division_trap : Kind → ℤ → ℤ → Option TrapCause
division_trap kind x y =
    if int_eq y (pos 0) then Some DivisionByZero
    else (if int_eq x (least kind) && int_eq y (negsuc 0) then Some DivisionOverflow else None)

-- what is given where there is no trap
abbrev pub unless : Option TrapCause → Result ℕ TrapCause → Result ℕ TrapCause
unless None given = given
unless (Some cause) given = Err cause

-- a quotient or remainder, rounded towards zero
abbrev pub divided : (ℤ → ℤ → ℤ) → Kind → ℤ → ℤ → Result ℕ TrapCause
divided f kind x y = unless (division_trap kind x y) (gives kind (f x y))

-- A shift. The count has a kind of its own, so it is the whole word; a negative one has a word of 2 ^ 63 or more.
abbrev pub shifted : (ℤ → ℕ → ℤ) → Kind → ℤ → ℕ → Result ℕ TrapCause
shifted f kind x count = if nat_lt count (bits_of kind) then gives kind (f x count) else Err ShiftCount

abbrev pub int_shl : ℤ → ℕ → ℤ
int_shl x count = x *ℤ pos (2 ^ count)

-- What an operator gives on numbers of the kind, by a word of each: a word, or a trap. The bits of a number are those of
-- its word.
unfoldable pub operate : Binary → Kind → ℕ → ℕ → Result ℕ TrapCause
operate Add kind a b = gives kind (value_of kind a +ℤ value_of kind b)
operate Subtract kind a b = gives kind (value_of kind a -ℤ value_of kind b)
operate Multiply kind a b = gives kind (value_of kind a *ℤ value_of kind b)
operate Divide kind a b = divided int_div kind (value_of kind a) (value_of kind b)
operate Remainder kind a b = divided int_rem kind (value_of kind a) (value_of kind b)
operate And kind a b = gives kind (pos (bit_and (extended kind a) (extended kind b)))
operate Or kind a b = gives kind (pos (bit_or (extended kind a) (extended kind b)))
operate Xor kind a b = gives kind (pos (bit_xor (extended kind a) (extended kind b)))
operate ShiftLeft kind a b = shifted int_shl kind (value_of kind a) b
operate ShiftRight kind a b = shifted int_shr kind (value_of kind a) b
operate Equal kind a b = tells (int_eq (value_of kind a) (value_of kind b))
operate NotEqual kind a b = tells (not (int_eq (value_of kind a) (value_of kind b)))
operate Less kind a b = tells (int_lt (value_of kind a) (value_of kind b))
operate AtMost kind a b = tells (int_le (value_of kind a) (value_of kind b))

-- the kind of what an operator gives: a test gives an `int`
abbrev pub result_kind : Binary → Kind → Kind
result_kind Equal kind = Int
result_kind NotEqual kind = Int
result_kind Less kind = Int
result_kind AtMost kind = Int
result_kind Add kind = kind
result_kind Subtract kind = kind
result_kind Multiply kind = kind
result_kind Divide kind = kind
result_kind Remainder kind = kind
result_kind And kind = kind
result_kind Or kind = kind
result_kind Xor kind = kind
result_kind ShiftLeft kind = kind
result_kind ShiftRight kind = kind

-- What is given is the word of a number of that kind.
abbrev pub AreGivenWords : Type 0
AreGivenWords =
    (op : Binary) (kind : Kind) (a b word : ℕ) → operate op kind a b ≡ Ok word → IsWordOf (result_kind op kind) word

abbrev pub IsGivenWord : Type 0
IsGivenWord = (op : Unary) (kind : Kind) (a : ℕ) → IsWordOf kind (operate_one op kind a)
