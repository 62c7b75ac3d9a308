-- What the operators' code computes on words is what they are on numbers.
use Rattle.std.proofs.Common.{◌≡◌, ◌≢◌, ℕ, zero, suc, ◌+◌, ◌-◌, ◌*◌, ◌/◌, ◌%◌, ◌^◌, ◌<◌, ◌≤◌, ◌∙◌, refl, sym, ap, subst, arith, Bool, true, false, Option, Some, None, Result, Ok, Err}
use Rattle.std.specs.Prelude.{ℤ, pos, negsuc, ◌+ℤ◌, ◌-ℤ◌, ◌*ℤ◌, neg_ℤ, int_div, int_rem, int_lt, int_le, nat_lt, not, if◌then◌else◌}
use Rattle.std.specs.Bool.{one_answer}
use Rattle.std.specs.Ordering.{int_eq}
use Rattle.std.specs.Int.{Width, w8, w16, w32, w64, cast_signed, cast_unsigned, int_wrap, int_shr}
use Rattle.std.specs.Int.RustNames.{FitsSigned, bit_and, bit_or, bit_xor}
use Rattle.std.proofs.lemmas.Bool.{true≢false, false_from_ne_true, lt-ltb, le-ltb}
use Rattle.std.proofs.lemmas.Bool.Decides.{Decides-eqb, Decides-int_eq}
use Rattle.std.proofs.lemmas.Option.{none-some}
use Rattle.std.proofs.lemmas.Int.{ints, quot_is, rem_is, of_z-to_z, to_z-of_z, int_wrap_fits, SFits-int_wrap, int_wrap-add_left, int_wrap-add_right, int_wrap-sub_right, int_wrap-mul_left, int_wrap-mul_right}
use Rattle.std.proofs.Math.Dec.{T, leb, ltb, eqb}
use Rattle.std.proofs.Math.Facts.{sfits_to_z, sfits_widen}
use Rattle.std.proofs.Math.Nat.{div-mul-le_self, div-le_self, mul-le-mul_left, mod-le, le_trans}
use mir.Val.{Fits, bits, hbits}
use Rattle.am_base.specs.declared.traps.TrapCause.{TrapCause}
use Rattle.am_base.specs.declared.traps.TrapCause.TheVariants.{DivisionByZero, DivisionOverflow, ShiftCount}
use Rattle.rank_range.specs.declared.kinds.Kind.{Kind}
use Rattle.rank_range.specs.declared.kinds.Kind.TheVariants.{Char, UnsignedChar, Short, UnsignedShort, Int, Unsigned, Long, UnsignedLong}
use Rattle.rank_range.specs.Kinds.{low_bits, reduced, word_of, value_of, extended, convert, is_signed, bits_of, AreWords, AreExtended, IsWordOf}
use Rattle.rank_range.specs.declared.operators.Binary.TheVariants.{Add, Subtract, Multiply, Divide, Remainder, And, Or, Xor, ShiftLeft, ShiftRight, Equal, NotEqual, Less, AtMost}
use Rattle.rank_range.specs.Operators.{division_trap, divided, shifted, least, int_shl, gives, unless, tells, truth, changed, operate, operate_one, AreGivenWords, IsGivenWord}
use Rattle.rank_range.proofs.KindLemmas.{word_signed, word_unsigned, low_8, low_16, low_32, low_64}

-- the machine's width of a kind
abbrev pub machine_width : Kind → Width
machine_width Char = w8
machine_width UnsignedChar = w8
machine_width Short = w16
machine_width UnsignedShort = w16
machine_width Int = w32
machine_width Unsigned = w32
machine_width Long = w64
machine_width UnsignedLong = w64

low_below : (bits : ℕ) (z : ℤ) → 0 < 2 ^ bits → low_bits bits z < 2 ^ bits
low_below bits (pos n) some = omega (arith, some)
low_below bits (negsuc n) some = omega (arith, some)

-- numbers with the same low bits are reduced to the same number
pub reduced_wrap : (kind : Kind) (y z : ℤ) → int_wrap (machine_width kind) y ≡ int_wrap (machine_width kind) z
    → reduced kind y ≡ reduced kind z
unfolding reduced int_wrap
reduced_wrap Char y z same = same
reduced_wrap UnsignedChar y z same = ap pos (sym (of_z-to_z w8 (low_bits 8 y) (low_below 8 y (omega arith))) ∙ ap (cast_unsigned w8) same ∙ of_z-to_z w8 (low_bits 8 z) (low_below 8 z (omega arith)))
reduced_wrap Short y z same = same
reduced_wrap UnsignedShort y z same = ap pos (sym (of_z-to_z w16 (low_bits 16 y) (low_below 16 y (omega arith))) ∙ ap (cast_unsigned w16) same ∙ of_z-to_z w16 (low_bits 16 z) (low_below 16 z (omega arith)))
reduced_wrap Int y z same = same
reduced_wrap Unsigned y z same = ap pos (sym (of_z-to_z w32 (low_bits 32 y) (low_below 32 y (omega arith))) ∙ ap (cast_unsigned w32) same ∙ of_z-to_z w32 (low_bits 32 z) (low_below 32 z (omega arith)))
reduced_wrap Long y z same = same
reduced_wrap UnsignedLong y z same = ap pos (sym (of_z-to_z w64 (low_bits 64 y) (low_below 64 y (omega arith))) ∙ ap (cast_unsigned w64) same ∙ of_z-to_z w64 (low_bits 64 z) (low_below 64 z (omega arith)))

wrap_again : (w : Width) (z : ℤ) → int_wrap w (int_wrap w z) ≡ int_wrap w z
wrap_again w z = int_wrap_fits w (int_wrap w z) (SFits-int_wrap w z)

-- a number has the low bits of the word that it is read from
pub wrap_value : (kind : Kind) (a : ℕ) → int_wrap (machine_width kind) (value_of kind a) ≡ int_wrap (machine_width kind) (pos a)
unfolding reduced int_wrap
wrap_value Char a = wrap_again w8 (pos a)
wrap_value UnsignedChar a = ap (cast_signed w8) (let e : a % 2 ^ 8 % 2 ^ 8 ≡ a % 2 ^ 8 = omega arith in e)
wrap_value Short a = wrap_again w16 (pos a)
wrap_value UnsignedShort a = ap (cast_signed w16) (let e : a % 2 ^ 16 % 2 ^ 16 ≡ a % 2 ^ 16 = omega arith in e)
wrap_value Int a = wrap_again w32 (pos a)
wrap_value Unsigned a = ap (cast_signed w32) (let e : a % 2 ^ 32 % 2 ^ 32 ≡ a % 2 ^ 32 = omega arith in e)
wrap_value Long a = wrap_again w64 (pos a)
wrap_value UnsignedLong a = ap (cast_signed w64) (let e : a % 2 ^ 64 % 2 ^ 64 ≡ a % 2 ^ 64 = omega arith in e)

-- the bits above a word's are no low bits
pub wrap_word : (kind : Kind) (n : ℕ) → int_wrap (machine_width kind) (pos (n % 2 ^ 64)) ≡ int_wrap (machine_width kind) (pos n)
unfolding int_wrap
wrap_word Char n = ap (cast_signed w8) (let e : n % 2 ^ 64 % 2 ^ 8 ≡ n % 2 ^ 8 = omega arith in e)
wrap_word UnsignedChar n = ap (cast_signed w8) (let e : n % 2 ^ 64 % 2 ^ 8 ≡ n % 2 ^ 8 = omega arith in e)
wrap_word Short n = ap (cast_signed w16) (let e : n % 2 ^ 64 % 2 ^ 16 ≡ n % 2 ^ 16 = omega arith in e)
wrap_word UnsignedShort n = ap (cast_signed w16) (let e : n % 2 ^ 64 % 2 ^ 16 ≡ n % 2 ^ 16 = omega arith in e)
wrap_word Int n = ap (cast_signed w32) (let e : n % 2 ^ 64 % 2 ^ 32 ≡ n % 2 ^ 32 = omega arith in e)
wrap_word Unsigned n = ap (cast_signed w32) (let e : n % 2 ^ 64 % 2 ^ 32 ≡ n % 2 ^ 32 = omega arith in e)
wrap_word Long n = ap (cast_signed w64) (let e : n % 2 ^ 64 % 2 ^ 64 ≡ n % 2 ^ 64 = omega arith in e)
wrap_word UnsignedLong n = ap (cast_signed w64) (let e : n % 2 ^ 64 % 2 ^ 64 ≡ n % 2 ^ 64 = omega arith in e)

wrap_add : (w : Width) (x x' y y' : ℤ) → int_wrap w x ≡ int_wrap w x' → int_wrap w y ≡ int_wrap w y'
    → int_wrap w (x +ℤ y) ≡ int_wrap w (x' +ℤ y')
wrap_add w x x' y y' left right =
    sym (int_wrap-add_left w x y) ∙ ap (λ (z : ℤ). int_wrap w (z +ℤ y)) left ∙ int_wrap-add_left w x' y
    ∙ sym (int_wrap-add_right w x' y) ∙ ap (λ (z : ℤ). int_wrap w (x' +ℤ z)) right ∙ int_wrap-add_right w x' y'

wrap_sub : (w : Width) (x x' y y' : ℤ) → int_wrap w x ≡ int_wrap w x' → int_wrap w y ≡ int_wrap w y'
    → int_wrap w (x -ℤ y) ≡ int_wrap w (x' -ℤ y')
wrap_sub w x x' y y' left right =
    sym (int_wrap-add_left w x (neg_ℤ y)) ∙ ap (λ (z : ℤ). int_wrap w (z -ℤ y)) left ∙ int_wrap-add_left w x' (neg_ℤ y)
    ∙ sym (int_wrap-sub_right w x' y) ∙ ap (λ (z : ℤ). int_wrap w (x' -ℤ z)) right ∙ int_wrap-sub_right w x' y'

wrap_mul : (w : Width) (x x' y y' : ℤ) → int_wrap w x ≡ int_wrap w x' → int_wrap w y ≡ int_wrap w y'
    → int_wrap w (x *ℤ y) ≡ int_wrap w (x' *ℤ y')
wrap_mul w x x' y y' left right =
    sym (int_wrap-mul_left w x y) ∙ ap (λ (z : ℤ). int_wrap w (z *ℤ y)) left ∙ int_wrap-mul_left w x' y
    ∙ sym (int_wrap-mul_right w x' y) ∙ ap (λ (z : ℤ). int_wrap w (x' *ℤ z)) right ∙ int_wrap-mul_right w x' y'

-- a word with the low bits of a number is extended to that number's word
extends : (kind : Kind) (z : ℤ) (r word : ℕ) → word ≡ extended kind r
    → int_wrap (machine_width kind) z ≡ int_wrap (machine_width kind) (pos r) → word ≡ word_of (reduced kind z)
unfolding extended
extends kind z r word is same = is ∙ ap word_of (sym (reduced_wrap kind z (pos r) same))

pub added : (kind : Kind) (a b r word : ℕ) → r ≡ (a + b) % 2 ^ 64 → word ≡ extended kind r
    → word ≡ word_of (reduced kind (value_of kind a +ℤ value_of kind b))
added kind a b r word sum is =
    extends kind (value_of kind a +ℤ value_of kind b) r word is
    (wrap_add (machine_width kind) (value_of kind a) (pos a) (value_of kind b) (pos b) (wrap_value kind a) (wrap_value kind b)
    ∙ sym (wrap_word kind (a + b)) ∙ ap (λ (n : ℕ). int_wrap (machine_width kind) (pos n)) (sym sum))

pub multiplied : (kind : Kind) (a b r word : ℕ) → r ≡ (a * b) % 2 ^ 64 → word ≡ extended kind r
    → word ≡ word_of (reduced kind (value_of kind a *ℤ value_of kind b))
multiplied kind a b r word product is =
    extends kind (value_of kind a *ℤ value_of kind b) r word is
    (wrap_mul (machine_width kind) (value_of kind a) (pos a) (value_of kind b) (pos b) (wrap_value kind a) (wrap_value kind b)
    ∙ sym (wrap_word kind (a * b)) ∙ ap (λ (n : ℕ). int_wrap (machine_width kind) (pos n)) (sym product))

-- ---- differences

-- 2 ^ 64 more changes no low bits
wrap_more : (kind : Kind) (z : ℤ) → int_wrap (machine_width kind) z ≡ int_wrap (machine_width kind) (z +ℤ pos (2 ^ 64))
wrap_more kind z =
    let w = machine_width kind in
    let none : z ≡ z +ℤ pos 0 = omega (arith, ints) in
    ap (int_wrap w) none ∙ wrap_add w z z (pos 0) (pos (2 ^ 64)) refl (wrap_word kind (2 ^ 64))

-- a difference, as what is left of 2 ^ 64 more
wrap_minus : (kind : Kind) (z : ℤ) (m : ℕ) → z +ℤ pos (2 ^ 64) ≡ pos m → int_wrap (machine_width kind) z ≡ int_wrap (machine_width kind) (pos (m % 2 ^ 64))
wrap_minus kind z m is = wrap_more kind z ∙ ap (int_wrap (machine_width kind)) is ∙ sym (wrap_word kind m)

pub subtracted : (kind : Kind) (a b r word : ℕ) → b ≤ 2 ^ 64 → r ≡ (a + (2 ^ 64 - b)) % 2 ^ 64 → word ≡ extended kind r
    → word ≡ word_of (reduced kind (value_of kind a -ℤ value_of kind b))
subtracted kind a b r word small difference is =
    let more : pos a -ℤ pos b +ℤ pos (2 ^ 64) ≡ pos (a + (2 ^ 64 - b)) = omega (arith, ints, small) in
    extends kind (value_of kind a -ℤ value_of kind b) r word is
    (wrap_sub (machine_width kind) (value_of kind a) (pos a) (value_of kind b) (pos b) (wrap_value kind a) (wrap_value kind b)
    ∙ wrap_minus kind (pos a -ℤ pos b) (a + (2 ^ 64 - b)) more ∙ ap (λ (n : ℕ). int_wrap (machine_width kind) (pos n)) (sym difference))

value_zero : (kind : Kind) → value_of kind 0 ≡ pos 0
unfolding reduced
value_zero Char = refl
value_zero UnsignedChar = refl
value_zero Short = refl
value_zero UnsignedShort = refl
value_zero Int = refl
value_zero Unsigned = refl
value_zero Long = refl
value_zero UnsignedLong = refl

pub negated : (kind : Kind) (a r word : ℕ) → a ≤ 2 ^ 64 → r ≡ (0 + (2 ^ 64 - a)) % 2 ^ 64 → word ≡ extended kind r
    → word ≡ word_of (reduced kind (neg_ℤ (value_of kind a)))
negated kind a r word small difference is =
    let none : pos 0 -ℤ value_of kind a ≡ neg_ℤ (value_of kind a) = omega (arith, ints) in
    let zero_is : value_of kind 0 ≡ pos 0 = value_zero kind in
    subtracted kind 0 a r word small difference is
    ∙ ap (λ (z : ℤ). word_of (reduced kind (z -ℤ value_of kind a))) zero_is ∙ ap (λ (z : ℤ). word_of (reduced kind z)) none

pub complemented : (kind : Kind) (a word : ℕ) → a < 2 ^ 64 → word ≡ extended kind (2 ^ 64 - 1 - a)
    → word ≡ word_of (reduced kind (negsuc 0 -ℤ value_of kind a))
complemented kind a word small is =
    let r = 2 ^ 64 - 1 - a in
    let more : negsuc 0 -ℤ pos a +ℤ pos (2 ^ 64) ≡ pos r = omega (arith, ints, small) in
    let same : r % 2 ^ 64 ≡ r = omega (arith, small) in
    extends kind (negsuc 0 -ℤ value_of kind a) r word is
    (wrap_sub (machine_width kind) (negsuc 0) (negsuc 0) (value_of kind a) (pos a) refl (wrap_value kind a)
    ∙ wrap_minus kind (negsuc 0 -ℤ pos a) r more ∙ ap (λ (n : ℕ). int_wrap (machine_width kind) (pos n)) same)

-- ---- words and their numbers

-- the word of a number's word
pub reduced_word : (kind : Kind) (z : ℤ) → reduced kind (pos (word_of z)) ≡ reduced kind z
unfolding reduced word_of
reduced_word Char z = ap (cast_signed w8) (low_8 z)
reduced_word UnsignedChar z = ap pos (low_8 z)
reduced_word Short z = ap (cast_signed w16) (low_16 z)
reduced_word UnsignedShort z = ap pos (low_16 z)
reduced_word Int z = ap (cast_signed w32) (low_32 z)
reduced_word Unsigned z = ap pos (low_32 z)
reduced_word Long z = ap (cast_signed w64) (low_64 z)
reduced_word UnsignedLong z = ap pos (low_64 z)

-- a word is extended to that of a number where it is the number's
pub extends_word : (kind : Kind) (z : ℤ) (r word : ℕ) → r ≡ word_of z → word ≡ extended kind r → word ≡ word_of (reduced kind z)
unfolding extended
extends_word kind z r word are is =
    is ∙ ap (λ (n : ℕ). word_of (reduced kind (pos n))) are ∙ ap word_of (reduced_word kind z)

pub converted : (from to : Kind) (word r result : ℕ) → r ≡ extended from word → result ≡ extended to r
    → result ≡ convert word from to
unfolding convert extended
converted from to word r result first second = extends_word to (value_of from word) r result first second

-- a number of a kind is read from its word
pub value_back : (kind : Kind) (a : ℕ) → value_of kind (extended kind a) ≡ value_of kind a
unfolding extended
value_back kind a = reduced_word kind (value_of kind a) ∙ reduced_wrap kind (value_of kind a) (pos a) (wrap_value kind a)

narrow_fits : (w : Width) (n : ℕ) → n < 2 ^ bits w → T (leb (hbits w) 63) → FitsSigned w64 (cast_signed w n)
narrow_fits w n small few =
    let fits : Fits w n = record { fits = small } in
    sfits_widen few (sfits_to_z fits)

pub signed_fits : (kind : Kind) (a : ℕ) → is_signed kind ≡ true → FitsSigned w64 (value_of kind a)
unfolding reduced
signed_fits Char a is = narrow_fits w8 (a % 2 ^ 8) (omega arith) tt
signed_fits UnsignedChar a is = absurd (true≢false (sym is))
signed_fits Short a is = narrow_fits w16 (a % 2 ^ 16) (omega arith) tt
signed_fits UnsignedShort a is = absurd (true≢false (sym is))
signed_fits Int a is = narrow_fits w32 (a % 2 ^ 32) (omega arith) tt
signed_fits Unsigned a is = absurd (true≢false (sym is))
signed_fits Long a is = narrow_fits w64 (a % 2 ^ 64) (omega arith) tt
signed_fits UnsignedLong a is = absurd (true≢false (sym is))

pub signed_value : (kind : Kind) (a x : ℕ) → is_signed kind ≡ true → x ≡ extended kind a → cast_signed w64 x ≡ value_of kind a
unfolding extended
signed_value kind a x is word =
    let fits = signed_fits kind a is in
    ap (cast_signed w64) (word ∙ word_signed (value_of kind a) fits) ∙ to_z-of_z w64 (value_of kind a) fits

pub unsigned_value : (kind : Kind) (a : ℕ) → is_signed kind ≡ false → value_of kind a ≡ pos (extended kind a)
unfolding reduced word_of extended
unsigned_value Char a is = absurd (true≢false is)
unsigned_value UnsignedChar a is = ap pos (let e : a % 2 ^ 8 ≡ a % 2 ^ 8 % 2 ^ 64 = omega arith in e)
unsigned_value Short a is = absurd (true≢false is)
unsigned_value UnsignedShort a is = ap pos (let e : a % 2 ^ 16 ≡ a % 2 ^ 16 % 2 ^ 64 = omega arith in e)
unsigned_value Int a is = absurd (true≢false is)
unsigned_value Unsigned a is = ap pos (let e : a % 2 ^ 32 ≡ a % 2 ^ 32 % 2 ^ 64 = omega arith in e)
unsigned_value Long a is = absurd (true≢false is)
unsigned_value UnsignedLong a is = ap pos (let e : a % 2 ^ 64 ≡ a % 2 ^ 64 % 2 ^ 64 = omega arith in e)

-- the word of a number with a sign, reduced to the kind
pub reduces : (kind : Kind) (z : ℤ) (r word : ℕ) → FitsSigned w64 z → r ≡ cast_unsigned w64 z → word ≡ extended kind r
    → word ≡ word_of (reduced kind z)
reduces kind z r word fits is extension = extends_word kind z r word (is ∙ sym (word_signed z fits)) extension

-- ---- equality

pub equal_yes : (x y : ℤ) → x ≡ y → int_eq x y ≡ true
equal_yes x y same = (Decides-int_eq x y).1 same

pub equal_no : (x y : ℤ) → (x ≡ y → ⊥) → int_eq x y ≡ false
equal_no x y other = false_from_ne_true (int_eq x y) (λ e. other ((Decides-int_eq x y).0 e))

pub words_equal : (kind : Kind) (a b x y : ℕ) → x ≡ extended kind a → y ≡ extended kind b
    → eqb x y ≡ int_eq (value_of kind a) (value_of kind b)
unfolding extended
words_equal kind a b x y first second =
    let X = value_of kind a in
    let Y = value_of kind b in
    let back : x ≡ y → X ≡ Y = λ e. sym (value_back kind a) ∙ ap (value_of kind) (sym first ∙ e ∙ second) ∙ value_back kind b in
    let there : X ≡ Y → x ≡ y = λ e. first ∙ ap word_of e ∙ sym second in
    one_answer (eqb x y) (int_eq X Y)
    (λ e. back ((Decides-eqb x y).0 e), λ e. (Decides-eqb x y).1 (there e))
    (Decides-int_eq X Y)

-- ---- divisions

pub by_zero : (kind : Kind) (x y : ℤ) → y ≡ pos 0 → division_trap kind x y ≡ Some DivisionByZero
by_zero kind x y is = rw (equal_yes y (pos 0) is) refl

pub overflows : (kind : Kind) (x y : ℤ) → (y ≡ pos 0 → ⊥) → x ≡ least kind → y ≡ negsuc 0
    → division_trap kind x y ≡ Some DivisionOverflow
overflows kind x y some first second =
    rw (equal_no y (pos 0) some, equal_yes x (least kind) first, equal_yes y (negsuc 0) second) refl

-- words of special numbers
pub is_zero_word : (kind : Kind) (b : ℕ) (r : Bool) → r ≡ int_eq (value_of kind b) (value_of kind 0) → r ≡ int_eq (value_of kind b) (pos 0)
is_zero_word kind b r is = is ∙ ap (int_eq (value_of kind b)) (value_zero kind)

pub least_char : value_of Char 128 ≡ least Char
unfolding reduced
least_char = refl

pub least_short : value_of Short 32768 ≡ least Short
unfolding reduced
least_short = refl

pub least_int : value_of Int 2147483648 ≡ least Int
unfolding reduced
least_int = refl

pub least_long : value_of Long 9223372036854775808 ≡ least Long
unfolding reduced
least_long = refl

pub least_unsigned : (kind : Kind) → is_signed kind ≡ false → value_of kind 0 ≡ least kind
least_unsigned Char is = absurd (true≢false is)
least_unsigned UnsignedChar is = value_zero UnsignedChar
least_unsigned Short is = absurd (true≢false is)
least_unsigned UnsignedShort is = value_zero UnsignedShort
least_unsigned Int is = absurd (true≢false is)
least_unsigned Unsigned is = value_zero Unsigned
least_unsigned Long is = absurd (true≢false is)
least_unsigned UnsignedLong is = value_zero UnsignedLong

ones : (kind : Kind) → is_signed kind ≡ true → value_of kind (2 ^ 64 - 1) ≡ negsuc 0
unfolding reduced
ones Char is = refl
ones UnsignedChar is = absurd (true≢false (sym is))
ones Short is = refl
ones UnsignedShort is = absurd (true≢false (sym is))
ones Int is = refl
ones Unsigned is = absurd (true≢false (sym is))
ones Long is = refl
ones UnsignedLong is = absurd (true≢false (sym is))

pub is_ones : (kind : Kind) (b : ℕ) (r : Bool) → is_signed kind ≡ true → r ≡ int_eq (value_of kind b) (value_of kind (2 ^ 64 - 1))
    → r ≡ int_eq (value_of kind b) (negsuc 0)
is_ones kind b r is tells = tells ∙ ap (int_eq (value_of kind b)) (ones kind is)

pub none_below : (kind : Kind) (b : ℕ) → is_signed kind ≡ false → false ≡ int_eq (value_of kind b) (negsuc 0)
none_below kind b is = sym (ap (λ (z : ℤ). int_eq z (negsuc 0)) (unsigned_value kind b is))

-- ---- quotients

pub divisor_some : (kind : Kind) (x y : ℤ) → division_trap kind x y ≡ None → y ≡ pos 0 → ⊥
divisor_some kind x y none is = none-some _ (sym none ∙ by_zero kind x y is)

neg_fits : (q : ℕ) → q ≤ 2 ^ 63 → FitsSigned w64 (neg_ℤ (pos q))
neg_fits zero few = record { sfits = omega arith }
neg_fits (suc q) few = record { sfits = omega (arith, few) }

halved : (n d : ℕ) → 2 ≤ d → n / d * 2 ≤ n
halved n d two = le_trans (mul-le-mul_left (n / d) two) (div-mul-le_self n d)

quotient_by_more : (a b : ℕ) → a < 2 ^ 63 → suc a / suc (suc b) < 2 ^ 63
quotient_by_more a b few =
    let half = halved (suc a) (suc (suc b)) (omega arith) in
    omega (arith, half, few)

pub quotient_fits : (x y : ℤ) → FitsSigned w64 x → (x ≡ negsuc (2 ^ 63 - 1) → y ≡ negsuc 0 → ⊥) → FitsSigned w64 (int_div x y)
quotient_fits (pos a) (pos b) fits other =
    let less = div-le_self a b in
    let few = fits.sfits in
    record { sfits = omega (arith, less, few) }
quotient_fits (pos a) (negsuc b) fits other =
    let less = div-le_self a (suc b) in
    let few = fits.sfits in
    neg_fits (a / suc b) (omega (arith, less, few))
quotient_fits (negsuc a) (pos b) fits other =
    let less = div-le_self (suc a) b in
    let few = fits.sfits in
    neg_fits (suc a / b) (omega (arith, less, few))
quotient_fits (negsuc a) (negsuc zero) fits other =
    let one : suc a / 1 ≡ suc a = omega arith in
    let few = fits.sfits in
    let less : a ≢ 2 ^ 63 - 1 = λ e. other (ap negsuc e) refl in
    record { sfits = omega (arith, one, few, less) }
quotient_fits (negsuc a) (negsuc (suc b)) fits other = record { sfits = quotient_by_more a b fits.sfits }

too_low : (w : Width) (n : ℕ) → n < 2 ^ bits w → 2 ^ hbits w ≤ 2 ^ 63 - 1 → cast_signed w n ≡ negsuc (2 ^ 63 - 1) → ⊥
too_low w n small few e =
    let bound : Fits w n = record { fits = small } in
    let fits : FitsSigned w (negsuc (2 ^ 63 - 1)) = subst (FitsSigned w) e (sfits_to_z bound) in
    let low = fits.sfits in
    absurd (omega (arith, low, few))

-- the least number of all is that of its own kind alone
least_of_all : (kind : Kind) (a : ℕ) → is_signed kind ≡ true → value_of kind a ≡ negsuc (2 ^ 63 - 1) → value_of kind a ≡ least kind
unfolding reduced
least_of_all Char a is e = absurd (too_low w8 (a % 2 ^ 8) (omega arith) (omega arith) e)
least_of_all UnsignedChar a is e = absurd (true≢false (sym is))
least_of_all Short a is e = absurd (too_low w16 (a % 2 ^ 16) (omega arith) (omega arith) e)
least_of_all UnsignedShort a is e = absurd (true≢false (sym is))
least_of_all Int a is e = absurd (too_low w32 (a % 2 ^ 32) (omega arith) (omega arith) e)
least_of_all Unsigned a is e = absurd (true≢false (sym is))
least_of_all Long a is e = e
least_of_all UnsignedLong a is e = absurd (true≢false (sym is))

-- what a number goes through on its way out of a call
pub back_and_forth : (z : ℤ) → FitsSigned w64 z → cast_signed w64 (cast_unsigned w64 z) ≡ z
back_and_forth z fits = to_z-of_z w64 z fits

pub divides : (kind : Kind) (a b : ℕ) → is_signed kind ≡ true → division_trap kind (value_of kind a) (value_of kind b) ≡ None
    → FitsSigned w64 (int_div (value_of kind a) (value_of kind b))
divides kind a b is none =
    let x = value_of kind a in
    let y = value_of kind b in
    let some : y ≡ pos 0 → ⊥ = divisor_some kind x y none in
    quotient_fits x y (signed_fits kind a is)
    (λ first second. none-some _ (sym none ∙ overflows kind x y some (least_of_all kind a is first) second))

above_zero : (y : ℤ) → (y ≡ pos 0 → ⊥) → FitsSigned w64 y → 0 < cast_unsigned w64 y
above_zero (pos zero) some fits = absurd (some refl)
above_zero (pos (suc n)) some fits = omega arith
above_zero (negsuc n) some fits =
    let few = fits.sfits in
    omega (arith, few)

-- what division asks of numbers with a sign
pub signed_division : (kind : Kind) (a b : ℕ) (x y : ℤ) → is_signed kind ≡ true
    → division_trap kind (value_of kind a) (value_of kind b) ≡ None → x ≡ value_of kind a → y ≡ value_of kind b
    → (0 < cast_unsigned w64 y) × FitsSigned w64 (int_div (cast_signed w64 (cast_unsigned w64 x)) (cast_signed w64 (cast_unsigned w64 y)))
signed_division kind a b x y is none first second =
    let P : ℤ → ℤ → Type 0 = λ x y. (0 < cast_unsigned w64 y) × FitsSigned w64 (int_div (cast_signed w64 (cast_unsigned w64 x)) (cast_signed w64 (cast_unsigned w64 y))) in
    let back_x = back_and_forth (value_of kind a) (signed_fits kind a is) in
    let back_y = back_and_forth (value_of kind b) (signed_fits kind b is) in
    subst (λ (z : ℤ). P z y) (sym first)
    (subst (λ (z : ℤ). P (value_of kind a) z) (sym second) (
      above_zero (value_of kind b) (divisor_some kind (value_of kind a) (value_of kind b) none) (signed_fits kind b is),
      rw (back_x, back_y) (divides kind a b is none),
    ))

-- ---- the unsigned kinds

pub words_less : (kind : Kind) (a b x y : ℕ) → is_signed kind ≡ false → x ≡ extended kind a → y ≡ extended kind b
    → ltb x y ≡ int_lt (value_of kind a) (value_of kind b)
words_less kind a b x y is first second =
    ap (λ (n : ℕ). ltb n y) first ∙ ap (ltb (extended kind a)) second
    ∙ ap (λ (z : ℤ). int_lt z (pos (extended kind b))) (sym (unsigned_value kind a is))
    ∙ ap (int_lt (value_of kind a)) (sym (unsigned_value kind b is))

pub unsigned_result : (kind : Kind) (z : ℤ) (r word : ℕ) → z ≡ pos r → r < 2 ^ 64 → word ≡ extended kind r
    → word ≡ word_of (reduced kind z)
unsigned_result kind z r word is small extension =
    extends_word kind z r word (sym (word_unsigned r small) ∙ ap word_of (sym is)) extension

pub unsigned_shift : (kind : Kind) (a count x word : ℕ) → is_signed kind ≡ false → x ≡ extended kind a → x < 2 ^ 64
    → word ≡ extended kind (x / 2 ^ count) → word ≡ word_of (reduced kind (int_shr (value_of kind a) count))
unsigned_shift kind a count x word is first small extension =
    let value = unsigned_value kind a is ∙ ap pos (sym first) in
    let less = div-le_self x (2 ^ count) in
    unsigned_result kind (int_shr (value_of kind a) count) (x / 2 ^ count) word (ap (λ (z : ℤ). int_shr z count) value)
    (omega (arith, less, small)) extension

pub unsigned_quotient : (kind : Kind) (a b x y word : ℕ) → is_signed kind ≡ false → x ≡ extended kind a → y ≡ extended kind b
    → x < 2 ^ 64 → word ≡ extended kind (x / y) → word ≡ word_of (reduced kind (int_div (value_of kind a) (value_of kind b)))
unsigned_quotient kind a b x y word is first second small extension =
    let left = unsigned_value kind a is ∙ ap pos (sym first) in
    let right = unsigned_value kind b is ∙ ap pos (sym second) in
    let less = div-le_self x y in
    unsigned_result kind (int_div (value_of kind a) (value_of kind b)) (x / y) word
    (ap (λ (z : ℤ). int_div z (value_of kind b)) left ∙ ap (int_div (pos x)) right) (omega (arith, less, small)) extension

pub unsigned_rest : (kind : Kind) (a b x y word : ℕ) → is_signed kind ≡ false → x ≡ extended kind a → y ≡ extended kind b
    → x < 2 ^ 64 → word ≡ extended kind (x % y) → word ≡ word_of (reduced kind (int_rem (value_of kind a) (value_of kind b)))
unsigned_rest kind a b x y word is first second small extension =
    let left = unsigned_value kind a is ∙ ap pos (sym first) in
    let right = unsigned_value kind b is ∙ ap pos (sym second) in
    let less = mod-le x y in
    unsigned_result kind (int_rem (value_of kind a) (value_of kind b)) (x % y) word
    (ap (λ (z : ℤ). int_rem z (value_of kind b)) left ∙ ap (int_rem (pos x)) right) (omega (arith, less, small)) extension

-- ---- answers and traps

pub shift_done : (f : ℤ → ℕ → ℤ) (kind : Kind) (x : ℤ) (count word : ℕ) → count < bits_of kind
    → word ≡ word_of (reduced kind (f x count)) → Ok word ≡ shifted f kind x count
shift_done f kind x count word few is = rw (lt-ltb count (bits_of kind) few) (ap Ok is)

pub shift_refused : (f : ℤ → ℕ → ℤ) (kind : Kind) (x : ℤ) (count : ℕ) → bits_of kind ≤ count → Err ShiftCount ≡ shifted f kind x count
shift_refused f kind x count many = rw (le-ltb count (bits_of kind) many) refl

pub shifted_left : (kind : Kind) (a count word : ℕ) → word ≡ extended kind (a * 2 ^ count % 2 ^ 64)
    → word ≡ word_of (reduced kind (int_shl (value_of kind a) count))
shifted_left kind a count word is =
    extends kind (int_shl (value_of kind a) count) (a * 2 ^ count % 2 ^ 64) word is
    (wrap_mul (machine_width kind) (value_of kind a) (pos a) (pos (2 ^ count)) (pos (2 ^ count)) (wrap_value kind a) refl
    ∙ sym (wrap_word kind (a * 2 ^ count)))

pub division_done : (f : ℤ → ℤ → ℤ) (kind : Kind) (x y : ℤ) (word : ℕ) → division_trap kind x y ≡ None
    → word ≡ word_of (reduced kind (f x y)) → Ok word ≡ divided f kind x y
division_done f kind x y word none is =
    ap Ok is ∙ ap (λ (t : Option TrapCause). unless t (gives kind (f x y))) (sym none)

pub division_refused : (f : ℤ → ℤ → ℤ) (kind : Kind) (x y : ℤ) (cause : TrapCause) → division_trap kind x y ≡ Some cause
    → Err cause ≡ divided f kind x y
division_refused f kind x y cause some = ap (λ (t : Option TrapCause). unless t (gives kind (f x y))) (sym some)

-- the word of what a signed operator gives on numbers that are read from words
pub signed_result : (kind : Kind) (z z' : ℤ) (word : ℕ) → word ≡ word_of (reduced kind z') → z' ≡ z → word ≡ word_of (reduced kind z)
signed_result kind z z' word is same = is ∙ ap (λ (x : ℤ). word_of (reduced kind x)) same

pub signed_quotient : (kind : Kind) (a b : ℕ) (x y : ℤ) → is_signed kind ≡ true
    → division_trap kind (value_of kind a) (value_of kind b) ≡ None → x ≡ value_of kind a → y ≡ value_of kind b
    → cast_signed w64 (cast_unsigned w64 (int_div (cast_signed w64 (cast_unsigned w64 x)) (cast_signed w64 (cast_unsigned w64 y)))) ≡ int_div (value_of kind a) (value_of kind b)
signed_quotient kind a b x y is none first second =
    let P : ℤ → ℤ → Type 0 = λ x y. cast_signed w64 (cast_unsigned w64 (int_div (cast_signed w64 (cast_unsigned w64 x)) (cast_signed w64 (cast_unsigned w64 y)))) ≡ int_div (value_of kind a) (value_of kind b) in
    subst (λ (z : ℤ). P z y) (sym first) (subst (λ (z : ℤ). P (value_of kind a) z) (sym second)
    (quot_is w64 (value_of kind a) (value_of kind b) (signed_fits kind a is) (signed_fits kind b is) (divides kind a b is none)))

pub signed_rest : (kind : Kind) (a b : ℕ) (x y : ℤ) → is_signed kind ≡ true → x ≡ value_of kind a → y ≡ value_of kind b
    → cast_signed w64 (cast_unsigned w64 (int_rem (cast_signed w64 (cast_unsigned w64 x)) (cast_signed w64 (cast_unsigned w64 y)))) ≡ int_rem (value_of kind a) (value_of kind b)
signed_rest kind a b x y is first second =
    let P : ℤ → ℤ → Type 0 = λ x y. cast_signed w64 (cast_unsigned w64 (int_rem (cast_signed w64 (cast_unsigned w64 x)) (cast_signed w64 (cast_unsigned w64 y)))) ≡ int_rem (value_of kind a) (value_of kind b) in
    subst (λ (z : ℤ). P z y) (sym first) (subst (λ (z : ℤ). P (value_of kind a) z) (sym second)
    (rem_is w64 (value_of kind a) (value_of kind b) (signed_fits kind a is) (signed_fits kind b is)))

pub divisor_above : (kind : Kind) (a b y : ℕ) → is_signed kind ≡ false
    → division_trap kind (value_of kind a) (value_of kind b) ≡ None → y ≡ extended kind b → 0 < y
divisor_above kind a b zero is none word =
    absurd (divisor_some kind (value_of kind a) (value_of kind b) none (unsigned_value kind b is ∙ ap pos (sym word)))
divisor_above kind a b (suc y) is none word = omega arith

-- ---- laws

pub are_words : AreWords
unfolding extended
are_words kind word = ap word_of (value_back kind word)

pub are_extended : AreExtended
unfolding extended convert
are_extended from to word is =
    sym (ap word_of (reduced_word to (value_of from word))) ∙ ap (λ (n : ℕ). word_of (reduced to (pos n))) is

-- ---- what is given

-- a reduced number has the low bits of the number
wrap_reduced : (kind : Kind) (z : ℤ) → int_wrap (machine_width kind) (reduced kind z) ≡ int_wrap (machine_width kind) z
unfolding reduced int_wrap
wrap_reduced Char z = wrap_again w8 z
wrap_reduced UnsignedChar z = let low = low_below 8 z (omega arith) in ap (cast_signed w8) (let e : low_bits 8 z % 2 ^ 8 ≡ low_bits 8 z = omega (arith, low) in e)
wrap_reduced Short z = wrap_again w16 z
wrap_reduced UnsignedShort z = let low = low_below 16 z (omega arith) in ap (cast_signed w16) (let e : low_bits 16 z % 2 ^ 16 ≡ low_bits 16 z = omega (arith, low) in e)
wrap_reduced Int z = wrap_again w32 z
wrap_reduced Unsigned z = let low = low_below 32 z (omega arith) in ap (cast_signed w32) (let e : low_bits 32 z % 2 ^ 32 ≡ low_bits 32 z = omega (arith, low) in e)
wrap_reduced Long z = wrap_again w64 z
wrap_reduced UnsignedLong z = let low = low_below 64 z (omega arith) in ap (cast_signed w64) (let e : low_bits 64 z % 2 ^ 64 ≡ low_bits 64 z = omega (arith, low) in e)

is_word : (kind : Kind) (z : ℤ) → IsWordOf kind (word_of (reduced kind z))
unfolding extended
is_word kind z =
    ap word_of (reduced_word kind (reduced kind z) ∙ reduced_wrap kind (reduced kind z) z (wrap_reduced kind z))

-- the word of an answer
abbrev word_in : Result ℕ TrapCause → ℕ
word_in (Ok word) = word
word_in (Err cause) = 0

abbrev is_given_ok : Result ℕ TrapCause → Bool
is_given_ok (Ok word) = true
is_given_ok (Err cause) = false

not_given : (cause : TrapCause) (word : ℕ) → Err cause ≡ Ok word → ⊥
not_given cause word is = true≢false (sym (ap is_given_ok is))

by_word : (kind : Kind) (z : ℤ) (word : ℕ) → gives kind z ≡ Ok word → IsWordOf kind word
by_word kind z word is = subst (IsWordOf kind) (ap word_in is) (is_word kind z)

by_trap : (kind : Kind) (z : ℤ) (trap : Option TrapCause) (word : ℕ) → unless trap (gives kind z) ≡ Ok word → IsWordOf kind word
by_trap kind z None word is = by_word kind z word is
by_trap kind z (Some cause) word is = absurd (not_given cause word is)

by_count : (kind : Kind) (z : ℤ) (few : Bool) (word : ℕ) → (if few then gives kind z else Err ShiftCount) ≡ Ok word → IsWordOf kind word
by_count kind z true word is = by_word kind z word is
by_count kind z false word is = absurd (not_given ShiftCount word is)

test_word : (b : Bool) → IsWordOf Int (truth b)
unfolding extended reduced word_of
test_word true = refl
test_word false = refl

by_test : (b : Bool) (word : ℕ) → tells b ≡ Ok word → IsWordOf Int word
by_test b word is = subst (IsWordOf Int) (ap word_in is) (test_word b)

pub are_given : AreGivenWords
unfolding operate
are_given Add kind a b word is = by_word kind (value_of kind a +ℤ value_of kind b) word is
are_given Subtract kind a b word is = by_word kind (value_of kind a -ℤ value_of kind b) word is
are_given Multiply kind a b word is = by_word kind (value_of kind a *ℤ value_of kind b) word is
are_given Divide kind a b word is =
    by_trap kind (int_div (value_of kind a) (value_of kind b)) (division_trap kind (value_of kind a) (value_of kind b)) word is
are_given Remainder kind a b word is =
    by_trap kind (int_rem (value_of kind a) (value_of kind b)) (division_trap kind (value_of kind a) (value_of kind b)) word is
are_given And kind a b word is = by_word kind (pos (bit_and (extended kind a) (extended kind b))) word is
are_given Or kind a b word is = by_word kind (pos (bit_or (extended kind a) (extended kind b))) word is
are_given Xor kind a b word is = by_word kind (pos (bit_xor (extended kind a) (extended kind b))) word is
are_given ShiftLeft kind a b word is = by_count kind (int_shl (value_of kind a) b) (nat_lt b (bits_of kind)) word is
are_given ShiftRight kind a b word is = by_count kind (int_shr (value_of kind a) b) (nat_lt b (bits_of kind)) word is
are_given Equal kind a b word is = by_test (int_eq (value_of kind a) (value_of kind b)) word is
are_given NotEqual kind a b word is = by_test (not (int_eq (value_of kind a) (value_of kind b))) word is
are_given Less kind a b word is = by_test (int_lt (value_of kind a) (value_of kind b)) word is
are_given AtMost kind a b word is = by_test (int_le (value_of kind a) (value_of kind b)) word is

pub is_given : IsGivenWord
unfolding operate_one
is_given op kind a = is_word kind (changed op (value_of kind a))
