-- What the operators give on words, as on addresses, and how a word is converted and counted.
use Rattle.std.proofs.Common.{◌≡◌, ℕ, ◌+◌, ◌*◌, ◌-◌, ◌%◌, ◌^◌, ◌<◌, Bool, true, false, not, refl, sym, ap, ◌∙◌, arith}
use Rattle.std.specs.Prelude.{ℤ, pos, negsuc, int_lt, int_le, ◌+ℤ◌, ◌-ℤ◌, Ok}
use Rattle.rank_range.specs.declared.kinds.Kind.{Kind}
use Rattle.rank_range.specs.declared.kinds.Kind.TheVariants as kind
use Rattle.rank_range.specs.declared.operators.Binary.TheVariants as op
use Rattle.rank_range.specs.Kinds.{reduced, word_of, value_of, extended, convert, IsWordOf}
use Rattle.rank_range.specs.Operators.{truth, operate}
use Rattle.rank_range.proofs.KindLemmas.{unsigned_long_word}
use Rattle.rank_range.proofs.OperatorLemmas.{added, subtracted, multiplied, converted, value_back, are_extended}
use Rattle.c_types.specs.declared.expression.Direction.{Direction}
use Rattle.c_types.specs.declared.expression.Direction.TheVariants.{Up, Down}
use Rattle.c_types.specs.declared.expression.Counted.{Counted}
use Rattle.c_types.specs.declared.expression.Counted.TheVariants as counted
use Rattle.c_model.specs.Run.{word_plus, word_minus, moved, negated, counted_kind, next_of}
use Rattle.codegen.proofs.Calling.{too_far}
use Rattle.codegen.specs.Layout.{amount, moving, against}

pub gives_sum : (a b : ℕ) → operate op.Add kind.UnsignedLong a b ≡ Ok (word_plus a b)
unfolding operate
gives_sum a b = ap Ok (sym (added kind.UnsignedLong a b (word_plus a b) (word_plus a b) refl (unsigned_long_word (word_plus a b) (omega arith))))

pub gives_product : (a b : ℕ) → operate op.Multiply kind.UnsignedLong a b ≡ Ok (a * b % 2 ^ 64)
unfolding operate
gives_product a b =
    ap Ok (sym (multiplied kind.UnsignedLong a b (a * b % 2 ^ 64) (a * b % 2 ^ 64) refl (unsigned_long_word (a * b % 2 ^ 64) (omega arith))))

value_low : (b : ℕ) → value_of kind.UnsignedLong (b % 2 ^ 64) ≡ value_of kind.UnsignedLong b
unfolding reduced
value_low b = ap pos (let e : b % 2 ^ 64 % 2 ^ 64 ≡ b % 2 ^ 64 = omega arith in e)

pub gives_difference : (a b : ℕ) → operate op.Subtract kind.UnsignedLong a b ≡ Ok (word_minus a b)
unfolding operate
gives_difference a b =
    ap Ok (sym (subtracted kind.UnsignedLong a (b % 2 ^ 64) (word_minus a b) (word_minus a b) (omega arith) refl (unsigned_long_word (word_minus a b) (omega arith))
    ∙ ap (λ (v : ℤ). word_of (reduced kind.UnsignedLong (value_of kind.UnsignedLong a -ℤ v))) (value_low b)))

-- a product loses its high bits before or after it is added
pub plus_low : (a b : ℕ) → word_plus a (b % 2 ^ 64) ≡ word_plus a b
plus_low a b = omega arith

pub low_plus : (a b : ℕ) → word_plus (a % 2 ^ 64) b ≡ word_plus a b
low_plus a b = omega arith

pub minus_low : (a b : ℕ) → word_minus a (b % 2 ^ 64) ≡ word_minus a b
minus_low a b = omega arith

pub moved_low : (direction : Direction) (a b : ℕ) → moved direction a (b % 2 ^ 64) ≡ moved direction a b
moved_low Up a b = plus_low a b
moved_low Down a b = minus_low a b

pub gives_moved : (direction : Direction) (a b : ℕ) → operate (moving direction) kind.UnsignedLong a b ≡ Ok (moved direction a b)
gives_moved Up a b = gives_sum a b
gives_moved Down a b = gives_difference a b

pub converts : (from to : Kind) (w : ℕ) → extended to (extended from w) ≡ convert w from to
converts from to w = converted from to w (extended from w) (extended to (extended from w)) refl refl

-- ---- what is counted

moved_small : (direction : Direction) (a b : ℕ) → moved direction a b < 2 ^ 64
moved_small Up a b = omega arith
moved_small Down a b = omega arith

pub counts : (c : Counted) (direction : Direction) (old : ℕ) → extended (counted_kind c) (moved direction old (amount c)) ≡ next_of c direction old
counts (counted.Number k) direction old =
    let word : ℕ = moved direction old 1 in
    sym (are_extended kind.UnsignedLong k word (sym (unsigned_long_word word (moved_small direction old 1))))
counts (counted.Pointer scale) direction old =
    sym (unsigned_long_word (moved direction old scale) (moved_small direction old scale))

word_small : (z : ℤ) → word_of z < 2 ^ 64
unfolding word_of
word_small (pos n) = omega arith
word_small (negsuc n) = omega arith

extended_small : (k : Kind) (w : ℕ) → extended k w < 2 ^ 64
unfolding extended
extended_small k w = word_small (value_of k w)

pub is_small : (k : Kind) (w : ℕ) → IsWordOf k w → w < 2 ^ 64
is_small k w is = let e = extended_small k w in omega (arith, e, is)

-- a word is there again where as much is added as goes round
goes_round : (k : Kind) (old a c : ℕ) → IsWordOf k old → (old + a + c) % 2 ^ 64 ≡ old
    → extended k ((extended k ((old + a) % 2 ^ 64) + c) % 2 ^ 64) ≡ old
goes_round k old a c is round =
    let s : ℕ = (old + a) % 2 ^ 64 in
    let new : ℕ = extended k s in
    let again : (s + c) % 2 ^ 64 ≡ old = omega (arith, round) in
    added k new c ((new + c) % 2 ^ 64) (extended k ((new + c) % 2 ^ 64)) refl refl
    ∙ ap (λ (v : ℤ). word_of (reduced k (v +ℤ value_of k c))) (value_back k s)
    ∙ sym (added k s c ((s + c) % 2 ^ 64) (extended k ((s + c) % 2 ^ 64)) refl refl)
    ∙ ap (extended k) again ∙ is

abbrev pub back : Direction → ℕ → ℕ → ℕ
back Up a b = word_minus a b
back Down a b = word_plus a b

pub gives_back : (direction : Direction) (a b : ℕ) → operate (against direction) kind.UnsignedLong a b ≡ Ok (back direction a b)
gives_back Up a b = gives_difference a b
gives_back Down a b = gives_sum a b

counts_by : (k : Kind) (direction : Direction) (old a : ℕ) → IsWordOf k old → extended k (back direction (extended k (moved direction old a)) a) ≡ old
counts_by k Up old a is = let small = is_small k old is in goes_round k old a (2 ^ 64 - a % 2 ^ 64) is (omega (arith, small))
counts_by k Down old a is = let small = is_small k old is in goes_round k old (2 ^ 64 - a % 2 ^ 64) a is (omega (arith, small))

pub counts_back : (c : Counted) (direction : Direction) (old : ℕ) → IsWordOf (counted_kind c) old
    → extended (counted_kind c) (back direction (next_of c direction old) (amount c)) ≡ old
counts_back c direction old is =
    ap (λ w. extended (counted_kind c) (back direction w (amount c))) (sym (counts c direction old))
    ∙ counts_by (counted_kind c) direction old (amount c) is

-- ---- tests

-- of two numbers the first is below the second where it isn't at least the second
turned_le : (x y : ℤ) → int_lt y x ≡ not (int_le x y)
turned_le (pos a) (pos b) = too_far a b
turned_le (pos a) (negsuc b) = refl
turned_le (negsuc a) (pos b) = refl
turned_le (negsuc a) (negsuc b) = too_far b a

not_not : (b : Bool) → not (not b) ≡ b
not_not true = refl
not_not false = refl

turned_lt : (x y : ℤ) → int_le y x ≡ not (int_lt x y)
turned_lt x y = sym (not_not (int_le y x)) ∙ ap not (sym (turned_le y x))

negated_truth : (b : Bool) → negated (truth b) ≡ truth (not b)
negated_truth true = refl
negated_truth false = refl

-- the words of `<=` and `<`
abbrev pub at_most_word : Kind → ℕ → ℕ → ℕ
at_most_word k x y = truth (int_le (value_of k x) (value_of k y))

abbrev pub less_word : Kind → ℕ → ℕ → ℕ
less_word k x y = truth (int_lt (value_of k x) (value_of k y))

pub gives_at_most : (k : Kind) (x y : ℕ) → operate op.AtMost k x y ≡ Ok (at_most_word k x y)
unfolding operate
gives_at_most k x y = refl

pub gives_less : (k : Kind) (x y : ℕ) → operate op.Less k x y ≡ Ok (less_word k x y)
unfolding operate
gives_less k x y = refl

-- `>` is the negation of `<=`, and `>=` that of `<`
pub greater : (k : Kind) (x y : ℕ) → operate op.Less k y x ≡ Ok (negated (at_most_word k x y))
unfolding operate
greater k x y =
    ap (λ b. Ok (truth b)) (turned_le (value_of k x) (value_of k y)) ∙ ap Ok (sym (negated_truth (int_le (value_of k x) (value_of k y))))

pub at_least : (k : Kind) (x y : ℕ) → operate op.AtMost k y x ≡ Ok (negated (less_word k x y))
unfolding operate
at_least k x y =
    ap (λ b. Ok (truth b)) (turned_lt (value_of k x) (value_of k y)) ∙ ap Ok (sym (negated_truth (int_lt (value_of k x) (value_of k y))))
