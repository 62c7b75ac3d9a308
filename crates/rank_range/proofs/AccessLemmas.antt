-- What is read and put by areas is what stands in the rank's bytes.
use Rattle.std.proofs.Common.{◌≡◌, ℕ, zero, suc, ◌+◌, ◌-◌, ◌<◌, ◌≤◌, ◌⊎◌, ◌∙◌, inl, inr, Bool, true, false, List, [], ◌∷◌, length, take, drop, refl, sym, ap, subst, arith, Option, Some, None, replicate, Result, Ok, Err, IfOk, OnOk, OnErr, length-drop, min}
use Rattle.std.specs.Prelude.{if◌then◌else◌, nat_le, nat_lt, ◌&&◌, option_map, option_and_then, slice_index}
use Rattle.std.proofs.lemmas.Bool.{lt-ltb, le-ltb, le-leb, lt-leb, leb-true, cases_lt, false_from_ne_true}
use Rattle.std.proofs.lemmas.List.{take-take, drop-take, drop-drop, length-replicate, length-take, ext_get_or, get_or-take, get_or-drop}
use Rattle.std.proofs.Math.Bool.{and-false}
use Rattle.rank_range.specs.Layout.{base_of, globals_start, heap_start, stack_start, range_bytes, AllIn, Accessible, IsRange}
use Rattle.rank_range.specs.Parts.{part, with_part, StayBeside}
use Rattle.rank_range.specs.Numbers.{number_at, with_number}
use Rattle.rank_range.specs.Nodes.{HeapBytesStay}
use Rattle.byteorder.specs.Endian.{little_number, little_bytes}
use Rattle.byteorder.specs.Numbers.{length-bytes_low_first}
use Rattle.rank_range.proofs.FitLemmas.{blocks_stay}
use Rattle.rank_range.specs.Areas.{Areas, is_between, is_in, globals_at, heap_at, stack_at, bytes_from, bytes_at, put_at, with_bytes_at, areas_of, room_at, is_accessible, TellsAccessible, AreRead, ArePut, Becomes, copied_at, number_of, with_number_of}
use Rattle.rank_range.proofs.PartLemmas.{part_length, part_put, part_stays, put_beside, put_length, put_none, no_part, no_put, number_part, number_put, put_before, put_behind, put_inside}

-- ---- tests

-- a test of two bounds, with what it tells
pub data Tells (start end a : ℕ) : Type 0 where
  Inside : is_between start end a ≡ true → start ≤ a → a < end → Tells start end a
  Outside : is_between start end a ≡ false → (a < start) ⊎ (end ≤ a) → Tells start end a

tells : (start end a : ℕ) → Tells start end a
tells start end a =
    elim (cases_lt a start) [
      | inl before ↦ Outside (ap (λ (b : Bool). b && nat_lt a end) (lt-leb start a before)) (inl before)
      | inr from ↦ elim (cases_lt a end) [
        | inl below ↦ Inside (ap (λ (b : Bool). b && nat_lt a end) (le-leb start a from) ∙ lt-ltb a end below) from below
        | inr behind ↦ Outside (ap (λ (b : Bool). nat_le start a && b) (le-ltb a end behind) ∙ and-false (nat_le start a)) (inr behind)
      ]
    ]

-- the first of three whose test holds
abbrev choose : {X : Type 0} → Bool → Bool → Bool → X → X → X → X → X
choose p q r x y z none = if p then x else (if q then y else (if r then z else none))

choose_first : {X : Type 0} (p q r : Bool) (x y z none : X) → p ≡ true → choose p q r x y z none ≡ x
choose_first p q r x y z none t = ap (λ b. choose b q r x y z none) t

choose_second : {X : Type 0} (p q r : Bool) (x y z none : X) → p ≡ false → q ≡ true → choose p q r x y z none ≡ y
choose_second p q r x y z none f t = ap (λ b. choose b q r x y z none) f ∙ ap (λ b. choose false b r x y z none) t

choose_third : {X : Type 0} (p q r : Bool) (x y z none : X) → p ≡ false → q ≡ false → r ≡ true → choose p q r x y z none ≡ z
choose_third p q r x y z none f g t =
    ap (λ b. choose b q r x y z none) f ∙ ap (λ b. choose false b r x y z none) g ∙ ap (λ b. choose false false b x y z none) t

choose_none : {X : Type 0} (p q r : Bool) (x y z none : X) → p ≡ false → q ≡ false → r ≡ false → choose p q r x y z none ≡ none
choose_none p q r x y z none f g h =
    ap (λ b. choose b q r x y z none) f ∙ ap (λ b. choose false b r x y z none) g ∙ ap (λ b. choose false false b x y z none) h

-- ---- where an address lies

abbrev first_test : ℕ → ℕ → Bool
first_test rank a = is_between (base_of rank + globals_start) (base_of rank + heap_start) a

abbrev second_test : ℕ → ℕ → Bool
second_test rank a = is_between (base_of rank + heap_start) (base_of rank + stack_start) a

abbrev third_test : ℕ → ℕ → ℕ → Bool
third_test rank top a = is_between (base_of rank + stack_start) (base_of rank + top) a

-- which of the tests holds first
pub data Lies (rank top a : ℕ) : Type 0 where
  InGlobals : first_test rank a ≡ true → base_of rank + globals_start ≤ a → a < base_of rank + heap_start → Lies rank top a
  InHeap : first_test rank a ≡ false → second_test rank a ≡ true → base_of rank + heap_start ≤ a → a < base_of rank + stack_start → Lies rank top a
  InStack : first_test rank a ≡ false → second_test rank a ≡ false → third_test rank top a ≡ true → base_of rank + stack_start ≤ a
      → a < base_of rank + top → Lies rank top a
  Nowhere : first_test rank a ≡ false → second_test rank a ≡ false → third_test rank top a ≡ false
      → ((a < base_of rank + globals_start) ⊎ (base_of rank + heap_start ≤ a))
      → ((a < base_of rank + heap_start) ⊎ (base_of rank + stack_start ≤ a))
      → ((a < base_of rank + stack_start) ⊎ (base_of rank + top ≤ a)) → Lies rank top a

of_tests : (rank top a : ℕ) → Tells (base_of rank + globals_start) (base_of rank + heap_start) a
    → Tells (base_of rank + heap_start) (base_of rank + stack_start) a → Tells (base_of rank + stack_start) (base_of rank + top) a
    → Lies rank top a
of_tests rank top a (Inside p from below) q r = InGlobals p from below
of_tests rank top a (Outside p x) (Inside q from below) r = InHeap p q from below
of_tests rank top a (Outside p x) (Outside q y) (Inside r from below) = InStack p q r from below
of_tests rank top a (Outside p x) (Outside q y) (Outside r z) = Nowhere p q r x y z

lies : (rank top a : ℕ) → Lies rank top a
lies rank top a =
    of_tests rank top a (tells (base_of rank + globals_start) (base_of rank + heap_start) a)
    (tells (base_of rank + heap_start) (base_of rank + stack_start) a) (tells (base_of rank + stack_start) (base_of rank + top) a)

-- ---- accessible bytes

room_in : (rank top a : ℕ) → Lies rank top a → (n : ℕ) → n ≤ room_at rank top a → Accessible rank top a n
room_in rank top a (InGlobals p from below) n few =
    let b = base_of rank in
    let room = choose_first (first_test rank a) (second_test rank a) (third_test rank top a) (b + heap_start - a) (b + stack_start - a) (b + top - a) 0 p in
    inl (λ i small. (omega (arith, from), omega (arith, from, below, few, room, small)))
room_in rank top a (InHeap p q from below) n few =
    let b = base_of rank in
    let room = choose_second (first_test rank a) (second_test rank a) (third_test rank top a) (b + heap_start - a) (b + stack_start - a) (b + top - a) 0 p q in
    inr (inl (λ i small. (omega (arith, from), omega (arith, from, below, few, room, small))))
room_in rank top a (InStack p q r from below) n few =
    let b = base_of rank in
    let room = choose_third (first_test rank a) (second_test rank a) (third_test rank top a) (b + heap_start - a) (b + stack_start - a) (b + top - a) 0 p q r in
    inr (inr (λ i small. (omega (arith, from), omega (arith, from, below, few, room, small))))
room_in rank top a (Nowhere p q r x y z) n few =
    let b = base_of rank in
    let room = choose_none (first_test rank a) (second_test rank a) (third_test rank top a) (b + heap_start - a) (b + stack_start - a) (b + top - a) 0 p q r in
    inl (λ i small. absurd (omega (arith, few, room, small)))

-- the first and the last of the bytes lie in the area
ends_in : (start end a n : ℕ) → AllIn start end a (suc n) → (start ≤ a) × (a + n < end)
ends_in start end a n all =
    let first = all 0 (omega arith) in
    let last = all n (omega arith) in
    let low = first.0 in
    (omega (arith, low), last.1)

room_for : (rank top a n : ℕ) → Lies rank top a → Accessible rank top a (suc n) → suc n ≤ room_at rank top a
room_for rank top a n (InGlobals p from below) all =
    let b = base_of rank in
    let room = choose_first (first_test rank a) (second_test rank a) (third_test rank top a) (b + heap_start - a) (b + stack_start - a) (b + top - a) 0 p in
    elim all [
      | inl here ↦ let e = ends_in (b + globals_start) (b + heap_start) a n here in let high = e.1 in omega (arith, room, high)
      | inr (inl there) ↦ let e = ends_in (b + heap_start) (b + stack_start) a n there in let low = e.0 in absurd (omega (arith, low, below))
      | inr (inr there) ↦ let e = ends_in (b + stack_start) (b + top) a n there in let low = e.0 in absurd (omega (arith, low, below))
    ]
room_for rank top a n (InHeap p q from below) all =
    let b = base_of rank in
    let room = choose_second (first_test rank a) (second_test rank a) (third_test rank top a) (b + heap_start - a) (b + stack_start - a) (b + top - a) 0 p q in
    elim all [
      | inl there ↦ let e = ends_in (b + globals_start) (b + heap_start) a n there in let high = e.1 in absurd (omega (arith, high, from))
      | inr (inl here) ↦ let e = ends_in (b + heap_start) (b + stack_start) a n here in let high = e.1 in omega (arith, room, high)
      | inr (inr there) ↦ let e = ends_in (b + stack_start) (b + top) a n there in let low = e.0 in absurd (omega (arith, low, below))
    ]
room_for rank top a n (InStack p q r from below) all =
    let b = base_of rank in
    let room = choose_third (first_test rank a) (second_test rank a) (third_test rank top a) (b + heap_start - a) (b + stack_start - a) (b + top - a) 0 p q r in
    elim all [
      | inl there ↦ let e = ends_in (b + globals_start) (b + heap_start) a n there in let high = e.1 in absurd (omega (arith, high, from))
      | inr (inl there) ↦ let e = ends_in (b + heap_start) (b + stack_start) a n there in let high = e.1 in absurd (omega (arith, high, from))
      | inr (inr here) ↦ let e = ends_in (b + stack_start) (b + top) a n here in let high = e.1 in omega (arith, room, high)
    ]
room_for rank top a n (Nowhere p q r x y z) all =
    let b = base_of rank in
    elim all [
      | inl there ↦ let e = ends_in (b + globals_start) (b + heap_start) a n there in
          let low = e.0 in let high = e.1 in absurd (elim x [ inl before ↦ omega (arith, before, low) | inr behind ↦ omega (arith, behind, high) ])
      | inr (inl there) ↦ let e = ends_in (b + heap_start) (b + stack_start) a n there in
          let low = e.0 in let high = e.1 in absurd (elim y [ inl before ↦ omega (arith, before, low) | inr behind ↦ omega (arith, behind, high) ])
      | inr (inr there) ↦ let e = ends_in (b + stack_start) (b + top) a n there in
          let low = e.0 in let high = e.1 in absurd (elim z [ inl before ↦ omega (arith, before, low) | inr behind ↦ omega (arith, behind, high) ])
    ]

pub room_of : (rank top a n : ℕ) → Accessible rank top a n → n ≤ room_at rank top a
room_of rank top a zero all = omega arith
room_of rank top a (suc n) all = room_for rank top a n (lies rank top a) all

pub accessible_yes : (rank top a n : ℕ) → Accessible rank top a n → is_accessible rank top a n ≡ true
unfolding is_accessible
accessible_yes rank top a n all = le-leb n (room_at rank top a) (room_of rank top a n all)

pub accessible_no : (rank top a n : ℕ) → (Accessible rank top a n → ⊥) → is_accessible rank top a n ≡ false
unfolding is_accessible
accessible_no rank top a n none =
    false_from_ne_true (nat_le n (room_at rank top a))
    (λ t. none (room_in rank top a (lies rank top a) n (leb-true n (room_at rank top a) t)))

pub tells_accessible : TellsAccessible
unfolding is_accessible
tells_accessible rank top a n = (
  λ t. room_in rank top a (lies rank top a) n (leb-true n (room_at rank top a) t),
  λ all. le-leb n (room_at rank top a) (room_of rank top a n all),
)

-- ---- reading

-- the end of a part, from an offset of it on
rest_of_part : (bytes : List ℕ) (start size at room : ℕ) → at + room ≡ size → drop at (part bytes start size) ≡ part bytes (start + at) room
unfolding part
rest_of_part bytes start size at room whole =
    ap (λ (k : ℕ). drop at (take k (drop start bytes))) (sym whole)
    ∙ drop-take at room (drop start bytes) ∙ ap (take room) (drop-drop at start bytes)

-- the same by addresses
rest_from : (bytes : List ℕ) (b start size a room : ℕ) → b + start ≤ a → a + room ≡ b + start + size
    → drop (a - (b + start)) (part bytes start size) ≡ part bytes (a - b) room
rest_from bytes b start size a room from end =
    let off : start + (a - (b + start)) ≡ a - b = omega (arith, from) in
    rest_of_part bytes start size (a - (b + start)) room (omega (arith, from, end)) ∙ ap (λ (k : ℕ). part bytes k room) off

-- how many bytes the areas have
globals_size : (bytes : List ℕ) → length bytes ≡ range_bytes → length (part bytes globals_start (heap_start - globals_start)) ≡ 315392
globals_size bytes whole = part_length bytes globals_start (heap_start - globals_start) (omega (arith, whole))

heap_size : (bytes : List ℕ) → length bytes ≡ range_bytes → length (part bytes heap_start (stack_start - heap_start)) ≡ 393216
heap_size bytes whole = part_length bytes heap_start (stack_start - heap_start) (omega (arith, whole))

stack_size : (top : ℕ) (bytes : List ℕ) → IsRange top bytes → length (part bytes stack_start (top - stack_start)) ≡ top - stack_start
stack_size top bytes range =
    let whole = range.whole in
    let above = range.above in
    let below = range.below in
    part_length bytes stack_start (top - stack_start) (omega (arith, whole, above, below))

-- the tests by areas are those by addresses
by_ends : {X : Type 0} (rank top a : ℕ) (bytes : List ℕ) (x y z none : X) → IsRange top bytes
    → choose (is_in (globals_at (areas_of rank top bytes)) (areas_of rank top bytes).globals a)
    (is_in (heap_at (areas_of rank top bytes)) (areas_of rank top bytes).heap a)
    (is_in (stack_at (areas_of rank top bytes)) (areas_of rank top bytes).stack a) x y z none
    ≡ choose (first_test rank a) (second_test rank a) (third_test rank top a) x y z none
unfolding areas_of
by_ends {X = X} rank top a bytes x y z none range =
    let b = base_of rank in
    let g = part bytes globals_start (heap_start - globals_start) in
    let h = part bytes heap_start (stack_start - heap_start) in
    let s = part bytes stack_start (top - stack_start) in
    let above = range.above in
    let g_size = globals_size bytes range.whole in
    let h_size = heap_size bytes range.whole in
    let s_size = stack_size top bytes range in
    let g_end : b + globals_start + length g ≡ b + heap_start = omega (arith, g_size) in
    let h_end : b + heap_start + length h ≡ b + stack_start = omega (arith, h_size) in
    let s_end : b + stack_start + length s ≡ b + top = omega (arith, s_size, above) in
    let of_three : ℕ → ℕ → ℕ → X = λ i j k.
    choose (is_between (b + globals_start) i a) (is_between (b + heap_start) j a) (is_between (b + stack_start) k a) x y z none in
    ap (λ (i : ℕ). of_three i (b + heap_start + length h) (b + stack_start + length s)) g_end
    ∙ ap (λ (j : ℕ). of_three (b + heap_start) j (b + stack_start + length s)) h_end
    ∙ ap (λ (k : ℕ). of_three (b + heap_start) (b + stack_start) k) s_end

-- the bytes from an address on, and how many they are
from_place : (rank top a : ℕ) (bytes : List ℕ) → IsRange top bytes → Lies rank top a
    → choose (first_test rank a) (second_test rank a) (third_test rank top a)
    (drop (a - (base_of rank + globals_start)) (part bytes globals_start (heap_start - globals_start)))
    (drop (a - (base_of rank + heap_start)) (part bytes heap_start (stack_start - heap_start)))
    (drop (a - (base_of rank + stack_start)) (part bytes stack_start (top - stack_start))) []
    ≡ part bytes (a - base_of rank) (room_at rank top a)
from_place rank top a bytes range (InGlobals p from below) =
    let b = base_of rank in
    choose_first (first_test rank a) (second_test rank a) (third_test rank top a) _ _ _ _ p
    ∙ rest_from bytes b globals_start (heap_start - globals_start) a (b + heap_start - a) from (omega (arith, from, below))
    ∙ ap (part bytes (a - b)) (sym (choose_first (first_test rank a) (second_test rank a) (third_test rank top a) (b + heap_start - a) (b + stack_start - a) (b + top - a) 0 p))
from_place rank top a bytes range (InHeap p q from below) =
    let b = base_of rank in
    choose_second (first_test rank a) (second_test rank a) (third_test rank top a) _ _ _ _ p q
    ∙ rest_from bytes b heap_start (stack_start - heap_start) a (b + stack_start - a) from (omega (arith, from, below))
    ∙ ap (part bytes (a - b)) (sym (choose_second (first_test rank a) (second_test rank a) (third_test rank top a) (b + heap_start - a) (b + stack_start - a) (b + top - a) 0 p q))
from_place rank top a bytes range (InStack p q r from below) =
    let b = base_of rank in
    let above = range.above in
    choose_third (first_test rank a) (second_test rank a) (third_test rank top a) _ _ _ _ p q r
    ∙ rest_from bytes b stack_start (top - stack_start) a (b + top - a) from (omega (arith, from, below, above))
    ∙ ap (part bytes (a - b)) (sym (choose_third (first_test rank a) (second_test rank a) (third_test rank top a) (b + heap_start - a) (b + stack_start - a) (b + top - a) 0 p q r))
from_place rank top a bytes range (Nowhere p q r x y z) =
    let b = base_of rank in
    let none = choose_none (first_test rank a) (second_test rank a) (third_test rank top a) (b + heap_start - a) (b + stack_start - a) (b + top - a) 0 p q r in
    choose_none (first_test rank a) (second_test rank a) (third_test rank top a) _ _ _ _ p q r
    ∙ sym (no_part bytes (a - b) (room_at rank top a) none)

pub from_is : (rank top a : ℕ) (bytes : List ℕ) → IsRange top bytes
    → bytes_from (areas_of rank top bytes) a ≡ part bytes (a - base_of rank) (room_at rank top a)
unfolding bytes_from areas_of
from_is rank top a bytes range =
    by_ends rank top a bytes
    (drop (a - (base_of rank + globals_start)) (part bytes globals_start (heap_start - globals_start)))
    (drop (a - (base_of rank + heap_start)) (part bytes heap_start (stack_start - heap_start)))
    (drop (a - (base_of rank + stack_start)) (part bytes stack_start (top - stack_start))) [] range
    ∙ from_place rank top a bytes range (lies rank top a)

-- that part lies in the range
in_range : (rank top a : ℕ) (bytes : List ℕ) → IsRange top bytes → Lies rank top a → length (part bytes (a - base_of rank) (room_at rank top a)) ≡ room_at rank top a
in_range rank top a bytes range (InGlobals p from below) =
    let b = base_of rank in
    let whole = range.whole in
    let room = choose_first (first_test rank a) (second_test rank a) (third_test rank top a) (b + heap_start - a) (b + stack_start - a) (b + top - a) 0 p in
    part_length bytes (a - b) (room_at rank top a) (omega (arith, whole, room, from, below))
in_range rank top a bytes range (InHeap p q from below) =
    let b = base_of rank in
    let whole = range.whole in
    let room = choose_second (first_test rank a) (second_test rank a) (third_test rank top a) (b + heap_start - a) (b + stack_start - a) (b + top - a) 0 p q in
    part_length bytes (a - b) (room_at rank top a) (omega (arith, whole, room, from, below))
in_range rank top a bytes range (InStack p q r from below) =
    let b = base_of rank in
    let whole = range.whole in
    let most = range.below in
    let room = choose_third (first_test rank a) (second_test rank a) (third_test rank top a) (b + heap_start - a) (b + stack_start - a) (b + top - a) 0 p q r in
    part_length bytes (a - b) (room_at rank top a) (omega (arith, whole, room, from, below, most))
in_range rank top a bytes range (Nowhere p q r x y z) =
    let b = base_of rank in
    let none = choose_none (first_test rank a) (second_test rank a) (third_test rank top a) (b + heap_start - a) (b + stack_start - a) (b + top - a) 0 p q r in
    ap length (no_part bytes (a - b) (room_at rank top a) none) ∙ sym none

pub from_length : (rank top a : ℕ) (bytes : List ℕ) → IsRange top bytes → length (bytes_from (areas_of rank top bytes) a) ≡ room_at rank top a
from_length rank top a bytes range = ap length (from_is rank top a bytes range) ∙ in_range rank top a bytes range (lies rank top a)

-- the first ones of a part
first_of_part : (bytes : List ℕ) (at n room : ℕ) → n ≤ room → take n (part bytes at room) ≡ part bytes at n
unfolding part
first_of_part bytes at n room few = take-take n room (drop at bytes) few

if_same : {X : Type 0} (t : Bool) (x y none : X) → (t ≡ true → x ≡ y) → (if t then x else none) ≡ (if t then y else none)
if_same true x y none same = same refl
if_same false x y none same = refl

pub are_read : AreRead
unfolding bytes_at is_accessible
are_read rank top a n bytes range =
    let room = room_at rank top a in
    let rest = bytes_from (areas_of rank top bytes) a in
    ap (λ (k : ℕ). if nat_le n k then Some (take n rest) else None) (from_length rank top a bytes range)
    ∙ if_same (nat_le n room) (Some (take n rest)) (Some (part bytes (a - base_of rank) n)) None
    (λ t. ap (λ (xs : List ℕ). Some (take n xs)) (from_is rank top a bytes range)
    ∙ ap Some (first_of_part bytes (a - base_of rank) n room (leb-true n room t)))

-- ---- putting

abbrev areas_with : ℕ → List ℕ → List ℕ → List ℕ → Areas
areas_with rank g h s = record { rank = rank; globals = g; heap = h; stack = s }

same_areas : (b : ℕ) (g h s g' h' s' : List ℕ) → g ≡ g' → h ≡ h' → s ≡ s' → areas_with b g h s ≡ areas_with b g' h' s'
same_areas b g h s g' h' s' e f i =
    ap (λ (xs : List ℕ). areas_with b xs h s) e ∙ ap (λ (xs : List ℕ). areas_with b g' xs s) f ∙ ap (λ (xs : List ℕ). areas_with b g' h' xs) i

-- the part that holds what is put, by addresses
put_from : (bytes new : List ℕ) (b start size a : ℕ) → start + size ≤ length bytes → b + start ≤ a → a + length new ≤ b + start + size
    → with_part (part bytes start size) (a - (b + start)) new ≡ part (with_part bytes (a - b) new) start size
put_from bytes new b start size a whole from end =
    let off : a - b - start ≡ a - (b + start) = omega arith in
    ap (λ (k : ℕ). with_part (part bytes start size) k new) (sym off)
    ∙ sym (part_put bytes new (a - b) start size whole (omega (arith, from)) (omega (arith, from, end)))

-- a part beside it
put_apart : (bytes new : List ℕ) (at start size : ℕ) → start + size ≤ length bytes → at + length new ≤ length bytes
    → (start + size ≤ at) ⊎ (at + length new ≤ start) → part bytes start size ≡ part (with_part bytes at new) start size
put_apart bytes new at start size whole room apart =
    sym (part_stays bytes (with_part bytes at new) at (at + length new) start size
    (put_beside bytes new at at (at + length new) room (omega arith) (omega arith)) (put_length bytes new at room) whole apart)

put_place : (rank top a : ℕ) (bytes new : List ℕ) → IsRange top bytes → length new ≤ room_at rank top a → Lies rank top a
    → choose (first_test rank a) (second_test rank a) (third_test rank top a)
    (areas_with rank (with_part (part bytes globals_start (heap_start - globals_start)) (a - (base_of rank + globals_start)) new)
    (part bytes heap_start (stack_start - heap_start)) (part bytes stack_start (top - stack_start)))
    (areas_with rank (part bytes globals_start (heap_start - globals_start))
    (with_part (part bytes heap_start (stack_start - heap_start)) (a - (base_of rank + heap_start)) new) (part bytes stack_start (top - stack_start)))
    (areas_with rank (part bytes globals_start (heap_start - globals_start)) (part bytes heap_start (stack_start - heap_start))
    (with_part (part bytes stack_start (top - stack_start)) (a - (base_of rank + stack_start)) new))
    (areas_with rank (part bytes globals_start (heap_start - globals_start)) (part bytes heap_start (stack_start - heap_start))
    (part bytes stack_start (top - stack_start)))
    ≡ areas_of rank top (with_part bytes (a - base_of rank) new)
unfolding areas_of
put_place rank top a bytes new range few (InGlobals p from below) =
    let b = base_of rank in
    let whole = range.whole in
    let above = range.above in
    let most = range.below in
    let room = choose_first (first_test rank a) (second_test rank a) (third_test rank top a) (b + heap_start - a) (b + stack_start - a) (b + top - a) 0 p in
    let end : a + length new ≤ b + heap_start = omega (arith, few, room, from, below) in
    choose_first (first_test rank a) (second_test rank a) (third_test rank top a) _ _ _ _ p
    ∙ same_areas rank _ _ _ _ _ _
    (put_from bytes new b globals_start (heap_start - globals_start) a (omega (arith, whole)) from (omega (arith, end)))
    (put_apart bytes new (a - b) heap_start (stack_start - heap_start) (omega (arith, whole)) (omega (arith, whole, end, from)) (inr (omega (arith, end, from))))
    (put_apart bytes new (a - b) stack_start (top - stack_start) (omega (arith, whole, above, most)) (omega (arith, whole, end, from)) (inr (omega (arith, end, from))))
put_place rank top a bytes new range few (InHeap p q from below) =
    let b = base_of rank in
    let whole = range.whole in
    let above = range.above in
    let most = range.below in
    let room = choose_second (first_test rank a) (second_test rank a) (third_test rank top a) (b + heap_start - a) (b + stack_start - a) (b + top - a) 0 p q in
    let end : a + length new ≤ b + stack_start = omega (arith, few, room, from, below) in
    choose_second (first_test rank a) (second_test rank a) (third_test rank top a) _ _ _ _ p q
    ∙ same_areas rank _ _ _ _ _ _
    (put_apart bytes new (a - b) globals_start (heap_start - globals_start) (omega (arith, whole)) (omega (arith, whole, end, from)) (inl (omega (arith, from))))
    (put_from bytes new b heap_start (stack_start - heap_start) a (omega (arith, whole)) from (omega (arith, end)))
    (put_apart bytes new (a - b) stack_start (top - stack_start) (omega (arith, whole, above, most)) (omega (arith, whole, end, from)) (inr (omega (arith, end, from))))
put_place rank top a bytes new range few (InStack p q r from below) =
    let b = base_of rank in
    let whole = range.whole in
    let above = range.above in
    let most = range.below in
    let room = choose_third (first_test rank a) (second_test rank a) (third_test rank top a) (b + heap_start - a) (b + stack_start - a) (b + top - a) 0 p q r in
    let end : a + length new ≤ b + top = omega (arith, few, room, from, below) in
    choose_third (first_test rank a) (second_test rank a) (third_test rank top a) _ _ _ _ p q r
    ∙ same_areas rank _ _ _ _ _ _
    (put_apart bytes new (a - b) globals_start (heap_start - globals_start) (omega (arith, whole)) (omega (arith, whole, end, from, most)) (inl (omega (arith, from))))
    (put_apart bytes new (a - b) heap_start (stack_start - heap_start) (omega (arith, whole)) (omega (arith, whole, end, from, most)) (inl (omega (arith, from))))
    (put_from bytes new b stack_start (top - stack_start) a (omega (arith, whole, above, most)) from (omega (arith, end, above)))
put_place rank top a bytes new range few (Nowhere p q r x y z) =
    let b = base_of rank in
    let none = choose_none (first_test rank a) (second_test rank a) (third_test rank top a) (b + heap_start - a) (b + stack_start - a) (b + top - a) 0 p q r in
    let same = no_put bytes new (a - b) (omega (arith, few, none)) in
    choose_none (first_test rank a) (second_test rank a) (third_test rank top a) _ _ _ _ p q r
    ∙ ap (λ (xs : List ℕ). areas_with rank (part xs globals_start (heap_start - globals_start)) (part xs heap_start (stack_start - heap_start)) (part xs stack_start (top - stack_start))) same

pub put_areas : (rank top a : ℕ) (bytes new : List ℕ) → IsRange top bytes → length new ≤ room_at rank top a
    → put_at (areas_of rank top bytes) a new ≡ areas_of rank top (with_part bytes (a - base_of rank) new)
unfolding put_at areas_of
put_areas rank top a bytes new range few =
    by_ends rank top a bytes
    (areas_with rank (with_part (part bytes globals_start (heap_start - globals_start)) (a - (base_of rank + globals_start)) new)
    (part bytes heap_start (stack_start - heap_start)) (part bytes stack_start (top - stack_start)))
    (areas_with rank (part bytes globals_start (heap_start - globals_start))
    (with_part (part bytes heap_start (stack_start - heap_start)) (a - (base_of rank + heap_start)) new) (part bytes stack_start (top - stack_start)))
    (areas_with rank (part bytes globals_start (heap_start - globals_start)) (part bytes heap_start (stack_start - heap_start))
    (with_part (part bytes stack_start (top - stack_start)) (a - (base_of rank + stack_start)) new))
    (areas_with rank (part bytes globals_start (heap_start - globals_start)) (part bytes heap_start (stack_start - heap_start))
    (part bytes stack_start (top - stack_start))) range
    ∙ put_place rank top a bytes new range few (lies rank top a)

pub are_put : ArePut
unfolding with_bytes_at is_accessible
are_put rank top a bytes new range =
    let room = room_at rank top a in
    let areas = areas_of rank top bytes in
    ap (λ (k : ℕ). if nat_le (length new) k then Some (put_at areas a new) else None) (from_length rank top a bytes range)
    ∙ if_same (nat_le (length new) room) (Some (put_at areas a new)) (Some (areas_of rank top (with_part bytes (a - base_of rank) new))) None
    (λ t. ap Some (put_areas rank top a bytes new range (leb-true (length new) room t)))

-- ---- what the calls of a memory ensure

-- the place of accessible bytes
abbrev Placed : ℕ → ℕ → ℕ → Type 0
Placed at n size = (globals_start ≤ at) × (at + n ≤ range_bytes) × (size ≡ range_bytes)

placed : (rank top a n : ℕ) (bytes : List ℕ) → IsRange top bytes → Accessible rank top a (suc n)
    → (globals_start ≤ a - base_of rank) × (a - base_of rank + suc n ≤ range_bytes)
placed rank top a n bytes range (inl all) =
    let e = ends_in (base_of rank + globals_start) (base_of rank + heap_start) a n all in
    let low = e.0 in
    let high = e.1 in
    (omega (arith, low), omega (arith, low, high))
placed rank top a n bytes range (inr (inl all)) =
    let e = ends_in (base_of rank + heap_start) (base_of rank + stack_start) a n all in
    let low = e.0 in
    let high = e.1 in
    (omega (arith, low), omega (arith, low, high))
placed rank top a n bytes range (inr (inr all)) =
    let e = ends_in (base_of rank + stack_start) (base_of rank + top) a n all in
    let low = e.0 in
    let high = e.1 in
    let below = range.below in
    (omega (arith, low), omega (arith, low, high, below))

stays_all : (bytes new : List ℕ) (start end : ℕ) → new ≡ bytes → StayBeside bytes new start end
stays_all bytes new start end same = record { at = λ i apart. ap (λ (xs : List ℕ). slice_index xs i) same }

-- no byte before the globals changes
put_stays : (rank top a : ℕ) (bytes new : List ℕ) → IsRange top bytes → Accessible rank top a (length new)
    → StayBeside bytes (with_part bytes (a - base_of rank) new) globals_start range_bytes
    × (length (with_part bytes (a - base_of rank) new) ≡ length bytes)
put_stays rank top a bytes [] range all =
    let same = put_none bytes (a - base_of rank) in
    (stays_all bytes (with_part bytes (a - base_of rank) []) globals_start range_bytes same, ap length same)
put_stays rank top a bytes (b ∷ bs) range all =
    let p = placed rank top a (length bs) bytes range all in
    let low = p.0 in
    let high = p.1 in
    let whole = range.whole in (
      put_beside bytes (b ∷ bs) (a - base_of rank) globals_start range_bytes (omega (arith, high, whole)) low high,
      put_length bytes (b ∷ bs) (a - base_of rank) (omega (arith, high, whole)),
    )

heap_bytes_stay : (bytes new : List ℕ) → StayBeside bytes new globals_start range_bytes → HeapBytesStay bytes new
heap_bytes_stay bytes new stay i there =
    stay.at i (inl (elim there [ inl low ↦ omega (arith, low) | inr nodes ↦ nodes.1 ]))

pub becomes : (rank top a : ℕ) (old new bytes : List ℕ) → IsRange top old → Accessible rank top a (length bytes)
    → new ≡ with_part old (a - base_of rank) bytes → Becomes rank top old new (with_bytes_at (areas_of rank top old) a bytes)
becomes rank top a old new bytes range all is =
    let put = with_part old (a - base_of rank) bytes in
    let stays = put_stays rank top a old bytes range all in
    let P : List ℕ → Type 0 = λ xs. Becomes rank top old xs (with_bytes_at (areas_of rank top old) a bytes) in
    subst P (sym is)
    (record {
      areas_are = are_put rank top a old bytes range
          ∙ ap (λ (t : Bool). if t then Some (areas_of rank top put) else None) (accessible_yes rank top a (length bytes) all);
      blocks_are = blocks_stay rank old put (heap_bytes_stay old put stays.0);
      beside = stays.0;
      whole = stays.1;
    })

pub refused : (rank top a : ℕ) (old bytes : List ℕ) → IsRange top old → (Accessible rank top a (length bytes) → ⊥)
    → with_bytes_at (areas_of rank top old) a bytes ≡ None
refused rank top a old bytes range none =
    are_put rank top a old bytes range
    ∙ ap (λ (t : Bool). if t then Some (areas_of rank top (with_part old (a - base_of rank) bytes)) else None) (accessible_no rank top a (length bytes) none)

pub read_yes : (rank top a n : ℕ) (bytes : List ℕ) → IsRange top bytes → Accessible rank top a n
    → bytes_at (areas_of rank top bytes) a n ≡ Some (part bytes (a - base_of rank) n)
read_yes rank top a n bytes range all =
    are_read rank top a n bytes range
    ∙ ap (λ (t : Bool). if t then Some (part bytes (a - base_of rank) n) else None) (accessible_yes rank top a n all)

pub read_no : (rank top a n : ℕ) (bytes : List ℕ) → IsRange top bytes → (Accessible rank top a n → ⊥)
    → bytes_at (areas_of rank top bytes) a n ≡ None
read_no rank top a n bytes range none =
    are_read rank top a n bytes range
    ∙ ap (λ (t : Bool). if t then Some (part bytes (a - base_of rank) n) else None) (accessible_no rank top a n none)

-- ---- numbers

pub load_yes : (rank top a n v : ℕ) (bytes : List ℕ) → IsRange top bytes → Accessible rank top a n
    → v ≡ number_at bytes (a - base_of rank) n → number_of (areas_of rank top bytes) a n ≡ Some v
unfolding number_of
load_yes rank top a n v bytes range all is =
    ap (option_map (little_number n)) (read_yes rank top a n bytes range all)
    ∙ ap Some (sym (is ∙ number_part bytes (a - base_of rank) n))

pub load_no : (rank top a n : ℕ) (bytes : List ℕ) → IsRange top bytes → (Accessible rank top a n → ⊥)
    → number_of (areas_of rank top bytes) a n ≡ None
unfolding number_of
load_no rank top a n bytes range none = ap (option_map (little_number n)) (read_no rank top a n bytes range none)

pub store_yes : (rank top a n v : ℕ) (old new : List ℕ) → IsRange top old → Accessible rank top a n
    → new ≡ with_number old (a - base_of rank) n v → Becomes rank top old new (with_number_of (areas_of rank top old) a n v)
unfolding with_number_of
store_yes rank top a n v old new range all is =
    let count = length-bytes_low_first 0 n v in
    becomes rank top a old new (little_bytes n v) range (subst (Accessible rank top a) (sym count) all)
    (is ∙ number_put old (a - base_of rank) n v)

pub store_no : (rank top a n v : ℕ) (old : List ℕ) → IsRange top old → (Accessible rank top a n → ⊥)
    → with_number_of (areas_of rank top old) a n v ≡ None
unfolding with_number_of
store_no rank top a n v old range none =
    let count = length-bytes_low_first 0 n v in
    refused rank top a old (little_bytes n v) range (λ all. none (subst (Accessible rank top a) count all))

-- ---- filling and copying

pub fill_yes : (rank top a n byte : ℕ) (old new : List ℕ) → IsRange top old → Accessible rank top a n
    → new ≡ with_part old (a - base_of rank) (replicate n byte) → Becomes rank top old new (with_bytes_at (areas_of rank top old) a (replicate n byte))
fill_yes rank top a n byte old new range all is =
    becomes rank top a old new (replicate n byte) range (subst (Accessible rank top a) (sym (length-replicate n byte)) all) is

pub fill_no : (rank top a n byte : ℕ) (old : List ℕ) → IsRange top old → (Accessible rank top a n → ⊥)
    → with_bytes_at (areas_of rank top old) a (replicate n byte) ≡ None
fill_no rank top a n byte old range none =
    refused rank top a old (replicate n byte) range (λ all. none (subst (Accessible rank top a) (length-replicate n byte) all))

-- accessible bytes are there
there_length : (rank top a n : ℕ) (bytes : List ℕ) → IsRange top bytes → Accessible rank top a n
    → length (part bytes (a - base_of rank) n) ≡ n
there_length rank top a zero bytes range all = ap length (no_part bytes (a - base_of rank) 0 refl)
there_length rank top a (suc n) bytes range all =
    let p = placed rank top a n bytes range all in
    let high = p.1 in
    let whole = range.whole in
    part_length bytes (a - base_of rank) (suc n) (omega (arith, high, whole))

pub copy_yes : (rank top to from n : ℕ) (old new : List ℕ) → IsRange top old → Accessible rank top from n → Accessible rank top to n
    → new ≡ with_part old (to - base_of rank) (part old (from - base_of rank) n)
    → Becomes rank top old new (copied_at (areas_of rank top old) to from n)
unfolding copied_at
copy_yes rank top to from n old new range there room is =
    let bytes = part old (from - base_of rank) n in
    let count = there_length rank top from n old range there in
    let areas = areas_of rank top old in
    let P : Option (List ℕ) → Type 0 = λ o. Becomes rank top old new (option_and_then (with_bytes_at areas to) o) in
    subst P (sym (read_yes rank top from n old range there))
    (becomes rank top to old new bytes range (subst (Accessible rank top to) (sym count) room) is)

-- whether bytes are accessible is decided
decided : (rank top a n : ℕ) → Accessible rank top a n ⊎ (Accessible rank top a n → ⊥)
decided rank top a n =
    elim (cases_lt (room_at rank top a) n) [
      | inl less ↦ inr (λ all. let few = room_of rank top a n all in absurd (omega (arith, few, less)))
      | inr more ↦ inl (room_in rank top a (lies rank top a) n more)
    ]

pub copy_no : (rank top to from n : ℕ) (old : List ℕ) → IsRange top old → (Accessible rank top from n → Accessible rank top to n → ⊥)
    → copied_at (areas_of rank top old) to from n ≡ None
unfolding copied_at
copy_no rank top to from n old range none =
    let areas = areas_of rank top old in
    elim (decided rank top from n) [
      | inl there ↦
          let count = there_length rank top from n old range there in
          ap (option_and_then (with_bytes_at areas to)) (read_yes rank top from n old range there)
          ∙ refused rank top to old (part old (from - base_of rank) n) range (λ all. none there (subst (Accessible rank top to) count all))
      | inr away ↦ ap (option_and_then (with_bytes_at areas to)) (read_no rank top from n old range away)
    ]

-- ---- by cases of an answer

pub if_ok : {X E : Type 0} (r : Result X E) (P Q : X → Type 0) (A : Type 0) → ((x : X) → P x → A → Q x)
    → IfOk r P → OnOk r A → IfOk r Q
if_ok (Ok x) P Q A step p a = step x p a
if_ok (Err e) P Q A step p a = tt

pub on_ok_two : {X E : Type 0} (r : Result X E) (P Q R : Type 0) → (P → Q → R) → OnOk r P → OnOk r Q → OnOk r R
on_ok_two (Ok x) P Q R step p q = step p q
on_ok_two (Err e) P Q R step p q = tt

pub on_ok_three : {X E : Type 0} (r : Result X E) (P Q R S : Type 0) → (P → Q → R → S) → OnOk r P → OnOk r Q → OnOk r R → OnOk r S
on_ok_three (Ok x) P Q R S step p q r = step p q r
on_ok_three (Err e) P Q R S step p q r = tt

pub on_err_by : {X E : Type 0} (r : Result X E) (P Q : Type 0) → (P → Q) → OnErr r P → OnErr r Q
on_err_by (Ok x) P Q step p = tt
on_err_by (Err e) P Q step p = step p

-- ---- bytes that are alike from the globals on

part_alike : (xs ys : List ℕ) (start size : ℕ) → length xs ≡ length ys → ((i : ℕ) → start ≤ i → slice_index xs i ≡ slice_index ys i)
    → part xs start size ≡ part ys start size
unfolding part
part_alike xs ys start size same alike =
    let count : length (take size (drop start xs)) ≡ length (take size (drop start ys)) =
    length-take size (drop start xs) ∙ ap (min size) (length-drop start xs ∙ ap (λ (k : ℕ). k - start) same ∙ sym (length-drop start ys))
    ∙ sym (length-take size (drop start ys)) in
    ext_get_or 0 (take size (drop start xs)) (take size (drop start ys)) count
    (λ i below.
    let small : i < size = omega (arith, length-take size (drop start xs), below) in
    get_or-take size (drop start xs) i 0 small ∙ get_or-drop start xs i 0
    ∙ alike (start + i) (omega arith)
    ∙ sym (get_or-drop start ys i 0) ∙ sym (get_or-take size (drop start ys) i 0 small))

pub areas_alike : (rank top : ℕ) (xs ys : List ℕ) → length xs ≡ length ys → ((i : ℕ) → globals_start ≤ i → slice_index xs i ≡ slice_index ys i)
    → areas_of rank top xs ≡ areas_of rank top ys
unfolding areas_of
areas_alike rank top xs ys same alike =
    same_areas rank _ _ _ _ _ _
    (part_alike xs ys globals_start (heap_start - globals_start) same alike)
    (part_alike xs ys heap_start (stack_start - heap_start) same (λ i from. alike i (omega (arith, from))))
    (part_alike xs ys stack_start (top - stack_start) same (λ i from. alike i (omega (arith, from))))

zero_at : (n i : ℕ) → slice_index (replicate n 0) i ≡ 0
zero_at zero i = refl
zero_at (suc n) zero = refl
zero_at (suc n) (suc i) = zero_at n i

-- a block of zeros in the heap
pub zeros_are : (rank top a n : ℕ) (old new : List ℕ) → IsRange top old → base_of rank + heap_start ≤ a → a + n ≤ base_of rank + stack_start
    → length new ≡ length old
    → ((i : ℕ) → i < n → slice_index new (a - base_of rank + i) ≡ 0)
    → ((i : ℕ) → globals_start ≤ i → (i < a - base_of rank) ⊎ (a - base_of rank + n ≤ i) → slice_index new i ≡ slice_index old i)
    → put_at (areas_of rank top old) a (replicate n 0) ≡ areas_of rank top new
zeros_are rank top a n old new range from to same zeros stays =
    let at = a - base_of rank in
    let none : ℕ = 0 in
    let bytes : List ℕ = replicate n none in
    let count : length bytes ≡ n = length-replicate n none in
    let whole = range.whole in
    let room : at + length bytes ≤ length old = omega (arith, count, whole, from, to) in
    let all : Accessible rank top a n = inr (inl (λ i small. (omega (arith, from), omega (arith, to, small)))) in
    let few = room_of rank top a n all in
    put_areas rank top a old bytes range (omega (arith, count, few))
    ∙ areas_alike rank top (with_part old at bytes) new (put_length old bytes at room ∙ sym same)
    (λ i low.
    elim (cases_lt i at) [
      | inl before ↦ put_before old bytes at i (omega (arith, room)) before ∙ sym (stays i low (inl before))
      | inr behind ↦ elim (cases_lt i (at + n)) [
        | inl inside ↦
            let place : at + (i - at) ≡ i = omega (arith, behind) in
            put_inside old bytes at i (omega (arith, room)) behind (omega (arith, inside, count))
            ∙ zero_at n (i - at) ∙ sym (zeros (i - at) (omega (arith, inside, behind))) ∙ ap (slice_index new) place
        | inr past ↦ put_behind old bytes at i (omega (arith, room)) (omega (arith, past, count)) ∙ sym (stays i low (inr past))
      ]
    ])
