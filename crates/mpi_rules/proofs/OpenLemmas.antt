-- Accessible addresses are words, and what is accessible may be written.
use Rattle.std.proofs.Common.{◌≡◌, ℕ, ◌+◌, ◌-◌, ◌<◌, ◌≤◌, ◌^◌, zero, suc, Bool, true, false, cond, ◌&&◌, List, [], ◌∷◌, length, take, drop, arith, refl, Some, None}
use Rattle.std.specs.Prelude.{nat_le, nat_lt, is_some, All}
use Rattle.std.specs.List.{AllByRecursion}
use Rattle.std.proofs.lemmas.Bool.{ltb-true, leb-true}
use Rattle.rank_range.specs.Areas.{Areas, bytes_from, bytes_at, is_in, globals_at, heap_at, stack_at}
use Rattle.mpi_types.specs.declared.call.Write.{Write}
use Rattle.mpi_types.specs.Come.{MayBeWritten}
use Rattle.mpi_rules.specs.Answers.{AreBytes, FitsMemory, IsOpen}
use Rattle.mpi_rules.specs.Places.{is_open, are_open}

pub and_left : (a b : Bool) → (a && b) ≡ true → a ≡ true
and_left true b h = refl
and_left false b h = h

pub and_right : (a b : Bool) → (a && b) ≡ true → b ≡ true
and_right true b h = h
and_right false b h = cc

-- the address of a byte that is there
in_below : (start a : ℕ) (area : List ℕ) → is_in start area a ≡ true → a < start + length area
in_below start a area h = ltb-true a (start + length area) (and_right (nat_le start a) (nat_lt a (start + length area)) h)

-- the one of three areas that has the bytes
chosen : (G : Type 0) (b c d : Bool) (x y z : List ℕ) (n : ℕ) → (b ≡ true → G) → (c ≡ true → G) → (d ≡ true → G)
    → 0 < n → n ≤ length (cond b x (cond c y (cond d z []))) → G
chosen G true c d x y z n g h s some within = g refl
chosen G false true d x y z n g h s some within = h refl
chosen G false false true x y z n g h s some within = s refl
chosen G false false false x y z n g h s some within = absurd (omega arith)

room_below : (areas : Areas) (a n : ℕ) → FitsMemory areas → 0 < n → n ≤ length (bytes_from areas a) → a < 2 ^ 64
unfolding bytes_from
room_below areas a n fits some within =
    chosen (a < 2 ^ 64) (is_in (globals_at areas) areas.globals a) (is_in (heap_at areas) areas.heap a) (is_in (stack_at areas) areas.stack a)
    (drop (a - globals_at areas) areas.globals) (drop (a - heap_at areas) areas.heap) (drop (a - stack_at areas) areas.stack) n
    (λ is. omega (arith, in_below (globals_at areas) a areas.globals is, fits.globals, fits.rank))
    (λ is. omega (arith, in_below (heap_at areas) a areas.heap is, fits.heap, fits.rank))
    (λ is. omega (arith, in_below (stack_at areas) a areas.stack is, fits.stack, fits.rank))
    some within

some_then : (b : Bool) (xs : List ℕ) → is_some (cond b (Some xs) None) ≡ true → b ≡ true
some_then true xs h = refl
some_then false xs h = cc

pub open_below : (areas : Areas) (a n : ℕ) → FitsMemory areas → 0 < n → is_open areas a n ≡ true → a < 2 ^ 64
unfolding is_open bytes_at
open_below areas a n fits some h =
    room_below areas a n fits some (leb-true n (length (bytes_from areas a))
    (some_then (nat_le n (length (bytes_from areas a))) (take n (bytes_from areas a)) h))

-- what a call writes: some bytes
pub record IsWrite (w : Write) : Type 0 where
  pub some : 0 < length w.bytes
  pub bytes : AreBytes w.bytes

pub all_of : {X : Type 0} (P : X → Type 0) (xs : List X) → AllByRecursion P xs → All P xs
all_of P [] h k d below = absurd (omega arith)
all_of P (x ∷ xs) h zero d below = h.0
all_of P (x ∷ xs) h (suc k) d below = all_of P xs h.1 k d (omega arith)

one_written : (areas : Areas) (w : Write) → FitsMemory areas → IsWrite w → is_open areas w.address (length w.bytes) ≡ true
    → MayBeWritten (IsOpen areas) w
one_written areas w fits is h =
    record { address_fits = open_below areas w.address (length w.bytes) fits is.some h; bytes_fit = all_of _ w.bytes is.bytes; reached = h }

pub may_be_written : (areas : Areas) (writes : List Write) → FitsMemory areas → AllByRecursion IsWrite writes → are_open areas writes ≡ true
    → AllByRecursion (MayBeWritten (IsOpen areas)) writes
may_be_written areas [] fits all h = tt
may_be_written areas (w ∷ writes) fits all h = (
  one_written areas w fits all.0 (and_left (is_open areas w.address (length w.bytes)) (are_open areas writes) h),
  may_be_written areas writes fits all.1 (and_right (is_open areas w.address (length w.bytes)) (are_open areas writes) h),
)
