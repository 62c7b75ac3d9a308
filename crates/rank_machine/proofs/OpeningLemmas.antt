-- The memory of a rank before its first instruction.
use Rattle.std.proofs.Common.{◌≡◌, ℕ, ◌+◌, ◌-◌, ◌^◌, ◌%◌, ◌<◌, ◌≤◌, ◌⊎◌, ◌∙◌, inl, inr, Bool, List, [], ◌∷◌, ◌++◌, length, take, drop, slice_index, replicate, fold, refl, sym, ap, subst, arith, append_assoc, Result, OnOk, OnErr}
use Rattle.std.specs.Prelude.{All}
use Rattle.std.proofs.lemmas.List.{length-replicate, get_or-replicate, get_or_append_left, ext_get_or, drop-replicate, drop_all, take-append-le, drop-append-le}
use Rattle.std.proofs.lemmas.List.Elements.{All-get_or, All-from_get_or, All-drop}
use Rattle.std.specs.Int.{byte_at, bytes_low_first}
use Rattle.byteorder.specs.Endian.{little_number, little_bytes}
use Rattle.byteorder.specs.Numbers.{length-bytes_low_first}
use Rattle.rank_range.specs.Layout.{base_of, descriptors_start, globals_start, heap_start, stack_start, range_bytes, IsRange, IsZeroed, MarksChanges, Accessible}
use Rattle.rank_range.specs.Numbers.{number_at, with_number}
use Rattle.rank_range.specs.Parts.{part, with_part, StayBeside, Keeps}
use Rattle.rank_range.specs.Nodes.{HasHeap, HeapBytesStay, blocks_of}
use Rattle.rank_range.specs.Areas.{areas_of, memory_of}
use Rattle.rank_range.specs.declared.run.Segment.{Segment}
use Rattle.rank_range.specs.declared.heap.Block.{Block}
use Rattle.rank_range.proofs.PartLemmas.{part_length, part_byte, part_put, part_of_part, part_stays, put_beside, put_length, number_part, number_put, no_part}
use Rattle.rank_range.proofs.ChangeLemmas.{number_same, beside_one, beside_both, keeps_one, keeps_both, keeps_none}
use Rattle.rank_range.proofs.NumberLemmas.{length_stays}
use Rattle.rank_range.proofs.FitLemmas.{blocks_stay}
use Rattle.isomalloc.specs.Heap.{OthersStay}
use Rattle.vm_code.specs.Memory.{with_base, opened}
use Rattle.rank_machine.specs.Opening.{FitsGlobals, RestIsZero, globals_of, HasBase, HasBases}
use Rattle.rank_machine.proofs.AccessLemmas.{seen, heap_stays}
use Rattle.rank_machine.proofs.MemoryLemmas.{areas_with, filled}

-- ---- the base at one offset

-- eight bytes are those of the number's 64 low bits
low_bytes : (v : ℕ) → bytes_low_first 0 8 (v % 2 ^ 64) ≡ bytes_low_first 0 8 v
low_bytes v =
    let a : byte_at 0 (v % 2 ^ 64) ≡ byte_at 0 v = omega arith in
    let b : byte_at 1 (v % 2 ^ 64) ≡ byte_at 1 v = omega arith in
    let c : byte_at 2 (v % 2 ^ 64) ≡ byte_at 2 v = omega arith in
    let d : byte_at 3 (v % 2 ^ 64) ≡ byte_at 3 v = omega arith in
    let e : byte_at 4 (v % 2 ^ 64) ≡ byte_at 4 v = omega arith in
    let f : byte_at 5 (v % 2 ^ 64) ≡ byte_at 5 v = omega arith in
    let g : byte_at 6 (v % 2 ^ 64) ≡ byte_at 6 v = omega arith in
    let h : byte_at 7 (v % 2 ^ 64) ≡ byte_at 7 v = omega arith in
    cc

with_low_bits : (bytes : List ℕ) (at v : ℕ) → with_number bytes at 8 (v % 2 ^ 64) ≡ with_number bytes at 8 v
unfolding with_number
with_low_bits bytes at v = ap (λ (ys : List ℕ). take at bytes ++ (ys ++ drop (at + 8) bytes)) (low_bytes v)

-- a number in a part, and one that is put there
number_within : (bytes : List ℕ) (start size at : ℕ) → at + 8 ≤ size → number_at bytes (start + at) 8 ≡ number_at (part bytes start size) at 8
number_within bytes start size at inside =
    number_part bytes (start + at) 8
    ∙ ap (little_number 8) (sym (part_of_part bytes start size at 8 inside))
    ∙ sym (number_part (part bytes start size) at 8)

put_within : (bytes : List ℕ) (start size at v : ℕ) → start + size ≤ length bytes → at + 8 ≤ size
    → part (with_number bytes (start + at) 8 v) start size ≡ with_number (part bytes start size) at 8 v
put_within bytes start size at v whole inside =
    let count : length (little_bytes 8 v) ≡ 8 = length-bytes_low_first 0 8 v in
    let place : start + at - start ≡ at = omega arith in
    ap (λ (xs : List ℕ). part xs start size) (number_put bytes (start + at) 8 v)
    ∙ part_put bytes (little_bytes 8 v) (start + at) start size whole (omega arith) (omega (arith, count, inside))
    ∙ ap (λ (i : ℕ). with_part (part bytes start size) i (little_bytes 8 v)) place
    ∙ sym (number_put (part bytes start size) at 8 v)

base_within : (bytes new : List ℕ) (start size at base : ℕ) → start + size ≤ length bytes → at + 8 ≤ size
    → new ≡ with_number bytes (start + at) 8 ((number_at bytes (start + at) 8 + base) % 2 ^ 64)
    → part new start size ≡ with_base base (part bytes start size) at
base_within bytes new start size at base whole inside is =
    let v = number_at bytes (start + at) 8 + base in
    ap (λ (xs : List ℕ). part xs start size) is
    ∙ put_within bytes start size at (v % 2 ^ 64) whole inside
    ∙ with_low_bits (part bytes start size) at v
    ∙ ap (λ (n : ℕ). with_number (part bytes start size) at 8 (n + base)) (number_within bytes start size at inside)

pub has_base : (r s i j base place address at : ℕ) (old new : List ℕ) (marks new_marks : ℕ → Bool) → IsRange i old → base ≡ base_of r
    → place ≡ globals_start + at → at + 8 ≤ heap_start - globals_start → address ≡ number_at old place 8
    → new ≡ with_number old place 8 ((address + base) % 2 ^ 64) → MarksChanges old new marks new_marks → s ≡ r → j ≡ i
    → HasBase r s i j old new marks new_marks at
has_base r s i j base place address at old new marks new_marks range base_is place_is inside read written changes owner stack =
    let whole = range.whole in
    let there : place + 8 ≤ length old = omega (arith, whole, place_is, inside) in
    let number : address ≡ number_at old (globals_start + at) 8 = read ∙ ap (λ (p : ℕ). number_at old p 8) place_is in
    let is : new ≡ with_number old (globals_start + at) 8 ((number_at old (globals_start + at) 8 + base_of r) % 2 ^ 64) =
    written ∙ ap (λ (p : ℕ). with_number old p 8 ((address + base) % 2 ^ 64)) place_is
    ∙ ap (λ (n : ℕ). with_number old (globals_start + at) 8 ((n + base) % 2 ^ 64)) number
    ∙ ap (λ (n : ℕ). with_number old (globals_start + at) 8 ((number_at old (globals_start + at) 8 + n) % 2 ^ 64)) base_is in
    record {
      globals = base_within old new globals_start (heap_start - globals_start) at (base_of r) (omega (arith, whole)) inside is;
      beside = beside_one old new place 8 _ globals_start heap_start written there (omega (arith, place_is)) (omega (arith, place_is, inside));
      kept = keeps_one r s i j old new marks new_marks place 8 _ there written changes owner stack;
    }

-- ---- at all of them

pub bases_none : (r i : ℕ) (bytes : List ℕ) (marks : ℕ → Bool) (fixes : List ℕ) → HasBases r r i i bytes bytes marks marks fixes fixes
bases_none r i bytes marks fixes = record { globals = refl; beside = record { at = λ k apart. refl }; kept = keeps_none r i bytes marks }

pub bases_more : (r s t i j k : ℕ) (old mid new : List ℕ) (old_marks mid_marks new_marks : ℕ → Bool) (fixes left rest : List ℕ) (at : ℕ)
    → left ≡ at ∷ rest → HasBases r s i j old mid old_marks mid_marks fixes left → HasBase s t j k mid new mid_marks new_marks at
    → HasBases r t i k old new old_marks new_marks fixes rest
bases_more r s t i j k old mid new old_marks mid_marks new_marks fixes left rest at more before one =
    let owner = before.kept.owner in
    record {
      globals =
          ap (λ (xs : List ℕ). fold (with_base (base_of r)) xs rest) (one.globals ∙ ap (λ (n : ℕ). with_base (base_of n) (globals_of mid) at) owner)
          ∙ ap (λ (xs : List ℕ). fold (with_base (base_of r)) (globals_of mid) xs) (sym more)
          ∙ before.globals;
      beside = beside_both old mid new globals_start heap_start before.beside one.beside;
      kept = keeps_both r s t i j k old mid new old_marks mid_marks new_marks before.kept one.kept;
    }

pub bases_done : (r s i j : ℕ) (old new : List ℕ) (old_marks new_marks : ℕ → Bool) (fixes : List ℕ) (n : ℕ) → length fixes ≤ n
    → HasBases r s i j old new old_marks new_marks fixes (drop n fixes) → HasBases r s i j old new old_marks new_marks fixes []
bases_done r s i j old new old_marks new_marks fixes n all done =
    subst (λ (left : List ℕ). HasBases r s i j old new old_marks new_marks fixes left) (drop_all n fixes all) done

-- ---- zeros

zero_part : (bytes : List ℕ) (start n : ℕ) → start + n ≤ length bytes → ((i : ℕ) → start ≤ i → slice_index bytes i ≡ 0) → part bytes start n ≡ replicate n 0
zero_part bytes start n whole zeros =
    let left = part_length bytes start n whole in
    let none : ℕ = 0 in
    let right : length (replicate n none) ≡ n = length-replicate n none in
    ext_get_or 0 (part bytes start n) (replicate n 0) (left ∙ sym right)
    (λ i below.
    let small : i < n = omega (arith, left, below) in
    part_byte bytes start n i small ∙ zeros (start + i) (omega arith) ∙ sym (get_or-replicate n i 0 0 small))

put_zeros : (n : ℕ) (bytes : List ℕ) → with_part (replicate n 0) 0 bytes ≡ bytes ++ replicate (n - length bytes) 0
unfolding with_part
put_zeros n bytes =
    let same : 0 + length bytes ≡ length bytes = omega arith in
    ap (λ (k : ℕ). bytes ++ drop k (replicate n 0)) same ∙ ap (λ (xs : List ℕ). bytes ++ xs) (drop-replicate (length bytes) n 0)

-- ---- what is done at the front of a list

number_front : (xs zs : List ℕ) (at : ℕ) → at + 8 ≤ length xs → number_at (xs ++ zs) at 8 ≡ number_at xs at 8
number_front xs zs at inside =
    number_same xs (xs ++ zs) at 8 (λ j below. get_or_append_left xs zs 0 (at + j) (omega (arith, inside, below)))

put_front : (xs zs : List ℕ) (at v : ℕ) → at + 8 ≤ length xs → with_number (xs ++ zs) at 8 v ≡ with_number xs at 8 v ++ zs
unfolding with_number
put_front xs zs at v inside =
    ap (λ (ys : List ℕ). ys ++ (little_bytes 8 v ++ drop (at + 8) (xs ++ zs))) (take-append-le at xs zs (omega (arith, inside)))
    ∙ ap (λ (ys : List ℕ). take at xs ++ (little_bytes 8 v ++ ys)) (drop-append-le (at + 8) xs zs inside)
    ∙ ap (λ (ys : List ℕ). take at xs ++ ys) (sym (append_assoc (little_bytes 8 v) (drop (at + 8) xs) zs))
    ∙ sym (append_assoc (take at xs) (little_bytes 8 v ++ drop (at + 8) xs) zs)

base_front : (base : ℕ) (xs zs : List ℕ) (at : ℕ) → at + 8 ≤ length xs → with_base base (xs ++ zs) at ≡ with_base base xs at ++ zs
base_front base xs zs at inside =
    ap (λ (n : ℕ). with_number (xs ++ zs) at 8 (n + base)) (number_front xs zs at inside)
    ∙ put_front xs zs at (number_at xs at 8 + base) inside

bases_front : (base : ℕ) (xs zs fixes : List ℕ) (n : ℕ) → n ≤ length xs → All (λ at. at + 8 ≤ n) fixes
    → fold (with_base base) (xs ++ zs) fixes ≡ fold (with_base base) xs fixes ++ zs
bases_front base xs zs [] n fits all = refl
bases_front base xs zs (at ∷ fixes) n fits all =
    let P : ℕ → Type 0 = λ i. i + 8 ≤ n in
    let first : at + 8 ≤ n = All-get_or P (at ∷ fixes) 0 0 (omega arith) all in
    let rest : All P fixes = All-drop P 1 (at ∷ fixes) all in
    let same : length (with_base base xs at) ≡ length xs = length_stays xs at 8 (number_at xs at 8 + base) (omega (arith, first, fits)) in
    ap (λ (ys : List ℕ). fold (with_base base) ys fixes) (base_front base xs zs at (omega (arith, first, fits)))
    ∙ bases_front base (with_base base xs at) zs fixes n (omega (arith, same, fits)) rest

-- ---- the opening memory

-- the changes from memory that is zero to the opening memory
pub record Openings (segment : Segment) (r0 r1 r2 r3 t0 t1 t2 t3 : ℕ) (b0 b1 b2 b3 : List ℕ) (m0 m1 m2 m3 : ℕ → Bool) : Type 0 where
  pub fits : FitsGlobals segment
  pub zeroed : IsZeroed b0
  pub empty : t0 ≡ stack_start
  pub heap : HasHeap r1 b1
  pub none : blocks_of r1 b1 ≡ []
  pub others : OthersStay b0 b1
  pub first : Keeps r0 r1 t0 t1 b0 b1 m0 m1
  pub put : b2 ≡ with_part b1 globals_start segment.bytes
  pub second : Keeps r1 r2 t1 t2 b1 b2 m1 m2
  pub third : HasBases r2 r3 t2 t3 b2 b3 m2 m3 segment.fixes []

pub openings : (segment : Segment) (r0 r1 r2 r3 t0 t1 t2 t3 : ℕ) (b0 b1 b2 b3 : List ℕ) (m0 m1 m2 m3 : ℕ → Bool) (bytes fixes : List ℕ)
    → bytes ≡ segment.bytes → fixes ≡ segment.fixes → FitsGlobals segment → IsZeroed b0 → t0 ≡ stack_start → HasHeap r1 b1 → blocks_of r1 b1 ≡ []
    → OthersStay b0 b1 → Keeps r0 r1 t0 t1 b0 b1 m0 m1 → b2 ≡ with_part b1 globals_start bytes → Keeps r1 r2 t1 t2 b1 b2 m1 m2
    → HasBases r2 r3 t2 t3 b2 b3 m2 m3 fixes [] → Openings segment r0 r1 r2 r3 t0 t1 t2 t3 b0 b1 b2 b3 m0 m1 m2 m3
openings segment r0 r1 r2 r3 t0 t1 t2 t3 b0 b1 b2 b3 m0 m1 m2 m3 bytes fixes bytes_are fixes_are fits zeroed empty heap none others first put second third =
    record {
      fits = fits;
      zeroed = zeroed;
      empty = empty;
      heap = heap;
      none = none;
      others = others;
      first = first;
      put = put ∙ ap (with_part b1 globals_start) bytes_are;
      second = second;
      third = subst (λ (xs : List ℕ). HasBases r2 r3 t2 t3 b2 b3 m2 m3 xs []) fixes_are third;
    }

whole_is : (segment : Segment) (r0 r1 r2 r3 t0 t1 t2 t3 : ℕ) (b0 b1 b2 b3 : List ℕ) (m0 m1 m2 m3 : ℕ → Bool)
    → Openings segment r0 r1 r2 r3 t0 t1 t2 t3 b0 b1 b2 b3 m0 m1 m2 m3 → length b1 ≡ range_bytes
whole_is segment r0 r1 r2 r3 t0 t1 t2 t3 b0 b1 b2 b3 m0 m1 m2 m3 o = o.first.whole ∙ o.zeroed.whole

zeros_are : (segment : Segment) (r0 r1 r2 r3 t0 t1 t2 t3 : ℕ) (b0 b1 b2 b3 : List ℕ) (m0 m1 m2 m3 : ℕ → Bool)
    → Openings segment r0 r1 r2 r3 t0 t1 t2 t3 b0 b1 b2 b3 m0 m1 m2 m3
    → (i : ℕ) → 4096 ≤ i → (i < descriptors_start) ⊎ (globals_start ≤ i) → slice_index b1 i ≡ 0
zeros_are segment r0 r1 r2 r3 t0 t1 t2 t3 b0 b1 b2 b3 m0 m1 m2 m3 o i low apart = o.others i low apart ∙ o.zeroed.zeros i

put_beside_is : (segment : Segment) (b1 b2 : List ℕ) → FitsGlobals segment → length b1 ≡ range_bytes → b2 ≡ with_part b1 globals_start segment.bytes
    → StayBeside b1 b2 globals_start heap_start
put_beside_is segment b1 b2 fits whole put =
    let room = fits.room in
    subst (λ (bytes : List ℕ). StayBeside b1 bytes globals_start heap_start) (sym put)
    (put_beside b1 segment.bytes globals_start globals_start heap_start (omega (arith, room, whole)) (omega arith) (omega (arith, room)))

beside_is : (segment : Segment) (r0 r1 r2 r3 t0 t1 t2 t3 : ℕ) (b0 b1 b2 b3 : List ℕ) (m0 m1 m2 m3 : ℕ → Bool)
    → Openings segment r0 r1 r2 r3 t0 t1 t2 t3 b0 b1 b2 b3 m0 m1 m2 m3 → StayBeside b1 b3 globals_start heap_start
beside_is segment r0 r1 r2 r3 t0 t1 t2 t3 b0 b1 b2 b3 m0 m1 m2 m3 o =
    beside_both b1 b2 b3 globals_start heap_start
    (put_beside_is segment b1 b2 o.fits (whole_is segment r0 r1 r2 r3 t0 t1 t2 t3 b0 b1 b2 b3 m0 m1 m2 m3 o) o.put) o.third.beside

-- the globals before the base is added
put_globals_are : (bytes b1 b2 : List ℕ) (start size : ℕ) → start + size ≤ length b1 → length bytes ≤ size → ((i : ℕ) → start ≤ i → slice_index b1 i ≡ 0)
    → b2 ≡ with_part b1 start bytes → part b2 start size ≡ bytes ++ replicate (size - length bytes) 0
put_globals_are bytes b1 b2 start size whole room zeros put =
    let none : start - start ≡ 0 = omega arith in
    ap (λ (xs : List ℕ). part xs start size) put
    ∙ part_put b1 bytes start start size whole (omega arith) (omega (arith, room))
    ∙ ap (λ (at : ℕ). with_part (part b1 start size) at bytes) none
    ∙ ap (λ (xs : List ℕ). with_part xs 0 bytes) (zero_part b1 start size whole zeros)
    ∙ put_zeros size bytes

globals_are : (segment : Segment) (r0 r1 r2 r3 t0 t1 t2 t3 : ℕ) (b0 b1 b2 b3 : List ℕ) (m0 m1 m2 m3 : ℕ → Bool)
    → Openings segment r0 r1 r2 r3 t0 t1 t2 t3 b0 b1 b2 b3 m0 m1 m2 m3 → (size : ℕ) → size ≡ heap_start - globals_start
    → part b3 globals_start size ≡ fold (with_base (base_of r0)) segment.bytes segment.fixes ++ replicate (size - length segment.bytes) 0
globals_are segment r0 r1 r2 r3 t0 t1 t2 t3 b0 b1 b2 b3 m0 m1 m2 m3 o size is =
    let whole = whole_is segment r0 r1 r2 r3 t0 t1 t2 t3 b0 b1 b2 b3 m0 m1 m2 m3 o in
    let room = o.fits.room in
    let owner : r2 ≡ r0 = o.second.owner ∙ o.first.owner in
    let zeros = zeros_are segment r0 r1 r2 r3 t0 t1 t2 t3 b0 b1 b2 b3 m0 m1 m2 m3 o in
    ap (part b3 globals_start) is
    ∙ o.third.globals
    ∙ ap (λ (r : ℕ). fold (with_base (base_of r)) (globals_of b2) segment.fixes) owner
    ∙ ap (λ (n : ℕ). fold (with_base (base_of r0)) (part b2 globals_start n) segment.fixes) (sym is)
    ∙ ap (λ (xs : List ℕ). fold (with_base (base_of r0)) xs segment.fixes)
    (put_globals_are segment.bytes b1 b2 globals_start size (omega (arith, whole, is)) (omega (arith, room, is))
    (λ i from. zeros i (omega (arith, from)) (inr from)) o.put)
    ∙ bases_front (base_of r0) segment.bytes (replicate (size - length segment.bytes) 0) segment.fixes (length segment.bytes) (omega arith) o.fits.inside

heap_is : (segment : Segment) (r0 r1 r2 r3 t0 t1 t2 t3 : ℕ) (b0 b1 b2 b3 : List ℕ) (m0 m1 m2 m3 : ℕ → Bool)
    → Openings segment r0 r1 r2 r3 t0 t1 t2 t3 b0 b1 b2 b3 m0 m1 m2 m3 → (size : ℕ) → size ≡ stack_start - heap_start
    → part b3 heap_start size ≡ replicate size 0
heap_is segment r0 r1 r2 r3 t0 t1 t2 t3 b0 b1 b2 b3 m0 m1 m2 m3 o size is =
    let whole = whole_is segment r0 r1 r2 r3 t0 t1 t2 t3 b0 b1 b2 b3 m0 m1 m2 m3 o in
    let zeros = zeros_are segment r0 r1 r2 r3 t0 t1 t2 t3 b0 b1 b2 b3 m0 m1 m2 m3 o in
    part_stays b1 b3 globals_start heap_start heap_start size (beside_is segment r0 r1 r2 r3 t0 t1 t2 t3 b0 b1 b2 b3 m0 m1 m2 m3 o)
    (o.third.kept.whole ∙ o.second.whole) (omega (arith, whole, is)) (inr (omega arith))
    ∙ zero_part b1 heap_start size (omega (arith, whole, is)) (λ i from. zeros i (omega (arith, from)) (inr (omega (arith, from))))

pub has_heap_is : (segment : Segment) (r0 r1 r2 r3 t0 t1 t2 t3 : ℕ) (b0 b1 b2 b3 : List ℕ) (m0 m1 m2 m3 : ℕ → Bool)
    → Openings segment r0 r1 r2 r3 t0 t1 t2 t3 b0 b1 b2 b3 m0 m1 m2 m3 → HeapBytesStay b1 b3 × HasHeap r3 b3
has_heap_is segment r0 r1 r2 r3 t0 t1 t2 t3 b0 b1 b2 b3 m0 m1 m2 m3 o =
    let beside = beside_is segment r0 r1 r2 r3 t0 t1 t2 t3 b0 b1 b2 b3 m0 m1 m2 m3 o in
    let stay : HeapBytesStay b1 b3 =
    λ i apart. beside.at i (inl (elim apart [ inl before ↦ omega (arith, before) | inr both ↦ both.1 ])) in
    (stay, heap_stays r1 r3 b1 b3 (o.third.kept.owner ∙ o.second.owner) stay o.heap)

pub rest_is_zero : (segment : Segment) (r0 r1 r2 r3 t0 t1 t2 t3 : ℕ) (b0 b1 b2 b3 : List ℕ) (m0 m1 m2 m3 : ℕ → Bool)
    → Openings segment r0 r1 r2 r3 t0 t1 t2 t3 b0 b1 b2 b3 m0 m1 m2 m3 → RestIsZero b3
rest_is_zero segment r0 r1 r2 r3 t0 t1 t2 t3 b0 b1 b2 b3 m0 m1 m2 m3 o i low apart =
    let beside = beside_is segment r0 r1 r2 r3 t0 t1 t2 t3 b0 b1 b2 b3 m0 m1 m2 m3 o in
    let zeros = zeros_are segment r0 r1 r2 r3 t0 t1 t2 t3 b0 b1 b2 b3 m0 m1 m2 m3 o in
    beside.at i (elim apart [ inl before ↦ inl (omega (arith, before)) | inr behind ↦ inr behind ])
    ∙ zeros i low (elim apart [ inl before ↦ inl before | inr behind ↦ inr (omega (arith, behind)) ])

same_memory : (r s : ℕ) (g h k gs hs ks : List ℕ) (xs ys : List Block) → r ≡ s → g ≡ gs → h ≡ hs → k ≡ ks → xs ≡ ys
    → seen (areas_with r g h k) xs ≡ seen (areas_with s gs hs ks) ys
same_memory r s g h k gs hs ks xs ys rank globals heap stack blocks =
    ap (λ (n : ℕ). seen (areas_with n g h k) xs) rank ∙ ap (λ (z : List ℕ). seen (areas_with s z h k) xs) globals
    ∙ ap (λ (z : List ℕ). seen (areas_with s gs z k) xs) heap ∙ ap (λ (z : List ℕ). seen (areas_with s gs hs z) xs) stack
    ∙ ap (seen (areas_with s gs hs ks)) blocks

pub is_opened : (segment : Segment) (r0 r1 r2 r3 t0 t1 t2 t3 : ℕ) (b0 b1 b2 b3 : List ℕ) (m0 m1 m2 m3 : ℕ → Bool)
    → Openings segment r0 r1 r2 r3 t0 t1 t2 t3 b0 b1 b2 b3 m0 m1 m2 m3 → memory_of r3 t3 b3 ≡ opened segment r0
unfolding memory_of areas_of opened
is_opened segment r0 r1 r2 r3 t0 t1 t2 t3 b0 b1 b2 b3 m0 m1 m2 m3 o =
    let top : t3 ≡ stack_start = o.third.kept.stack ∙ o.second.stack ∙ o.first.stack ∙ o.empty in
    let none : t3 - stack_start ≡ 0 = omega (arith, top) in
    let heap = has_heap_is segment r0 r1 r2 r3 t0 t1 t2 t3 b0 b1 b2 b3 m0 m1 m2 m3 o in
    same_memory _ _ _ _ _ _ _ _ _ _
    (o.third.kept.owner ∙ o.second.owner ∙ o.first.owner)
    (globals_are segment r0 r1 r2 r3 t0 t1 t2 t3 b0 b1 b2 b3 m0 m1 m2 m3 o (heap_start - globals_start) refl)
    (heap_is segment r0 r1 r2 r3 t0 t1 t2 t3 b0 b1 b2 b3 m0 m1 m2 m3 o (stack_start - heap_start) refl)
    (no_part b3 stack_start (t3 - stack_start) none)
    (blocks_stay r3 b1 b3 heap.0 ∙ ap (λ (r : ℕ). blocks_of r b1) (o.third.kept.owner ∙ o.second.owner) ∙ o.none)

pub is_kept : (segment : Segment) (r0 r1 r2 r3 t0 t1 t2 t3 : ℕ) (b0 b1 b2 b3 : List ℕ) (m0 m1 m2 m3 : ℕ → Bool)
    → Openings segment r0 r1 r2 r3 t0 t1 t2 t3 b0 b1 b2 b3 m0 m1 m2 m3 → Keeps r0 r3 t0 t3 b0 b3 m0 m3
is_kept segment r0 r1 r2 r3 t0 t1 t2 t3 b0 b1 b2 b3 m0 m1 m2 m3 o =
    keeps_both r0 r2 r3 t0 t2 t3 b0 b2 b3 m0 m2 m3 (keeps_both r0 r1 r2 t0 t1 t2 b0 b1 b2 m0 m1 m2 o.first o.second) o.third.kept

-- each address in the segment lies in the globals
pub fixes_inside : (segment : Segment) → FitsGlobals segment → (fixes : List ℕ) → All (λ at. at + 8 ≤ length segment.bytes) fixes
    → All (λ at. at + 8 ≤ heap_start - globals_start) fixes
fixes_inside segment fits fixes all =
    let room = fits.room in
    All-from_get_or (λ at. at + 8 ≤ heap_start - globals_start) fixes 0
    (λ i below. let inside = All-get_or (λ at. at + 8 ≤ length segment.bytes) fixes i 0 below all in omega (arith, room, inside))

-- ---- the bytes of the segment

-- the globals have room for it
globals_open : (rank top a : ℕ) (bytes : List ℕ) → a ≡ base_of rank + globals_start → length bytes ≤ heap_start - globals_start
    → Accessible rank top a (length bytes)
globals_open rank top a bytes is room = inl (λ i below. (omega (arith, is), omega (arith, is, below, room)))

pub globals_put : {X E : Type 0} (r : Result X E) (rank top a : ℕ) (old new bytes : List ℕ) → a ≡ base_of rank + globals_start
    → length bytes ≤ heap_start - globals_start → OnOk r (new ≡ with_part old (a - base_of rank) bytes)
    → OnErr r (Accessible rank top a (length bytes) → ⊥) → new ≡ with_part old globals_start bytes
globals_put r rank top a old new bytes is room ok refused =
    let at : a - base_of rank ≡ globals_start = omega (arith, is) in
    filled r (Accessible rank top a (length bytes)) (new ≡ with_part old (a - base_of rank) bytes) (globals_open rank top a bytes is room) ok refused
    ∙ ap (λ (i : ℕ). with_part old i bytes) at

pub globals_kept : {X E : Type 0} (r : Result X E) (rank new_rank top new_top a : ℕ) (old new bytes : List ℕ) (marks new_marks : ℕ → Bool)
    → a ≡ base_of rank + globals_start → length bytes ≤ heap_start - globals_start → IsRange top old
    → OnOk r (new ≡ with_part old (a - base_of rank) bytes) → OnErr r (Accessible rank top a (length bytes) → ⊥)
    → OnOk r (MarksChanges old new marks new_marks) → new_rank ≡ rank → new_top ≡ top → Keeps rank new_rank top new_top old new marks new_marks
globals_kept r rank new_rank top new_top a old new bytes marks new_marks is room range ok refused changes owner stack =
    let whole = range.whole in
    record {
      owner = owner;
      stack = stack;
      whole = ap length (globals_put r rank top a old new bytes is room ok refused) ∙ put_length old bytes globals_start (omega (arith, whole, room));
      marks =
          filled r (Accessible rank top a (length bytes)) (MarksChanges old new marks new_marks) (globals_open rank top a bytes is room) changes refused;
    }
