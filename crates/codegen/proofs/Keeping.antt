-- What a program does to its memory leaves the data stack as long as it is.
use Rattle.std.proofs.Common.{◌≡◌, ◌⊎◌, inl, inr, ℕ, zero, suc, ◌+◌, ◌-◌, ◌≤◌, ◌<◌, Bool, true, false, List, [], ◌∷◌, length, refl, sym, ap, ◌∙◌, subst, arith, drop, replicate, length-append}
use Rattle.std.specs.Prelude.{nat_le, nat_lt, nat_eq, ◌==◌, ◌&&◌, ◌*◌, ◌^◌, ◌++◌, if◌then◌else◌, Option, Some, None, option_map, option_and_then, Result, Ok, Err, ℤ}
use Rattle.std.proofs.lemmas.Bool.Decides.{nat_tests}
use Rattle.std.proofs.lemmas.List.{length-drop, length-replicate}
use Rattle.rank_range.specs.Layout.{base_of, globals_start, heap_start, stack_start}
use Rattle.rank_range.specs.Parts.{with_part}
use Rattle.rank_range.specs.Areas.{Areas, Memory, with_areas, is_in, is_between, globals_at, heap_at, stack_at, bytes_from, bytes_at, put_at, with_bytes_at, copied_at, with_number_of, take_block, give_block, text_at}
use Rattle.rank_range.specs.Heap.{first_fit, rounded, is_live, IsFirstFit, AreFirstFits}
use Rattle.rank_range.specs.declared.kinds.Kind.{Kind}
use Rattle.rank_range.specs.Library as library
use Rattle.rank_range.specs.Library.{argument, printed, written, with_read, with_written, with_number, with_int, texts_compared, atoi_value, compared}
use Rattle.rank_range.specs.Formats.{format_of}
use Rattle.rank_range.proofs.PartLemmas.{put_length}
use Rattle.rank_range.proofs.FitLemmas.{are_first_fits}
use Rattle.am_base.specs.declared.calls.LibCall.{LibCall}
use Rattle.am_base.specs.declared.calls.LibCall.TheVariants as lib
use Rattle.mpi_types.specs.declared.call.Write.{Write}
use Rattle.vm_code.specs.Memory.{stack_top, with_areas_of, stored, copied, zeroed, with_frame, with_arguments, written_or_kept, written_all, cut_to, address_of}
use Rattle.vm_code.specs.declared.code.Parameter.{Parameter}
use Rattle.vm_code.specs.Library.{LibraryDone, Does, Fails, Exits, library_does, in_memory, given, given_back}

-- how long the data stack is
abbrev pub long : Areas → ℕ
long areas = length areas.stack

-- bytes that are put where there are as many leave it so
put_long_by : (areas : Areas) (a : ℕ) (new : List ℕ) (globals heap stack : Bool)
    → is_in (globals_at areas) areas.globals a ≡ globals → is_in (heap_at areas) areas.heap a ≡ heap → is_in (stack_at areas) areas.stack a ≡ stack
    → (globals ≡ false → heap ≡ false → stack ≡ true → (a - stack_at areas) + length new ≤ length areas.stack)
    → long (put_at areas a new) ≡ long areas
unfolding put_at
put_long_by areas a new true heap stack g h s fits = rw g refl
put_long_by areas a new false true stack g h s fits = rw (g, h) refl
put_long_by areas a new false false true g h s fits = rw (g, h, s) (put_length areas.stack new (a - stack_at areas) (fits refl refl refl))
put_long_by areas a new false false false g h s fits = rw (g, h, s) refl

in_stack : (areas : Areas) (a : ℕ) → is_in (stack_at areas) areas.stack a ≡ true → (stack_at areas ≤ a) × (a < stack_at areas + length areas.stack)
in_stack areas a e = (grind (arith, nat_tests), grind (arith, nat_tests))

from_long : (areas : Areas) (a : ℕ) → is_in (globals_at areas) areas.globals a ≡ false → is_in (heap_at areas) areas.heap a ≡ false
    → is_in (stack_at areas) areas.stack a ≡ true → length (bytes_from areas a) ≡ length areas.stack - (a - stack_at areas)
unfolding bytes_from
from_long areas a g h s = rw (g, h, s) (length-drop (a - stack_at areas) areas.stack)

checked_by : (areas : Areas) (a : ℕ) (new : List ℕ) (b : Bool) → nat_le (length new) (length (bytes_from areas a)) ≡ b → (areas' : Areas)
    → with_bytes_at areas a new ≡ Some areas' → long areas' ≡ long areas
unfolding with_bytes_at
checked_by areas a new false e areas' is = absurd (no (rw e at is))
  where
    no : None ≡ Some areas' → ⊥
    no x = cc
checked_by areas a new true e areas' is =
    let fits : length new ≤ length (bytes_from areas a) = grind (arith, nat_tests) in
    let same : put_at areas a new ≡ areas' = some (rw e at is) in
    ap long (sym same)
    ∙ put_long_by areas a new (is_in (globals_at areas) areas.globals a) (is_in (heap_at areas) areas.heap a) (is_in (stack_at areas) areas.stack a) refl refl refl
    (λ g h s.
    let there = in_stack areas a s in
    omega (arith, there.0, there.1, fits, from_long areas a g h s))
  where
    some : Some (put_at areas a new) ≡ Some areas' → put_at areas a new ≡ areas'
    some x = cc

pub bytes_long : (areas : Areas) (a : ℕ) (new : List ℕ) (areas' : Areas) → with_bytes_at areas a new ≡ Some areas' → long areas' ≡ long areas
bytes_long areas a new areas' is = checked_by areas a new (nat_le (length new) (length (bytes_from areas a))) refl areas' is

-- so do all that write in a memory
top_of_areas : (m : Memory) (areas : Areas) → long areas ≡ long m.areas → stack_top (with_areas areas m) ≡ stack_top m
top_of_areas m areas e = ap (λ k. stack_start + k) e

by_option : (m m' : Memory) (o : Option Areas) → ((areas : Areas) → o ≡ Some areas → long areas ≡ long m.areas)
    → option_map (with_areas_of m) o ≡ Some m' → stack_top m' ≡ stack_top m
by_option m m' None keeps e = absurd (no e)
  where
    no : None ≡ Some m' → ⊥
    no x = cc
by_option m m' (Some areas) keeps e = ap stack_top (sym (same e)) ∙ top_of_areas m areas (keeps areas refl)
  where
    same : Some (with_areas areas m) ≡ Some m' → with_areas areas m ≡ m'
    same x = cc

pub stored_keeps : (m m' : Memory) (k : Kind) (a word : ℕ) → stored m k a word ≡ Some m' → stack_top m' ≡ stack_top m
unfolding stored with_number_of
stored_keeps m m' k a word e = by_option m m' _ (λ areas is. bytes_long m.areas a _ areas is) e

pub zeroed_keeps : (m m' : Memory) (a n : ℕ) → zeroed m a n ≡ Some m' → stack_top m' ≡ stack_top m
unfolding zeroed
zeroed_keeps m m' a n e = by_option m m' _ (λ areas is. bytes_long m.areas a _ areas is) e

copied_by : (m m' : Memory) (to : ℕ) (o : Option (List ℕ))
    → elim o [ None ↦ None | Some bytes ↦ option_map (with_areas_of m) (with_bytes_at m.areas to bytes) ] ≡ Some m' → stack_top m' ≡ stack_top m
copied_by m m' to None e = absurd (no e)
  where
    no : None ≡ Some m' → ⊥
    no x = cc
copied_by m m' to (Some bytes) e = by_option m m' _ (λ areas is. bytes_long m.areas to bytes areas is) e

pub copied_keeps : (m m' : Memory) (to from n : ℕ) → copied m to from n ≡ Some m' → stack_top m' ≡ stack_top m
unfolding copied
copied_keeps m m' to from n e = copied_by m m' to (bytes_at m.areas from n) e

or_kept : (m : Memory) (o : Option Memory) → ((m' : Memory) → o ≡ Some m' → stack_top m' ≡ stack_top m) → stack_top (written_or_kept o m) ≡ stack_top m
or_kept m None keeps = refl
or_kept m (Some m') keeps = keeps m' refl

pub written_keeps : (m : Memory) (ws : List Write) → stack_top (written_all m ws) ≡ stack_top m
unfolding written_all
written_keeps m [] = refl
written_keeps m (w ∷ ws) =
    written_keeps (written_or_kept (option_map (with_areas_of m) (with_bytes_at m.areas w.address w.bytes)) m) ws ∙ or_kept m (option_map (with_areas_of m) (with_bytes_at m.areas w.address w.bytes))
    (λ m' e. by_option m m' _ (λ areas is. bytes_long m.areas w.address w.bytes areas is) e)

-- ---- frames

pub arguments_keep : (ps : List Parameter) (words : List ℕ) (start : ℕ) (m : Memory) → stack_top (with_arguments ps words start m) ≡ stack_top m
arguments_keep [] words start m = refl
arguments_keep (p ∷ ps) [] start m = refl
arguments_keep (p ∷ ps) (word ∷ words) start m =
    arguments_keep ps words start _ ∙ or_kept m (stored m p.kind (address_of m (start + p.offset)) word)
    (λ m' e. stored_keeps m m' p.kind (address_of m (start + p.offset)) word e)

pub frame_tops : (m : Memory) (size : ℕ) → stack_top (with_frame m size) ≡ stack_top m + size
unfolding with_frame
frame_tops m size =
    let e : length (m.areas.stack ++ replicate size 0) ≡ length m.areas.stack + size =
    length-append m.areas.stack (replicate size 0) ∙ ap (λ k. length m.areas.stack + k) (length-replicate {A = ℕ} size 0) in
    omega (arith, e)

-- ---- the library

abbrev KeepsLong : Areas → library.LibraryDone → Type 0
KeepsLong areas (library.Does value text new) = long new ≡ long areas
KeepsLong areas (library.Fails cause) = Unit {0}

read_keeps : (areas : Areas) (o : Option (List ℕ)) (next : List ℕ → library.LibraryDone) → ((bytes : List ℕ) → KeepsLong areas (next bytes))
    → KeepsLong areas (with_read o next)
read_keeps areas None next keeps = tt
read_keeps areas (Some bytes) next keeps = keeps bytes

number_keeps : (areas : Areas) (o : Option ℤ) → KeepsLong areas (with_number o areas)
number_keeps areas None = tt
number_keeps areas (Some z) = refl

int_keeps : (areas : Areas) (o : Option ℤ) → KeepsLong areas (with_int o areas)
int_keeps areas None = tt
int_keeps areas (Some z) = refl

print_keeps : (areas : Areas) (w : library.Written) → KeepsLong areas (printed areas w)
print_keeps areas (library.Writes text) = refl
print_keeps areas (library.Wrong cause) = tt

write_keeps : (areas : Areas) (value : ℕ) (o : Option Areas) → ((new : Areas) → o ≡ Some new → long new ≡ long areas)
    → KeepsLong areas (with_written o (λ new. library.Does value [] new))
write_keeps areas value None keeps = tt
write_keeps areas value (Some new) keeps = keeps new refl

copy_keeps : (areas : Areas) (value to : ℕ) (o : Option (List ℕ))
    → KeepsLong areas (with_written (option_and_then (with_bytes_at areas to) o) (λ new. library.Does value [] new))
copy_keeps areas value to None = tt
copy_keeps areas value to (Some bytes) = write_keeps areas value (with_bytes_at areas to bytes) (λ new is. bytes_long areas to bytes new is)

areas_keep : (call : LibCall) (words : List ℕ) (areas : Areas) → KeepsLong areas (library.library_does call words areas)
unfolding library.library_does copied_at
areas_keep lib.Printf words areas = print_keeps areas _
areas_keep lib.Puts words areas = read_keeps areas (text_at areas (argument words 0)) _ (λ text. refl)
areas_keep lib.Putchar words areas = refl
areas_keep lib.Memcpy words areas = copy_keeps areas (argument words 0) (argument words 0) (bytes_at areas (argument words 1) (argument words 2))
areas_keep lib.Memset words areas = write_keeps areas (argument words 0) _ (λ new is. bytes_long areas (argument words 0) _ new is)
areas_keep lib.Memcmp words areas =
    read_keeps areas (bytes_at areas (argument words 0) (argument words 2)) _ (λ xs.
    read_keeps areas (bytes_at areas (argument words 1) (argument words 2)) _ (λ ys. refl))
areas_keep lib.Strlen words areas = read_keeps areas (text_at areas (argument words 0)) _ (λ text. refl)
areas_keep lib.Strcmp words areas = number_keeps areas _
areas_keep lib.Strcpy words areas =
    read_keeps areas (text_at areas (argument words 1)) _ (λ text.
    write_keeps areas (argument words 0) _ (λ new is. bytes_long areas (argument words 0) _ new is))
areas_keep lib.Atoi words areas = int_keeps areas _
areas_keep lib.Abs words areas = refl
areas_keep lib.Malloc words areas = tt
areas_keep lib.Calloc words areas = tt
areas_keep lib.Free words areas = tt
areas_keep lib.Exit words areas = tt

-- what a call of the library gives keeps the top of the data stack
abbrev pub KeepsTop : Memory → LibraryDone → Type 0
KeepsTop m (Does value text new) = stack_top new ≡ stack_top m
KeepsTop m (Fails cause) = Unit {0}
KeepsTop m (Exits status) = Unit {0}

in_memory_keeps : (m : Memory) (r : library.LibraryDone) → KeepsLong m.areas r → KeepsTop m (in_memory m r)
in_memory_keeps m (library.Does value text areas) e = top_of_areas m areas e
in_memory_keeps m (library.Fails cause) e = tt

fit_long : (m : Memory) (size : ℕ) → IsFirstFit m.areas.rank m.blocks size (first_fit m.areas.rank m.blocks size)
    → (first_fit m.areas.rank m.blocks size == 0) ≡ false
    → long (put_at m.areas (first_fit m.areas.rank m.blocks size) (replicate (rounded size) 0)) ≡ long m.areas
fit_long m size (inr none) e = absurd (no (rw none.0 at e))
  where
    no : (0 == 0) ≡ false → ⊥
    no x = grind (arith, nat_tests)
fit_long m size (inl fit) e =
    let a = first_fit m.areas.rank m.blocks size in
    let before : a < stack_at m.areas = omega (arith, fit.1.to, some_bytes size) in
    put_long_by m.areas a (replicate (rounded size) 0) _ _ _ refl refl refl
    (λ g h s. let there = in_stack m.areas a s in absurd (omega (arith, there.0, before)))
  where
    some_bytes : (size : ℕ) → 1 ≤ rounded size
    some_bytes size = omega arith

taken_by : (m : Memory) (size : ℕ) (b : Bool) → (first_fit m.areas.rank m.blocks size == 0) ≡ b → stack_top (take_block size m).1 ≡ stack_top m
unfolding take_block
taken_by m size true e = rw e refl
taken_by m size false e =
    rw e (ap (λ k. stack_start + k) (fit_long m size (are_first_fits m.areas.rank m.blocks size) e))

taken_keeps : (m : Memory) (size : ℕ) → KeepsTop m (given (take_block size m))
taken_keeps m size = taken_by m size (first_fit m.areas.rank m.blocks size == 0) refl

calloc_by : (m : Memory) (size : ℕ) (b : Bool) → KeepsTop m (if b then given (take_block size m) else Does 0 [] m)
calloc_by m size true = taken_keeps m size
calloc_by m size false = refl

give_by : (m : Memory) (a : ℕ) (b : Bool) → is_live a m.blocks ≡ b → KeepsTop m (given_back (give_block a m))
unfolding give_block
give_by m a true e = rw e refl
give_by m a false e = rw e tt

free_by : (m : Memory) (a : ℕ) (b : Bool) → KeepsTop m (if b then Does 0 [] m else given_back (give_block a m))
free_by m a true = refl
free_by m a false = give_by m a (is_live a m.blocks) refl

pub library_keeps : (call : LibCall) (words : List ℕ) (m : Memory) → KeepsTop m (library_does call words m)
unfolding library_does
library_keeps lib.Malloc words m = taken_keeps m (argument words 0)
library_keeps lib.Calloc words m = calloc_by m (argument words 0 * argument words 1) (nat_lt (argument words 0 * argument words 1) (2 ^ 64))
library_keeps lib.Free words m = free_by m (argument words 0) (nat_eq (argument words 0) 0)
library_keeps lib.Exit words m = tt
library_keeps lib.Printf words m = in_memory_keeps m _ (areas_keep lib.Printf words m.areas)
library_keeps lib.Puts words m = in_memory_keeps m _ (areas_keep lib.Puts words m.areas)
library_keeps lib.Putchar words m = in_memory_keeps m _ (areas_keep lib.Putchar words m.areas)
library_keeps lib.Memcpy words m = in_memory_keeps m _ (areas_keep lib.Memcpy words m.areas)
library_keeps lib.Memset words m = in_memory_keeps m _ (areas_keep lib.Memset words m.areas)
library_keeps lib.Memcmp words m = in_memory_keeps m _ (areas_keep lib.Memcmp words m.areas)
library_keeps lib.Strlen words m = in_memory_keeps m _ (areas_keep lib.Strlen words m.areas)
library_keeps lib.Strcmp words m = in_memory_keeps m _ (areas_keep lib.Strcmp words m.areas)
library_keeps lib.Strcpy words m = in_memory_keeps m _ (areas_keep lib.Strcpy words m.areas)
library_keeps lib.Atoi words m = in_memory_keeps m _ (areas_keep lib.Atoi words m.areas)
library_keeps lib.Abs words m = in_memory_keeps m _ (areas_keep lib.Abs words m.areas)
