-- What is accessible has no more bytes than a range.
use Rattle.std.proofs.Common.{◌≡◌, ℕ, ◌-◌, ◌≤◌, Bool, true, false, cond, List, [], length, take, drop, arith, refl, Some, None}
use Rattle.std.specs.Prelude.{nat_le, is_some}
use Rattle.std.proofs.lemmas.Bool.{leb-true}
use Rattle.std.proofs.lemmas.List.{length-drop, length-take}
use Rattle.rank_range.specs.Areas.{Areas, areas_of, bytes_from, bytes_at, is_in, globals_at, heap_at, stack_at}
use Rattle.rank_range.specs.Layout.{globals_start, heap_start, stack_start, range_bytes, IsRange}
use Rattle.rank_range.specs.Parts.{part}
use Rattle.mpi_rules.specs.Places.{is_open}

any_of : (b c d : Bool) (x y z : List ℕ) (n : ℕ) → length x ≤ n → length y ≤ n → length z ≤ n
    → length (cond b x (cond c y (cond d z []))) ≤ n
any_of true c d x y z n hx hy hz = hx
any_of false true d x y z n hx hy hz = hy
any_of false false true x y z n hx hy hz = hz
any_of false false false x y z n hx hy hz = omega arith

part_small : (bytes : List ℕ) (at n k : ℕ) → length (drop k (part bytes at n)) ≤ length bytes
unfolding part
part_small bytes at n k =
    omega (arith, length-drop k (take n (drop at bytes)), length-take n (drop at bytes), length-drop at bytes)

rest_small : (rank top a : ℕ) (bytes : List ℕ) → length (bytes_from (areas_of rank top bytes) a) ≤ length bytes
unfolding bytes_from areas_of
rest_small rank top a bytes =
    let areas : Areas = areas_of rank top bytes in
    any_of (is_in (globals_at areas) areas.globals a) (is_in (heap_at areas) areas.heap a) (is_in (stack_at areas) areas.stack a)
    (drop (a - globals_at areas) areas.globals) (drop (a - heap_at areas) areas.heap) (drop (a - stack_at areas) areas.stack) (length bytes)
    (part_small bytes globals_start (heap_start - globals_start) (a - globals_at areas))
    (part_small bytes heap_start (stack_start - heap_start) (a - heap_at areas))
    (part_small bytes stack_start (top - stack_start) (a - stack_at areas))

some_then : (b : Bool) (xs : List ℕ) → is_some (cond b (Some xs) None) ≡ true → b ≡ true
some_then true xs h = refl
some_then false xs h = cc

pub open_small : (rank top a n : ℕ) (bytes : List ℕ) → IsRange top bytes → is_open (areas_of rank top bytes) a n ≡ true → n ≤ range_bytes
unfolding is_open bytes_at
open_small rank top a n bytes range h =
    let there : List ℕ = bytes_from (areas_of rank top bytes) a in
    omega (arith, leb-true n (length there) (some_then (nat_le n (length there)) (take n there) h), rest_small rank top a bytes, range.whole)
