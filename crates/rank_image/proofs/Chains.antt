-- Nodes that are collected along their links.
use Rattle.std.proofs.Common.{◌≡◌, ◌∙◌, ◌+◌, ◌<◌, ◌≤◌, ℕ, zero, suc, true, false, nat_lt, List, [], ◌∷◌, ◌++◌, All, refl, sym, ap, subst, arith, append_assoc, append-nil}
use Rattle.std.proofs.lemmas.Bool.Decides.{nat_tests}
use Rattle.std.proofs.lemmas.Bool.{eq-eqb}
use Rattle.std.specs.Prelude.{Result, IfOk, slice_index, Bool, ◌&&◌, ◌==◌}
use Rattle.std.proofs.Common.{Ok, Err}
use Rattle.rank_image.specs.HeapTest.{used_of, unused_of, fits_header, fit_nodes, is_sound_heap, are_zero}
use Rattle.rank_range.specs.Nodes.{node_count, heap_units, first_node, first_unused, node_at, chain_of}

-- behind what is no node there is none
pub chain_ends : (bytes : List ℕ) (k n : ℕ) → node_count ≤ n → chain_of bytes k n ≡ []
chain_ends bytes zero n h = refl
chain_ends bytes (suc k) n h = let no : nat_lt n node_count ≡ false = grind (arith, nat_tests, h) in rw no refl

chain_steps : (bytes : List ℕ) (k m n : ℕ) → k ≡ suc m → n < node_count → chain_of bytes k n ≡ n ∷ chain_of bytes m (node_at bytes n).next
chain_steps bytes k m n is h =
    let yes : nat_lt n node_count ≡ true = grind (arith, nat_tests, h) in
    ap (λ j. chain_of bytes j n) is ∙ rw yes refl

-- one node more
pub more_nodes : (bytes all nodes pushed : List ℕ) (k m n next : ℕ) → all ≡ nodes ++ chain_of bytes k n → k ≡ suc m → n < node_count
    → pushed ≡ nodes ++ n ∷ [] → next ≡ (node_at bytes n).next → all ≡ pushed ++ chain_of bytes m next
more_nodes bytes all nodes pushed k m n next was is h push link =
    was ∙ ap (λ z. nodes ++ z) (chain_steps bytes k m n is h ∙ ap (λ j. n ∷ chain_of bytes m j) (sym link))
    ∙ sym (append_assoc nodes (n ∷ []) (chain_of bytes m next)) ∙ ap (λ z. z ++ chain_of bytes m next) (sym push)

-- the last node
pub no_more : (bytes all nodes : List ℕ) (k n : ℕ) → all ≡ nodes ++ chain_of bytes k n → chain_of bytes k n ≡ [] → nodes ≡ all
no_more bytes all nodes k n was none = sym (was ∙ ap (λ z. nodes ++ z) none ∙ append-nil nodes)

pub chain_none : (bytes : List ℕ) (k n : ℕ) → k ≡ 0 → chain_of bytes k n ≡ []
chain_none bytes k n is = ap (λ j. chain_of bytes j n) is

-- what is collected is what the test speaks of
pub used_is : (bytes items : List ℕ) (n first : ℕ) → items ≡ chain_of bytes n first → n ≡ heap_units → first ≡ first_node bytes → items ≡ used_of bytes
unfolding used_of
used_is bytes items n first e h k = e ∙ ap (λ m. chain_of bytes m first) h ∙ ap (λ m. chain_of bytes heap_units m) k

pub unused_is : (bytes items : List ℕ) (n first : ℕ) → items ≡ chain_of bytes n first → n ≡ node_count → first ≡ first_unused bytes → items ≡ unused_of bytes
unfolding unused_of
unused_is bytes items n first e h k = e ∙ ap (λ m. chain_of bytes m first) h ∙ ap (λ m. chain_of bytes node_count m) k

pub sound_with : (bytes used unused : List ℕ) (b : Bool) → b ≡ (fits_header bytes used unused && fit_nodes bytes used unused)
    → used ≡ used_of bytes → unused ≡ unused_of bytes → b ≡ is_sound_heap bytes
unfolding is_sound_heap
sound_with bytes used unused b told is other_is =
    told ∙ ap (λ us. fits_header bytes us unused && fit_nodes bytes us unused) is
    ∙ ap (λ us. fits_header bytes (used_of bytes) us && fit_nodes bytes (used_of bytes) us) other_is

pub if_ok_by : {X E : Type 0} (r : Result X E) (P Q : X → Type 0) → ((x : X) → P x → Q x) → IfOk r P → IfOk r Q
if_ok_by (Ok x) P Q step p = step x p
if_ok_by (Err e) P Q step p = tt

-- one byte less to be zero
pub zero_step : (bytes : List ℕ) (p q n m : ℕ) → n ≡ suc m → q ≡ p + 1 → slice_index bytes p ≡ 0 → are_zero bytes p n ≡ are_zero bytes q m
unfolding are_zero
zero_step bytes p q n m is next zero_there =
    let yes : (slice_index bytes p == 0) ≡ true = eq-eqb (slice_index bytes p) 0 zero_there in
    ap (are_zero bytes p) is ∙ rw yes (ap (λ k. are_zero bytes k m) (sym next))

-- one node behind others
all_with : (xs : List ℕ) (x : ℕ) → All (λ n. n < node_count) xs → x < node_count → All (λ n. n < node_count) (xs ++ x ∷ [])
all_with [] x all h zero d inside = h
all_with [] x all h (suc k) d inside = absurd (omega (arith, inside))
all_with (y ∷ ys) x all h zero d inside = all 0 d (omega arith)
all_with (y ∷ ys) x all h (suc k) d inside =
    all_with ys x (λ j e below. all (suc j) e (omega (arith, below))) h k d (omega (arith, inside))

pub all_push : (xs ys : List ℕ) (x : ℕ) → All (λ n. n < node_count) xs → x < node_count → ys ≡ xs ++ x ∷ [] → All (λ n. n < node_count) ys
all_push xs ys x all h push = subst (λ zs. All (λ n. n < node_count) zs) (sym push) (all_with xs x all h)
