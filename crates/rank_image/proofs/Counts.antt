-- How often each node stands in lists, by counts up to 255.
use Rattle.std.proofs.Common.{◌≡◌, ◌∙◌, ◌+◌, ◌<◌, ◌≤◌, ℕ, zero, suc, Bool, true, false, ◌&&◌, ◌==◌, if◌then◌else◌, List, [], ◌∷◌, ◌++◌, ◌⊎◌, length, take, drop, get_or, set, min, refl, sym, ap, inl, inr, arith}
use Rattle.std.specs.Prelude.{slice_index}
use Rattle.std.specs.List.{list_all}
use Rattle.std.proofs.lemmas.Bool.Decides.{nat_tests}
use Rattle.std.proofs.lemmas.List.{take_more, get_or-set_same, get_or-set_other}
use Rattle.std.proofs.lemmas.Bool.{cases_eq, eq-eqb, ne_eqb}
use Rattle.std.proofs.Math.Seq.{take-length}
use Rattle.rank_range.specs.Nodes.{node_count, times_in}
use Rattle.rank_image.specs.HeapTest.{is_each_once}

pub times_append : (n : ℕ) (xs ys : List ℕ) → times_in n (xs ++ ys) ≡ times_in n xs + times_in n ys
times_append n [] ys = omega arith
times_append n (x ∷ xs) ys = omega (arith, times_append n xs ys)

-- one node more
pub times_more : (n : ℕ) (xs : List ℕ) (i x : ℕ) → i < length xs → x ≡ get_or xs i 0
    → times_in n (take (i + 1) xs) ≡ times_in n (take i xs) + (if n == x then 1 else 0)
times_more n xs i x inside is =
    ap (times_in n) (take_more xs i 0 inside) ∙ times_append n (take i xs) (get_or xs i 0 ∷ [])
    ∙ ap (λ y. times_in n (take i xs) + times_in n (y ∷ [])) (sym is) ∙ omega arith

is_one : (t c : ℕ) → c ≡ min 255 t → (c == 1) ≡ (t == 1)
is_one t c is = grind (arith, nat_tests, is)

all_append : (p : ℕ → Bool) (xs ys : List ℕ) → list_all p (xs ++ ys) ≡ (list_all p xs && list_all p ys)
all_append p [] ys = refl
all_append p (x ∷ xs) ys = ap (λ b. p x && b) (all_append p xs ys) ∙ regroup (p x) (list_all p xs) (list_all p ys)
  where
    regroup : (a b c : Bool) → (a && (b && c)) ≡ ((a && b) && c)
    regroup true b c = refl
    regroup false b c = refl

swapped : (a b : Bool) → (a && (b && true)) ≡ (b && a)
swapped true true = refl
swapped true false = refl
swapped false true = refl
swapped false false = refl

-- the counts of the first nodes
counts_to : (counts xs : List ℕ) → ((n : ℕ) → n < node_count → slice_index counts n ≡ min 255 (times_in n xs))
    → (k : ℕ) → k ≤ length counts → k ≤ node_count → list_all (λ n. n == 1) (take k counts) ≡ is_each_once k xs
unfolding is_each_once
counts_to counts xs h zero inside below = refl
counts_to counts xs h (suc k) inside below =
    let one : (slice_index counts k == 1) ≡ (times_in k xs == 1) = is_one (times_in k xs) (slice_index counts k) (h k (omega (arith, below))) in
    let next : suc k ≡ k + 1 = omega arith in
    ap (λ j. list_all (λ n. n == 1) (take j counts)) next ∙ ap (list_all (λ n. n == 1)) (take_more counts k 0 (omega (arith, inside)))
    ∙ all_append (λ n. n == 1) (take k counts) (slice_index counts k ∷ [])
    ∙ ap (λ b. b && ((slice_index counts k == 1) && true)) (counts_to counts xs h k (omega (arith, inside)) (omega (arith, below)))
    ∙ swapped (is_each_once k xs) (slice_index counts k == 1)
    ∙ ap (λ b. b && is_each_once k xs) one

pub counts_once : (counts xs : List ℕ) (k : ℕ) → k ≡ node_count → length counts ≡ k
    → ((n : ℕ) → n < node_count → slice_index counts n ≡ min 255 (times_in n xs))
    → list_all (λ n. n == 1) counts ≡ is_each_once k xs
counts_once counts xs k is whole h =
    ap (list_all (λ n. n == 1)) (sym (ap (λ j. take j counts) (sym whole) ∙ take-length counts))
    ∙ counts_to counts xs h k (omega (arith, whole)) (omega (arith, is))

-- two lists that are counted one after the other
pub counted_both : (zeros one both xs ys : List ℕ) → ((i : ℕ) → slice_index zeros i ≡ 0)
    → ((n : ℕ) → n < node_count → slice_index one n ≡ min 255 (slice_index zeros n + times_in n xs))
    → ((n : ℕ) → n < node_count → slice_index both n ≡ min 255 (slice_index one n + times_in n ys))
    → (n : ℕ) → n < node_count → slice_index both n ≡ min 255 (times_in n (xs ++ ys))
counted_both zeros one both xs ys none first second n h =
    omega (arith, none n, first n h, second n h, times_append n xs ys)

-- one node more is counted
counted_at : (counts old nodes new : List ℕ) (i number v n : ℕ) → length counts ≡ node_count
    → slice_index counts n ≡ min 255 (slice_index old n + times_in n (take i nodes)) → i < length nodes → number ≡ get_or nodes i 0
    → number < node_count → v ≡ min 255 (slice_index counts number + 1) → new ≡ set counts number v
    → n < node_count → (n ≡ number) ⊎ (n ≡ number → ⊥)
    → slice_index new n ≡ min 255 (slice_index old n + times_in n (take (i + 1) nodes))
counted_at counts old nodes new i number v n whole was inside is small one put below (inl same) =
    let there : slice_index new n ≡ v =
    ap (λ z. slice_index z n) put ∙ ap (λ k. slice_index (set counts number v) k) same ∙ get_or-set_same counts number v 0 (omega (arith, whole, small)) in
    let here : slice_index counts n ≡ slice_index counts number = ap (slice_index counts) same in
    let more = times_more n nodes i number inside is in
    let step : ◌≡◌ {A = ℕ} (if n == number then 1 else 0) 1 = rw (eq-eqb n number same) refl in
    omega (arith, there, one, here, was, more, step)
counted_at counts old nodes new i number v n whole was inside is small one put below (inr other) =
    let there : slice_index new n ≡ slice_index counts n =
    ap (λ z. slice_index z n) put ∙ get_or-set_other counts number n v 0 other in
    let more = times_more n nodes i number inside is in
    let step : ◌≡◌ {A = ℕ} (if n == number then 1 else 0) 0 = rw (ne_eqb n number other) refl in
    omega (arith, there, was, more, step)

pub counted_more : (counts old nodes new : List ℕ) (i number v : ℕ) → length counts ≡ node_count
    → ((n : ℕ) → n < node_count → slice_index counts n ≡ min 255 (slice_index old n + times_in n (take i nodes)))
    → i < length nodes → number ≡ get_or nodes i 0 → number < node_count → v ≡ min 255 (slice_index counts number + 1) → new ≡ set counts number v
    → (n : ℕ) → n < node_count → slice_index new n ≡ min 255 (slice_index old n + times_in n (take (i + 1) nodes))
counted_more counts old nodes new i number v whole was inside is small one put n below =
    counted_at counts old nodes new i number v n whole (was n below) inside is small one put below (cases_eq n number)
