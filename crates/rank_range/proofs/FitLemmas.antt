-- What is computed as the first fit is it, and what is read along the links is what the bytes spell.
use Rattle.std.proofs.Common.{◌≡◌, ℕ, zero, suc, ◌+◌, ◌*◌, ◌<◌, ◌≤◌, ◌⊎◌, ◌∙◌, inl, inr, Bool, true, false, List, [], ◌∷◌, length, refl, sym, ap, subst, arith}
use Rattle.std.specs.Prelude.{if◌then◌else◌, nat_le, nat_lt, ◌==◌, ◌&&◌, ◌||◌}
use Rattle.std.specs.List.{All}
use Rattle.std.proofs.lemmas.Bool.{true≢false, lt-ltb, le-ltb, le-leb, lt-leb, ltb-true, leb-true, cases_lt, cases_eq, eq-eqb, ne_eqb, false_from_ne_true}
use Rattle.std.proofs.lemmas.List.Elements.{All-head, All-tail, All-nil, All-cons}
use Rattle.rank_range.specs.Layout.{base_of, heap_start, stack_start}
use Rattle.rank_range.specs.Heap.{Fits, IsFirstFit, IsApart, rounded, most_blocks, is_apart, are_apart, fit_from, first_fit, AreFirstFits, IsOneFit, IsLive, is_live}
use Rattle.rank_range.specs.Nodes.{Node, AreLinked, Cover, AreSpelled, BlocksStay, first_of, first_node, node_at, node_place, node_count, heap_units, pieces_of, chain_of, blocks_of}
use Rattle.rank_range.specs.declared.heap.Block.{Block}
use Rattle.rank_range.proofs.HeapLemmas.{NoneBelow, found, too_many, none_fits}
use Rattle.rank_range.proofs.ChangeLemmas.{number_same, node_same}

-- ---- tests

and_left : (p q : Bool) → (p && q) ≡ true → p ≡ true
and_left true q t = refl
and_left false q t = t

and_right : (p q : Bool) → (p && q) ≡ true → q ≡ true
and_right true q t = t
and_right false q t = absurd (true≢false (sym t))

and_both : (p q : Bool) → p ≡ true → q ≡ true → (p && q) ≡ true
and_both p q s t = ap (λ b. b && q) s ∙ t

or_true : (p : Bool) → (p || true) ≡ true
or_true true = refl
or_true false = refl

bool_is : (t : Bool) → (t ≡ true) ⊎ (t ≡ false)
bool_is true = inl refl
bool_is false = inr refl

tells_apart : (a n : ℕ) (block : Block) → is_apart a n block ≡ true → IsApart a n block
tells_apart a n block t =
    elim (cases_lt a (block.address + block.length)) [
      | inl meets ↦
          let second : nat_le (a + n) block.address ≡ true =
          sym (ap (λ b. b || nat_le (a + n) block.address) (lt-leb (block.address + block.length) a meets)) ∙ t in
          inr (leb-true (a + n) block.address second)
      | inr behind ↦ inl behind
    ]

is_told_apart : (a n : ℕ) (block : Block) → IsApart a n block → is_apart a n block ≡ true
is_told_apart a n block (inl behind) = ap (λ b. b || nat_le (a + n) block.address) (le-leb (block.address + block.length) a behind)
is_told_apart a n block (inr before) =
    ap (λ b. nat_le (block.address + block.length) a || b) (le-leb (a + n) block.address before)
    ∙ or_true (nat_le (block.address + block.length) a)

all_apart : (a n : ℕ) (blocks : List Block) → are_apart a n blocks ≡ true → All (IsApart a n) blocks
all_apart a n [] t = All-nil (IsApart a n)
all_apart a n (block ∷ blocks) t =
    All-cons (IsApart a n) block blocks (tells_apart a n block (and_left (is_apart a n block) (are_apart a n blocks) t))
    (all_apart a n blocks (and_right (is_apart a n block) (are_apart a n blocks) t))

are_told_apart : (a n : ℕ) (blocks : List Block) → All (IsApart a n) blocks → are_apart a n blocks ≡ true
are_told_apart a n [] all = refl
are_told_apart a n (block ∷ blocks) all =
    and_both (is_apart a n block) (are_apart a n blocks) (is_told_apart a n block (All-head (IsApart a n) block blocks all))
    (are_told_apart a n blocks (All-tail (IsApart a n) block blocks all))

-- ---- the first fit

abbrev place : ℕ → ℕ → ℕ
place rank unit = base_of rank + heap_start + 16 * unit

abbrev test_at : ℕ → List Block → ℕ → ℕ → Bool
test_at rank blocks size a = nat_le (a + rounded size) (base_of rank + stack_start) && are_apart a (rounded size) blocks

-- where the test fails, no block fits
none_more : (rank : ℕ) (blocks : List Block) (size unit : ℕ) → NoneBelow rank blocks size unit
    → test_at rank blocks size (place rank unit) ≡ false → NoneBelow rank blocks size (unit + 1)
none_more rank blocks size unit none fails k below f =
    elim (cases_lt k unit) [
      | inl before ↦ none k before f
      | inr here ↦
          let same : k ≡ unit = omega (arith, below, here) in
          let g : Fits rank blocks size (place rank unit) = subst (λ u. Fits rank blocks size (place rank u)) same f in
          let fits = and_both (nat_le (place rank unit + rounded size) (base_of rank + stack_start)) (are_apart (place rank unit) (rounded size) blocks)
          (le-leb (place rank unit + rounded size) (base_of rank + stack_start) g.to) (are_told_apart (place rank unit) (rounded size) blocks g.free) in
          true≢false (sym fits ∙ fails)
    ]

at_least : (size : ℕ) → 16 ≤ rounded size
at_least size = omega arith

fit_is : (rank : ℕ) (blocks : List Block) (size k unit : ℕ) → length blocks < most_blocks → unit + k ≡ 24576
    → NoneBelow rank blocks size unit
    → IsFirstFit rank blocks size (fit_from (base_of rank + stack_start) (rounded size) blocks k (place rank unit))
fit_is rank blocks size zero unit few count none =
    let least = at_least size in
    none_fits rank blocks size unit none (omega (arith, count, least))
fit_is rank blocks size (suc k) unit few count none =
    let end = base_of rank + stack_start in
    let a = place rank unit in
    let more = fit_from end (rounded size) blocks k (a + 16) in
    let P : Bool → Type 0 = λ t. IsFirstFit rank blocks size (if t then a else more) in
    let in_heap = nat_le (a + rounded size) end in
    let free = are_apart a (rounded size) blocks in
    elim (bool_is (test_at rank blocks size a)) [
      | inl is ↦
          let first = leb-true (a + rounded size) end (and_left in_heap free is) in
          subst P (sym is)
          (found rank blocks size unit few none (omega (arith, first)) (all_apart a (rounded size) blocks (and_right in_heap free is)))
      | inr is ↦
          let next : a + 16 ≡ place rank (unit + 1) = omega arith in
          subst P (sym is)
          (subst (λ b. IsFirstFit rank blocks size (fit_from end (rounded size) blocks k b)) (sym next)
          (fit_is rank blocks size k (unit + 1) few (omega (arith, count)) (none_more rank blocks size unit none is)))
    ]

pub are_first_fits : AreFirstFits
unfolding first_fit
are_first_fits rank blocks size =
    elim (cases_lt (length blocks) most_blocks) [
      | inl few ↦
          let start : base_of rank + heap_start ≡ place rank 0 = omega arith in
          let P : Bool → Type 0 = λ t. IsFirstFit rank blocks size (if t then fit_from (base_of rank + stack_start) (rounded size) blocks 24576 (base_of rank + heap_start) else 0) in
          subst P (sym (lt-ltb (length blocks) most_blocks few))
          (subst (λ a. IsFirstFit rank blocks size (fit_from (base_of rank + stack_start) (rounded size) blocks 24576 a)) (sym start)
          (fit_is rank blocks size 24576 0 few refl (λ k below f. absurd (omega (arith, below)))))
      | inr many ↦
          let P : Bool → Type 0 = λ t. IsFirstFit rank blocks size (if t then fit_from (base_of rank + stack_start) (rounded size) blocks 24576 (base_of rank + heap_start) else 0) in
          subst P (sym (le-ltb (length blocks) most_blocks many)) (too_many rank blocks size many)
    ]

-- ---- the blocks along the links

chain_is : (bytes used : List ℕ) (fuel : ℕ) → AreLinked bytes used → All (λ n. n < node_count) used → length used ≤ fuel
    → chain_of bytes fuel (first_of used) ≡ used
chain_is bytes [] zero linked below few = refl
chain_is bytes [] (suc fuel) linked below few = refl
chain_is bytes (x ∷ xs) zero linked below few = absurd (omega (arith, few))
chain_is bytes (x ∷ xs) (suc fuel) linked below few =
    let small = All-head (λ n. n < node_count) x xs below in
    let rest : List ℕ = x ∷ chain_of bytes fuel (node_at bytes x).next in
    let step : (if nat_lt x node_count then rest else []) ≡ rest =
    ap (λ t. if t then rest else []) (lt-ltb x node_count small) in
    step
    ∙ ap (λ n. x ∷ chain_of bytes fuel n) linked.0
    ∙ ap (λ ns. x ∷ ns) (chain_is bytes xs fuel linked.1 (All-tail (λ n. n < node_count) x xs below) (omega (arith, few)))

covered : (bytes : List ℕ) (from : ℕ) (used : List ℕ) → Cover bytes from used → from + length used ≤ heap_units
covered bytes from [] cover = let e : from ≡ heap_units = cover in omega (arith, e)
covered bytes from (x ∷ xs) cover =
    let rest = covered bytes (from + (node_at bytes x).units) xs cover.2 in
    let some = cover.1 in
    omega (arith, rest, some)

pub are_spelled : AreSpelled
unfolding blocks_of
are_spelled rank bytes blocks s =
    let sound = s.sound in
    let few = covered bytes 0 s.used sound.cover in
    s.are
    ∙ ap (pieces_of rank bytes 2)
    (sym (ap (chain_of bytes heap_units) sound.first ∙ chain_is bytes s.used heap_units sound.linked sound.used_below (omega (arith, few))))

-- ---- other bytes

if_less : (t : Bool) (x y none : List ℕ) → (t ≡ true → x ≡ y) → (if t then x else none) ≡ (if t then y else none)
if_less true x y none same = same refl
if_less false x y none same = refl

same_chain : (old new : List ℕ) (fuel number : ℕ) → ((k : ℕ) → k < node_count → node_at new k ≡ node_at old k)
    → chain_of new fuel number ≡ chain_of old fuel number
same_chain old new zero number same = refl
same_chain old new (suc fuel) number same =
    if_less (nat_lt number node_count) (number ∷ chain_of new fuel (node_at new number).next) (number ∷ chain_of old fuel (node_at old number).next) []
    (λ t. ap (λ (n : Node). number ∷ chain_of new fuel n.next) (same number (ltb-true number node_count t))
    ∙ ap (λ ns. number ∷ ns) (same_chain old new fuel (node_at old number).next same))

-- the nodes of a chain are nodes
chain_below : (bytes : List ℕ) (fuel number : ℕ) → All (λ n. n < node_count) (chain_of bytes fuel number)
chain_below bytes zero number = All-nil (λ n. n < node_count)
chain_below bytes (suc fuel) number =
    let rest = chain_of bytes fuel (node_at bytes number).next in
    let P : Bool → Type 0 = λ t. All (λ n. n < node_count) (if t then number ∷ rest else []) in
    elim (bool_is (nat_lt number node_count)) [
      | inl is ↦
          subst P (sym is)
          (All-cons (λ n. n < node_count) number rest (ltb-true number node_count is) (chain_below bytes fuel (node_at bytes number).next))
      | inr is ↦ subst P (sym is) (All-nil (λ n. n < node_count))
    ]

same_pieces : (rank : ℕ) (old new : List ℕ) (kind : ℕ) (numbers : List ℕ) → All (λ n. n < node_count) numbers
    → ((k : ℕ) → k < node_count → node_at new k ≡ node_at old k) → pieces_of rank new kind numbers ≡ pieces_of rank old kind numbers
same_pieces rank old new kind [] below same = refl
same_pieces rank old new kind (x ∷ xs) below same =
    let here = same x (All-head (λ n. n < node_count) x xs below) in
    let rest = same_pieces rank old new kind xs (All-tail (λ n. n < node_count) x xs below) same in
    let piece : Node → Block = λ n. record { address = base_of rank + heap_start + 16 * n.start; length = 16 * n.units } in
    ap (λ (n : Node). if n.kind == kind then piece n ∷ pieces_of rank new kind xs else pieces_of rank new kind xs) here
    ∙ ap (λ bs. if (node_at old x).kind == kind then piece (node_at old x) ∷ bs else bs) rest

pub blocks_stay : BlocksStay
unfolding blocks_of
blocks_stay rank old new stay =
    let nodes : (k : ℕ) → k < node_count → node_at new k ≡ node_at old k =
    λ k below. node_same old new k (λ j small. stay (node_place k + j) (inr (omega arith, omega (arith, below, small)))) in
    let first : first_node new ≡ first_node old = number_same old new 0 4 (λ j below. stay (0 + j) (inl (omega (arith, below)))) in
    ap (λ n. pieces_of rank new 2 (chain_of new heap_units n)) first
    ∙ ap (pieces_of rank new 2) (same_chain old new heap_units (first_node old) nodes)
    ∙ same_pieces rank old new 2 (chain_of old heap_units (first_node old)) (chain_below old heap_units (first_node old)) nodes

-- ---- one answer

pub fit_is_one : IsOneFit
fit_is_one rank blocks size a b (inl x) (inl y) =
    let low = x.2 b y.1 in
    let high = y.2 a x.1 in
    omega (arith, low, high)
fit_is_one rank blocks size a b (inl x) (inr y) =
    let few = x.0 in
    absurd (elim y.1 [ inl many ↦ omega (arith, few, many) | inr nowhere ↦ nowhere a x.1 ])
fit_is_one rank blocks size a b (inr x) (inl y) =
    let few = y.0 in
    absurd (elim x.1 [ inl many ↦ omega (arith, few, many) | inr nowhere ↦ nowhere b y.1 ])
fit_is_one rank blocks size a b (inr x) (inr y) = x.0 ∙ sym y.0

pub computed : (rank : ℕ) (blocks : List Block) (size a : ℕ) → IsFirstFit rank blocks size a → first_fit rank blocks size ≡ a
computed rank blocks size a fit = fit_is_one rank blocks size (first_fit rank blocks size) a (are_first_fits rank blocks size) fit

-- ---- live blocks

pub live_yes : (address : ℕ) (blocks : List Block) → IsLive address blocks → is_live address blocks ≡ true
live_yes address [] live = absurd live
live_yes address (block ∷ blocks) (inl here) = ap (λ b. b || is_live address blocks) (eq-eqb block.address address here)
live_yes address (block ∷ blocks) (inr there) =
    ap (λ b. (block.address == address) || b) (live_yes address blocks there) ∙ or_true (block.address == address)

told_live : (address : ℕ) (blocks : List Block) → is_live address blocks ≡ true → IsLive address blocks
told_live address [] t = absurd (true≢false (sym t))
told_live address (block ∷ blocks) t =
    elim (cases_eq block.address address) [
      | inl here ↦ inl here
      | inr other ↦ inr (told_live address blocks (sym (ap (λ b. b || is_live address blocks) (ne_eqb block.address address other)) ∙ t))
    ]

pub live_no : (address : ℕ) (blocks : List Block) → (IsLive address blocks → ⊥) → is_live address blocks ≡ false
live_no address blocks dead = false_from_ne_true (is_live address blocks) (λ t. dead (told_live address blocks t))
