-- One memory spells one heap, and what a search in steps of 16 bytes finds is the first fit.
use Rattle.std.proofs.Common.{◌≡◌, ℕ, ◌+◌, ◌-◌, ◌*◌, ◌/◌, ◌%◌, ◌<◌, ◌≤◌, inl, inr, List, [], ◌∷◌, ◌∙◌, length, refl, sym, ap, subst, arith}
use Rattle.std.proofs.lemmas.Bool.{cases_lt}
use Rattle.std.proofs.lemmas.List.Elements.{All-head, All-tail}
use Rattle.std.specs.List.{All}
use Rattle.rank_range.specs.Layout.{base_of, heap_start}
use Rattle.rank_range.specs.Heap.{Fits, IsFirstFit, IsApart, rounded, most_blocks}
use Rattle.rank_range.specs.Nodes.{AreLinked, SpellsBlocks, first_of, node_at, node_count, pieces_of}
use Rattle.rank_range.specs.declared.heap.Block.{Block}

-- nodes are told by the first of them and their links
pub one_chain : (bytes xs ys : List ℕ) → first_of xs ≡ first_of ys → AreLinked bytes xs → AreLinked bytes ys
    → All (λ n. n < node_count) xs → All (λ n. n < node_count) ys → xs ≡ ys
one_chain bytes [] [] e xl yl xb yb = refl
one_chain bytes [] (y ∷ ys) e xl yl xb yb =
    let small = All-head (λ n. n < node_count) y ys yb in
    absurd (omega (arith, e, small))
one_chain bytes (x ∷ xs) [] e xl yl xb yb =
    let small = All-head (λ n. n < node_count) x xs xb in
    absurd (omega (arith, e, small))
one_chain bytes (x ∷ xs) (y ∷ ys) e xl yl xb yb =
    let next : first_of xs ≡ first_of ys = sym xl.0 ∙ ap (λ (k : ℕ). (node_at bytes k).next) e ∙ yl.0 in
    let rest = one_chain bytes xs ys next xl.1 yl.1
    (All-tail (λ n. n < node_count) x xs xb) (All-tail (λ n. n < node_count) y ys yb) in
    ap (λ (k : ℕ). k ∷ xs) e ∙ ap (λ (zs : List ℕ). y ∷ zs) rest

pub one_heap : (rank : ℕ) (bytes : List ℕ) (xs ys : List Block)
    → SpellsBlocks rank bytes xs → SpellsBlocks rank bytes ys → xs ≡ ys
one_heap rank bytes xs ys s t =
    let used = one_chain bytes s.used t.used (sym s.sound.first ∙ t.sound.first) s.sound.linked t.sound.linked
    s.sound.used_below t.sound.used_below in
    s.are ∙ ap (pieces_of rank bytes 2) used ∙ sym t.are

-- no block fits at any of the first places
abbrev pub NoneBelow : ℕ → List Block → ℕ → ℕ → Type 0
NoneBelow rank blocks size unit =
    (k : ℕ) → k < unit → Fits rank blocks size (base_of rank + heap_start + 16 * k) → ⊥

-- the place of an address in the heap, counted in steps
step_of : (rank b : ℕ) → b % 16 ≡ 0 → base_of rank + heap_start ≤ b
    → b ≡ base_of rank + heap_start + 16 * ((b - (base_of rank + heap_start)) / 16)
step_of rank b aligned from = omega (arith, aligned, from)

pub none_before : (rank : ℕ) (blocks : List Block) (size unit b : ℕ) → NoneBelow rank blocks size unit
    → b < base_of rank + heap_start + 16 * unit → Fits rank blocks size b → ⊥
none_before rank blocks size unit b none below f =
    let k = (b - (base_of rank + heap_start)) / 16 in
    let is = step_of rank b f.aligned f.from in
    let small : k < unit = omega (arith, is, below) in
    none k small (subst (Fits rank blocks size) is f)

pub found : (rank : ℕ) (blocks : List Block) (size unit : ℕ) → length blocks < most_blocks
    → NoneBelow rank blocks size unit → 16 * unit + rounded size ≤ 393216
    → All (IsApart (base_of rank + heap_start + 16 * unit) (rounded size)) blocks
    → IsFirstFit rank blocks size (base_of rank + heap_start + 16 * unit)
found rank blocks size unit few none room free =
    let a = base_of rank + heap_start + 16 * unit in
    let fits : Fits rank blocks size a =
    record { aligned = omega arith; from = omega arith; to = omega (arith, room); free = free } in
    inl (
      few,
      fits,
      λ b f. elim (cases_lt b a) [
        | inl before ↦ absurd (none_before rank blocks size unit b none before f)
        | inr behind ↦ behind
      ],
    )

pub too_many : (rank : ℕ) (blocks : List Block) (size : ℕ) → most_blocks ≤ length blocks → IsFirstFit rank blocks size 0
too_many rank blocks size many = inr (refl, inl many)

-- the size, rounded up, is no less
pub rounded_up : (size : ℕ) → size ≤ rounded size
rounded_up size = omega arith

pub none_fits : (rank : ℕ) (blocks : List Block) (size unit : ℕ) → NoneBelow rank blocks size unit
    → 393216 < 16 * unit + rounded size → IsFirstFit rank blocks size 0
none_fits rank blocks size unit none end =
    inr (refl, inr (λ b f. none_before rank blocks size unit b none (omega (arith, f.to, end)) f))

pub too_large : (rank : ℕ) (blocks : List Block) (size : ℕ) → 393216 < size → IsFirstFit rank blocks size 0
too_large rank blocks size large =
    let up = rounded_up size in
    none_fits rank blocks size 0 (λ k below f. absurd (omega arith)) (omega (arith, up, large))

-- the same, over what the code computed
pub found_at : (rank : ℕ) (blocks : List Block) (size unit base size_up : ℕ) → base ≡ base_of rank → size_up ≡ rounded size
    → length blocks < most_blocks → size ≤ 393216 → NoneBelow rank blocks size unit
    → unit < (393216 - size_up) / 16 + 1
    → All (IsApart (base + 524288 + 16 * unit) size_up) blocks
    → IsFirstFit rank blocks size (base + 524288 + 16 * unit)
found_at rank blocks size unit base size_up based up few small none room =
    let P : ℕ → Type 0 = λ b. All (IsApart (b + 524288 + 16 * unit) size_up) blocks → IsFirstFit rank blocks size (b + 524288 + 16 * unit) in
    let fits : rounded size ≤ 393216 = omega (arith, small) in
    subst P (sym based)
    (λ free.
    let Q : ℕ → Type 0 = λ n. All (IsApart (base_of rank + heap_start + 16 * unit) n) blocks in
    found rank blocks size unit few none (omega (arith, up, fits, room)) (subst Q up free))

pub none_found : (rank : ℕ) (blocks : List Block) (size unit size_up : ℕ) → size_up ≡ rounded size
    → NoneBelow rank blocks size unit → (393216 - size_up) / 16 + 1 ≤ unit → IsFirstFit rank blocks size 0
none_found rank blocks size unit size_up up none end =
    none_fits rank blocks size unit none (omega (arith, up, end))
