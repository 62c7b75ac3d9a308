-- First fit over the live blocks of a rank's heap, which are pairs of an address and a length. This profile's own.
use Rattle.std.specs.Prelude.{ℕ, zero, suc, ◌≡◌, ◌+◌, ◌*◌, ◌/◌, ◌%◌, ◌<◌, ◌≤◌, ◌==◌, ◌⊎◌, ◌&&◌, ◌||◌, if◌then◌else◌, max, Bool, true, false, nat_lt, nat_le, List, [], ◌∷◌, length}
use Rattle.std.specs.List.{All}
use Rattle.rank_range.specs.Layout.{base_of, heap_start, stack_start}
use Rattle.rank_range.specs.declared.heap.Block.{Block}

-- how many blocks may live at a time
abbrev pub most_blocks : ℕ
most_blocks = 4000

-- The size, rounded up to a multiple of 16, and at least 16.
abbrev pub rounded : ℕ → ℕ
rounded size = max 16 (16 * ((size + 15) / 16))

-- The block ends at or before a, or begins at or behind a + n: it doesn't meet the n bytes from a on.
abbrev pub IsApart : ℕ → ℕ → Block → Type 0
IsApart a n block = (block.address + block.length ≤ a) ⊎ (a + n ≤ block.address)

-- A block of that size may stand at the address a.
pub record Fits (rank : ℕ) (blocks : List Block) (size a : ℕ) : Type 0 where
  pub aligned : a % 16 ≡ 0
  pub from : base_of rank + heap_start ≤ a
  pub to : a + rounded size ≤ base_of rank + stack_start
  pub free : All (IsApart a (rounded size)) blocks

-- The address is the least at which a block of that size may stand. It is 0 where there is none or too many live.
abbrev pub IsFirstFit : ℕ → List Block → ℕ → ℕ → Type 0
IsFirstFit rank blocks size a =
    ((length blocks < most_blocks) × Fits rank blocks size a × ((b : ℕ) → Fits rank blocks size b → a ≤ b))
    ⊎ ((a ≡ 0) × ((most_blocks ≤ length blocks) ⊎ ((b : ℕ) → Fits rank blocks size b → ⊥)))

-- whether that holds
abbrev pub is_apart : ℕ → ℕ → Block → Bool
is_apart a n block = nat_le (block.address + block.length) a || nat_le (a + n) block.address

abbrev pub are_apart : ℕ → ℕ → List Block → Bool
are_apart a n [] = true
are_apart a n (block ∷ blocks) = is_apart a n block && are_apart a n blocks

-- the first of k places from the address a on, 16 bytes apart, at which n bytes end by `end` and meet no block; else 0
abbrev pub fit_from : ℕ → ℕ → List Block → ℕ → ℕ → ℕ
fit_from end n blocks zero a = 0
fit_from end n blocks (suc k) a =
    if nat_le (a + n) end && are_apart a n blocks then a else fit_from end n blocks k (a + 16)

-- the first fit, computed
unfoldable pub first_fit : ℕ → List Block → ℕ → ℕ
first_fit rank blocks size =
    if nat_lt (length blocks) most_blocks
    then fit_from (base_of rank + stack_start) (rounded size) blocks 24576 (base_of rank + heap_start)
    else 0

-- What is computed is the first fit.
abbrev pub AreFirstFits : Type 0
AreFirstFits = (rank : ℕ) (blocks : List Block) (size : ℕ) → IsFirstFit rank blocks size (first_fit rank blocks size)

-- the live blocks with one more, at its place in the order of addresses
abbrev pub with_block : Block → List Block → List Block
with_block block [] = block ∷ []
with_block block (other ∷ others) =
    if nat_lt other.address block.address
    then other ∷ with_block block others
    else block ∷ other ∷ others

-- the live blocks but for that of the address
abbrev pub without : ℕ → List Block → List Block
without address [] = []
without address (block ∷ blocks) =
    if block.address == address then without address blocks else block ∷ without address blocks

-- The address is that of a live block.
abbrev pub IsLive : ℕ → List Block → Type 0
IsLive address [] = ⊥
IsLive address (block ∷ blocks) = (block.address ≡ address) ⊎ IsLive address blocks

abbrev pub is_live : ℕ → List Block → Bool
is_live address [] = false
is_live address (block ∷ blocks) = (block.address == address) || is_live address blocks

-- No two addresses are the first fit of one call.
abbrev pub IsOneFit : Type 0
IsOneFit =
    (rank : ℕ) (blocks : List Block) (size a b : ℕ)
    → IsFirstFit rank blocks size a → IsFirstFit rank blocks size b → a ≡ b
