use Rattle.std.proofs.Common.{◌≡◌, ◌<◌, ℕ}
use Rattle.rank_range.specs.Layout.{IsMarked}
use Rattle.rank_image.specs.Memory.{IsFilled}
use Rattle.rank_image.proofs.memory.fill_bytes.Given as goal

abbrev pub invariant-loop-at : goal.invariant-loop-at
invariant-loop-at g l =
    IsFilled (g.M.Mem.bytes_of l.memory) l.bytes l.at
    × (g.M.Mem.rank_of l.memory ≡ g.M.Mem.rank_of l.fn.memory)
    × ((page : ℕ) → page < 256 → IsMarked (g.M.Mem.marks_of l.fn.memory) page → IsMarked (g.M.Mem.marks_of l.memory) page)
