use Rattle.std.proofs.Common.{◌≡◌, ◌≤◌, ◌-◌, ◌++◌}
use Rattle.rank_range.specs.Parts.{part}
use Rattle.rank_image.proofs.memory.put_bytes.Given as goal

abbrev pub invariant-loop-at : goal.invariant-loop-at
invariant-loop-at g l = l.out ≡ l.fn.out ++ part (g.M.Mem.bytes_of l.memory) l.fn.from (l.at - l.fn.from)
