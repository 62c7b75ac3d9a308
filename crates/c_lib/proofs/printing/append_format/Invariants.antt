use Rattle.std.proofs.Common.{◌≡◌, length}
use Rattle.rank_range.specs.Areas.{areas_of}
use Rattle.rank_range.specs.Library.{behind_text}
use Rattle.c_lib.proofs.PrintLemmas.{left_of}
use Rattle.c_lib.proofs.printing.append_format.Given as goal

abbrev pub invariant-loop-byte : goal.invariant-loop-byte
invariant-loop-byte g l =
    behind_text l.initial.out (left_of (areas_of (g.M.Mem.rank_of l.m) (g.M.Mem.top_of l.m) (g.M.Mem.bytes_of l.m)) l.initial.rest l.initial.left)
    ≡ behind_text l.out (left_of (areas_of (g.M.Mem.rank_of l.m) (g.M.Mem.top_of l.m) (g.M.Mem.bytes_of l.m)) l.rest l.left)

abbrev pub decreases-loop-byte : goal.decreases-loop-byte
decreases-loop-byte g l = length l.rest
