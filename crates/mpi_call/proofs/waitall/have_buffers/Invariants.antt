use Rattle.std.proofs.Common.{◌≡◌, ◌-◌, drop, length}
use Rattle.std.specs.List.{list_all}
use Rattle.rank_range.specs.Areas.{areas_of}
use Rattle.mpi_call.specs.Arrays.{has_buffer}
use Rattle.mpi_call.proofs.waitall.have_buffers.Given as goal

abbrev pub invariant-loop-i : goal.invariant-loop-i
invariant-loop-i g l =
    list_all (has_buffer (areas_of (g.M.Mem.rank_of l.m) (g.M.Mem.top_of l.m) (g.M.Mem.bytes_of l.m))) (drop l.i l.all)
    ≡ list_all (has_buffer (areas_of (g.M.Mem.rank_of l.m) (g.M.Mem.top_of l.m) (g.M.Mem.bytes_of l.m))) l.all

abbrev pub decreases-loop-i : goal.decreases-loop-i
decreases-loop-i g l = length l.all - l.i
