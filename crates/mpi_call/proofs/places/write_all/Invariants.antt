use Rattle.std.proofs.Common.{◌≡◌, drop}
use Rattle.rank_range.specs.Areas.{areas_of}
use Rattle.mpi_rules.specs.Places.{written}
use Rattle.mpi_call.specs.Written.{Leaves}
use Rattle.mpi_call.proofs.places.write_all.Given as goal

abbrev pub invariant-loop-write : goal.invariant-loop-write
invariant-loop-write g l =
    (written (areas_of (g.M.Mem.rank_of l.m) (g.M.Mem.top_of l.m) (g.M.Mem.bytes_of l.m)) (drop l.write-index l.writes)
    ≡ written (areas_of (g.M.Mem.rank_of l.initial.m) (g.M.Mem.top_of l.initial.m) (g.M.Mem.bytes_of l.initial.m)) l.writes)
    × Leaves (g.M.Mem.rank_of l.initial.m) (g.M.Mem.rank_of l.m) (g.M.Mem.top_of l.initial.m) (g.M.Mem.top_of l.m) (g.M.Mem.bytes_of l.initial.m) (g.M.Mem.bytes_of l.m) (g.M.Mem.marks_of l.initial.m) (g.M.Mem.marks_of l.m)
