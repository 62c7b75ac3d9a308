use Rattle.std.proofs.Common.{◌≡◌, ◌++◌, List}
use Rattle.std.specs.List.{flat_map, range_with_len}
use Rattle.mpi_types.specs.declared.entries.Entry.{Entry}
use Rattle.w_model.specs.World.{Setting, world_of}
use Rattle.w_model.specs.Texts.{rank_line_at}
use Rattle.vm_code.specs.declared.code.Code.{Code}
use Rattle.cluster.specs.Group.{Stand}
use Rattle.cluster.specs.Told.{on_first}
use Rattle.cluster.proofs.told.append_rank_lines.Given as goal

abbrev pub invariant-loop-at : goal.invariant-loop-at
invariant-loop-at l =
    (code : Code) (s : Setting) (h : List Entry) → s.bound ≡ l.bound → Stand code s l.ranks h
    → l.out ≡ l.initial.out ++ flat_map (rank_line_at l.files s (world_of h) on_first) (range_with_len 0 l.at)
