use Rattle.std.proofs.Common.{◌≡◌, ◌++◌, List}
use Rattle.std.specs.List.{flat_map, range_with_len}
use Rattle.mpi_types.specs.declared.entries.Entry.{Entry}
use Rattle.w_model.specs.World.{Setting, world_of, start_world}
use Rattle.w_model.specs.Cut.{lines_since}
use Rattle.vm_code.specs.declared.code.Code.{Code}
use Rattle.cluster.specs.Group.{Stand}
use Rattle.cluster.proofs.told.append_all_lines.Given as goal

abbrev pub invariant-loop-at : goal.invariant-loop-at
invariant-loop-at l =
    (code : Code) (s : Setting) (h : List Entry) → Stand code s l.ranks h
    → l.out ≡ l.initial.out ++ flat_map (lines_since s start_world (world_of h)) (range_with_len 0 l.at)
