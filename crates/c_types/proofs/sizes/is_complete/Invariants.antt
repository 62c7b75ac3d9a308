use Rattle.std.proofs.Common.{◌≡◌, drop}
use Rattle.c_types.specs.Sizes.{is_complete_by, is_complete_in}
use Rattle.c_types.proofs.sizes.is_complete.Given as goal

abbrev pub invariant-loop-part : goal.invariant-loop-part
invariant-loop-part l = is_complete_by l.complete (drop l.part-index l.part-items) ≡ is_complete_in l.structs l.of
