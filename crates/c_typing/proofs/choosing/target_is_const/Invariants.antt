use Rattle.std.proofs.Common.{◌≡◌, drop}
use Rattle.c_typing.specs.Choosing.{const_before, target_is_const}
use Rattle.c_typing.proofs.choosing.target_is_const.Given as goal

abbrev pub invariant-loop-part : goal.invariant-loop-part
invariant-loop-part l = const_before l.before l.now (drop l.part-index l.part-items) ≡ const_before l.of.is_const l.of.is_const l.of.parts
