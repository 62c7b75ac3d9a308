use Rattle.std.proofs.Common.{◌≡◌, drop}
use Rattle.c_typing.specs.Types.{is_const_by}
use Rattle.c_typing.proofs.types.is_const.Given as goal

abbrev pub invariant-loop-part : goal.invariant-loop-part
invariant-loop-part l = is_const_by l.is_const (drop l.part-index l.part-items) ≡ is_const_by l.of.is_const l.of.parts
