use Rattle.std.proofs.Common.{◌≡◌, take}
use Rattle.c_typing.specs.Types.{merged_parts}
use Rattle.c_typing.proofs.types.merge_parts.Given as goal

abbrev pub invariant-loop-part : goal.invariant-loop-part
invariant-loop-part l = (l.at ≡ l.part-index) × (l.a ≡ merged_parts l.initial.a (take l.part-index l.b))
