use Rattle.std.proofs.Common.{◌≡◌, ◌<◌, drop, None}
use Rattle.std.specs.Prelude.{IfSome}
use Rattle.c_typing.specs.Types.{last_pointer}
use Rattle.c_typing.proofs.types.last_pointer.Given as goal

abbrev pub invariant-loop-part : goal.invariant-loop-part
invariant-loop-part l =
    (l.at ≡ l.part-index)
    × (last_pointer l.at l.found (drop l.part-index l.parts) ≡ last_pointer 0 None l.parts)
    × IfSome l.found (λ at. at < l.part-index)
