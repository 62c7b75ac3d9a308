use Rattle.std.proofs.Common.{◌≡◌, ◌≤◌, drop}
use Rattle.std.specs.Prelude.{IfSome}
use Rattle.c_types.specs.Sizes.{size_limit}
use Rattle.c_typing.specs.Types.{measured_by}
use Rattle.c_typing.proofs.types.measured_parts.Given as goal

abbrev pub invariant-loop-part : goal.invariant-loop-part
invariant-loop-part l =
    (measured_by l.size (drop l.part-index l.parts) ≡ measured_by l.fn.base l.parts)
    × (IfSome l.fn.base (λ n. n ≤ size_limit) → IfSome l.size (λ n. n ≤ size_limit))
