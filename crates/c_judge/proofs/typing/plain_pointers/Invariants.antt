use Rattle.std.proofs.Common.{◌≡◌, ◌++◌, replicate, false}
use Rattle.c_judge.specs.declared.shapes.Shape.TheVariants.{Pointer}
use Rattle.c_judge.proofs.typing.plain_pointers.Given as goal

abbrev pub invariant-loop : goal.invariant-loop
invariant-loop l = l.shapes ≡ l.initial.shapes ++ replicate l.counter (Pointer false)
