use Rattle.std.proofs.Common.{◌≡◌, replicate, false}
use Rattle.c_types.specs.declared.ctype.Part.TheVariants.{Pointer}
use Rattle.c_judge.proofs.headers.pointers.Given as goal

abbrev pub invariant-loop : goal.invariant-loop
invariant-loop l = l.parts ≡ replicate l.counter (Pointer false)
