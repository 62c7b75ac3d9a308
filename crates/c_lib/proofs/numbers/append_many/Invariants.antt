use Rattle.std.proofs.Common.{◌≡◌, ◌++◌, replicate}
use Rattle.c_lib.proofs.numbers.append_many.Given as goal

abbrev pub invariant-loop-i : goal.invariant-loop-i
invariant-loop-i l = l.out ≡ l.initial.out ++ replicate l.i l.byte
