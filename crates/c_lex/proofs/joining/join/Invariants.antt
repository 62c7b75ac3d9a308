use Rattle.std.proofs.Common.{◌≡◌}
use Rattle.c_lex.specs.Tokens.{joined}
use Rattle.c_lex.proofs.joining.join.Given as goal

abbrev pub invariant-loop-token : goal.invariant-loop-token
invariant-loop-token l = l.out.items ≡ joined l.yielded
