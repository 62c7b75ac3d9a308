use Rattle.std.proofs.Common.{◌≡◌, ◌++◌}
use Rattle.c_grammar.specs.Names.{of_known}
use Rattle.c_grammar.proofs.scope.Scope.declare_all.Given as goal

abbrev pub invariant-loop-known : goal.invariant-loop-known
invariant-loop-known l = l.self ≡ of_known l.yielded ++ l.fn.self
