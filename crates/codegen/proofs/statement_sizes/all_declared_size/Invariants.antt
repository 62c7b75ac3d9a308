use Rattle.std.proofs.Common.{◌≡◌, take, map}
use Rattle.codegen.specs.Sizes.{total, declared_size}
use Rattle.codegen.specs.Making.{at_most_word}
use Rattle.codegen.proofs.statement_sizes.all_declared_size.Given as goal

abbrev pub invariant-loop-declared : goal.invariant-loop-declared
invariant-loop-declared l = l.size ≡ at_most_word (total (map declared_size (take l.declared-index l.all)))
