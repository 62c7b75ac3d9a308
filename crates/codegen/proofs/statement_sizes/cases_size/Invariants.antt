use Rattle.std.proofs.Common.{◌≡◌, take, map}
use Rattle.codegen.specs.Sizes.{total}
use Rattle.codegen.specs.Making.{at_most_word}
use Rattle.codegen.proofs.StatementSizing.{case_size}
use Rattle.codegen.proofs.statement_sizes.cases_size.Given as goal

abbrev pub invariant-loop-case : goal.invariant-loop-case
invariant-loop-case l = l.size ≡ at_most_word (total (map case_size (take l._case-index l.cases)))
