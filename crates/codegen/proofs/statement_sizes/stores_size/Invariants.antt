use Rattle.std.proofs.Common.{◌≡◌, take, map}
use Rattle.codegen.specs.Sizes.{total}
use Rattle.codegen.specs.Making.{at_most_word}
use Rattle.codegen.proofs.StatementSizing.{store_size}
use Rattle.codegen.proofs.statement_sizes.stores_size.Given as goal

abbrev pub invariant-loop-store : goal.invariant-loop-store
invariant-loop-store l = l.size ≡ at_most_word (total (map store_size (take l.store-index l.stores)))
