use Rattle.std.proofs.Common.{◌≡◌, take, map}
use Rattle.codegen.specs.Sizes.{total}
use Rattle.codegen.specs.Statements.{Within}
use Rattle.codegen.specs.Making.{at_most_word}
use Rattle.codegen.proofs.StatementSizing.{stmt_sized}
use Rattle.codegen.proofs.statement_sizes.+stmt_size.Given as goal

abbrev pub invariant-all_size-loop-stmt : goal.invariant-all_size-loop-stmt
invariant-all_size-loop-stmt l = (w : Within) → l.size ≡ at_most_word (total (map (stmt_sized w) (take l.stmt-index l.stmts)))
