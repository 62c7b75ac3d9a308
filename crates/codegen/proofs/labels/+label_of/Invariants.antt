use Rattle.std.proofs.Common.{◌≡◌, take, map}
use Rattle.codegen.specs.Statements.{Within, label_in_order, sizes_of, stmt_piece}
use Rattle.codegen.specs.Making.{at_most_word, cut}
use Rattle.codegen.proofs.labels.+label_of.Given as goal

abbrev pub invariant-label_among-loop-stmt : goal.invariant-label_among-loop-stmt
invariant-label_among-loop-stmt l =
    (w : Within) → (l.found ≡ cut (label_in_order (map (stmt_piece w) (take l.stmt-index l.stmts)) l.label)) × (l.before ≡ at_most_word (sizes_of (map (stmt_piece w) (take l.stmt-index l.stmts))))
