use Rattle.std.proofs.Common.{◌≡◌, take, map}
use Rattle.codegen.specs.Covered.{all_true, stmt_covered}
use Rattle.codegen.proofs.covers.+covers_stmt.Given as goal

abbrev pub invariant-covers_stmts-loop-stmt : goal.invariant-covers_stmts-loop-stmt
invariant-covers_stmts-loop-stmt l = l.all ≡ all_true (map (stmt_covered l.functions) (take l.stmt-index l.stmts))
