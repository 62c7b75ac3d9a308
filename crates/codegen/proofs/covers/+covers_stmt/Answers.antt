use Rattle.std.proofs.Common.{refl, sym, ap, ◌∙◌, map}
use Rattle.c_types.specs.declared.statement.Stmt.TheVariants as stmt
use Rattle.codegen.specs.Covered.{all_true, stores_covered, stmt_covered}
use Rattle.codegen.proofs.Covering.{covered_empty, covered_express, covered_declare, covered_block, covered_then, covered_if_else, covered_while, covered_do, for_covered, covered_switch, covered_labelled, covered_break, covered_continue, covered_return, same_test, test_at, both_are, with_true, all_next, all_whole}
use Rattle.codegen.proofs.covers.+covers_stmt.Goals as goal

pub covers_stmts-loop-stmt-preserved : goal.covers_stmts-loop-stmt-preserved
covers_stmts-loop-stmt-preserved t c =
    all_next (stmt_covered c.args.functions.now) _ _ _ _ _ _ c.loop-stmt-test.true c.stmt-item.is c.loop-stmt.invariant c.covers_stmt.ensures c.both-all.ensures

pub covers_stmts-returns : goal.covers_stmts-returns
covers_stmts-returns t c =
    all_whole (stmt_covered c.args.functions.now) _ _ _ c.loop-stmt-test.false c.loop-stmt.invariant

pub covers_stmt-returns-in-Empty : goal.covers_stmt-returns-in-Empty
covers_stmt-returns-in-Empty t c =
    same_test (stmt_covered c.args.functions.now) _ _ _ _ c.in-Empty.is (covered_empty c.args.functions.now _) refl

pub covers_stmt-returns-in-Express : goal.covers_stmt-returns-in-Express
covers_stmt-returns-in-Express t c =
    same_test (stmt_covered c.args.functions.now) _ _ _ _ c.in-Express.is (covered_express c.args.functions.now _ _) c.covers_expr.ensures

pub covers_stmt-returns-in-Declare : goal.covers_stmt-returns-in-Declare
covers_stmt-returns-in-Declare t c =
    same_test (stmt_covered c.args.functions.now) _ _ _ _ c.in-Declare.is (covered_declare c.args.functions.now _) (test_at (stores_covered c.args.functions.now) _ _ _ c.as_slice.ensures c.covers_stores.ensures)

pub covers_stmt-returns-in-Block : goal.covers_stmt-returns-in-Block
covers_stmt-returns-in-Block t c =
    same_test (stmt_covered c.args.functions.now) _ _ _ _ c.in-Block.is (covered_block c.args.functions.now _) (test_at (λ ss. all_true (map (stmt_covered c.args.functions.now) ss)) _ _ _ c.as_slice-in-Block.ensures c.covers_stmts.ensures)

pub covers_stmt-returns-in-None : goal.covers_stmt-returns-in-None
covers_stmt-returns-in-None t c =
    same_test (stmt_covered c.args.functions.now) _ _ _ _ (c.in-If.is ∙ ap (stmt.If c.in-If.line c.in-If.test c.in-If.then) c.in-None.is) (covered_then c.args.functions.now _ _ _)
    (both_are _ _ _ _ _ c.covers_expr-in-None.ensures (test_at (stmt_covered c.args.functions.now) _ _ _ c.get.ensures c.covers_stmt-first.ensures ∙ sym (with_true _)) c.both.ensures)

pub covers_stmt-returns-in-Some : goal.covers_stmt-returns-in-Some
covers_stmt-returns-in-Some t c =
    same_test (stmt_covered c.args.functions.now) _ _ _ _ (c.in-If.is ∙ ap (stmt.If c.in-If.line c.in-If.test c.in-If.then) c.in-Some.is) (covered_if_else c.args.functions.now _ _ _ _)
    (both_are _ _ _ _ _ c.covers_expr-in-Some.ensures (both_are _ _ _ _ _ (test_at (stmt_covered c.args.functions.now) _ _ _ c.get.ensures c.covers_stmt-first.ensures)
    (test_at (stmt_covered c.args.functions.now) _ _ _ c.get-in-Some.ensures c.covers_stmt.ensures) c.both-in-Some.ensures) c.both-in-Some-2.ensures)

pub covers_stmt-returns-in-While : goal.covers_stmt-returns-in-While
covers_stmt-returns-in-While t c =
    same_test (stmt_covered c.args.functions.now) _ _ _ _ c.in-While.is (covered_while c.args.functions.now _ _ _) (both_are _ _ _ _ _ c.covers_expr-in-While.ensures (test_at (stmt_covered c.args.functions.now) _ _ _ c.get-in-While.ensures c.covers_stmt-in-While.ensures) c.both-in-While.ensures)

pub covers_stmt-returns-in-Do : goal.covers_stmt-returns-in-Do
covers_stmt-returns-in-Do t c =
    same_test (stmt_covered c.args.functions.now) _ _ _ _ c.in-Do.is (covered_do c.args.functions.now _ _ _) (both_are _ _ _ _ _ c.covers_expr-in-Do.ensures (test_at (stmt_covered c.args.functions.now) _ _ _ c.get-in-Do.ensures c.covers_stmt-in-Do.ensures) c.both-in-Do.ensures)

pub covers_stmt-returns-in-For : goal.covers_stmt-returns-in-For
covers_stmt-returns-in-For t c =
    for_covered c.args.functions.now _ _ _ _ _ _ _ _ _ _ _ c.in-For.is c.as_slice-in-For.ensures c.get-in-For.ensures c.covers_stmt-in-For.ensures c.covers_for.ensures

pub covers_stmt-returns-in-Switch : goal.covers_stmt-returns-in-Switch
covers_stmt-returns-in-Switch t c =
    same_test (stmt_covered c.args.functions.now) _ _ _ _ c.in-Switch.is (covered_switch c.args.functions.now _ _ _ _ _) (both_are _ _ _ _ _ c.covers_expr-in-Switch.ensures (test_at (stmt_covered c.args.functions.now) _ _ _ c.get-in-Switch.ensures c.covers_stmt-in-Switch.ensures) c.both-in-Switch.ensures)

pub covers_stmt-returns-in-Labelled : goal.covers_stmt-returns-in-Labelled
covers_stmt-returns-in-Labelled t c =
    same_test (stmt_covered c.args.functions.now) _ _ _ _ c.in-Labelled.is (covered_labelled c.args.functions.now _ _) (test_at (stmt_covered c.args.functions.now) _ _ _ c.get-in-Labelled.ensures c.covers_stmt-in-Labelled.ensures)

pub covers_stmt-returns-in-Break : goal.covers_stmt-returns-in-Break
covers_stmt-returns-in-Break t c =
    same_test (stmt_covered c.args.functions.now) _ _ _ _ c.in-Break.is (covered_break c.args.functions.now _) refl

pub covers_stmt-returns-in-Continue : goal.covers_stmt-returns-in-Continue
covers_stmt-returns-in-Continue t c =
    same_test (stmt_covered c.args.functions.now) _ _ _ _ c.in-Continue.is (covered_continue c.args.functions.now _) refl

pub covers_stmt-returns-in-Return : goal.covers_stmt-returns-in-Return
covers_stmt-returns-in-Return t c =
    same_test (stmt_covered c.args.functions.now) _ _ _ _ c.in-Return.is (covered_return c.args.functions.now _ _) c.covers_if.ensures
