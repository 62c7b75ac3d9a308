use Rattle.std.proofs.Common.{refl}
use Rattle.c_types.specs.Need.{pending_of}
use Rattle.codegen.proofs.Refusing.{found_next, found_whole, pending_empty, pending_express, pending_while, pending_switch, pending_break, pending_continue, pending_return, check_arm, declare_arm, block_arm, both_arm, do_arm, if_arm, if_else_arm, for_arm, labelled_arm}
use Rattle.codegen.proofs.check.+check.Goals as goal

pub check_stmts-loop-stmt-preserved : goal.check_stmts-loop-stmt-preserved
check_stmts-loop-stmt-preserved t c =
    found_next pending_of _ _ _ _ _ _ _ c.loop-stmt-test.true c.stmt-item.is c.loop-stmt.invariant c.check_stmt-first.ensures

pub check_stmts-returns : goal.check_stmts-returns
check_stmts-returns t c =
    found_whole pending_of _ _ _ _ _ c.loop-stmt-test.false c.loop-stmt.invariant

pub check_stmt-returns-in-Empty : goal.check_stmt-returns-in-Empty
check_stmt-returns-in-Empty t c =
    check_arm _ _ _ _ _ _ c.in-Empty.is (pending_empty _) refl

pub check_stmt-returns-in-Express : goal.check_stmt-returns-in-Express
check_stmt-returns-in-Express t c =
    check_arm _ _ _ _ _ _ c.in-Express.is (pending_express _ _) c.check_full.ensures

pub check_stmt-returns-in-Declare : goal.check_stmt-returns-in-Declare
check_stmt-returns-in-Declare t c =
    declare_arm _ _ _ _ _ _ c.in-Declare.is c.as_slice.ensures c.check_stores.ensures

pub check_stmt-returns-in-Block : goal.check_stmt-returns-in-Block
check_stmt-returns-in-Block t c =
    block_arm _ _ _ _ _ _ c.in-Block.is c.as_slice-in-Block.ensures c.check_stmts.ensures

pub check_stmt-returns-in-None : goal.check_stmt-returns-in-None
check_stmt-returns-in-None t c =
    if_arm _ _ _ _ _ _ _ _ _ _ c.in-If.is c.in-None.is c.get.ensures c.check_full-in-If.ensures c.check_stmt-first.ensures

pub check_stmt-returns-in-Some : goal.check_stmt-returns-in-Some
check_stmt-returns-in-Some t c =
    if_else_arm _ _ _ _ _ _ _ _ _ _ _ _ _ c.in-If.is c.in-Some.is c.get.ensures c.get-in-Some.ensures c.check_full-in-If.ensures c.check_stmt-first.ensures c.check_stmt.ensures

pub check_stmt-returns-in-While : goal.check_stmt-returns-in-While
check_stmt-returns-in-While t c =
    both_arm _ _ _ _ _ _ _ _ _ c.in-While.is (pending_while _ _ _) c.get-in-While.ensures c.check_full-in-While.ensures c.check_stmt-in-While.ensures

pub check_stmt-returns-in-Do : goal.check_stmt-returns-in-Do
check_stmt-returns-in-Do t c =
    do_arm _ _ _ _ _ _ _ _ _ c.in-Do.is c.get-in-Do.ensures c.check_stmt-in-Do.ensures c.check_full-in-Do.ensures

pub check_stmt-returns-in-For : goal.check_stmt-returns-in-For
check_stmt-returns-in-For t c =
    for_arm _ _ _ _ _ _ _ _ _ _ _ _ _ _ _ _ c.in-For.is c.as_slice-in-For.ensures c.get-in-For.ensures c.check_all_declared-first.ensures c.check_if-second.ensures c.check_if-third.ensures c.check_if.ensures c.check_stmt-in-For.ensures

pub check_stmt-returns-in-Switch : goal.check_stmt-returns-in-Switch
check_stmt-returns-in-Switch t c =
    both_arm _ _ _ _ _ _ _ _ _ c.in-Switch.is (pending_switch _ _ _ _ _) c.get-in-Switch.ensures c.check_full-in-Switch.ensures c.check_stmt-in-Switch.ensures

pub check_stmt-returns-in-Labelled : goal.check_stmt-returns-in-Labelled
check_stmt-returns-in-Labelled t c =
    labelled_arm _ _ _ _ _ _ _ c.in-Labelled.is c.get-in-Labelled.ensures c.check_stmt-in-Labelled.ensures

pub check_stmt-returns-in-Break : goal.check_stmt-returns-in-Break
check_stmt-returns-in-Break t c =
    check_arm _ _ _ _ _ _ c.in-Break.is (pending_break _) refl

pub check_stmt-returns-in-Continue : goal.check_stmt-returns-in-Continue
check_stmt-returns-in-Continue t c =
    check_arm _ _ _ _ _ _ c.in-Continue.is (pending_continue _) refl

pub check_stmt-returns-in-Return : goal.check_stmt-returns-in-Return
check_stmt-returns-in-Return t c =
    check_arm _ _ _ _ _ _ c.in-Return.is (pending_return _ _) c.check_if-in-Return.ensures
