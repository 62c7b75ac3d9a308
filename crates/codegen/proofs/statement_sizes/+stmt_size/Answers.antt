use Rattle.std.proofs.Common.{refl}
use Rattle.codegen.proofs.Sizing.{size_next}
use Rattle.codegen.proofs.Pieces.{piece_empty, piece_declare, piece_break, piece_continue}
use Rattle.codegen.proofs.StatementSizing.{stmt_sized, stmts_all, piece_arm, express_arm, block_arm, if_arm, if_else_arm, while_arm, do_arm, for_arm, switch_arm, labelled_arm, return_arm}
use Rattle.codegen.proofs.statement_sizes.+stmt_size.Goals as goal

pub all_size-loop-stmt-preserved : goal.all_size-loop-stmt-preserved
all_size-loop-stmt-preserved t c w =
    size_next (stmt_sized w) _ _ _ _ _ _ c.loop-stmt-test.true c.stmt-item.is (c.loop-stmt.invariant w) (c.stmt_size.ensures w) c.saturating_add-size.ensures

pub all_size-returns : goal.all_size-returns
all_size-returns t c w = stmts_all w _ _ _ c.loop-stmt-test.false (c.loop-stmt.invariant w)

pub stmt_size-returns-in-Empty : goal.stmt_size-returns-in-Empty
stmt_size-returns-in-Empty t c w = piece_arm w _ _ _ _ c.in-Empty.is (piece_empty w _) refl

pub stmt_size-returns-in-Express : goal.stmt_size-returns-in-Express
stmt_size-returns-in-Express t c w = express_arm w _ _ _ _ _ c.in-Express.is c.expr_size.ensures c.saturating_add.ensures

pub stmt_size-returns-in-Declare : goal.stmt_size-returns-in-Declare
stmt_size-returns-in-Declare t c w = piece_arm w _ _ _ _ c.in-Declare.is (piece_declare w _) c.declared_size.ensures

pub stmt_size-returns-in-Block : goal.stmt_size-returns-in-Block
stmt_size-returns-in-Block t c w = block_arm w _ _ _ _ c.in-Block.is c.as_slice.ensures (c.all_size.ensures w)

pub stmt_size-returns-in-None : goal.stmt_size-returns-in-None
stmt_size-returns-in-None t c w =
    if_arm w _ _ _ _ _ _ _ _ _ _ c.in-If.is c.in-None.is c.get.ensures c.expr_size-in-If.ensures (c.stmt_size.ensures w) c.saturating_add-first.ensures c.saturating_add-in-None.ensures

pub stmt_size-returns-in-Some : goal.stmt_size-returns-in-Some
stmt_size-returns-in-Some t c w =
    if_else_arm w _ _ _ _ _ _ _ _ _ _ _ _ _ _ c.in-If.is c.in-Some.is c.get.ensures c.get-in-Some.ensures c.expr_size-in-If.ensures (c.stmt_size.ensures w)
    c.saturating_add-first.ensures (c.stmt_size-in-Some.ensures w) c.saturating_add-in-Some.ensures c.saturating_add-in-Some-2.ensures

pub stmt_size-returns-in-While : goal.stmt_size-returns-in-While
stmt_size-returns-in-While t c w =
    while_arm w _ _ _ _ _ _ _ _ _ c.in-While.is c.get-in-While.ensures c.expr_size-in-While.ensures (c.stmt_size-in-While.ensures w) c.saturating_add-in-While.ensures
    c.saturating_add-in-While-2.ensures

pub stmt_size-returns-in-Do : goal.stmt_size-returns-in-Do
stmt_size-returns-in-Do t c w =
    do_arm w _ _ _ _ _ _ _ _ _ c.in-Do.is c.get-in-Do.ensures c.expr_size-in-Do.ensures (c.stmt_size-in-Do.ensures w) c.saturating_add-in-Do.ensures
    c.saturating_add-in-Do-2.ensures

pub stmt_size-returns-in-For : goal.stmt_size-returns-in-For
stmt_size-returns-in-For t c w =
    for_arm w _ _ _ _ _ _ _ _ _ _ _ _ c.in-For.is c.as_slice-in-For.ensures c.get-in-For.ensures c.for_size.ensures (c.stmt_size-in-For.ensures w) c.saturating_add-in-For.ensures

pub stmt_size-returns-in-Switch : goal.stmt_size-returns-in-Switch
stmt_size-returns-in-Switch t c w =
    switch_arm w _ _ _ _ _ _ _ _ _ _ _ _ _ _ c.in-Switch.is c.as_slice-in-Switch.ensures c.get-in-Switch.ensures c.expr_size-in-Switch.ensures c.cases_size.ensures
    c.saturating_add-in-Switch.ensures (c.stmt_size-in-Switch.ensures w) c.saturating_add-in-Switch-2.ensures c.saturating_add-in-Switch-3.ensures

pub stmt_size-returns-in-Labelled : goal.stmt_size-returns-in-Labelled
stmt_size-returns-in-Labelled t c w = labelled_arm w _ _ _ _ _ c.in-Labelled.is c.get-in-Labelled.ensures (c.stmt_size-in-Labelled.ensures w)

pub stmt_size-returns-in-Break : goal.stmt_size-returns-in-Break
stmt_size-returns-in-Break t c w = piece_arm w _ _ _ _ c.in-Break.is (piece_break w _) refl

pub stmt_size-returns-in-Continue : goal.stmt_size-returns-in-Continue
stmt_size-returns-in-Continue t c w = piece_arm w _ _ _ _ c.in-Continue.is (piece_continue w _) refl

pub stmt_size-returns-in-Return : goal.stmt_size-returns-in-Return
stmt_size-returns-in-Return t c w = return_arm w _ _ _ _ _ c.in-Return.is c.return_size.ensures c.saturating_add-in-Return.ensures
