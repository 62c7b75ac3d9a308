use Rattle.std.proofs.Common.{refl}
use Rattle.codegen.proofs.Pieces.{piece_empty, piece_express, piece_declare, piece_switch, piece_break, piece_continue, piece_return}
use Rattle.codegen.proofs.Placing.{sizes_next, labels_next, labels_all, label_arm, label_block, label_if, label_if_else, label_while, label_do, label_for, label_here, label_there}
use Rattle.codegen.proofs.labels.+label_of.Goals as goal

pub label_among-loop-stmt-init : goal.label_among-loop-stmt-init
label_among-loop-stmt-init t c w = (refl, refl)

pub label_among-loop-stmt-preserved : goal.label_among-loop-stmt-preserved
label_among-loop-stmt-preserved t c w = (
  labels_next w _ _ _ _ _ _ _ _ _ c.loop-stmt-test.true c.stmt-item.is (c.loop-stmt.invariant w).0 (c.loop-stmt.invariant w).1 (c.label_of.ensures w) c.further.ensures
      c.first_of-found.ensures,
  sizes_next w _ _ _ _ _ _ c.loop-stmt-test.true c.stmt-item.is (c.loop-stmt.invariant w).1 (c.stmt_size.ensures w) c.saturating_add-before.ensures,
)

pub label_among-returns : goal.label_among-returns
label_among-returns t c w = labels_all w _ _ _ _ c.loop-stmt-test.false (c.loop-stmt.invariant w).0

pub label_of-returns-in-Block : goal.label_of-returns-in-Block
label_of-returns-in-Block t c w = label_block w _ _ _ _ _ c.in-Block.is c.as_slice.ensures (c.label_among.ensures w)

pub label_of-returns-in-None : goal.label_of-returns-in-None
label_of-returns-in-None t c w =
    label_if w _ _ _ _ _ _ _ _ _ _ _ c.in-If.is c.in-None.is c.get.ensures c.expr_size.ensures c.saturating_add-front.ensures (c.label_of.ensures w) c.further-first.ensures

pub label_of-returns-in-Some : goal.label_of-returns-in-Some
label_of-returns-in-Some t c w =
    label_if_else w _ _ _ _ _ _ _ _ _ _ _ _ _ _ _ _ _ _ _ _ c.in-If.is c.in-Some.is c.get.ensures c.get-in-Some.ensures c.get-in-Some-2.ensures c.expr_size.ensures
    c.saturating_add-front.ensures (c.label_of.ensures w) c.further-first.ensures (c.stmt_size.ensures w) c.saturating_add.ensures c.saturating_add-past.ensures
    (c.label_of-in-Some.ensures w) c.further.ensures c.first_of.ensures

pub label_of-returns-in-While : goal.label_of-returns-in-While
label_of-returns-in-While t c w =
    label_while w _ _ _ _ _ _ _ _ _ _ c.in-While.is c.get-in-While.ensures c.expr_size-in-While.ensures c.saturating_add-front-in-While.ensures (c.label_of-in-While.ensures w)
    c.further-in-While.ensures

pub label_of-returns-in-Do : goal.label_of-returns-in-Do
label_of-returns-in-Do t c w =
    label_do w _ _ _ _ _ _ _ _ _ _ c.in-Do.is c.get-in-Do.ensures c.expr_size-in-Do.ensures c.saturating_add-front-in-Do.ensures (c.label_of-in-Do.ensures w)
    c.further-in-Do.ensures

pub label_of-returns-in-For : goal.label_of-returns-in-For
label_of-returns-in-For t c w =
    label_for w _ _ _ _ _ _ _ _ _ _ _ _ _ c.in-For.is c.as_slice-in-For.ensures c.get-in-For.ensures c.for_front.ensures (c.label_of-in-For.ensures w) c.further-in-For.ensures

pub label_of-returns-in-Empty : goal.label_of-returns-in-Empty
label_of-returns-in-Empty t c w = label_arm w _ _ _ _ _ c.in-Empty.is (piece_empty w _) refl

pub label_of-returns-in-Express : goal.label_of-returns-in-Express
label_of-returns-in-Express t c w = label_arm w _ _ _ _ _ c.in-Express.is (piece_express w _ _) refl

pub label_of-returns-in-Declare : goal.label_of-returns-in-Declare
label_of-returns-in-Declare t c w = label_arm w _ _ _ _ _ c.in-Declare.is (piece_declare w _) refl

pub label_of-returns-in-Switch : goal.label_of-returns-in-Switch
label_of-returns-in-Switch t c w = label_arm w _ _ _ _ _ c.in-Switch.is (piece_switch w _ _ _ _ _) refl

pub label_of-returns-in-Break : goal.label_of-returns-in-Break
label_of-returns-in-Break t c w = label_arm w _ _ _ _ _ c.in-Break.is (piece_break w _) refl

pub label_of-returns-in-Continue : goal.label_of-returns-in-Continue
label_of-returns-in-Continue t c w = label_arm w _ _ _ _ _ c.in-Continue.is (piece_continue w _) refl

pub label_of-returns-in-Return : goal.label_of-returns-in-Return
label_of-returns-in-Return t c w = label_arm w _ _ _ _ _ c.in-Return.is (piece_return w _ _) refl

pub label_of-returns-then-label-number : goal.label_of-returns-then-label-number
label_of-returns-then-label-number t c w = label_here w _ _ _ _ c.in-Labelled.is c.if-label-number.true

pub label_of-returns-else-label-number : goal.label_of-returns-else-label-number
label_of-returns-else-label-number t c w = label_there w _ _ _ _ _ _ c.in-Labelled.is c.get-else-label-number.ensures c.if-label-number.false (c.label_of-else-label-number.ensures w)
