use Rattle.std.proofs.lemmas.Result.{on_ok_weaker}
use Rattle.vm_code.specs.declared.instr.Instr.TheVariants as instr
use Rattle.codegen.specs.Making.{within, targets_of}
use Rattle.codegen.proofs.Adding.{adds_none}
use Rattle.codegen.proofs.Emitting.{adds_next}
use Rattle.codegen.proofs.Pieces.{piece_empty, piece_express, piece_declare, piece_break, piece_continue, piece_return}
use Rattle.codegen.proofs.Stating.{part_of, stmts_add, stmt_named, block_adds, labelled_adds, over_last, if_adds, if_else_adds}
use Rattle.codegen.proofs.Switching.{switch_emits, switch_adds}
use Rattle.codegen.proofs.Turning.{turns_add, for_turns_add, while_adds, do_adds, for_adds}
use Rattle.codegen.proofs.statements.+stmt.Goals as goal

pub emit_stmts-loop-stmt-init : goal.emit_stmts-loop-stmt-init
emit_stmts-loop-stmt-init t c =
    adds_none _

pub emit_stmts-loop-stmt-preserved : goal.emit_stmts-loop-stmt-preserved
emit_stmts-loop-stmt-preserved t c =
    adds_next _ _ _ (part_of (within c.args.unit c.args.segment.now) (targets_of c.args.places)) _ _ _ c.loop-stmt-test.true c.stmt-item.is c.loop-stmt.invariant c.in_ok-emit_stmt.ensures

pub emit_stmts-returns : goal.emit_stmts-returns
emit_stmts-returns t c =
    stmts_add (within c.args.unit c.args.segment.now) _ _ (targets_of c.args.places) _ _ c.loop-stmt-test.false c.loop-stmt.invariant

pub emit_then-returns : goal.emit_then-returns
emit_then-returns t c =
    on_ok_weaker c.emit_stmt.result (λ h. over_last (within c.args.unit c.args.segment.now) _ _ _ instr.JumpIfZero _ (targets_of c.args.places) _ _ _ (c.stmt_size.ensures (within c.args.unit c.args.segment.now)) c.saturating_add.ensures c.ahead-past.ensures c.in_ok-put.ensures h) c.emit_stmt.ensures

pub emit_else-returns : goal.emit_else-returns
emit_else-returns t c =
    on_ok_weaker c.emit_stmt.result (λ h. over_last (within c.args.unit c.args.segment.now) _ _ _ instr.Jump _ (targets_of c.args.places) _ _ _ (c.stmt_size.ensures (within c.args.unit c.args.segment.now)) c.saturating_add.ensures c.ahead-end.ensures c.in_ok-put.ensures h) c.emit_stmt.ensures

pub emit_turns-returns : goal.emit_turns-returns
emit_turns-returns t c =
    on_ok_weaker c.put-2.result (λ h. turns_add (within c.args.unit c.args.segment.now) _ _ _ _ _ _ c.args.test.now _ _ _ _ _ _ _ c.expr_size.ensures (c.stmt_size.ensures (within c.args.unit c.args.segment.now)) c.saturating_add.ensures c.saturating_add-size.ensures c.end-start.ensures c.ahead-end.ensures c.in_ok-emit_ticked.ensures c.in_ok-put.ensures c.in_ok-emit_stmt.ensures h) c.put-2.ensures

pub emit_for_turns-returns : goal.emit_for_turns-returns
emit_for_turns-returns t c =
    on_ok_weaker c.put.result (λ h. for_turns_add (within c.args.unit c.args.segment.now) _ _ _ _ _ _ _ _ _ _ _ _ _ _ _ _ _ _ _ _ _ c.with_one.ensures (c.stmt_size.ensures (within c.args.unit c.args.segment.now)) c.saturating_add-size.ensures c.saturating_add.ensures c.again_size.ensures c.saturating_add-2.ensures c.saturating_add-3.ensures c.end-start.ensures c.ahead-again.ensures c.ahead-end.ensures c.continue_place.ensures c.in_ok-emit_tick.ensures c.in_ok-emit_test.ensures c.in_ok-emit_stmt.ensures c.in_ok-emit_again.ensures h) c.put.ensures

pub emit_stmt-returns-in-Empty : goal.emit_stmt-returns-in-Empty
emit_stmt-returns-in-Empty t c =
    on_ok_weaker c.emit_tick.result (λ h. stmt_named (within c.args.unit c.args.segment.now) _ _ _ _ _ (targets_of c.args.places) c.in-Empty.is (piece_empty (within c.args.unit c.args.segment.now) _) h) c.emit_tick.ensures

pub emit_stmt-returns-in-Express : goal.emit_stmt-returns-in-Express
emit_stmt-returns-in-Express t c =
    on_ok_weaker c.emit_express.result (λ h. stmt_named (within c.args.unit c.args.segment.now) _ _ _ _ _ (targets_of c.args.places) c.in-Express.is (piece_express (within c.args.unit c.args.segment.now) _ _) h) c.emit_express.ensures

pub emit_stmt-returns-in-Declare : goal.emit_stmt-returns-in-Declare
emit_stmt-returns-in-Declare t c =
    on_ok_weaker c.emit_declared.result (λ h. stmt_named (within c.args.unit c.args.segment.now) _ _ _ _ _ (targets_of c.args.places) c.in-Declare.is (piece_declare (within c.args.unit c.args.segment.now) _) h) c.emit_declared.ensures

pub emit_stmt-returns-in-Block : goal.emit_stmt-returns-in-Block
emit_stmt-returns-in-Block t c =
    on_ok_weaker c.emit_stmts.result (λ h. block_adds (within c.args.unit c.args.segment.now) _ _ _ _ _ (targets_of c.args.places) c.in-Block.is c.as_slice.ensures h) c.emit_stmts.ensures

pub emit_stmt-returns-in-None : goal.emit_stmt-returns-in-None
emit_stmt-returns-in-None t c =
    on_ok_weaker c.emit_then.result (λ h. if_adds (within c.args.unit c.args.segment.now) _ _ _ _ _ _ _ _ _ (targets_of c.args.places) c.in-If.is c.in-None.is c.get.ensures c.in_ok-emit_ticked-in-If.ensures h) c.emit_then.ensures

pub emit_stmt-returns-in_ok-emit_stmt-in-Some : goal.emit_stmt-returns-in_ok-emit_stmt-in-Some
emit_stmt-returns-in_ok-emit_stmt-in-Some t c =
    on_ok_weaker c.emit_else.result (λ h. if_else_adds (within c.args.unit c.args.segment.now) _ _ _ _ _ _ _ _ _ _ _ _ _ _ (targets_of c.args.places) _ _ _ c.in-If.is c.in-Some.is c.get-in-Some.ensures c.get-in-Some-2.ensures c.get-in-Some-3.ensures
    (c.stmt_size.ensures (within c.args.unit c.args.segment.now)) c.saturating_add.ensures c.ahead-past.ensures c.in_ok-emit_ticked-in-If.ensures c.in_ok-put-in-Some.ensures c.in_ok-emit_stmt-in-Some.ensures h) c.emit_else.ensures

pub emit_stmt-returns-in_ok-emit_tick-in-While : goal.emit_stmt-returns-in_ok-emit_tick-in-While
emit_stmt-returns-in_ok-emit_tick-in-While t c =
    on_ok_weaker c.emit_turns.result (λ h. while_adds (within c.args.unit c.args.segment.now) _ _ _ _ _ _ _ _ (targets_of c.args.places) c.in-While.is c.get-in-While.ensures c.in_ok-emit_tick-in-While.ensures h) c.emit_turns.ensures

pub emit_stmt-returns-in_ok-put-in-Do : goal.emit_stmt-returns-in_ok-put-in-Do
emit_stmt-returns-in_ok-put-in-Do t c =
    on_ok_weaker c.emit_turns-in-Do.result (λ h. do_adds (within c.args.unit c.args.segment.now) _ _ _ _ _ _ _ _ _ (targets_of c.args.places) _ _ _ c.in-Do.is c.get-in-Do.ensures c.expr_size.ensures c.saturating_add-in-Do.ensures c.ahead-into.ensures c.in_ok-emit_tick-in-Do.ensures c.in_ok-put-in-Do.ensures h) c.emit_turns-in-Do.ensures

pub emit_stmt-returns-in_ok-emit_dropped-in-For : goal.emit_stmt-returns-in_ok-emit_dropped-in-For
emit_stmt-returns-in_ok-emit_dropped-in-For t c =
    on_ok_weaker c.emit_for_turns.result (λ h. for_adds (within c.args.unit c.args.segment.now) _ _ _ _ _ _ _ _ _ _ _ _ _ _ (targets_of c.args.places) c.in-For.is c.as_slice-in-For.ensures c.get-in-For.ensures c.in_ok-emit_tick-in-For.ensures c.in_ok-emit_all_declared-in-For.ensures c.in_ok-emit_dropped-in-For.ensures h) c.emit_for_turns.ensures

pub emit_switch-returns : goal.emit_switch-returns
emit_switch-returns t c =
    on_ok_weaker c.emit_stmt.result (λ h. switch_emits (within c.args.unit c.args.segment.now) _ _ _ _ _ c.args.cases.now c.args.default c.args.body.now (targets_of c.args.places) _ _ _ _ _ _ _
    c.cases_size.ensures c.saturating_add-front.ensures c.ahead-start.ensures (c.stmt_size.ensures (within c.args.unit c.args.segment.now)) c.saturating_add.ensures c.ahead-end.ensures
    (c.default_place.ensures (within c.args.unit c.args.segment.now)) (c.in_ok-emit_cases.ensures (within c.args.unit c.args.segment.now)) c.in_ok-put.ensures c.in_ok-put-2.ensures h)
    c.emit_stmt.ensures

pub emit_stmt-returns-in_ok-emit_ticked-in-Switch : goal.emit_stmt-returns-in_ok-emit_ticked-in-Switch
emit_stmt-returns-in_ok-emit_ticked-in-Switch t c =
    on_ok_weaker c.emit_switch.result (λ h. switch_adds (within c.args.unit c.args.segment.now) _ _ _ _ _ _ _ _ _ _ _ (targets_of c.args.places) c.in-Switch.is c.as_slice-in-Switch.ensures
    c.get-in-Switch.ensures c.in_ok-emit_ticked-in-Switch.ensures h) c.emit_switch.ensures

pub emit_stmt-returns-in-Labelled : goal.emit_stmt-returns-in-Labelled
emit_stmt-returns-in-Labelled t c =
    on_ok_weaker c.emit_stmt-in-Labelled.result (λ h. labelled_adds (within c.args.unit c.args.segment.now) _ _ _ _ _ _ (targets_of c.args.places) c.in-Labelled.is c.get-in-Labelled.ensures h) c.emit_stmt-in-Labelled.ensures

pub emit_stmt-returns-in-Break : goal.emit_stmt-returns-in-Break
emit_stmt-returns-in-Break t c =
    on_ok_weaker c.emit_jump.result (λ h. stmt_named (within c.args.unit c.args.segment.now) _ _ _ _ _ (targets_of c.args.places) c.in-Break.is (piece_break (within c.args.unit c.args.segment.now) _) h) c.emit_jump.ensures

pub emit_stmt-returns-in-Continue : goal.emit_stmt-returns-in-Continue
emit_stmt-returns-in-Continue t c =
    on_ok_weaker c.emit_jump-in-Continue.result (λ h. stmt_named (within c.args.unit c.args.segment.now) _ _ _ _ _ (targets_of c.args.places) c.in-Continue.is (piece_continue (within c.args.unit c.args.segment.now) _) h) c.emit_jump-in-Continue.ensures

pub emit_stmt-returns-in-Return : goal.emit_stmt-returns-in-Return
emit_stmt-returns-in-Return t c =
    on_ok_weaker c.emit_return.result (λ h. stmt_named (within c.args.unit c.args.segment.now) _ _ _ _ _ (targets_of c.args.places) c.in-Return.is (piece_return (within c.args.unit c.args.segment.now) _ _) h) c.emit_return.ensures
