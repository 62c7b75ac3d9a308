use Rattle.std.proofs.lemmas.Result.{on_ok_weaker}
use Rattle.vm_code.specs.declared.instr.Instr.TheVariants as instr
use Rattle.codegen.specs.Layout.{step_code, expr_part}
use Rattle.codegen.specs.Statements.{offset_in}
use Rattle.codegen.proofs.Adding.{adds_none}
use Rattle.codegen.proofs.Parts.{code_operand_number, code_operand_local, code_operand_call, code_operand_library, code_step_load, code_step_convert, code_step_unary, code_step_not, code_step_member, code_step_binary, code_step_greater, code_step_atleast, code_step_offset, code_step_difference, code_step_and, code_step_or, code_step_comma, code_step_assign, code_step_copy, code_step_update, code_step_advance, code_step_count}
use Rattle.codegen.proofs.Emitting.{adds_next, adds_all, expr_adds, operand_named, object_adds, call_adds, mpi_adds, step_named, behind_adds, before_adds, offset_adds, update_adds, advance_adds, decided_adds, otherwise_adds, conditional_adds}
use Rattle.codegen.proofs.expressions.+emit.Goals as goal

pub emit_expr-returns : goal.emit_expr-returns
emit_expr-returns t c =
    on_ok_weaker c.emit_steps.result (λ h. expr_adds (offset_in c.args.segment.now) _ _ _ _ _ c.as_slice.ensures c.in_ok-emit_operand.ensures h) c.emit_steps.ensures

pub emit_steps-loop-step-init : goal.emit_steps-loop-step-init
emit_steps-loop-step-init t c =
    adds_none _

pub emit_steps-loop-step-preserved : goal.emit_steps-loop-step-preserved
emit_steps-loop-step-preserved t c =
    adds_next _ _ _ (step_code (offset_in c.args.segment.now)) _ _ _ c.loop-step-test.true c.step-item.is c.loop-step.invariant c.in_ok-emit_step.ensures

pub emit_steps-returns : goal.emit_steps-returns
emit_steps-returns t c =
    adds_all _ _ (step_code (offset_in c.args.segment.now)) _ _ c.loop-step-test.false c.loop-step.invariant

pub emit_all-loop-expr-init : goal.emit_all-loop-expr-init
emit_all-loop-expr-init t c =
    adds_none _

pub emit_all-loop-expr-preserved : goal.emit_all-loop-expr-preserved
emit_all-loop-expr-preserved t c =
    adds_next _ _ _ (expr_part (offset_in c.args.segment.now)) _ _ _ c.loop-expr-test.true c.expr-item.is c.loop-expr.invariant c.in_ok-emit_expr.ensures

pub emit_all-returns : goal.emit_all-returns
emit_all-returns t c =
    adds_all _ _ (expr_part (offset_in c.args.segment.now)) _ _ c.loop-expr-test.false c.loop-expr.invariant

pub emit_operand-returns-in-Number : goal.emit_operand-returns-in-Number
emit_operand-returns-in-Number t c =
    on_ok_weaker c.put.result (λ h. operand_named (offset_in c.args.segment.now) _ _ _ _ _ c.in-Number.is (code_operand_number (offset_in c.args.segment.now) _) h) c.put.ensures

pub emit_operand-returns-in-Local : goal.emit_operand-returns-in-Local
emit_operand-returns-in-Local t c =
    on_ok_weaker c.put-in-Local.result (λ h. operand_named (offset_in c.args.segment.now) _ _ _ _ _ c.in-Local.is (code_operand_local (offset_in c.args.segment.now) _) h) c.put-in-Local.ensures

pub emit_operand-returns-in-Object : goal.emit_operand-returns-in-Object
emit_operand-returns-in-Object t c =
    on_ok_weaker c.put-in-Object.result (λ h. object_adds (offset_in c.args.segment.now) _ _ _ _ _ c.in-Object.is c.offset_of.ensures h) c.put-in-Object.ensures

pub emit_operand-returns-in_ok-emit_all-in-Call : goal.emit_operand-returns-in_ok-emit_all-in-Call
emit_operand-returns-in_ok-emit_all-in-Call t c =
    on_ok_weaker c.put-in-Call.result (λ h. call_adds (offset_in c.args.segment.now) (λ k. instr.Call c.in-Call.function k) _ _ _ _ _ _ _ _ c.in-Call.is (code_operand_call (offset_in c.args.segment.now) _ _) c.as_slice.ensures c.len.ensures c.in_ok-emit_all-in-Call.ensures h) c.put-in-Call.ensures

pub emit_operand-returns-in_ok-emit_all-in-Library : goal.emit_operand-returns-in_ok-emit_all-in-Library
emit_operand-returns-in_ok-emit_all-in-Library t c =
    on_ok_weaker c.put-in-Library.result (λ h. call_adds (offset_in c.args.segment.now) (λ k. instr.Library c.in-Library.call k) _ _ _ _ _ _ _ _ c.in-Library.is (code_operand_library (offset_in c.args.segment.now) _ _) c.as_slice-in-Library.ensures c.len-in-Library.ensures c.in_ok-emit_all-in-Library.ensures h) c.put-in-Library.ensures

pub emit_operand-returns-in_ok-put-in-Mpi : goal.emit_operand-returns-in_ok-put-in-Mpi
emit_operand-returns-in_ok-put-in-Mpi t c =
    on_ok_weaker c.put-in-Mpi-2.result (λ h. mpi_adds (offset_in c.args.segment.now) _ _ _ _ _ _ _ _ _ _ c.in-Mpi.is c.as_slice-in-Mpi.ensures c.len-in-Mpi.ensures c.len-in-Mpi-2.ensures c.in_ok-emit_all-in-Mpi.ensures c.in_ok-put-in-Mpi.ensures h) c.put-in-Mpi-2.ensures

pub emit_behind-returns : goal.emit_behind-returns
emit_behind-returns t c =
    on_ok_weaker c.put.result (λ h. behind_adds (offset_in c.args.segment.now) _ _ _ _ _ _ c.get.ensures c.in_ok-emit_expr.ensures h) c.put.ensures

pub emit_turned-returns : goal.emit_turned-returns
emit_turned-returns t c =
    on_ok_weaker c.put_turned.result (λ h. behind_adds (offset_in c.args.segment.now) _ _ _ _ _ _ c.get.ensures c.in_ok-emit_expr.ensures h) c.put_turned.ensures

pub emit_offset-returns : goal.emit_offset-returns
emit_offset-returns t c =
    on_ok_weaker c.end_offset.result (λ h. offset_adds (offset_in c.args.segment.now) _ _ _ _ c.args.by c.args.scale _ _ c.get.ensures c.in_ok-begin_offset.ensures c.in_ok-emit_expr.ensures h) c.end_offset.ensures

pub emit_difference-returns : goal.emit_difference-returns
emit_difference-returns t c =
    on_ok_weaker c.put_difference.result (λ h. behind_adds (offset_in c.args.segment.now) _ _ _ _ _ _ c.get.ensures c.in_ok-emit_expr.ensures h) c.put_difference.ensures

pub emit_decided-returns : goal.emit_decided-returns
emit_decided-returns t c =
    on_ok_weaker c.put_truths.result (λ h. decided_adds (offset_in c.args.segment.now) _ _ _ _ c.args.decisive _ _ _ _ _ _ _ c.get.ensures c.get-2.ensures c.expr_size.ensures c.saturating_add.ensures c.ahead-past.ensures c.jump_where.ensures c.in_ok-put.ensures c.in_ok-emit_expr.ensures h) c.put_truths.ensures

pub emit_otherwise-returns : goal.emit_otherwise-returns
emit_otherwise-returns t c =
    on_ok_weaker c.emit_expr.result (λ h. otherwise_adds (offset_in c.args.segment.now) _ _ _ _ _ _ _ _ _ c.get.ensures c.get-2.ensures c.expr_size.ensures c.saturating_add.ensures c.ahead-end.ensures c.in_ok-put.ensures h) c.emit_expr.ensures

pub emit_comma-returns : goal.emit_comma-returns
emit_comma-returns t c =
    on_ok_weaker c.emit_expr.result (λ h. before_adds (offset_in c.args.segment.now) _ _ _ _ _ _ c.get.ensures c.in_ok-put.ensures h) c.emit_expr.ensures

pub emit_update-returns : goal.emit_update-returns
emit_update-returns t c =
    on_ok_weaker c.end_update.result (λ h. update_adds (offset_in c.args.segment.now) _ _ _ _ c.args.op c.args.kind c.args.at _ _ c.get.ensures c.in_ok-begin_update.ensures c.in_ok-emit_expr.ensures h) c.end_update.ensures

pub emit_advance-returns : goal.emit_advance-returns
emit_advance-returns t c =
    on_ok_weaker c.end_advance.result (λ h. advance_adds (offset_in c.args.segment.now) _ _ _ _ c.args.direction c.args.scale _ _ c.get.ensures c.in_ok-begin_advance.ensures c.in_ok-emit_expr.ensures h) c.end_advance.ensures

pub emit_step-returns-in-Load : goal.emit_step-returns-in-Load
emit_step-returns-in-Load t c =
    on_ok_weaker c.put.result (λ h. step_named (offset_in c.args.segment.now) _ _ _ _ _ c.in-Load.is (code_step_load (offset_in c.args.segment.now) _) h) c.put.ensures

pub emit_step-returns-in-Convert : goal.emit_step-returns-in-Convert
emit_step-returns-in-Convert t c =
    on_ok_weaker c.put_converted.result (λ h. step_named (offset_in c.args.segment.now) _ _ _ _ _ c.in-Convert.is (code_step_convert (offset_in c.args.segment.now) _ _) h) c.put_converted.ensures

pub emit_step-returns-in-Unary : goal.emit_step-returns-in-Unary
emit_step-returns-in-Unary t c =
    on_ok_weaker c.put-in-Unary.result (λ h. step_named (offset_in c.args.segment.now) _ _ _ _ _ c.in-Unary.is (code_step_unary (offset_in c.args.segment.now) _ _) h) c.put-in-Unary.ensures

pub emit_step-returns-in-Not : goal.emit_step-returns-in-Not
emit_step-returns-in-Not t c =
    on_ok_weaker c.put_negation.result (λ h. step_named (offset_in c.args.segment.now) _ _ _ _ _ c.in-Not.is (code_step_not (offset_in c.args.segment.now)) h) c.put_negation.ensures

pub emit_step-returns-in-Member : goal.emit_step-returns-in-Member
emit_step-returns-in-Member t c =
    on_ok_weaker c.put_member.result (λ h. step_named (offset_in c.args.segment.now) _ _ _ _ _ c.in-Member.is (code_step_member (offset_in c.args.segment.now) _) h) c.put_member.ensures

pub emit_step-returns-in-Count : goal.emit_step-returns-in-Count
emit_step-returns-in-Count t c =
    on_ok_weaker c.put_count.result (λ h. step_named (offset_in c.args.segment.now) _ _ _ _ _ c.in-Count.is (code_step_count (offset_in c.args.segment.now) _ _ _) h) c.put_count.ensures

pub emit_step-returns-in-Binary : goal.emit_step-returns-in-Binary
emit_step-returns-in-Binary t c =
    on_ok_weaker c.emit_behind.result (λ h. step_named (offset_in c.args.segment.now) _ _ _ _ _ c.in-Binary.is (code_step_binary (offset_in c.args.segment.now) _ _ _) h) c.emit_behind.ensures

pub emit_step-returns-in-Assign : goal.emit_step-returns-in-Assign
emit_step-returns-in-Assign t c =
    on_ok_weaker c.emit_behind-in-Assign.result (λ h. step_named (offset_in c.args.segment.now) _ _ _ _ _ c.in-Assign.is (code_step_assign (offset_in c.args.segment.now) _ _) h) c.emit_behind-in-Assign.ensures

pub emit_step-returns-in-Copy : goal.emit_step-returns-in-Copy
emit_step-returns-in-Copy t c =
    on_ok_weaker c.emit_behind-in-Copy.result (λ h. step_named (offset_in c.args.segment.now) _ _ _ _ _ c.in-Copy.is (code_step_copy (offset_in c.args.segment.now) _ _) h) c.emit_behind-in-Copy.ensures

pub emit_step-returns-in-Greater : goal.emit_step-returns-in-Greater
emit_step-returns-in-Greater t c =
    on_ok_weaker c.emit_turned.result (λ h. step_named (offset_in c.args.segment.now) _ _ _ _ _ c.in-Greater.is (code_step_greater (offset_in c.args.segment.now) _ _) h) c.emit_turned.ensures

pub emit_step-returns-in-AtLeast : goal.emit_step-returns-in-AtLeast
emit_step-returns-in-AtLeast t c =
    on_ok_weaker c.emit_turned-in-AtLeast.result (λ h. step_named (offset_in c.args.segment.now) _ _ _ _ _ c.in-AtLeast.is (code_step_atleast (offset_in c.args.segment.now) _ _) h) c.emit_turned-in-AtLeast.ensures

pub emit_step-returns-in-Offset : goal.emit_step-returns-in-Offset
emit_step-returns-in-Offset t c =
    on_ok_weaker c.emit_offset.result (λ h. step_named (offset_in c.args.segment.now) _ _ _ _ _ c.in-Offset.is (code_step_offset (offset_in c.args.segment.now) _ _ _) h) c.emit_offset.ensures

pub emit_step-returns-in-Difference : goal.emit_step-returns-in-Difference
emit_step-returns-in-Difference t c =
    on_ok_weaker c.emit_difference.result (λ h. step_named (offset_in c.args.segment.now) _ _ _ _ _ c.in-Difference.is (code_step_difference (offset_in c.args.segment.now) _ _) h) c.emit_difference.ensures

pub emit_step-returns-in-And : goal.emit_step-returns-in-And
emit_step-returns-in-And t c =
    on_ok_weaker c.emit_decided.result (λ h. step_named (offset_in c.args.segment.now) _ _ _ _ _ c.in-And.is (code_step_and (offset_in c.args.segment.now) _) h) c.emit_decided.ensures

pub emit_step-returns-in-Or : goal.emit_step-returns-in-Or
emit_step-returns-in-Or t c =
    on_ok_weaker c.emit_decided-in-Or.result (λ h. step_named (offset_in c.args.segment.now) _ _ _ _ _ c.in-Or.is (code_step_or (offset_in c.args.segment.now) _) h) c.emit_decided-in-Or.ensures

pub emit_step-returns-in-Comma : goal.emit_step-returns-in-Comma
emit_step-returns-in-Comma t c =
    on_ok_weaker c.emit_comma.result (λ h. step_named (offset_in c.args.segment.now) _ _ _ _ _ c.in-Comma.is (code_step_comma (offset_in c.args.segment.now) _) h) c.emit_comma.ensures

pub emit_step-returns-in-Update : goal.emit_step-returns-in-Update
emit_step-returns-in-Update t c =
    on_ok_weaker c.emit_update.result (λ h. step_named (offset_in c.args.segment.now) _ _ _ _ _ c.in-Update.is (code_step_update (offset_in c.args.segment.now) _ _ _ _) h) c.emit_update.ensures

pub emit_step-returns-in-Advance : goal.emit_step-returns-in-Advance
emit_step-returns-in-Advance t c =
    on_ok_weaker c.emit_advance.result (λ h. step_named (offset_in c.args.segment.now) _ _ _ _ _ c.in-Advance.is (code_step_advance (offset_in c.args.segment.now) _ _ _) h) c.emit_advance.ensures

pub emit_step-returns-in_ok-emit_expr-in-Conditional : goal.emit_step-returns-in_ok-emit_expr-in-Conditional
emit_step-returns-in_ok-emit_expr-in-Conditional t c =
    on_ok_weaker c.emit_otherwise.result (λ h. conditional_adds (offset_in c.args.segment.now) _ _ _ _ _ _ _ _ _ _ _ _ c.in-Conditional.is c.get.ensures c.get-in-Conditional.ensures c.expr_size.ensures c.saturating_add.ensures c.ahead-past.ensures c.in_ok-put-in-Conditional.ensures c.in_ok-emit_expr-in-Conditional.ensures h) c.emit_otherwise.ensures
