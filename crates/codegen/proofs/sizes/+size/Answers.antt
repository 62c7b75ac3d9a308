use Rattle.std.proofs.Common.{refl, sym, ap, ◌∙◌, map, arith}
use Rattle.codegen.specs.Sizes.{total, expr_size, step_sized}
use Rattle.codegen.specs.Making.{at_most_word}
use Rattle.codegen.proofs.Parts.{size_operand_number, size_operand_local, size_operand_object, size_operand_call, size_operand_library, size_operand_mpi, size_step_load, size_step_unary, size_step_convert, size_step_member, size_step_not, size_step_count, size_step_comma, size_step_binary, size_step_assign, size_step_copy, size_step_offset, size_step_difference, size_step_greater, size_step_atleast, size_step_and, size_step_or, size_step_advance, size_step_update, size_step_conditional}
use Rattle.codegen.proofs.Sizing.{size_expr, cut_sum, cut_is, size_next, size_all, operand_arm, step_arm, call_arm, right_arm, two_arm, count_word}
use Rattle.codegen.proofs.sizes.+size.Goals as goal

pub expr_size-returns : goal.expr_size-returns
expr_size-returns t c =
    cut_is _ _ _ (cut_sum _ _ _ _ _ c.operand_size.ensures (c.steps_size.ensures ∙ ap (λ ss. at_most_word (total (map step_sized ss))) c.as_slice.ensures) c.saturating_add.ensures)
    (sym (size_expr c.args.expr.now))

pub operand_size-returns-in-Number : goal.operand_size-returns-in-Number
operand_size-returns-in-Number t c = operand_arm _ _ _ _ c.in-Number.is (size_operand_number _) refl

pub operand_size-returns-in-Local : goal.operand_size-returns-in-Local
operand_size-returns-in-Local t c = operand_arm _ _ _ _ c.in-Local.is (size_operand_local _) refl

pub operand_size-returns-in-Object : goal.operand_size-returns-in-Object
operand_size-returns-in-Object t c = operand_arm _ _ _ _ c.in-Object.is (size_operand_object _) refl

pub operand_size-returns-in-Call : goal.operand_size-returns-in-Call
operand_size-returns-in-Call t c =
    call_arm _ _ _ _ _ _ _ c.in-Call.is (size_operand_call _ _) c.as_slice.ensures c.all_size.ensures c.saturating_add.ensures

pub operand_size-returns-in-Library : goal.operand_size-returns-in-Library
operand_size-returns-in-Library t c =
    call_arm _ _ _ _ _ _ _ c.in-Library.is (size_operand_library _ _) c.as_slice-in-Library.ensures c.all_size-in-Library.ensures c.saturating_add-in-Library.ensures

pub operand_size-returns-in-Mpi : goal.operand_size-returns-in-Mpi
operand_size-returns-in-Mpi t c =
    call_arm _ _ _ _ _ _ _ c.in-Mpi.is (size_operand_mpi _ _) c.as_slice-in-Mpi.ensures c.all_size-in-Mpi.ensures c.saturating_add-in-Mpi.ensures

pub step_size-returns-in-Load : goal.step_size-returns-in-Load
step_size-returns-in-Load t c = step_arm _ _ _ _ c.in-Load.is (size_step_load _) refl

pub step_size-returns-in-Unary : goal.step_size-returns-in-Unary
step_size-returns-in-Unary t c = step_arm _ _ _ _ c.in-Unary.is (size_step_unary _ _) refl

pub step_size-returns-in-Convert : goal.step_size-returns-in-Convert
step_size-returns-in-Convert t c = step_arm _ _ _ _ c.in-Convert.is (size_step_convert _ _) refl

pub step_size-returns-in-Member : goal.step_size-returns-in-Member
step_size-returns-in-Member t c = step_arm _ _ _ _ c.in-Member.is (size_step_member _) refl

pub step_size-returns-in-Not : goal.step_size-returns-in-Not
step_size-returns-in-Not t c = step_arm _ _ _ _ c.in-Not.is size_step_not refl

pub step_size-returns-in-Comma : goal.step_size-returns-in-Comma
step_size-returns-in-Comma t c =
    right_arm _ _ _ _ _ _ _ 1 c.in-Comma.is (size_step_comma _) (omega arith) c.get.ensures c.expr_size.ensures c.saturating_add.ensures

pub step_size-returns-in-Binary : goal.step_size-returns-in-Binary
step_size-returns-in-Binary t c =
    right_arm _ _ _ _ _ _ _ 1 c.in-Binary.is (size_step_binary _ _ _) (omega arith) c.get-in-Binary.ensures c.expr_size-in-Binary.ensures c.saturating_add-in-Binary.ensures

pub step_size-returns-in-Assign : goal.step_size-returns-in-Assign
step_size-returns-in-Assign t c =
    right_arm _ _ _ _ _ _ _ 1 c.in-Assign.is (size_step_assign _ _) (omega arith) c.get-in-Assign.ensures c.expr_size-in-Assign.ensures c.saturating_add-in-Assign.ensures

pub step_size-returns-in-Copy : goal.step_size-returns-in-Copy
step_size-returns-in-Copy t c =
    right_arm _ _ _ _ _ _ _ 1 c.in-Copy.is (size_step_copy _ _) (omega arith) c.get-in-Copy.ensures c.expr_size-in-Copy.ensures c.saturating_add-in-Copy.ensures

pub step_size-returns-in-Offset : goal.step_size-returns-in-Offset
step_size-returns-in-Offset t c =
    right_arm _ _ _ _ _ _ _ 3 c.in-Offset.is (size_step_offset _ _ _) (omega arith) c.get-in-Offset.ensures c.expr_size-in-Offset.ensures c.saturating_add-in-Offset.ensures

pub step_size-returns-in-Difference : goal.step_size-returns-in-Difference
step_size-returns-in-Difference t c =
    right_arm _ _ _ _ _ _ _ 3 c.in-Difference.is (size_step_difference _ _) (omega arith) c.get-in-Difference.ensures c.expr_size-in-Difference.ensures c.saturating_add-in-Difference.ensures

pub step_size-returns-in-Greater : goal.step_size-returns-in-Greater
step_size-returns-in-Greater t c =
    right_arm _ _ _ _ _ _ _ 5 c.in-Greater.is (size_step_greater _ _) (omega arith) c.get-in-Greater.ensures c.expr_size-in-Greater.ensures c.saturating_add-in-Greater.ensures

pub step_size-returns-in-AtLeast : goal.step_size-returns-in-AtLeast
step_size-returns-in-AtLeast t c =
    right_arm _ _ _ _ _ _ _ 5 c.in-AtLeast.is (size_step_atleast _ _) (omega arith) c.get-in-AtLeast.ensures c.expr_size-in-AtLeast.ensures c.saturating_add-in-AtLeast.ensures

pub step_size-returns-in-And : goal.step_size-returns-in-And
step_size-returns-in-And t c =
    right_arm _ _ _ _ _ _ _ 5 c.in-And.is (size_step_and _) (omega arith) c.get-in-And.ensures c.expr_size-in-And.ensures c.saturating_add-in-And.ensures

pub step_size-returns-in-Or : goal.step_size-returns-in-Or
step_size-returns-in-Or t c =
    right_arm _ _ _ _ _ _ _ 5 c.in-Or.is (size_step_or _) (omega arith) c.get-in-Or.ensures c.expr_size-in-Or.ensures c.saturating_add-in-Or.ensures

pub step_size-returns-in-Advance : goal.step_size-returns-in-Advance
step_size-returns-in-Advance t c =
    right_arm _ _ _ _ _ _ _ 6 c.in-Advance.is (size_step_advance _ _ _) (omega arith) c.get-in-Advance.ensures c.expr_size-in-Advance.ensures c.saturating_add-in-Advance.ensures

pub step_size-returns-in-Update : goal.step_size-returns-in-Update
step_size-returns-in-Update t c =
    right_arm _ _ _ _ _ _ _ 8 c.in-Update.is (size_step_update _ _ _ _) (omega arith) c.get-in-Update.ensures c.expr_size-in-Update.ensures c.saturating_add-in-Update.ensures

pub step_size-returns-in-Conditional : goal.step_size-returns-in-Conditional
step_size-returns-in-Conditional t c =
    two_arm _ _ _ _ _ _ _ _ _ _ c.in-Conditional.is (size_step_conditional _ _) c.get-in-Conditional.ensures c.get-in-Conditional-2.ensures c.expr_size-in-Conditional.ensures c.expr_size-in-Conditional-2.ensures c.saturating_add-in-Conditional.ensures c.saturating_add-in-Conditional-2.ensures

pub all_size-loop-expr-preserved : goal.all_size-loop-expr-preserved
all_size-loop-expr-preserved t c =
    size_next expr_size _ _ _ _ _ _ c.loop-expr-test.true c.expr-item.is c.loop-expr.invariant c.expr_size.ensures c.saturating_add-size.ensures

pub all_size-returns : goal.all_size-returns
all_size-returns t c = size_all expr_size _ _ _ c.loop-expr-test.false c.loop-expr.invariant

pub steps_size-loop-step-preserved : goal.steps_size-loop-step-preserved
steps_size-loop-step-preserved t c =
    size_next step_sized _ _ _ _ _ _ c.loop-step-test.true c.step-item.is c.loop-step.invariant c.step_size.ensures c.saturating_add-size.ensures

pub steps_size-returns : goal.steps_size-returns
steps_size-returns t c = size_all step_sized _ _ _ c.loop-step-test.false c.loop-step.invariant

pub step_size-returns-in-Count : goal.step_size-returns-in-Count
step_size-returns-in-Count t c = step_arm _ _ _ _ c.in-Count.is (size_step_count _ _ _) (count_word _ _ c.count_size.ensures)
