use Rattle.std.proofs.Common.{refl, ap, sym, ◌∙◌, min, map}
use Rattle.c_types.specs.Need.{behind_all, need_first, need_behind}
use Rattle.codegen.proofs.Needing.{need_expr, need_number, need_local, need_object, need_call, need_library, need_mpi, behind_load, behind_convert, behind_unary, behind_not, behind_member, behind_binary, behind_greater, behind_at_least, behind_offset, behind_difference, behind_and, behind_or, behind_comma, behind_assign, behind_copy, behind_update, behind_advance, behind_count, first_arm, call_arm, behind_arm, member_need, above_arm, above_three_arm, beside_arm, choice_arm, twice_arm, advance_arm, behind_next, behind_whole, call_next, before_next, call_whole}
use Rattle.codegen.proofs.need.+need.Goals as goal

pub need-returns : goal.need-returns
need-returns t c =
    c.steps_need.ensures (need_first c.args.expr.now.first) c.operand_need.ensures
    ∙ ap (λ ss. min (behind_all (need_first c.args.expr.now.first) (map need_behind ss)) 255) c.as_slice.ensures ∙ ap (λ n. min n 255) (sym (need_expr c.args.expr.now))

pub operand_need-returns-in-Number : goal.operand_need-returns-in-Number
operand_need-returns-in-Number t c =
    first_arm _ _ _ _ c.in-Number.is (need_number _) refl

pub operand_need-returns-in-Local : goal.operand_need-returns-in-Local
operand_need-returns-in-Local t c =
    first_arm _ _ _ _ c.in-Local.is (need_local _) refl

pub operand_need-returns-in-Object : goal.operand_need-returns-in-Object
operand_need-returns-in-Object t c =
    first_arm _ _ _ _ c.in-Object.is (need_object _) refl

pub operand_need-returns-in-Call : goal.operand_need-returns-in-Call
operand_need-returns-in-Call t c =
    call_arm _ _ _ _ _ c.in-Call.is (need_call _ _) c.as_slice.ensures c.call_need.ensures

pub operand_need-returns-in-Library : goal.operand_need-returns-in-Library
operand_need-returns-in-Library t c =
    call_arm _ _ _ _ _ c.in-Library.is (need_library _ _) c.as_slice-in-Library.ensures c.call_need-in-Library.ensures

pub operand_need-returns-in-Mpi : goal.operand_need-returns-in-Mpi
operand_need-returns-in-Mpi t c =
    call_arm _ _ _ _ _ c.in-Mpi.is (need_mpi _ _) c.as_slice-in-Mpi.ensures c.call_need-in-Mpi.ensures

pub call_need-loop-argument-preserved : goal.call_need-loop-argument-preserved
call_need-loop-argument-preserved t c =
    record {
      most = call_next _ _ _ _ _ _ _ _ c.loop-argument-test.true c.argument-item.is c.loop-argument.invariant.most c.loop-argument.invariant.before c.need.ensures c.saturating_add.ensures c.max-most.ensures;
      before = before_next _ _ _ c.loop-argument.invariant.before c.saturating_add-before.ensures;
    }

pub call_need-returns : goal.call_need-returns
call_need-returns t c =
    call_whole _ _ _ c.loop-argument-test.false c.loop-argument.invariant.most

pub steps_need-loop-step-preserved : goal.steps_need-loop-step-preserved
steps_need-loop-step-preserved t c n is =
    behind_next _ _ _ n _ c.loop-step-test.true c.step-item.is (c.step_need-most.ensures _ (c.loop-step.invariant n is))

pub steps_need-returns : goal.steps_need-returns
steps_need-returns t c n is =
    behind_whole _ _ n _ c.loop-step-test.false (c.loop-step.invariant n is)

pub step_need-returns-in-Load : goal.step_need-returns-in-Load
step_need-returns-in-Load t c n is =
    behind_arm _ _ n _ _ c.in-Load.is (behind_load _ n) is

pub step_need-returns-in-Convert : goal.step_need-returns-in-Convert
step_need-returns-in-Convert t c n is =
    behind_arm _ _ n _ _ c.in-Convert.is (behind_convert _ _ n) is

pub step_need-returns-in-Unary : goal.step_need-returns-in-Unary
step_need-returns-in-Unary t c n is =
    behind_arm _ _ n _ _ c.in-Unary.is (behind_unary _ _ n) is

pub step_need-returns-in-Not : goal.step_need-returns-in-Not
step_need-returns-in-Not t c n is =
    behind_arm _ _ n _ _ c.in-Not.is (behind_not n) is

pub step_need-returns-in-Member : goal.step_need-returns-in-Member
step_need-returns-in-Member t c n is =
    behind_arm _ _ n _ _ c.in-Member.is (behind_member _ n) (member_need n _ _ is c.max.ensures)

pub step_need-returns-in-Binary : goal.step_need-returns-in-Binary
step_need-returns-in-Binary t c n is =
    above_arm _ _ _ _ n _ _ _ _ c.in-Binary.is (behind_binary _ _ _ n) c.get.ensures is c.need.ensures c.saturating_add.ensures c.max-in-Binary.ensures

pub step_need-returns-in-Greater : goal.step_need-returns-in-Greater
step_need-returns-in-Greater t c n is =
    above_arm _ _ _ _ n _ _ _ _ c.in-Greater.is (behind_greater _ _ n) c.get-in-Greater.ensures is c.need-in-Greater.ensures c.saturating_add-in-Greater.ensures c.max-in-Greater.ensures

pub step_need-returns-in-AtLeast : goal.step_need-returns-in-AtLeast
step_need-returns-in-AtLeast t c n is =
    above_arm _ _ _ _ n _ _ _ _ c.in-AtLeast.is (behind_at_least _ _ n) c.get-in-AtLeast.ensures is c.need-in-AtLeast.ensures c.saturating_add-in-AtLeast.ensures c.max-in-AtLeast.ensures

pub step_need-returns-in-Assign : goal.step_need-returns-in-Assign
step_need-returns-in-Assign t c n is =
    above_arm _ _ _ _ n _ _ _ _ c.in-Assign.is (behind_assign _ _ n) c.get-in-Assign.ensures is c.need-in-Assign.ensures c.saturating_add-in-Assign.ensures c.max-in-Assign.ensures

pub step_need-returns-in-Copy : goal.step_need-returns-in-Copy
step_need-returns-in-Copy t c n is =
    above_arm _ _ _ _ n _ _ _ _ c.in-Copy.is (behind_copy _ _ n) c.get-in-Copy.ensures is c.need-in-Copy.ensures c.saturating_add-in-Copy.ensures c.max-in-Copy.ensures

pub step_need-returns-in-Offset : goal.step_need-returns-in-Offset
step_need-returns-in-Offset t c n is =
    above_three_arm _ _ _ _ n _ _ _ _ _ c.in-Offset.is (behind_offset _ _ _ n) c.get-in-Offset.ensures is c.need-in-Offset.ensures c.saturating_add-in-Offset.ensures c.max-in-Offset.ensures c.max-in-Offset-2.ensures

pub step_need-returns-in-Difference : goal.step_need-returns-in-Difference
step_need-returns-in-Difference t c n is =
    above_three_arm _ _ _ _ n _ _ _ _ _ c.in-Difference.is (behind_difference _ _ n) c.get-in-Difference.ensures is c.need-in-Difference.ensures c.saturating_add-in-Difference.ensures c.max-in-Difference.ensures c.max-in-Difference-2.ensures

pub step_need-returns-in-And : goal.step_need-returns-in-And
step_need-returns-in-And t c n is =
    beside_arm _ _ _ _ n _ _ _ c.in-And.is (behind_and _ n) c.get-in-And.ensures is c.need-in-And.ensures c.max-in-And.ensures

pub step_need-returns-in-Or : goal.step_need-returns-in-Or
step_need-returns-in-Or t c n is =
    beside_arm _ _ _ _ n _ _ _ c.in-Or.is (behind_or _ n) c.get-in-Or.ensures is c.need-in-Or.ensures c.max-in-Or.ensures

pub step_need-returns-in-Comma : goal.step_need-returns-in-Comma
step_need-returns-in-Comma t c n is =
    beside_arm _ _ _ _ n _ _ _ c.in-Comma.is (behind_comma _ n) c.get-in-Comma.ensures is c.need-in-Comma.ensures c.max-in-Comma.ensures

pub step_need-returns-in-Conditional : goal.step_need-returns-in-Conditional
step_need-returns-in-Conditional t c n is =
    choice_arm _ _ _ _ _ n _ _ _ _ _ c.in-Conditional.is c.get-in-Conditional.ensures c.get-in-Conditional-2.ensures is c.need-in-Conditional.ensures c.max-in-Conditional.ensures c.need-in-Conditional-2.ensures c.max-in-Conditional-2.ensures

pub step_need-returns-in-Update : goal.step_need-returns-in-Update
step_need-returns-in-Update t c n is =
    twice_arm _ _ _ _ n _ _ _ _ c.in-Update.is (behind_update _ _ _ _ n) c.get-in-Update.ensures is c.need-in-Update.ensures c.saturating_add-in-Update.ensures c.max-in-Update.ensures

pub step_need-returns-in-Advance : goal.step_need-returns-in-Advance
step_need-returns-in-Advance t c n is =
    advance_arm _ _ _ _ n _ _ _ _ _ c.in-Advance.is (behind_advance _ _ _ n) c.get-in-Advance.ensures is c.need-in-Advance.ensures c.saturating_add-in-Advance.ensures c.max-in-Advance.ensures c.max-in-Advance-2.ensures

pub step_need-returns-in-Count : goal.step_need-returns-in-Count
step_need-returns-in-Count t c n is =
    behind_arm _ _ n _ _ c.in-Count.is (behind_count _ _ _ n) (c.count_need.ensures n is)
