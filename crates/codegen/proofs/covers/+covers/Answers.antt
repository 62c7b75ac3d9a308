use Rattle.std.proofs.Common.{refl, sym, ◌∙◌, map}
use Rattle.codegen.specs.Covered.{all_true, expr_covered, operand_is_covered, step_is_covered}
use Rattle.codegen.proofs.Covering.{covered_expr, covered_number, covered_local, covered_object, covered_call, covered_library, covered_mpi, covered_load, covered_convert, covered_unary, covered_not, covered_member, covered_count, covered_binary, covered_greater, covered_at_least, covered_sum, covered_difference, covered_and, covered_or, covered_comma, covered_assign, covered_copy, covered_update, covered_advance, covered_conditional, same_test, test_at, both_are, all_next, all_whole}
use Rattle.codegen.proofs.covers.+covers.Goals as goal

pub covers_expr-returns : goal.covers_expr-returns
covers_expr-returns t c =
    both_are _ _ _ _ _ c.covers_operand.ensures (test_at (λ ss. all_true (map (step_is_covered c.args.functions.now) ss)) _ _ _ c.as_slice.ensures c.covers_steps.ensures) c.both.ensures
    ∙ sym (covered_expr c.args.functions.now c.args.expr.now)

pub covers_operand-returns-in-Number : goal.covers_operand-returns-in-Number
covers_operand-returns-in-Number t c =
    same_test (operand_is_covered c.args.functions.now) _ _ _ _ c.in-Number.is (covered_number c.args.functions.now _) refl

pub covers_operand-returns-in-Local : goal.covers_operand-returns-in-Local
covers_operand-returns-in-Local t c =
    same_test (operand_is_covered c.args.functions.now) _ _ _ _ c.in-Local.is (covered_local c.args.functions.now _) refl

pub covers_operand-returns-in-Object : goal.covers_operand-returns-in-Object
covers_operand-returns-in-Object t c =
    same_test (operand_is_covered c.args.functions.now) _ _ _ _ c.in-Object.is (covered_object c.args.functions.now _) refl

pub covers_operand-returns-in-Call : goal.covers_operand-returns-in-Call
covers_operand-returns-in-Call t c =
    same_test (operand_is_covered c.args.functions.now) _ _ _ _ c.in-Call.is (covered_call c.args.functions.now _ _)
    (both_are _ _ _ _ _ c.has_body.ensures (test_at (λ es. all_true (map (expr_covered c.args.functions.now) es)) _ _ _ c.as_slice.ensures c.covers_all.ensures) c.both.ensures)

pub covers_operand-returns-in-Library : goal.covers_operand-returns-in-Library
covers_operand-returns-in-Library t c =
    same_test (operand_is_covered c.args.functions.now) _ _ _ _ c.in-Library.is (covered_library c.args.functions.now _ _) (test_at (λ es. all_true (map (expr_covered c.args.functions.now) es)) _ _ _ c.as_slice-in-Library.ensures c.covers_all-in-Library.ensures)

pub covers_operand-returns-in-Mpi : goal.covers_operand-returns-in-Mpi
covers_operand-returns-in-Mpi t c =
    same_test (operand_is_covered c.args.functions.now) _ _ _ _ c.in-Mpi.is (covered_mpi c.args.functions.now _ _) (test_at (λ es. all_true (map (expr_covered c.args.functions.now) es)) _ _ _ c.as_slice-in-Mpi.ensures c.covers_all-in-Mpi.ensures)

pub covers_step-returns-in-Load : goal.covers_step-returns-in-Load
covers_step-returns-in-Load t c =
    same_test (step_is_covered c.args.functions.now) _ _ _ _ c.in-Load.is (covered_load c.args.functions.now _) refl

pub covers_step-returns-in-Convert : goal.covers_step-returns-in-Convert
covers_step-returns-in-Convert t c =
    same_test (step_is_covered c.args.functions.now) _ _ _ _ c.in-Convert.is (covered_convert c.args.functions.now _ _) refl

pub covers_step-returns-in-Unary : goal.covers_step-returns-in-Unary
covers_step-returns-in-Unary t c =
    same_test (step_is_covered c.args.functions.now) _ _ _ _ c.in-Unary.is (covered_unary c.args.functions.now _ _) refl

pub covers_step-returns-in-Not : goal.covers_step-returns-in-Not
covers_step-returns-in-Not t c =
    same_test (step_is_covered c.args.functions.now) _ _ _ _ c.in-Not.is (covered_not c.args.functions.now) refl

pub covers_step-returns-in-Member : goal.covers_step-returns-in-Member
covers_step-returns-in-Member t c =
    same_test (step_is_covered c.args.functions.now) _ _ _ _ c.in-Member.is (covered_member c.args.functions.now _) refl

pub covers_step-returns-in-Count : goal.covers_step-returns-in-Count
covers_step-returns-in-Count t c =
    same_test (step_is_covered c.args.functions.now) _ _ _ _ c.in-Count.is (covered_count c.args.functions.now _ _ _) refl

pub covers_step-returns-in-Binary : goal.covers_step-returns-in-Binary
covers_step-returns-in-Binary t c =
    same_test (step_is_covered c.args.functions.now) _ _ _ _ c.in-Binary.is (covered_binary c.args.functions.now _ _ _) (test_at (expr_covered c.args.functions.now) _ _ _ c.get.ensures c.covers_expr.ensures)

pub covers_step-returns-in-Greater : goal.covers_step-returns-in-Greater
covers_step-returns-in-Greater t c =
    same_test (step_is_covered c.args.functions.now) _ _ _ _ c.in-Greater.is (covered_greater c.args.functions.now _ _) (test_at (expr_covered c.args.functions.now) _ _ _ c.get-in-Greater.ensures c.covers_expr-in-Greater.ensures)

pub covers_step-returns-in-AtLeast : goal.covers_step-returns-in-AtLeast
covers_step-returns-in-AtLeast t c =
    same_test (step_is_covered c.args.functions.now) _ _ _ _ c.in-AtLeast.is (covered_at_least c.args.functions.now _ _) (test_at (expr_covered c.args.functions.now) _ _ _ c.get-in-AtLeast.ensures c.covers_expr-in-AtLeast.ensures)

pub covers_step-returns-in-Offset : goal.covers_step-returns-in-Offset
covers_step-returns-in-Offset t c =
    same_test (step_is_covered c.args.functions.now) _ _ _ _ c.in-Offset.is (covered_sum c.args.functions.now _ _ _) (test_at (expr_covered c.args.functions.now) _ _ _ c.get-in-Offset.ensures c.covers_expr-in-Offset.ensures)

pub covers_step-returns-in-Difference : goal.covers_step-returns-in-Difference
covers_step-returns-in-Difference t c =
    same_test (step_is_covered c.args.functions.now) _ _ _ _ c.in-Difference.is (covered_difference c.args.functions.now _ _) (test_at (expr_covered c.args.functions.now) _ _ _ c.get-in-Difference.ensures c.covers_expr-in-Difference.ensures)

pub covers_step-returns-in-And : goal.covers_step-returns-in-And
covers_step-returns-in-And t c =
    same_test (step_is_covered c.args.functions.now) _ _ _ _ c.in-And.is (covered_and c.args.functions.now _) (test_at (expr_covered c.args.functions.now) _ _ _ c.get-in-And.ensures c.covers_expr-in-And.ensures)

pub covers_step-returns-in-Or : goal.covers_step-returns-in-Or
covers_step-returns-in-Or t c =
    same_test (step_is_covered c.args.functions.now) _ _ _ _ c.in-Or.is (covered_or c.args.functions.now _) (test_at (expr_covered c.args.functions.now) _ _ _ c.get-in-Or.ensures c.covers_expr-in-Or.ensures)

pub covers_step-returns-in-Comma : goal.covers_step-returns-in-Comma
covers_step-returns-in-Comma t c =
    same_test (step_is_covered c.args.functions.now) _ _ _ _ c.in-Comma.is (covered_comma c.args.functions.now _) (test_at (expr_covered c.args.functions.now) _ _ _ c.get-in-Comma.ensures c.covers_expr-in-Comma.ensures)

pub covers_step-returns-in-Assign : goal.covers_step-returns-in-Assign
covers_step-returns-in-Assign t c =
    same_test (step_is_covered c.args.functions.now) _ _ _ _ c.in-Assign.is (covered_assign c.args.functions.now _ _) (test_at (expr_covered c.args.functions.now) _ _ _ c.get-in-Assign.ensures c.covers_expr-in-Assign.ensures)

pub covers_step-returns-in-Copy : goal.covers_step-returns-in-Copy
covers_step-returns-in-Copy t c =
    same_test (step_is_covered c.args.functions.now) _ _ _ _ c.in-Copy.is (covered_copy c.args.functions.now _ _) (test_at (expr_covered c.args.functions.now) _ _ _ c.get-in-Copy.ensures c.covers_expr-in-Copy.ensures)

pub covers_step-returns-in-Update : goal.covers_step-returns-in-Update
covers_step-returns-in-Update t c =
    same_test (step_is_covered c.args.functions.now) _ _ _ _ c.in-Update.is (covered_update c.args.functions.now _ _ _ _) (test_at (expr_covered c.args.functions.now) _ _ _ c.get-in-Update.ensures c.covers_expr-in-Update.ensures)

pub covers_step-returns-in-Advance : goal.covers_step-returns-in-Advance
covers_step-returns-in-Advance t c =
    same_test (step_is_covered c.args.functions.now) _ _ _ _ c.in-Advance.is (covered_advance c.args.functions.now _ _ _) (test_at (expr_covered c.args.functions.now) _ _ _ c.get-in-Advance.ensures c.covers_expr-in-Advance.ensures)

pub covers_step-returns-in-Conditional : goal.covers_step-returns-in-Conditional
covers_step-returns-in-Conditional t c =
    same_test (step_is_covered c.args.functions.now) _ _ _ _ c.in-Conditional.is (covered_conditional c.args.functions.now _ _) (both_are _ _ _ _ _ (test_at (expr_covered c.args.functions.now) _ _ _ c.get-in-Conditional.ensures c.covers_expr-in-Conditional.ensures) (test_at (expr_covered c.args.functions.now) _ _ _ c.get-in-Conditional-2.ensures c.covers_expr-in-Conditional-2.ensures) c.both.ensures)

pub covers_all-loop-expr-preserved : goal.covers_all-loop-expr-preserved
covers_all-loop-expr-preserved t c =
    all_next (expr_covered c.args.functions.now) _ _ _ _ _ _ c.loop-expr-test.true c.expr-item.is c.loop-expr.invariant c.covers_expr.ensures c.both-all.ensures

pub covers_all-returns : goal.covers_all-returns
covers_all-returns t c =
    all_whole (expr_covered c.args.functions.now) _ _ _ c.loop-expr-test.false c.loop-expr.invariant

pub covers_steps-loop-step-preserved : goal.covers_steps-loop-step-preserved
covers_steps-loop-step-preserved t c =
    all_next (step_is_covered c.args.functions.now) _ _ _ _ _ _ c.loop-step-test.true c.step-item.is c.loop-step.invariant c.covers_step.ensures c.both-all.ensures

pub covers_steps-returns : goal.covers_steps-returns
covers_steps-returns t c =
    all_whole (step_is_covered c.args.functions.now) _ _ _ c.loop-step-test.false c.loop-step.invariant
