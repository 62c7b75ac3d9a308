use Rattle.std.proofs.Common.{ℕ, ◌≡◌, ◌+◌, refl, sym, ap, ◌∙◌, List, [], ◌∷◌, Option, Some, None, map, drop}
use Rattle.c_ast.specs.declared.statement.BlockItem.{BlockItem}
use Rattle.c_ast.specs.declared.statement.Stmt.{Stmt}
use Rattle.c_types.specs.declared.statement.Stmt.{Stmt as Typed}
use Rattle.c_check.specs.declared.draft.Draft.{Draft}
use Rattle.c_check.specs.declared.draft.Inside.{Inside}
use Rattle.c_check.specs.Draft.{closed, in_loop, in_switch}
use Rattle.c_check.specs.Making as making
use Rattle.c_check.specs.Statements as statements
use Rattle.c_check.specs.Statements.{Running}
use Rattle.c_check.specs.Running.{statement, item_of, body_of}
use Rattle.c_check.proofs.StmtTrees.{block_is, express_is, if_is, while_is, do_is, for_is, switch_is, case_is, default_is, break_is, continue_is, return_is}
use Rattle.c_check.proofs.Turns.{then_is, gives_then, gives_at, gives_if, pair_is, turn, as_told, body_in}
use Rattle.c_check.proofs.draft.Draft.+stmt.Goals as goal

pub items-loop-item-preserved : goal.items-loop-item-preserved
items-loop-item-preserved t c =
    turn
    (λ (is : List (BlockItem Stmt)) (done : List Typed) (d : Draft). statements.items c.args.lines.now (map (item_of c.args.lines.now) is) c.args.inside done d)
    c.args.items.now c.loop-item.item-index c.item-item.result c.loop-item.done c.in_ok-done.done c.loop-item.self c.item.new.self _
    c.loop-item-test.true c.item-item.is c.loop-item.invariant
    (then_is _ _ _
    (statements.items c.args.lines.now (map (item_of c.args.lines.now) (drop (c.loop-item.item-index + 1) c.args.items.now)) c.args.inside)
    c.in_ok-done.ensures)

pub stmt-returns-in-Block : goal.stmt-returns-in-Block
stmt-returns-in-Block t c =
    as_told _ _ _ _ _ _ _ (block_is _ _ _ _ c.in-Block.is)
    (gives_at _ _
    (λ (is : List (BlockItem Stmt)). statements.block c.args.lines.now (map (item_of c.args.lines.now) is) c.args.inside c.args.self.now)
    _ _ c.as_slice.ensures c.block.ensures)

pub stmt-returns-in-Express : goal.stmt-returns-in-Express
stmt-returns-in-Express t c =
    as_told _ _ _ _ _ _ _ (express_is _ _ _ _ c.in-Express.is)
    (gives_at _ _ (λ n. statements.express n c.in-Express.expr c.args.self.now) _ _ c.line_at.ensures c.express.ensures)

pub stmt-returns-in-Ok : goal.stmt-returns-in-Ok
stmt-returns-in-Ok t c =
    as_told _ _ _ _ _ _ _ (if_is _ _ _ _ _ _ c.in-If.is)
    (gives_then _ _ _ _ _ _ c.in_ok-test-in-If.ensures
    (gives_then _ _ _ _ _ _ (body_in _ _ _ _ _ _ _ c.get.ensures refl c.in-Ok.ensures)
    (gives_at _ _
    (λ n. statements.if_otherwise n c.in_ok-test-in-If.test (body_of c.args.lines.now c.in-If.otherwise) c.args.inside c.in-Ok.then c.stmt.new.self)
    _ _ c.line_at-line.ensures c.else_behind.ensures)))

pub stmt-returns-in_ok-test-in-While : goal.stmt-returns-in_ok-test-in-While
stmt-returns-in_ok-test-in-While t c =
    as_told _ _ _ _ _ _ _ (while_is _ _ _ _ _ c.in-While.is)
    (gives_then _ _ _ _ _ _ c.in_ok-test-in-While.ensures
    (gives_at _ _
    (λ n. statements.while_behind n (statement c.args.lines.now c.in-While.body) c.args.inside c.in_ok-test-in-While.test c.test-in-While.new.self)
    _ _ c.line_at-line-in-While.ensures
    (gives_at _ _
    (λ s. statements.while_behind c.line_at-line-in-While.result (statement c.args.lines.now s) c.args.inside c.in_ok-test-in-While.test c.test-in-While.new.self)
    _ _ c.get-in-While.ensures c.while_behind.ensures)))

pub stmt-returns-in_ok-body-in-Do : goal.stmt-returns-in_ok-body-in-Do
stmt-returns-in_ok-body-in-Do t c =
    as_told _ _ _ _ _ _ _ (do_is _ _ _ _ _ c.in-Do.is)
    (gives_then _ _ _ _ _ _ (body_in _ _ _ _ _ _ _ c.get-in-Do.ensures c.in_loop.ensures c.in_ok-body-in-Do.ensures)
    (gives_at _ _ (λ n. statements.do_behind c.in-Do.token n c.in-Do.test c.in_ok-body-in-Do.body c.stmt-in-Do.new.self)
    _ _ c.line_at-in-Do.ensures c.do_behind.ensures))

pub stmt-returns-in_ok-of-in-For : goal.stmt-returns-in_ok-of-in-For
stmt-returns-in_ok-of-in-For t c =
    ap (λ (f : Running). f c.args.inside c.args.self.now) (for_is _ _ _ _ _ _ _ c.in-For.is)
    ∙ ap (statements.closing c.args.self.now)
    (then_is _ _ _ _
    (ap (λ d. statements.heads c.args.lines.now c.in-For.token c.in-For.start c.in-For.test c.in-For.step d) (sym c.open-before.ensures.opened)
    ∙ c.in_ok-heads-in-For.ensures)
    ∙ ap
    (λ n. statements.for_behind n (statement c.args.lines.now c.in-For.body) c.args.inside c.in_ok-heads-in-For.heads c.heads.new.self)
    (sym c.line_at-line-in-For.ensures)
    ∙ ap
    (λ s. statements.for_behind c.line_at-line-in-For.result (statement c.args.lines.now s) c.args.inside c.in_ok-heads-in-For.heads c.heads.new.self)
    (sym c.get-in-For.ensures)
    ∙ c.in_ok-of-in-For.ensures)
    ∙ ap (λ d. (c.in_ok-of-in-For.of, d))
    (ap (λ b. closed b c.for_behind.new.self) (sym c.open-before.ensures.before) ∙ sym c.close.ensures)

pub stmt-returns-in_ok-value-in-Switch : goal.stmt-returns-in_ok-value-in-Switch
stmt-returns-in_ok-value-in-Switch t c =
    as_told _ _ _ _ _ _ _ (switch_is _ _ _ _ _ c.in-Switch.is)
    (gives_then _ _ _ _ _ _ c.in_ok-value-in-Switch.ensures
    (gives_at _ _
    (λ n. statements.switch_behind n c.in_ok-value-in-Switch.value c.in_ok-value-in-Switch.kind (statement c.args.lines.now c.in-Switch.body) c.args.inside c.choice.new.self)
    _ _ c.line_at-line-in-Switch.ensures
    (gives_at _ _
    (λ s. statements.switch_behind c.line_at-line-in-Switch.result c.in_ok-value-in-Switch.value c.in_ok-value-in-Switch.kind (statement c.args.lines.now s) c.args.inside c.choice.new.self)
    _ _ c.get-in-Switch.ensures c.switch_behind.ensures)))

pub stmt-returns-in_ok-label-in-Case : goal.stmt-returns-in_ok-label-in-Case
stmt-returns-in_ok-label-in-Case t c =
    as_told _ _ _ _ _ _ _ (case_is _ _ _ _ _ c.in-Case.is)
    (gives_then _ _ _ _ _ _ c.in_ok-label-in-Case.ensures
    (gives_at _ _ (λ s. statements.labelled (statement c.args.lines.now s) c.args.inside c.in_ok-label-in-Case.label c.case.new.self)
    _ _ c.get-in-Case.ensures c.labelled.ensures))

pub stmt-returns-in-Default : goal.stmt-returns-in-Default
stmt-returns-in-Default t c =
    as_told _ _ _ _ _ _ _ (default_is _ _ _ _ c.in-Default.is)
    (gives_then _ _ _ _ _ _ (pair_is _ _ _ c.label_default-label.ensures.value c.label_default-label.ensures.state)
    (gives_at _ _
    (λ s. statements.labelled (statement c.args.lines.now s) c.args.inside c.label_default-label.result c.label_default-label.new.self)
    _ _ c.get-in-Default.ensures c.labelled-in-Default.ensures))

pub stmt-returns-in-Break : goal.stmt-returns-in-Break
stmt-returns-in-Break t c =
    ap (λ (f : Running). f c.args.inside c.args.self.now) (break_is _ _ _ c.in-Break.is)
    ∙ ap (λ n. statements.break_stmt c.in-Break.token n c.args.inside c.args.self.now) (sym c.line_at-in-Break.ensures)
    ∙ pair_is _ _ _ c.break_stmt.ensures.value c.break_stmt.ensures.state

pub stmt-returns-in-Continue : goal.stmt-returns-in-Continue
stmt-returns-in-Continue t c =
    ap (λ (f : Running). f c.args.inside c.args.self.now) (continue_is _ _ _ c.in-Continue.is)
    ∙ ap (λ n. statements.continue_stmt c.in-Continue.token n c.args.inside c.args.self.now) (sym c.line_at-in-Continue.ensures)
    ∙ pair_is _ _ _ c.continue_stmt.ensures.value c.continue_stmt.ensures.state

pub stmt-returns-in-Return : goal.stmt-returns-in-Return
stmt-returns-in-Return t c =
    as_told _ _ _ _ _ _ _ (return_is _ _ _ _ c.in-Return.is)
    (gives_at _ _ (λ n. statements.return_stmt c.in-Return.token n c.in-Return.value c.args.self.now) _ _ c.line_at-in-Return.ensures
    c.return_stmt.ensures)

pub switch_behind-returns-in-Ok : goal.switch_behind-returns-in-Ok
switch_behind-returns-in-Ok t c =
    gives_then _ _ _ _ _ _
    (ap (λ d. statement c.args.lines.now c.args.body.now (in_switch c.args.inside) d) (sym c.begin_labels-outer.ensures.begun)
    ∙ body_in _ _ _ _ _ _ _ refl c.in_switch.ensures c.in-Ok.ensures)
    (gives_if _ _ _ _
    (ap
    (λ l. (making.switch_stmt c.args.line c.args.value l c.in-Ok.body, statements.with_outer c.args.self.now.labels c.stmt.new.self))
    (sym c.end_labels.ensures.labels)
    ∙ ap (λ d. (making.switch_stmt c.args.line c.args.value c.end_labels.result c.in-Ok.body, d))
    (ap (λ o. statements.with_outer o c.stmt.new.self) (sym c.begin_labels-outer.ensures.outer) ∙ sym c.end_labels.ensures.outer))
    c.switch_stmt.ensures)
