use Rattle.std.proofs.Common.{◌≡◌, ℕ, ◌<◌, ◌++◌, [], ◌∷◌, Some, None, sym, ap, ◌∙◌, arith}
use Rattle.c_ast.specs.declared.expression.Expr.{Expr}
use Rattle.c_ast.specs.declared.expression.Link.{Link}
use Rattle.c_grammar.specs.Words.{number_of}
use Rattle.c_grammar.specs.ReadingExpr.{operator_in}
use Rattle.c_grammar.specs.Nests.{most, state_of}
use Rattle.c_phrases.proofs.ExprSteps.{passed_on, level_from_none, level_from_fails, level_links_fail, level_from_is, links_too_long, link_fails, links_go, links_end}
use Rattle.c_phrases.proofs.grammar.Grammar.+levels.Goals as goal

pub level_from-returns-then-level-eq0-clause-reads : goal.level_from-returns-then-level-eq0-clause-reads
level_from-returns-then-level-eq0-clause-reads g t c =
    level_from_none c.args.cursor.now.total most _ c.args.level c.args.token c.args.first (state_of c.args.cursor.now) c.if-level-eq0.true

pub level_from-returns-in_err-left-clause-reads : goal.level_from-returns-in_err-left-clause-reads
level_from-returns-in_err-left-clause-reads g t c =
    let more : 0 < c.args.level = omega arith in
    passed_on _ _ _ _ c.from_residual.ensures.1
    (level_from_fails c.args.cursor.now.total most c.args.self.now.room c.args.level c.args.token c.args.first (state_of c.args.cursor.now) _ more c.in_err-left.ensures.reads)

pub level_from-returns-in_err-links-clause-reads : goal.level_from-returns-in_err-links-clause-reads
level_from-returns-in_err-links-clause-reads g t c =
    let more : 0 < c.args.level = omega arith in
    passed_on _ _ _ _ c.from_residual-in_err-links.ensures.1
    (level_links_fail c.args.cursor.now.total c.level_from.new.cursor.total most c.args.self.now.room c.args.level c.args.token c.args.first c.in_ok-left.left
    (state_of c.args.cursor.now) (state_of c.level_from.new.cursor) _ more c.in_ok-left.ensures.total c.in_ok-left.ensures.reads c.in_err-links.ensures.reads)

pub level_from-returns-clause-reads : goal.level_from-returns-clause-reads
level_from-returns-clause-reads g t c =
    let more : 0 < c.args.level = omega arith in
    level_from_is c.args.cursor.now.total c.level_from.new.cursor.total most c.args.self.now.room c.args.level c.args.token c.args.first c.in_ok-left.left c.in_ok-linked.field-0
    (state_of c.args.cursor.now) (state_of c.level_from.new.cursor) (state_of c.links.new.cursor) c.in_ok-links.links
    more c.in_ok-left.ensures.total c.in_ok-left.ensures.reads c.in_ok-links.ensures.reads c.in_ok-linked.ensures

pub links-returns-then-spare-eq0-clause-reads : goal.links-returns-then-spare-eq0-clause-reads
links-returns-then-spare-eq0-clause-reads g t c =
    let sees : operator_in c.args.level c.links.cursor.rest.now ≡ Some c.in-Some.op = sym c.operator_in.ensures ∙ c.in-Some.is in
    links_too_long c.args.cursor.now.total c.links.cursor.total most c.args.self.now.room c.args.level c.links.spare c.links.front (state_of c.links.cursor) _
    c.links.invariant.total c.links.invariant.same _ c.in-Some.op c.if-spare-eq0.true sees c.too_long.ensures

pub links-returns-in_err-right-clause-reads : goal.links-returns-in_err-right-clause-reads
links-returns-in_err-right-clause-reads g t c =
    let more : 0 < c.links.spare = omega arith in
    let sees : operator_in c.args.level c.links.cursor.rest.now ≡ Some c.in-Some.op = sym c.operator_in.ensures ∙ c.in-Some.is in
    passed_on _ _ _ _ c.from_residual.ensures.1
    (link_fails c.args.cursor.now.total c.links.cursor.total most c.args.self.now.room c.args.level c.links.spare c.links.front (state_of c.links.cursor) _
    c.links.invariant.total c.links.invariant.same _ c.in-Some.op c.skip.new.self.total (state_of c.skip.new.self)
    more sees c.skip.ensures.total c.skip.ensures.behind c.in_err-right.ensures.reads)

pub links-links-preserved : goal.links-links-preserved
links-links-preserved g t c =
    let more : 0 < c.links.spare = omega arith in
    let sees : operator_in c.args.level c.links.cursor.rest.now ≡ Some c.in-Some.op = sym c.operator_in.ensures ∙ c.in-Some.is in
    let link : ℕ → Expr → Link Expr = λ at right. record { at = at; op = c.in-Some.op; right = right } in
    let made : c.push.new.self ≡ c.links.front ++ link (number_of c.links.cursor.total c.links.cursor.rest.now) c.in_ok-right.right ∷ [] =
    c.in_ok-push.ensures.ok ∙ ap (λ at. c.links.front ++ link at c.in_ok-right-2.right ∷ []) c.here-at.ensures
    ∙ ap (λ right. c.links.front ++ link (number_of c.links.cursor.total c.links.cursor.rest.now) right ∷ []) c.in_ok-right-2.ensures in
    record {
      total = c.in_ok-right.ensures.total ∙ c.skip.ensures.total ∙ c.links.invariant.total;
      same =
          links_go c.args.cursor.now.total c.links.cursor.total most c.args.self.now.room c.args.level c.links.spare c.links.front (state_of c.links.cursor) _
          c.links.invariant.total c.links.invariant.same c.in-Some.op c.skip.new.self.total (state_of c.skip.new.self) (state_of c.operand_of.new.cursor)
          c.in_ok-right.right c.push.new.self more sees c.skip.ensures.total c.skip.ensures.behind c.in_ok-right.ensures.reads made;
    }

pub links-returns-clause-reads : goal.links-returns-clause-reads
links-returns-clause-reads g t c =
    let sees : operator_in c.args.level c.links.cursor.rest.now ≡ None = sym c.operator_in.ensures ∙ c.in_default.is in
    links_end c.args.cursor.now.total c.links.cursor.total most c.args.self.now.room c.args.level c.links.spare c.links.front (state_of c.links.cursor) _
    c.links.invariant.total c.links.invariant.same sees
