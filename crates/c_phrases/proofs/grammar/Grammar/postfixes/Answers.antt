use Rattle.std.proofs.Common.{rules, ◌≡◌, ◌<◌, true, false, sym, ◌∙◌, arith, is_some}
use Rattle.c_grammar.specs.ReadingExpr.{postfix_at}
use Rattle.c_grammar.specs.Levels.{readers}
use Rattle.c_grammar.specs.Nests.{most, state_of}
use Rattle.c_phrases.proofs.ExprSteps.{passed_on, postfixes_too_long, postfix_fails, postfixes_go, postfixes_end}
use Rattle.c_phrases.proofs.grammar.Grammar.postfixes.Goals as goal

pub returns-then-spare-eq0-clause-reads : goal.returns-then-spare-eq0-clause-reads
returns-then-spare-eq0-clause-reads g c =
    let none : c.operators.spare ≡ 0 = omega arith in
    let sees : is_some (postfix_at c.operators.cursor.total (readers c.operators.cursor.total most c.args.self.now.room) c.operators.cursor.rest.now) ≡ true = sym c.sees_postfix.ensures ∙ c.operators-test.true in
    postfixes_too_long c.args.cursor.now.total c.operators.cursor.total most c.args.self.now.room c.operators.spare c.operators.front (state_of c.operators.cursor) _
    c.operators.invariant.total c.operators.invariant.same _ none sees c.too_long.ensures

pub returns-in_err-operator-clause-reads : goal.returns-in_err-operator-clause-reads
returns-in_err-operator-clause-reads g c =
    let more : 0 < c.operators.spare = omega arith in
    let sees : is_some (postfix_at c.operators.cursor.total (readers c.operators.cursor.total most c.args.self.now.room) c.operators.cursor.rest.now) ≡ true = sym c.sees_postfix.ensures ∙ c.operators-test.true in
    passed_on _ _ _ _ c.from_residual.ensures.1
    (postfix_fails c.args.cursor.now.total c.operators.cursor.total most c.args.self.now.room c.operators.spare c.operators.front (state_of c.operators.cursor) _
    c.operators.invariant.total c.operators.invariant.same _ more sees c.in_err-operator.ensures.reads)

pub operators-preserved : goal.operators-preserved
operators-preserved g c =
    let more : 0 < c.operators.spare = omega arith in
    let sees : is_some (postfix_at c.operators.cursor.total (readers c.operators.cursor.total most c.args.self.now.room) c.operators.cursor.rest.now) ≡ true = sym c.sees_postfix.ensures ∙ c.operators-test.true in
    record {
      total = c.in_ok-operator.ensures.total ∙ c.operators.invariant.total;
      same =
          postfixes_go c.args.cursor.now.total c.operators.cursor.total most c.args.self.now.room c.operators.spare c.operators.front (state_of c.operators.cursor) _
          c.operators.invariant.total c.operators.invariant.same c.in_ok-operator.operator (state_of c.one_postfix.new.cursor) c.push.new.self
          more sees c.in_ok-operator.ensures.reads (search (rules, c.in_ok-push.ensures.ok));
    }

pub returns-clause-reads : goal.returns-clause-reads
returns-clause-reads g c =
    let sees : is_some (postfix_at c.operators.cursor.total (readers c.operators.cursor.total most c.args.self.now.room) c.operators.cursor.rest.now) ≡ false = sym c.sees_postfix.ensures ∙ c.operators-test.false in
    postfixes_end c.args.cursor.now.total c.operators.cursor.total most c.args.self.now.room c.operators.spare c.operators.front (state_of c.operators.cursor) _
    c.operators.invariant.total c.operators.invariant.same sees
