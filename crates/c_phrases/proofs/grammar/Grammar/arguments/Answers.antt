use Rattle.std.proofs.Common.{rules, ◌≡◌, ◌<◌, true, false, sym, ◌∙◌, arith}
use Rattle.c_lex.specs.declared.token.Mark.TheVariants as mark
use Rattle.c_grammar.specs.Reading.{sees_mark}
use Rattle.c_grammar.specs.Nests.{most, state_of}
use Rattle.c_phrases.proofs.ExprSteps.{passed_on, argument_fails, arguments_unclosed, arguments_closed, arguments_go, arguments_out}
use Rattle.c_phrases.proofs.grammar.Grammar.arguments.Goals as goal

pub returns-in_err-argument-clause-reads : goal.returns-in_err-argument-clause-reads
returns-in_err-argument-clause-reads g c =
    let more : 0 < c.arguments.count = omega arith in
    passed_on _ _ _ _ c.from_residual.ensures.1
    (argument_fails c.args.cursor.now.total c.arguments.cursor.total most c.args.self.now.room c.arguments.count c.arguments.front (state_of c.arguments.cursor) _
    c.arguments.invariant.total c.arguments.invariant.same _ more c.in_err-argument.ensures.reads)

pub returns-in_err-expect_mark-clause-reads : goal.returns-in_err-expect_mark-clause-reads
returns-in_err-expect_mark-clause-reads g c =
    let more : 0 < c.arguments.count = omega arith in
    let sees : sees_mark mark.Comma c.inner_expr.new.cursor.rest.now ≡ false = sym c.sees_mark.ensures ∙ c.if-not-sees_mark.true in
    passed_on _ _ _ _ c.from_residual-in_err-expect_mark.ensures.1
    (arguments_unclosed c.args.cursor.now.total c.arguments.cursor.total most c.args.self.now.room c.arguments.count c.arguments.front (state_of c.arguments.cursor) _
    c.arguments.invariant.total c.arguments.invariant.same _ c.in_ok-argument.argument (state_of c.inner_expr.new.cursor) c.inner_expr.new.cursor.total
    more c.in_ok-argument.ensures.reads sees c.in_ok-argument.ensures.total c.in_err-expect_mark.ensures.reads)

pub returns-then-not-sees_mark-clause-reads : goal.returns-then-not-sees_mark-clause-reads
returns-then-not-sees_mark-clause-reads g c =
    let more : 0 < c.arguments.count = omega arith in
    let sees : sees_mark mark.Comma c.inner_expr.new.cursor.rest.now ≡ false = sym c.sees_mark.ensures ∙ c.if-not-sees_mark.true in
    arguments_closed c.args.cursor.now.total c.arguments.cursor.total most c.args.self.now.room c.arguments.count c.arguments.front (state_of c.arguments.cursor) _
    c.arguments.invariant.total c.arguments.invariant.same c.in_ok-argument.argument (state_of c.inner_expr.new.cursor) (state_of c.expect_mark.new.self) c.inner_expr.new.cursor.total c.push.new.self
    more c.in_ok-argument.ensures.reads sees c.in_ok-argument.ensures.total c.in_ok-expect_mark.ensures.reads (search (rules, c.in_ok-push.ensures.ok, c.in_ok-new.ensures))

pub arguments-preserved : goal.arguments-preserved
arguments-preserved g c =
    let more : 0 < c.arguments.count = omega arith in
    let sees : sees_mark mark.Comma c.inner_expr.new.cursor.rest.now ≡ true = sym c.sees_mark.ensures ∙ c.if-not-sees_mark.false in
    record {
      total = c.skip.ensures.total ∙ c.in_ok-argument.ensures.total ∙ c.arguments.invariant.total;
      same =
          arguments_go c.args.cursor.now.total c.arguments.cursor.total most c.args.self.now.room c.arguments.count c.arguments.front (state_of c.arguments.cursor) _
          c.arguments.invariant.total c.arguments.invariant.same c.in_ok-argument.argument (state_of c.inner_expr.new.cursor) (state_of c.skip.new.self) c.push.new.self
          more c.in_ok-argument.ensures.reads sees c.skip.ensures.behind (search (rules, c.in_ok-push.ensures.ok, c.in_ok-new.ensures));
    }

pub returns-clause-reads : goal.returns-clause-reads
returns-clause-reads g c =
    let none : c.arguments.count ≡ 0 = omega arith in
    arguments_out c.args.cursor.now.total c.arguments.cursor.total most c.args.self.now.room c.arguments.count c.arguments.front (state_of c.arguments.cursor) _
    c.arguments.invariant.total c.arguments.invariant.same _ none c.unexpected.ensures
