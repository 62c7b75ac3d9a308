use Rattle.std.proofs.Common.{sym, ◌∙◌}
use Rattle.c_grammar.specs.Nests.{state_of}
use Rattle.c_phrases.proofs.SpecsSteps.{declarators_end, declarators_fail, declarators_more, fails_moved, passed_on}
use Rattle.c_phrases.proofs.grammar.Grammar.members_declared.Goals as goal

pub returns-then-not-sees_mark-clause-reads : goal.returns-then-not-sees_mark-clause-reads
returns-then-not-sees_mark-clause-reads g c =
    sym c.declarators.invariant.1
    ∙ declarators_end c.args.cursor.now.total c.args.self.now.room c.declarators.count c.declarators.all (state_of c.declarators.cursor) c.declarators-test.true
    c.declarators.invariant.0 c.inner_declarator.ensures.total c.in_ok-tree.ensures.reads (sym c.sees_mark.ensures ∙ c.if-not-sees_mark.true)
    c.in_ok-push.ensures.ok c.in_ok-expect_mark.ensures.reads

pub returns-in_err-expect_mark-clause-reads : goal.returns-in_err-expect_mark-clause-reads
returns-in_err-expect_mark-clause-reads g c =
    passed_on _ _ _ _ c.from_residual-in_err-expect_mark.ensures.1
    (fails_moved _ c.declarators.invariant.1
    (declarators_fail c.args.cursor.now.total c.args.self.now.room c.declarators.count c.declarators.all (state_of c.declarators.cursor) _ c.declarators-test.true
    c.declarators.invariant.0 c.inner_declarator.ensures.total c.in_ok-tree.ensures.reads (sym c.sees_mark.ensures ∙ c.if-not-sees_mark.true)
    c.in_err-expect_mark.ensures.reads))

pub declarators-preserved : goal.declarators-preserved
declarators-preserved g c = (
  c.skip.ensures.total ∙ (c.inner_declarator.ensures.total ∙ c.declarators.invariant.0),
  declarators_more c.args.cursor.now.total c.args.self.now.room c.declarators.count c.declarators.all (state_of c.declarators.cursor) c.declarators-test.true
      c.declarators.invariant.0 c.in_ok-tree.ensures.reads (sym c.sees_mark.ensures ∙ c.if-not-sees_mark.false)
      c.in_ok-push.ensures.ok c.skip.ensures.behind
      ∙ c.declarators.invariant.1,
)
