use Rattle.std.proofs.Common.{◌∙◌, ◌<◌, ◌≡◌, false, true, arith, []}
use Rattle.c_lex.specs.declared.token.Mark.TheVariants as mark
use Rattle.c_grammar.specs.ReadingDecl.{parameters}
use Rattle.c_grammar.specs.Levels.{readers}
use Rattle.c_grammar.specs.Nests.{most, state_of}
use Rattle.c_phrases.proofs.DeclaratorSteps.{seen_so, passed_on, parameters_on, parameters_fail}
use Rattle.c_phrases.proofs.grammar.Grammar.parameters.Goals as goal

pub returns-in_err-expect_mark-clause-reads : goal.returns-in_err-expect_mark-clause-reads
returns-in_err-expect_mark-clause-reads g c =
    let some : 0 < c.parameters.count = omega arith in
    let none : c.sees_mark.result ≡ false = cc (c.if-not-sees_mark.true) in
    passed_on _ _ _
    (parameters c.args.cursor.now.total (readers c.args.cursor.now.total most c.args.self.now.room) c.args.limit [] (state_of c.args.cursor.now))
    c.from_residual-in_err-expect_mark.ensures.1
    (parameters_fail c.args.cursor.now.total c.parameters.cursor.total c.parameter.new.cursor.total (λ n. readers n most c.args.self.now.room) c.parameters.count
    c.parameters.all (state_of c.parameters.cursor) (state_of c.parameter.new.cursor) c.in_ok-parameter.parameter _
    (parameters c.args.cursor.now.total (readers c.args.cursor.now.total most c.args.self.now.room) c.args.limit [] (state_of c.args.cursor.now))
    c.parameters.invariant.0
    (c.parameter.ensures.total ∙ c.parameters.invariant.0) some c.in_ok-parameter.ensures.reads (seen_so mark.Comma c.parameter.new.cursor.rest.now c.sees_mark.result false c.sees_mark.ensures none)
    c.in_err-expect_mark.ensures.reads c.parameters.invariant.1)

pub parameters-preserved : goal.parameters-preserved
parameters-preserved g c =
    let some : 0 < c.parameters.count = omega arith in
    let is : c.sees_mark.result ≡ true = cc (c.if-not-sees_mark.false) in (
      c.skip.ensures.total ∙ (c.parameter.ensures.total ∙ c.parameters.invariant.0),
      parameters_on c.args.cursor.now.total c.parameters.cursor.total (λ n. readers n most c.args.self.now.room) c.parameters.count c.parameters.all c.push.new.self
          (state_of c.parameters.cursor) (state_of c.parameter.new.cursor) (state_of c.skip.new.self) c.in_ok-parameter.parameter
          (parameters c.args.cursor.now.total (readers c.args.cursor.now.total most c.args.self.now.room) c.args.limit [] (state_of c.args.cursor.now))
          c.parameters.invariant.0 some c.in_ok-parameter.ensures.reads (seen_so mark.Comma c.parameter.new.cursor.rest.now c.sees_mark.result true c.sees_mark.ensures is) c.skip.ensures.behind c.in_ok-push.ensures.ok
          c.parameters.invariant.1,
    )
