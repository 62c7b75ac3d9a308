use Rattle.std.proofs.Common.{◌∙◌, false, ◌<◌, ◌≡◌, true, arith, [], length}
use Rattle.c_lex.specs.declared.token.Mark.TheVariants as mark
use Rattle.c_grammar.specs.ReadingDecl.{suffixes}
use Rattle.c_grammar.specs.Levels.{readers}
use Rattle.c_grammar.specs.Nests.{most, state_of}
use Rattle.c_phrases.proofs.DeclaratorSteps.{seen_so, settled_so, passed_on, suffixes_array_on, suffixes_array_fail, suffixes_function_on, suffixes_function_fail}
use Rattle.c_phrases.proofs.grammar.Grammar.suffixes.Goals as goal

pub suffixes-preserved-then-sees_mark : goal.suffixes-preserved-then-sees_mark
suffixes-preserved-then-sees_mark g c =
    let some : 0 < c.suffixes.count = omega arith in (
      c.size.ensures.total ∙ c.suffixes.invariant.0,
      suffixes_array_on c.args.cursor.now.total c.suffixes.cursor.total c.args.self.now.room (λ n. readers n most c.args.self.now.room) c.suffixes.count
          c.here-at.result c.suffixes.own c.settled-own.result c.suffixes.all c.push.new.self (state_of c.suffixes.cursor) (state_of c.size.new.cursor) c.in_ok-size.size
          (suffixes c.args.cursor.now.total c.args.self.now.room (readers c.args.cursor.now.total most c.args.self.now.room) (length c.args.cursor.now.rest.now) c.args.own [] (state_of c.args.cursor.now))
          c.suffixes.invariant.0 some (seen_so mark.OpenBracket c.suffixes.cursor.rest.now c.sees_mark.result true c.sees_mark.ensures c.if-sees_mark.true) c.in_ok-size.ensures.reads
          (settled_so c.suffixes.own c.settled-own.result c.new.result c.settled-own.ensures c.new.ensures) c.here-at.ensures c.in_ok-push.ensures.ok c.suffixes.invariant.1,
    )

pub returns-in_err-size-clause-reads : goal.returns-in_err-size-clause-reads
returns-in_err-size-clause-reads g c =
    let some : 0 < c.suffixes.count = omega arith in
    passed_on _ _ _
    (suffixes c.args.cursor.now.total c.args.self.now.room (readers c.args.cursor.now.total most c.args.self.now.room) (length c.args.cursor.now.rest.now) c.args.own [] (state_of c.args.cursor.now))
    c.from_residual.ensures.1
    (suffixes_array_fail c.args.cursor.now.total c.suffixes.cursor.total c.args.self.now.room (λ n. readers n most c.args.self.now.room) c.suffixes.count
    c.suffixes.own c.suffixes.all (state_of c.suffixes.cursor) _
    (suffixes c.args.cursor.now.total c.args.self.now.room (readers c.args.cursor.now.total most c.args.self.now.room) (length c.args.cursor.now.rest.now) c.args.own [] (state_of c.args.cursor.now))
    c.suffixes.invariant.0 some (seen_so mark.OpenBracket c.suffixes.cursor.rest.now c.sees_mark.result true c.sees_mark.ensures c.if-sees_mark.true) c.in_err-size.ensures.reads c.suffixes.invariant.1)

pub returns-in_err-suffix-clause-reads : goal.returns-in_err-suffix-clause-reads
returns-in_err-suffix-clause-reads g c =
    let some : 0 < c.suffixes.count = omega arith in
    let is : c.sees_mark-in-suffixes.result ≡ true = cc (c.if-not-sees_mark.false) in
    passed_on _ _ _
    (suffixes c.args.cursor.now.total c.args.self.now.room (readers c.args.cursor.now.total most c.args.self.now.room) (length c.args.cursor.now.rest.now) c.args.own [] (state_of c.args.cursor.now))
    c.from_residual-in_err-suffix.ensures.1
    (suffixes_function_fail c.args.cursor.now.total c.suffixes.cursor.total c.args.self.now.room (λ n. readers n most c.args.self.now.room) c.suffixes.count
    c.suffixes.own c.suffixes.all (state_of c.suffixes.cursor) _
    (suffixes c.args.cursor.now.total c.args.self.now.room (readers c.args.cursor.now.total most c.args.self.now.room) (length c.args.cursor.now.rest.now) c.args.own [] (state_of c.args.cursor.now))
    c.suffixes.invariant.0 some (seen_so mark.OpenBracket c.suffixes.cursor.rest.now c.sees_mark.result false c.sees_mark.ensures c.if-sees_mark.false)
    (seen_so mark.OpenParen c.suffixes.cursor.rest.now c.sees_mark-in-suffixes.result true c.sees_mark-in-suffixes.ensures is) c.in_err-suffix.ensures.reads c.suffixes.invariant.1)

pub suffixes-preserved : goal.suffixes-preserved
suffixes-preserved g c =
    let some : 0 < c.suffixes.count = omega arith in
    let is : c.sees_mark-in-suffixes.result ≡ true = cc (c.if-not-sees_mark.false) in (
      c.function.ensures.total ∙ c.suffixes.invariant.0,
      suffixes_function_on c.args.cursor.now.total c.suffixes.cursor.total c.args.self.now.room (λ n. readers n most c.args.self.now.room) c.suffixes.count
          c.suffixes.own c.in_ok-suffix.settled c.suffixes.all c.push-in-suffixes.new.self (state_of c.suffixes.cursor) (state_of c.function.new.cursor) c.in_ok-suffix.suffix
          (suffixes c.args.cursor.now.total c.args.self.now.room (readers c.args.cursor.now.total most c.args.self.now.room) (length c.args.cursor.now.rest.now) c.args.own [] (state_of c.args.cursor.now))
          c.suffixes.invariant.0 some (seen_so mark.OpenBracket c.suffixes.cursor.rest.now c.sees_mark.result false c.sees_mark.ensures c.if-sees_mark.false) (seen_so mark.OpenParen c.suffixes.cursor.rest.now c.sees_mark-in-suffixes.result true c.sees_mark-in-suffixes.ensures is) c.in_ok-suffix.ensures.reads
          c.in_ok-push-2.ensures.ok c.suffixes.invariant.1,
    )
