use Rattle.std.specs.Prelude.{◌==◌}
use Rattle.std.proofs.lemmas.Result.{err_from_is_err_and}
use Rattle.c_lex.specs.Blanks.{First, NotFirst}
use Rattle.c_lex.specs.Tokens.{names_of}
use Rattle.c_lex.proofs.OneFront.{front-only}
use Rattle.c_lex.proofs.GapEnds.{untrue}
use Rattle.c_lex.proofs.ReadLaws.{tells-none, define-not, define-names-none, define-names, with-parameters, defined-before, define-end, bad-define, at-true, at-false, define-right}
use Rattle.c_lex.proofs.directives.define_at.Goals as goal

pub returns-in_default-clause-wrong : goal.returns-in_default-clause-wrong
returns-in_default-clause-wrong c =
    tells-none (names_of c.args.macros.now) _ c.args.text.now c.args.behind.now c.args.at c.requires.head
    (define-not front-only (names_of c.args.macros.now) c.args.text.now c.args.behind.now c.requires.head
    (λ w r d n. define-names-none front-only c.args.text.now c.args.behind.now c.after_gaps.result.now c.requires.head c.after_gaps.ensures.gaps
    c.after_gaps.ensures.none c.in_default.ensures.none w r d))

pub returns-then-begins_parameters-clause-wrong : goal.returns-then-begins_parameters-clause-wrong
returns-then-begins_parameters-clause-wrong c =
    tells-none (names_of c.args.macros.now) _ c.args.text.now c.args.behind.now c.args.at c.requires.head
    (define-not front-only (names_of c.args.macros.now) c.args.text.now c.args.behind.now c.requires.head
    (λ w r d n. with-parameters w r c.in-Some.word.now c.in-Some.rest.now
    (define-names front-only c.args.text.now c.args.behind.now c.after_gaps.result.now c.in-Some.word.now c.in-Some.rest.now c.requires.head
    c.after_gaps.ensures.gaps c.in-Some.ensures.some.0 w r d)
    (at-true (First (λ b. b == 40) c.in-Some.rest.now) (NotFirst (λ b. b == 40) c.in-Some.rest.now) c.begins_parameters.result c.if-begins_parameters.true c.begins_parameters.ensures)))

pub returns-then-is_defined-clause-wrong : goal.returns-then-is_defined-clause-wrong
returns-then-is_defined-clause-wrong c =
    tells-none (names_of c.args.macros.now) _ c.args.text.now c.args.behind.now c.args.at c.requires.head
    (define-not front-only (names_of c.args.macros.now) c.args.text.now c.args.behind.now c.requires.head
    (λ w r d n. defined-before (names_of c.args.macros.now) w r c.in-Some.word.now c.in-Some.rest.now
    (define-names front-only c.args.text.now c.args.behind.now c.after_gaps.result.now c.in-Some.word.now c.in-Some.rest.now c.requires.head
    c.after_gaps.ensures.gaps c.in-Some.ensures.some.0 w r d)
    (c.is_defined.ensures.0 c.if-is_defined.true) n))

pub place_of-requires-clause-ends : goal.place_of-requires-clause-ends
place_of-requires-clause-ends c =
    define-end c.args.text.now c.args.behind.now c.after_gaps.result.now c.in-Some.word.now c.in-Some.rest.now c.requires.head
    c.after_gaps.ensures.gaps c.in-Some.ensures.some.0

pub returns-in_err-body-clause-wrong : goal.returns-in_err-body-clause-wrong
returns-in_err-body-clause-wrong c =
    let p = err_from_is_err_and c.from_residual-in_err-body.result c.from_residual-in_err-body.ensures.1 in
    rw (p.1, p.2)
    (bad-define (names_of c.args.macros.now) c.args.text.now c.in-Some.word.now c.in-Some.rest.now c.args.at c.place_of.result c.in_err-body.field-0.0 (
      c.args.behind.now,
      c.after_gaps.result.now,
      c.requires.head,
      c.after_gaps.ensures.gaps,
      c.in-Some.ensures.some.0,
      c.in-Some.ensures.some.1,
      at-false (First (λ b. b == 40) c.in-Some.rest.now) (NotFirst (λ b. b == 40) c.in-Some.rest.now) c.begins_parameters.result c.if-begins_parameters.false c.begins_parameters.ensures,
    )
    (untrue c.if-is_defined.false c.is_defined.ensures.1)
    (define-end c.args.text.now c.args.behind.now c.after_gaps.result.now c.in-Some.word.now c.in-Some.rest.now c.requires.head
    c.after_gaps.ensures.gaps c.in-Some.ensures.some.0)
    c.place_of.ensures c.in_err-body.ensures.wrong)

pub returns-clause-right : goal.returns-clause-right
returns-clause-right c =
    define-right (names_of c.args.macros.now) c.args.text.now c.in-Some.word.now c.in-Some.rest.now c.in_ok-name.name c.in_ok-body.body.items c.in_ok-body.end.now
    c.in_ok-name.ensures (
      c.args.behind.now,
      c.after_gaps.result.now,
      c.requires.head,
      c.after_gaps.ensures.gaps,
      c.in-Some.ensures.some.0,
      c.in-Some.ensures.some.1,
      at-false (First (λ b. b == 40) c.in-Some.rest.now) (NotFirst (λ b. b == 40) c.in-Some.rest.now) c.begins_parameters.result c.if-begins_parameters.false c.begins_parameters.ensures,
    )
    (untrue c.if-is_defined.false c.is_defined.ensures.1) c.in_ok-body.ensures.right.0 c.in_ok-body.ensures.right.1
