use Rattle.std.proofs.Common.{Option, Ok, sym, ap, ◌∙◌}
use Rattle.c_ast.specs.declared.declaration.Specifier.{Specifier}
use Rattle.c_grammar.specs.Levels.{readers}
use Rattle.c_grammar.specs.Nests.{most, state_of, seen}
use Rattle.c_phrases.specs.ReadingSpecs.{typed_of}
use Rattle.c_phrases.proofs.SpecsSteps.{specifiers_none_left, specifiers_more, specifiers_end, specifiers_fail, fails_moved, passed_on, ended_gives}
use Rattle.c_phrases.proofs.grammar.Grammar.specs.Goals as goal

pub returns-in_err-specifier-clause-reads : goal.returns-in_err-specifier-clause-reads
returns-in_err-specifier-clause-reads g c =
    passed_on _ _ _ _ c.from_residual.ensures.1
    (fails_moved _ c.specifiers.invariant.1
    (specifiers_fail c.args.cursor.now.total c.args.self.now.room c.here-token.result c.specifiers.count c.specifiers.all (typed_of c.specifiers.so_far)
    c.specifiers.so_far.is_typedef (state_of c.specifiers.cursor) _ c.specifiers-test.true c.specifiers.invariant.0 c.in_err-specifier.ensures.reads))

pub returns-in_default-clause-reads : goal.returns-in_default-clause-reads
returns-in_default-clause-reads g c =
    ended_gives c.here-token.result (typed_of c.specifier.new.so_far) c.specifier.new.so_far.is_typedef c.specifiers.all (state_of c.specifier.new.cursor)
    (seen c.specifier.new.cursor) c.ended_specs.result (c.specifier.ensures.total ∙ c.specifiers.invariant.0)
    (sym (specifiers_end c.args.cursor.now.total c.args.self.now.room c.here-token.result c.specifiers.count c.specifiers.all (typed_of c.specifiers.so_far)
    c.specifiers.so_far.is_typedef (state_of c.specifiers.cursor) c.specifiers-test.true c.specifiers.invariant.0
    (c.in_ok-specifier.ensures.reads
    ∙ ap (λ (found : Option Specifier). Ok ((found, (typed_of c.specifier.new.so_far, c.specifier.new.so_far.is_typedef)), state_of c.specifier.new.cursor)) c.in_default.is))
    ∙ c.specifiers.invariant.1)
    c.ended_specs.ensures

pub specifiers-preserved : goal.specifiers-preserved
specifiers-preserved g c = (
  c.specifier.ensures.total ∙ c.specifiers.invariant.0,
  specifiers_more c.args.cursor.now.total c.args.self.now.room c.here-token.result c.specifiers.count c.specifiers.all (typed_of c.specifiers.so_far)
      c.specifiers.so_far.is_typedef (state_of c.specifiers.cursor) c.specifiers-test.true c.specifiers.invariant.0
      (c.in_ok-specifier.ensures.reads
      ∙ ap (λ (found : Option Specifier). Ok ((found, (typed_of c.specifier.new.so_far, c.specifier.new.so_far.is_typedef)), state_of c.specifier.new.cursor)) c.in-Some.is)
      c.in_ok-push.ensures.ok
      ∙ c.specifiers.invariant.1,
)

pub returns-clause-reads : goal.returns-clause-reads
returns-clause-reads g c =
    ended_gives c.here-token.result (typed_of c.specifiers.so_far) c.specifiers.so_far.is_typedef c.specifiers.all (state_of c.specifiers.cursor)
    (seen c.specifiers.cursor) c.ended_specs-2.result c.specifiers.invariant.0
    (sym (specifiers_none_left c.args.cursor.now.total c.args.self.now.room (readers c.args.cursor.now.total most c.args.self.now.room) c.here-token.result
    c.specifiers.count (typed_of c.specifiers.so_far) c.specifiers.so_far.is_typedef c.specifiers.all (state_of c.specifiers.cursor) c.specifiers-test.false)
    ∙ c.specifiers.invariant.1)
    c.ended_specs-2.ensures
