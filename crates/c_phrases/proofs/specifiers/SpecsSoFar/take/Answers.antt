use Rattle.std.proofs.Common.{sym, ap, ◌∙◌}
use Rattle.c_grammar.specs.ReadingDecl.{are_of_type}
use Rattle.c_grammar.specs.ReadingDecl.{typed_by}
use Rattle.c_grammar.proofs.SpecsTypes.{taken_yes, taken_no, popped_back}
use Rattle.c_phrases.proofs.specifiers.SpecsSoFar.take.Goals as goal

pub returns-then-are_of_type-clause-taken : goal.returns-then-are_of_type-clause-taken
returns-then-are_of_type-clause-taken c =
    taken_yes c.args.self.now.words c.push.new.self c.args.word c.args.self.now.is_whole c.if-self.false c.in_ok-push.ensures.ok
    (ap are_of_type (sym c.as_slice.ensures) ∙ sym c.are_of_type.ensures ∙ c.if-are_of_type.true)

pub returns-clause-taken : goal.returns-clause-taken
returns-clause-taken c =
    taken_no c.args.self.now.words c.push.new.self c.args.word c.args.self.now.is_whole c.if-self.false c.in_ok-push.ensures.ok
    (ap are_of_type (sym c.as_slice.ensures) ∙ sym c.are_of_type.ensures ∙ c.if-are_of_type.false)

pub returns-clause-kept : goal.returns-clause-kept
returns-clause-kept c = λ _.
    ap (λ ws. typed_by ws c.args.self.now.is_whole)
    (popped_back c.args.self.now.words c.push.new.self c.pop.new.self c.args.word c.pop.result c.in_ok-push.ensures.ok c.pop.ensures)
