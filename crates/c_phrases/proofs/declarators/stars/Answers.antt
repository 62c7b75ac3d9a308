use Rattle.std.proofs.Common.{ap, ◌∙◌, sym}
use Rattle.c_grammar.specs.Reading.{State}
use Rattle.c_grammar.specs.Nests.{state_of}
use Rattle.c_phrases.proofs.DeclaratorSteps.{stars_on, stars_done}
use Rattle.c_phrases.proofs.declarators.stars.Goals as goal

pub stars-preserved : goal.stars-preserved
stars-preserved c = (
  c.skip.ensures.total ∙ c.stars.invariant.0,
  ap (λ (s : State). s.names) c.skip.ensures.behind ∙ c.stars.invariant.1,
  stars_on c.stars.count c.stars.cursor.rest.now c.skip.new.self.rest.now _ (sym c.sees_mark.ensures ∙ c.stars-test.true)
      (ap (λ (s : State). s.rest) c.skip.ensures.behind) c.stars.invariant.2,
)

pub returns-clause-reads : goal.returns-clause-reads
returns-clause-reads c =
    stars_done c.stars.count (state_of c.stars.cursor) (state_of c.args.cursor.now) (sym c.sees_mark.ensures ∙ c.stars-test.false)
    c.stars.invariant.1 c.stars.invariant.2
