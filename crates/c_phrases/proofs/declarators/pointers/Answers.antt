use Rattle.std.proofs.Common.{◌∙◌, sym}
use Rattle.c_grammar.specs.Nests.{state_of}
use Rattle.c_phrases.proofs.DeclaratorSteps.{pointers_on, pointers_shorter, pointers_done}
use Rattle.c_phrases.proofs.declarators.pointers.Goals as goal

pub pointers-smaller : goal.pointers-smaller
pointers-smaller c =
    pointers_shorter (state_of c.pointers.cursor) (state_of c.skip.new.self) (state_of c.qualifiers.new.cursor) c.in_ok-found.found
    (sym c.sees_mark.ensures ∙ c.pointers-test.true) c.skip.ensures.behind c.in_ok-found.ensures.reads

pub pointers-preserved : goal.pointers-preserved
pointers-preserved c =
    let (count, few, so_far) = c.pointers.invariant.1 in (
      c.qualifiers.ensures.total ∙ (c.skip.ensures.total ∙ c.pointers.invariant.0),
      pointers_on count c.pointers.all c.push.new.self (state_of c.pointers.cursor) (state_of c.skip.new.self) (state_of c.qualifiers.new.cursor)
          c.in_ok-found.found _ (sym c.sees_mark.ensures ∙ c.pointers-test.true) few c.skip.ensures.behind c.in_ok-found.ensures.reads
          c.in_ok-push.ensures.ok so_far,
    )

pub returns-clause-reads : goal.returns-clause-reads
returns-clause-reads c =
    let (count, few, so_far) = c.pointers.invariant.1 in
    pointers_done count c.pointers.all (state_of c.pointers.cursor) _ (sym c.sees_mark.ensures ∙ c.pointers-test.false) so_far
