use Rattle.std.proofs.Common.{◌≡◌, []}
use Rattle.c_grammar.specs.ReadingExpr as spec
use Rattle.c_grammar.specs.Levels.{readers}
use Rattle.c_grammar.specs.Nests.{most, state_of}
use Rattle.c_phrases.proofs.grammar.Grammar.others.Given as goal

abbrev pub invariant-others : goal.invariant-others
invariant-others g l =
    record {
      total : l.cursor.total ≡ l.fn.cursor.total;
      same : spec.others l.fn.cursor.total (spec.assign l.fn.cursor.total most (readers l.fn.cursor.total most l.self.room)) l.spare l.front (state_of l.cursor)
          ≡ spec.others l.fn.cursor.total (spec.assign l.fn.cursor.total most (readers l.fn.cursor.total most l.self.room)) most [] (state_of l.fn.cursor);
    }

abbrev pub decreases-others : goal.decreases-others
decreases-others g l = l.spare
