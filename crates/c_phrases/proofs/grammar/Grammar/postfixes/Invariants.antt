use Rattle.std.proofs.Common.{◌≡◌, []}
use Rattle.c_grammar.specs.ReadingExpr as spec
use Rattle.c_grammar.specs.Levels.{readers}
use Rattle.c_grammar.specs.Nests.{most, state_of}
use Rattle.c_phrases.proofs.grammar.Grammar.postfixes.Given as goal

abbrev pub invariant-operators : goal.invariant-operators
invariant-operators g l =
    record {
      total : l.cursor.total ≡ l.fn.cursor.total;
      same : spec.postfixes l.fn.cursor.total (readers l.fn.cursor.total most l.self.room) l.spare l.front (state_of l.cursor)
          ≡ spec.postfixes l.fn.cursor.total (readers l.fn.cursor.total most l.self.room) most [] (state_of l.fn.cursor);
    }

abbrev pub decreases-operators : goal.decreases-operators
decreases-operators g l = l.spare
