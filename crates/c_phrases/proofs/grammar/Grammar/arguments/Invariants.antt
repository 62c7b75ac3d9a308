use Rattle.std.proofs.Common.{◌≡◌, []}
use Rattle.c_grammar.specs.ReadingExpr as spec
use Rattle.c_grammar.specs.Levels.{readers}
use Rattle.c_grammar.specs.Nests.{most, state_of}
use Rattle.c_phrases.proofs.grammar.Grammar.arguments.Given as goal

abbrev pub invariant-arguments : goal.invariant-arguments
invariant-arguments g l =
    record {
      total : l.cursor.total ≡ l.fn.cursor.total;
      same : spec.arguments l.fn.cursor.total (readers l.fn.cursor.total most l.self.room) l.count l.front (state_of l.cursor)
          ≡ spec.arguments l.fn.cursor.total (readers l.fn.cursor.total most l.self.room) l.limit [] (state_of l.fn.cursor);
    }

abbrev pub decreases-arguments : goal.decreases-arguments
decreases-arguments g l = l.count
