use Rattle.std.proofs.Common.{◌≡◌, ◌+◌, ◌-◌, ◌*◌, []}
use Rattle.c_grammar.specs.ReadingExpr as spec
use Rattle.c_grammar.specs.Nests.{most, state_of}
use Rattle.c_phrases.proofs.ExprSteps.{operand_at}
use Rattle.c_phrases.proofs.grammar.Grammar.+levels.Given as goal

abbrev pub decreases-level_from : goal.decreases-level_from
decreases-level_from g l = 4 * l.level

abbrev pub decreases-links : goal.decreases-links
decreases-links g l = 4 * l.level - 2

abbrev pub decreases-operand_of : goal.decreases-operand_of
decreases-operand_of g l = 4 * l.level + 1

abbrev pub invariant-links-links : goal.invariant-links-links
invariant-links-links g l =
    record {
      total : l.cursor.total ≡ l.fn.cursor.total;
      same : spec.links l.fn.cursor.total (operand_at l.fn.cursor.total most l.self.room (l.level - 1)) l.level l.spare l.front (state_of l.cursor)
          ≡ spec.links l.fn.cursor.total (operand_at l.fn.cursor.total most l.self.room (l.level - 1)) l.level most [] (state_of l.fn.cursor);
    }

abbrev pub decreases-links-links : goal.decreases-links-links
decreases-links-links g l = l.spare
