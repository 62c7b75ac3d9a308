-- What isn't read at a level is viable there.
use Rattle.std.proofs.Common.{ℕ, zero, suc}
use Rattle.c_grammar.specs.Levels.{readers}
use Rattle.c_grammar_laws.proofs.LevelLaws.{readers_sound}
use Rattle.c_grammar_laws.proofs.Deep.{Deeper}
use Rattle.c_grammar_laws.proofs.Viable.{Viables, no_level_viable}
use Rattle.c_grammar_laws.proofs.ViableLevels.{expr_viable, in_parens_viable}
use Rattle.c_grammar_laws.proofs.ViableSpecs.{specs_viable}
use Rattle.c_grammar_laws.proofs.ViableDeclarator.{declarator_viable, unnamed_viable, param_viable}

pub readers_viable : (to : Deeper) (total room : ℕ) → Viables to total room (readers total to.chain room)
unfolding readers
readers_viable to total zero = no_level_viable to total
readers_viable to total (suc room) =
    let inner = readers total to.chain room in
    let sound = readers_sound total to.chain room in
    let below = readers_viable to total room in
    record {
      expr = expr_viable to total room inner sound below;
      specs = specs_viable to total room inner sound below;
      declarator = declarator_viable to total room inner sound below;
      unnamed = unnamed_viable to total room inner sound below;
      param = param_viable to total room inner sound below;
      type_in_parens = in_parens_viable to total room inner sound below;
    }
