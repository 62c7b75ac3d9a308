-- Where a unit isn't read, its tokens up to that place are viable; so the token there is the first that is refused.
use Rattle.std.proofs.Common.{ℕ}
use Rattle.c_grammar_laws.proofs.LevelLaws.{readers_sound}
use Rattle.c_grammar_laws.proofs.LevelsViable.{readers_viable}
use Rattle.c_grammar_laws.proofs.ViableUnit.{unit_viable}
use Rattle.c_grammar_laws.proofs.RefusalLaws.{UnitViable}

pub all_viable : (limit : ℕ) → UnitViable limit
all_viable limit to ts e h =
    unit_viable to limit ts (λ room. readers_sound _ to.chain room) (λ room. readers_viable to _ room) e h
