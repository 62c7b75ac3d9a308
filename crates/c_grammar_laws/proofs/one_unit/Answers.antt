use Rattle.c_grammar_laws.proofs.LevelLaws.{readers_complete}
use Rattle.c_grammar_laws.proofs.UnitComplete.{one_parse}
use Rattle.c_grammar_laws.proofs.one_unit.Goals as goal

pub returns : goal.returns
returns c = one_parse readers_complete
