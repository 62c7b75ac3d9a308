use Rattle.run_words.proofs.RankLemmas.{bounded-ticks}
use Rattle.run_words.proofs.command.ticks_are_bounded.Goals as goal

pub returns : goal.returns
returns c = bounded-ticks
