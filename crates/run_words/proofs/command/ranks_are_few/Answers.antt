use Rattle.run_words.proofs.RankLemmas.{few-ranks}
use Rattle.run_words.proofs.command.ranks_are_few.Goals as goal

pub returns : goal.returns
returns c = few-ranks
