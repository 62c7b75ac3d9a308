use Rattle.rank_range.proofs.TextLemmas.{are_texts}
use Rattle.rank_range.proofs.access.texts_end_at_a_zero.Goals as goal

pub returns : goal.returns
returns c = are_texts
