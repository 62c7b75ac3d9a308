use Rattle.rank_range.proofs.NumberLemmas.{loaded_back, others_stay, length_stays}
use Rattle.rank_range.proofs.numbers.stored_numbers_are_loaded.Goals as goal

pub returns-clause-same : goal.returns-clause-same
returns-clause-same c = loaded_back

pub returns-clause-others : goal.returns-clause-others
returns-clause-others c = others_stay

pub returns-clause-length : goal.returns-clause-length
returns-clause-length c = length_stays
