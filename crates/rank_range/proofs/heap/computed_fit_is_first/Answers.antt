use Rattle.rank_range.proofs.FitLemmas.{are_first_fits}
use Rattle.rank_range.proofs.heap.computed_fit_is_first.Goals as goal

pub returns : goal.returns
returns c = are_first_fits
