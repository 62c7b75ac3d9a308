use Rattle.privatise.proofs.FitLemmas.{segments_fit}
use Rattle.privatise.proofs.segments_fit.Goals as goal

pub returns : goal.returns
returns c = segments_fit
