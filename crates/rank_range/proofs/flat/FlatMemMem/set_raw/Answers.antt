use Rattle.rank_range.proofs.AreaLemmas.{always_marked}
use Rattle.rank_range.proofs.flat.FlatMemMem.set_raw.Goals as goal

pub returns-clause-marks : goal.returns-clause-marks
returns-clause-marks c = always_marked _ _
