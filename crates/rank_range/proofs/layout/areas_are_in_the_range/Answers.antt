use Rattle.rank_range.proofs.AccessLemmas.{tells_accessible, are_read, are_put}
use Rattle.rank_range.proofs.layout.areas_are_in_the_range.Goals as goal

pub returns-clause-tells : goal.returns-clause-tells
returns-clause-tells c = tells_accessible

pub returns-clause-read : goal.returns-clause-read
returns-clause-read c = are_read

pub returns-clause-put : goal.returns-clause-put
returns-clause-put c = are_put
