use Rattle.c_stores.proofs.WithinLemmas.{given_within}
use Rattle.c_stores.proofs.lists.initialise.Goals as goal

pub returns-clause-within : goal.returns-clause-within
returns-clause-within c = given_within _ _ _ _ _ _ _ c.object_stores.ensures
