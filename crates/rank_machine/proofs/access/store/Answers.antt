use Rattle.rank_machine.proofs.AccessLemmas.{stored_is, made_frames, made_kept}
use Rattle.rank_machine.proofs.access.store.Goals as goal

pub returns-clause-value : goal.returns-clause-value
returns-clause-value g c = stored_is c.store.result _ _ _ _ _ _ _ _ c.width.ensures c.store.ensures.ok c.store.ensures.refused

pub returns-clause-frames : goal.returns-clause-frames
returns-clause-frames g c = made_frames c.store.result _ _ _ _ _ c.store.ensures.ok c.store.ensures.same

pub returns-clause-kept : goal.returns-clause-kept
returns-clause-kept g c = made_kept c.store.result _ _ _ _ _ _ _ _ c.store.ensures.ok c.store.ensures.same c.store.ensures.same_marks c.store.ensures.marks c.store.ensures.owner
