use Rattle.rank_machine.proofs.AccessLemmas.{copied_is, made_frames, made_kept}
use Rattle.rank_machine.proofs.access.copy.Goals as goal

pub returns-clause-value : goal.returns-clause-value
returns-clause-value g c = copied_is c.copy.result _ _ _ _ c.args.target c.args.source c.args.n c.copy.ensures.ok c.copy.ensures.refused

pub returns-clause-frames : goal.returns-clause-frames
returns-clause-frames g c = made_frames c.copy.result _ _ _ _ _ c.copy.ensures.ok c.copy.ensures.same

pub returns-clause-kept : goal.returns-clause-kept
returns-clause-kept g c = made_kept c.copy.result _ _ _ _ _ _ _ _ c.copy.ensures.ok c.copy.ensures.same c.copy.ensures.same_marks c.copy.ensures.marks c.copy.ensures.owner
