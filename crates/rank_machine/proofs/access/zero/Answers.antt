use Rattle.rank_machine.proofs.AccessLemmas.{zeroed_is, made_frames, made_kept}
use Rattle.rank_machine.proofs.access.zero.Goals as goal

pub returns-clause-value : goal.returns-clause-value
returns-clause-value g c = zeroed_is c.fill.result _ _ _ _ c.args.a c.args.n c.fill.ensures.ok c.fill.ensures.refused

pub returns-clause-frames : goal.returns-clause-frames
returns-clause-frames g c = made_frames c.fill.result _ _ _ _ _ c.fill.ensures.ok c.fill.ensures.same

pub returns-clause-kept : goal.returns-clause-kept
returns-clause-kept g c = made_kept c.fill.result _ _ _ _ _ _ _ _ c.fill.ensures.ok c.fill.ensures.same c.fill.ensures.same_marks c.fill.ensures.marks c.fill.ensures.owner
