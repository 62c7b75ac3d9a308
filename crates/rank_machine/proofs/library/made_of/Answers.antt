use Rattle.rank_machine.proofs.LibraryLemmas.{made_tells, made_quiet, made_frames, made_kept}
use Rattle.rank_machine.proofs.library.made_of.Goals as goal

pub returns-clause-done : goal.returns-clause-done
returns-clause-done g c = made_tells c.args.call c.args.words.now _ _ _ _ c.call.result c.requires.made c.call.ensures.done c.call.ensures.rest

pub returns-clause-quiet : goal.returns-clause-quiet
returns-clause-quiet g c = made_quiet c.args.call c.args.words.now _ _ _ _ c.call.result c.call.ensures.done c.call.ensures.rest

pub returns-clause-frames : goal.returns-clause-frames
returns-clause-frames g c = made_frames c.call.result _ _ _ _ c.call.ensures.rest c.call.ensures.same

pub returns-clause-kept : goal.returns-clause-kept
returns-clause-kept g c =
    made_kept c.call.result _ _ _ _ _ _ _ c.call.ensures.rest c.call.ensures.same c.call.ensures.same_marks c.call.ensures.marks c.call.ensures.owner
