use Rattle.rank_machine.proofs.LibraryLemmas.{give_frames, heap_kept}
use Rattle.rank_machine.proofs.library.give_back.Goals as goal

pub returns-clause-frames : goal.returns-clause-frames
returns-clause-frames g c = give_frames _ _ c.give.ensures.stays

pub returns-clause-kept : goal.returns-clause-kept
returns-clause-kept g c = heap_kept _ _ _ _ _ _ _ _ c.give.ensures.kept c.give.ensures.heap
