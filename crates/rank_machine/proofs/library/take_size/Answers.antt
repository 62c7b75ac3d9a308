use Rattle.rank_machine.proofs.LibraryLemmas.{take_frames, heap_kept}
use Rattle.rank_machine.proofs.library.take_size.Goals as goal

pub returns-clause-frames : goal.returns-clause-frames
returns-clause-frames g c = take_frames _ _ _ _ _ _ _ c.take.ensures.taken c.take.ensures.none c.take.ensures.stays

pub returns-clause-kept : goal.returns-clause-kept
returns-clause-kept g c = heap_kept _ _ _ _ _ _ _ _ c.take.ensures.kept c.take.ensures.heap
