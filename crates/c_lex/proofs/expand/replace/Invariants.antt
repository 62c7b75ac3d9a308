use Rattle.c_lex.specs.Frames.{IsRunning, work_of}
use Rattle.c_lex.proofs.expand.replace.Given as goal

abbrev pub invariant-frames : goal.invariant-frames
invariant-frames l =
    IsRunning l.table l.site.line l.site.headers l.fn.number l.fn.out.items l.frames.items l.marks l.out.items

abbrev pub decreases-frames : goal.decreases-frames
decreases-frames l = work_of l.table l.frames.items
