use Rattle.std.proofs.Common.{sym}
use Rattle.c_lex.proofs.GapEnds.{no-gap-read, gap-shorter}
use Rattle.c_lex.proofs.DirectiveLaws.{no-gaps, gaps-more}
use Rattle.c_lex.proofs.directives.after_gaps.Goals as goal

pub gap-init : goal.gap-init
gap-init c = no-gaps c.args.text.now

pub gap-smaller : goal.gap-smaller
gap-smaller c = gap-shorter _ _ c.in-Some.ensures.gap

pub gap-preserved : goal.gap-preserved
gap-preserved c = gaps-more _ _ _ c.gap.invariant c.in-Some.ensures.gap

pub returns-clause-none : goal.returns-clause-none
returns-clause-none c = no-gap-read _ (sym c.in_default.ensures.reads)
