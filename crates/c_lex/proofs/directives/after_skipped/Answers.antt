use Rattle.c_lex.specs.Pieces.{AreSkipped}
use Rattle.c_lex.proofs.GapEnds.{skip-shorter}
use Rattle.c_lex.proofs.DirectiveLaws.{skipped-more}
use Rattle.c_lex.proofs.directives.after_skipped.Goals as goal

pub skipped-init : goal.skipped-init
skipped-init c = AreSkipped.none c.args.text.now

pub skipped-smaller : goal.skipped-smaller
skipped-smaller c = skip-shorter _ _ c.in-Some.ensures.some

pub skipped-preserved : goal.skipped-preserved
skipped-preserved c = skipped-more _ _ _ c.skipped.invariant c.in-Some.ensures.some
