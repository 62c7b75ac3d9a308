use Rattle.std.proofs.Common.{◌∙◌, sym}
use Rattle.rank_image.proofs.Reading.{below_last}
use Rattle.rank_image.proofs.head.are_below.Goals as goal

pub returns-in-Some : goal.returns-in-Some
returns-in-Some c = sym (below_last c.args.next c.args.lines.now c.in-Some.line.now (sym c.in-Some.ensures.value))
