use Rattle.std.proofs.Math.Facts.{to_z-of_z}
use Rattle.matcher.proofs.Steps.{peeked}
use Rattle.matcher.proofs.list_book.ListBookMatchBook.peek.Goals as goal

pub returns : goal.returns
returns c =
    rw (← c.self.view_is)
    (peeked c.args.ctx.now c.args.source _ c.args.tag _ c.self.inside.arrived.items c.as_slice.result.now c.in_ok-at.at c.index.result.now
    c.in_ok-at.ensures (to_z-of_z c.ranges.source) (to_z-of_z c.ranges.tag) c.as_slice.ensures.value c.index.ensures)
