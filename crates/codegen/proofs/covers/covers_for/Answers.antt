use Rattle.std.proofs.Common.{refl}
use Rattle.codegen.proofs.Covering.{both_are}
use Rattle.codegen.proofs.covers.covers_for.Goals as goal

pub returns : goal.returns
returns c =
    both_are _ _ _ _ _ c.begins_once.ensures (both_are _ _ _ _ _ c.covers_all_declared.ensures
    (both_are _ _ _ _ _ c.covers_if.ensures (both_are _ _ _ _ _ c.covers_if-2.ensures (both_are _ c.args.body _ c.args.body _ c.covers_if-3.ensures refl c.both.ensures)
    c.both-2.ensures) c.both-parts.ensures) c.both-3.ensures) c.both-4.ensures
