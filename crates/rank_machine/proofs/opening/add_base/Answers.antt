use Rattle.std.proofs.Common.{◌∙◌, ap, refl}
use Rattle.rank_range.specs.Layout.{base_of}
use Rattle.rank_machine.proofs.OpeningLemmas.{has_base}
use Rattle.rank_machine.proofs.opening.add_base.Goals as goal

pub returns : goal.returns
returns g c =
    has_base (g.M.Mem.rank_of c.args.m.now) _ (g.M.Mem.top_of c.args.m.now) _ c.base-base.result _ c.raw-address.result c.args.at
    (g.M.Mem.bytes_of c.args.m.now) (g.M.Mem.bytes_of c.set_raw.new.self) (g.M.Mem.marks_of c.args.m.now) (g.M.Mem.marks_of c.set_raw.new.self)
    c.top-top.ensures.range (c.base-base.ensures ∙ ap base_of c.rank.ensures.value) refl c.requires c.raw-address.ensures.value
    c.set_raw.ensures.bytes c.set_raw.ensures.marks c.set_raw.ensures.owner c.set_raw.ensures.stack
