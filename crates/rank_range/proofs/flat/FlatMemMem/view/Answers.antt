use Rattle.std.proofs.Common.{◌-◌, sym}
use Rattle.rank_range.specs.Layout.{base_of}
use Rattle.rank_range.proofs.PartLemmas.{no_part}
use Rattle.rank_range.proofs.flat.FlatMemMem.view.Goals as goal

pub returns-then-n-eq0-clause-value : goal.returns-then-n-eq0-clause-value
returns-then-n-eq0-clause-value c =
    sym (no_part c.args.self.now.2 (c.args.a - base_of c.args.self.now.0) c.args.n c.if-n-eq0.true)
