use Rattle.std.proofs.Common.{subst, List, ℕ}
use Rattle.rank_range.specs.Layout.{IsRange}
use Rattle.rank_range.proofs.AreaLemmas.{is_range}
use Rattle.rank_range.proofs.flat.FlatMemMem.rank.Goals as goal

pub returns-clause-range : goal.returns-clause-range
returns-clause-range c =
    let P : ℕ × ℕ × List ℕ → Type 0 = λ m. IsRange m.1 m.2 in
    subst P c.self.view_is
    (is_range c.self.inside.top c.self.inside.bytes.items c.self.invariant.0 c.self.invariant.1 c.self.invariant.2)
