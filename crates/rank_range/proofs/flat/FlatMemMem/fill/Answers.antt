use Rattle.std.proofs.Common.{subst, List, ℕ, ◌-◌}
use Rattle.rank_range.specs.Layout.{Accessible, base_of}
use Rattle.rank_range.proofs.AreaLemmas.{on_err}
use Rattle.rank_range.proofs.PartLemmas.{no_fill}
use Rattle.rank_range.proofs.flat.FlatMemMem.fill.Goals as goal

pub returns-then-n-eq0-clause-bytes : goal.returns-then-n-eq0-clause-bytes
returns-then-n-eq0-clause-bytes c = no_fill c.args.self.now.2 (c.args.a - base_of c.args.self.now.0) c.args.n c.args.byte c.if-n-eq0.true

pub returns-in_err-at-clause-refused : goal.returns-in_err-at-clause-refused
returns-in_err-at-clause-refused c =
    let P : ℕ × ℕ × List ℕ → Type 0 = λ m. Accessible m.0 m.1 c.args.a c.args.n → ⊥ in
    on_err _ _ (subst P c.self.view_is c.in_err-at.ensures.refused)
