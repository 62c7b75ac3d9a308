use Rattle.std.proofs.Common.{subst, List, ℕ}
use Rattle.rank_range.specs.Layout.{Accessible}
use Rattle.rank_range.specs.Numbers.{bytes_in}
use Rattle.rank_range.proofs.AreaLemmas.{always_marked, on_err}
use Rattle.rank_range.proofs.flat.FlatMemMem.store.Goals as goal

pub returns-clause-marks : goal.returns-clause-marks
returns-clause-marks c = always_marked _ _

pub returns-clause-ok : goal.returns-clause-ok
returns-clause-ok c =
    let P : ℕ × ℕ × List ℕ → Type 0 = λ m. Accessible m.0 m.1 c.args.a (bytes_in c.args.width) in
    subst P c.self.view_is c.in_ok-at.ensures.ok

pub returns-in_err-at-clause-refused : goal.returns-in_err-at-clause-refused
returns-in_err-at-clause-refused c =
    let P : ℕ × ℕ × List ℕ → Type 0 = λ m. Accessible m.0 m.1 c.args.a (bytes_in c.args.width) → ⊥ in
    on_err _ _ (subst P c.self.view_is c.in_err-at.ensures.refused)
