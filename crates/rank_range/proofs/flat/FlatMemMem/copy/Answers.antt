use Rattle.std.proofs.Common.{subst, List, ℕ, ◌-◌}
use Rattle.rank_range.specs.Layout.{Accessible, base_of}
use Rattle.rank_range.proofs.AreaLemmas.{on_err}
use Rattle.rank_range.proofs.PartLemmas.{no_copy}
use Rattle.rank_range.proofs.flat.FlatMemMem.copy.Goals as goal

pub returns-then-n-eq0-clause-bytes : goal.returns-then-n-eq0-clause-bytes
returns-then-n-eq0-clause-bytes c =
    no_copy c.args.self.now.2 (c.args.to - base_of c.args.self.now.0) (c.args.from - base_of c.args.self.now.0) c.args.n c.if-n-eq0.true

pub returns-in_err-there-clause-refused : goal.returns-in_err-there-clause-refused
returns-in_err-there-clause-refused c =
    let P : ℕ × ℕ × List ℕ → Type 0 = λ m. Accessible m.0 m.1 c.args.from c.args.n → ⊥ in
    let at = c.args.self.now in
    let no : Accessible at.0 at.1 c.args.from c.args.n → Accessible at.0 at.1 c.args.to c.args.n → ⊥ =
    λ there room. subst P c.self.view_is c.in_err-there.ensures.refused there in
    on_err _ _ no

pub returns-in_err-here-clause-refused : goal.returns-in_err-here-clause-refused
returns-in_err-here-clause-refused c =
    let P : ℕ × ℕ × List ℕ → Type 0 = λ m. Accessible m.0 m.1 c.args.to c.args.n → ⊥ in
    let at = c.args.self.now in
    let no : Accessible at.0 at.1 c.args.from c.args.n → Accessible at.0 at.1 c.args.to c.args.n → ⊥ =
    λ there room. subst P c.self.view_is c.in_err-here.ensures.refused room in
    on_err _ _ no

pub returns-clause-there : goal.returns-clause-there
returns-clause-there c =
    let P : ℕ × ℕ × List ℕ → Type 0 = λ m. Accessible m.0 m.1 c.args.from c.args.n in
    subst P c.self.view_is c.in_ok-there.ensures.ok

pub returns-clause-room : goal.returns-clause-room
returns-clause-room c =
    let P : ℕ × ℕ × List ℕ → Type 0 = λ m. Accessible m.0 m.1 c.args.to c.args.n in
    subst P c.self.view_is c.in_ok-here.ensures.ok
