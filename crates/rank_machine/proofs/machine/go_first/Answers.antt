use Rattle.std.proofs.Common.{◌+◌, ℕ, refl, ap, subst, arith}
use Rattle.rank_machine.specs.declared.lines.Line.{Line}
use Rattle.rank_machine.specs.View.{config_since}
use Rattle.rank_machine.specs.Runs.{Strands}
use Rattle.rank_machine.proofs.GoLemmas.{never_strands, strands_prefix, main_leads, main_traps, first_pauses, ran_behind, ran_owned}
use Rattle.rank_machine.proofs.machine.go_first.Goals as goal

pub returns-then-budget-eq0-clause-ran : goal.returns-then-budget-eq0-clause-ran
returns-then-budget-eq0-clause-ran g c = first_pauses _ _ _ _ _ c.requires.first (c.requires.stands.first c.requires.first) c.if-budget-eq0.true

pub returns-then-not-fits-clause-ran : goal.returns-then-not-fits-clause-ran
returns-then-not-fits-clause-ran g c =
    let at = c.requires.stands.first c.requires.first in
    main_traps c.args.code.now _ _ _ _ _ _ _ _ _ _ _ _ _ at.place c.requires.first (let some = c.if-budget-eq0.false in omega (arith, some)) refl
    (ap (λ (l : Line). l.unit) c.line_of-unit.ensures) (ap (λ (l : Line). l.line) c.line_of-unit.ensures) (c.begin-fits.ensures.trapped c.if-not-fits.true)

pub work_on-requires-clause-alive : goal.work_on-requires-clause-alive
work_on-requires-clause-alive g c taken strands =
    let at = c.requires.stands.first c.requires.first in
    let owned = subst (λ (r : ℕ). Strands c.args.code.now (config_since c.begin-fits.new.work r (g.M.Mem.top_of c.begin-fits.new.m) (g.M.Mem.bytes_of c.begin-fits.new.m) (c.args.at.now.ticks + 1))
    c.args.printer.now.printed taken) c.begin-fits.ensures.kept.owner strands in
    never_strands c.args.code.now _ c.args.printer.now.printed (1 + taken) c.requires.goes
    (strands_prefix c.args.code.now _ _ c.args.printer.now.printed 1 taken
    (main_leads c.args.code.now c.args.at.now.place c.args.at.now.depth c.args.at.now.ticks (g.M.Mem.rank_of c.args.m.now) (g.M.Mem.top_of c.args.m.now)
    (g.M.Mem.top_of c.begin-fits.new.m) c.args.printer.now.printed (g.M.Mem.bytes_of c.args.m.now) (g.M.Mem.bytes_of c.begin-fits.new.m) c.begin-fits.new.work
    at.place c.requires.first (c.begin-fits.ensures.went c.if-not-fits.false)) owned)

pub returns-clause-ran : goal.returns-clause-ran
returns-clause-ran g c =
    let at = c.requires.stands.first c.requires.first in
    ran_behind c.args.code.now _ _ c.args.at.now.ticks c.args.printer.now.printed c.args.budget _ _ _ _
    (main_leads c.args.code.now c.args.at.now.place c.args.at.now.depth c.args.at.now.ticks (g.M.Mem.rank_of c.args.m.now) (g.M.Mem.top_of c.args.m.now)
    (g.M.Mem.top_of c.begin-fits.new.m) c.args.printer.now.printed (g.M.Mem.bytes_of c.args.m.now) (g.M.Mem.bytes_of c.begin-fits.new.m) c.begin-fits.new.work
    at.place c.requires.first (c.begin-fits.ensures.went c.if-not-fits.false))
    (let some = c.if-budget-eq0.false in omega (arith, some))
    (ran_owned _ _ _ _ _ _ _ _ _ _ _ _ _ _ _ _ _ _ c.begin-fits.ensures.kept.owner c.work_on.ensures.ran)
