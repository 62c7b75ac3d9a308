use Rattle.std.proofs.Common.{◌≡◌, ◌+◌, ◌-◌, ℕ, ◌∙◌, sym, ap, subst}
use Rattle.rank_range.specs.Areas.{memory_of}
use Rattle.rank_machine.specs.View.{config_at, config_since}
use Rattle.rank_machine.specs.Ran.{Stands}
use Rattle.rank_machine.proofs.CallLemmas.{kept_both}
use Rattle.rank_machine.proofs.RestLemmas.{rank_with, needs_call, ran_from}
use Rattle.rank_machine.proofs.machine.work_on.Goals as goal

pub settle-requires-clause-told : goal.settle-requires-clause-told
settle-requires-clause-told g c = needs_call _ _ _ _ _ _ _ _ _ _ _ _ _ c.run-rest.result c.run-rest.ensures.came c.requires.alive

pub returns-clause-ran : goal.returns-clause-ran
returns-clause-ran g c =
    let rank = g.M.Mem.rank_of c.args.m.now in
    let top = g.M.Mem.top_of c.run-rest.new.memory in
    let bytes = g.M.Mem.bytes_of c.run-rest.new.memory in
    let new_top = g.M.Mem.top_of c.settle.new.m in
    let new = g.M.Mem.bytes_of c.settle.new.m in
    let owner = c.run-rest.ensures.kept.owner in
    ran_from c.args.code.now c.args.work.now c.run-rest.new.work rank (g.M.Mem.top_of c.args.m.now) top c.args.at.now.ticks c.args.budget c.run-rest.new.left
    (g.M.Mem.bytes_of c.args.m.now) bytes _ _ c.run-rest.result c.settle.result (rank_with c.settle.new.at.place c.settle.new.at.depth c.settle.new.at.ticks rank new_top new)
    c.run-rest.ensures.came c.settle.ensures.told c.settle.ensures.ticks
    (ap (λ (t : ℕ). memory_of rank t new) c.settle.ensures.stack
    ∙ subst (λ (r : ℕ). memory_of r top new ≡ memory_of r top bytes) owner c.settle.ensures.memory)
    c.settle.ensures.place
    (λ goes small tally.
    subst (λ (r : ℕ). config_at c.args.code.now (rank_with c.settle.new.at.place c.settle.new.at.depth c.settle.new.at.ticks r new_top new) tally
    ≡ config_since c.run-rest.new.work r top bytes (c.args.at.now.ticks + (c.args.budget - c.run-rest.new.left)) tally) owner (c.settle.ensures.config goes small tally)
    ∙ ap (λ (n : ℕ). config_since c.run-rest.new.work rank top bytes n tally) (sym c.settle.ensures.ticks))

pub returns-clause-stands : goal.returns-clause-stands
returns-clause-stands g c goes =
    subst (λ (r : ℕ). Stands c.args.code.now (rank_with c.settle.new.at.place c.settle.new.at.depth c.settle.new.at.ticks r (g.M.Mem.top_of c.settle.new.m) (g.M.Mem.bytes_of c.settle.new.m)))
    c.run-rest.ensures.kept.owner (c.settle.ensures.stands goes)

pub returns-clause-kept : goal.returns-clause-kept
returns-clause-kept g c = kept_both _ _ _ _ _ _ _ _ _ c.run-rest.ensures.kept c.settle.ensures.kept
