use Rattle.std.proofs.Common.{ℕ, ◌+◌, ◌∙◌, ap}
use Rattle.rank_range.specs.Layout.{base_of, globals_start}
use Rattle.rank_machine.proofs.OpeningLemmas.{globals_put, globals_kept}
use Rattle.rank_machine.proofs.opening.put_globals.Goals as goal

pub returns-clause-bytes : goal.returns-clause-bytes
returns-clause-bytes g c =
    globals_put c.write-done.result (g.M.Mem.rank_of c.args.m.now) (g.M.Mem.top_of c.args.m.now) _ (g.M.Mem.bytes_of c.args.m.now)
    (g.M.Mem.bytes_of c.write-done.new.self) c.args.bytes.now (ap (λ (b : ℕ). b + globals_start) (c.base.ensures ∙ ap base_of c.rank.ensures.value)) c.requires
    c.write-done.ensures.bytes c.write-done.ensures.refused

pub returns-clause-kept : goal.returns-clause-kept
returns-clause-kept g c =
    globals_kept c.write-done.result (g.M.Mem.rank_of c.args.m.now) _ (g.M.Mem.top_of c.args.m.now) _ _ (g.M.Mem.bytes_of c.args.m.now)
    (g.M.Mem.bytes_of c.write-done.new.self) c.args.bytes.now _ _ (ap (λ (b : ℕ). b + globals_start) (c.base.ensures ∙ ap base_of c.rank.ensures.value)) c.requires
    c.top-top.ensures.range c.write-done.ensures.bytes c.write-done.ensures.refused c.write-done.ensures.marks c.write-done.ensures.owner
    c.write-done.ensures.stack
