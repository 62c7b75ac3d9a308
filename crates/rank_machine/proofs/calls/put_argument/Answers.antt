use Rattle.std.proofs.Common.{ℕ, ◌∙◌, ap, sym}
use Rattle.vm_code.specs.Memory.{stored}
use Rattle.rank_range.specs.Areas.{memory_of}
use Rattle.rank_machine.proofs.MemoryLemmas.{stored_or_kept}
use Rattle.rank_machine.proofs.CallLemmas.{address_is}
use Rattle.rank_range.specs.Layout.{base_of}
use Rattle.rank_machine.proofs.calls.put_argument.Goals as goal

pub returns-clause-value : goal.returns-clause-value
returns-clause-value g c =
    let m = memory_of (g.M.Mem.rank_of c.args.memory.now) (g.M.Mem.top_of c.args.memory.now) (g.M.Mem.bytes_of c.args.memory.now) in
    let place = address_is (g.M.Mem.rank_of c.args.memory.now) (g.M.Mem.top_of c.args.memory.now) c.base.result c.args.start c.args.parameter.offset
    (g.M.Mem.bytes_of c.args.memory.now) (c.base.ensures ∙ ap base_of c.rank.ensures.value) in
    stored_or_kept c.store-done.result _ _ _ _ _ (ap (λ (a : ℕ). stored m c.args.parameter.kind a c.args.word) (sym place) ∙ c.store-done.ensures.value) c.store-done.ensures.same
