use Rattle.std.proofs.Common.{◌≡◌, ◌-◌}
use Rattle.std.specs.Prelude.{None}
use Rattle.rank_range.specs.Layout.{Accessible, base_of, IsRange}
use Rattle.rank_range.specs.Numbers.{bytes_in, with_number}
use Rattle.rank_range.specs.Areas.{areas_of, with_number_of, Becomes}
use Rattle.rank_range.proofs.AccessLemmas.{store_yes, store_no, on_ok_two, on_err_by}
use Rattle.rank_range.proofs.access.store.Goals as goal

pub returns-clause-ok : goal.returns-clause-ok
returns-clause-ok g c =
    let rank = g.M.Mem.rank_of c.args.memory.now in
    let top = g.M.Mem.top_of c.args.memory.now in
    let old = g.M.Mem.bytes_of c.args.memory.now in
    let range : IsRange top old = c.top-top.ensures.range in
    let new = g.M.Mem.bytes_of c.store.new.self in
    on_ok_two c.store.result (Accessible rank top c.args.a (bytes_in c.args.width)) (new ≡ with_number old (c.args.a - base_of rank) (bytes_in c.args.width) c.args.value) (Becomes rank top old new (with_number_of (areas_of rank top old) c.args.a (bytes_in c.args.width) c.args.value))
    (λ all is. store_yes rank top c.args.a (bytes_in c.args.width) c.args.value old new range all is) c.store.ensures.ok c.store.ensures.bytes

pub returns-clause-refused : goal.returns-clause-refused
returns-clause-refused g c =
    let rank = g.M.Mem.rank_of c.args.memory.now in
    let top = g.M.Mem.top_of c.args.memory.now in
    let old = g.M.Mem.bytes_of c.args.memory.now in
    let range : IsRange top old = c.top-top.ensures.range in
    on_err_by c.store.result (Accessible rank top c.args.a (bytes_in c.args.width) → ⊥) (with_number_of (areas_of rank top old) c.args.a (bytes_in c.args.width) c.args.value ≡ None)
    (λ none. store_no rank top c.args.a (bytes_in c.args.width) c.args.value old range none) c.store.ensures.refused
