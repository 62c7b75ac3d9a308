use Rattle.std.proofs.Common.{◌≡◌, ◌-◌, length}
use Rattle.std.specs.Prelude.{None}
use Rattle.rank_range.specs.Layout.{Accessible, base_of, IsRange}
use Rattle.rank_range.specs.Parts.{with_part}
use Rattle.rank_range.specs.Areas.{areas_of, with_bytes_at, Becomes}
use Rattle.rank_range.proofs.AccessLemmas.{becomes, refused, on_ok_two, on_err_by}
use Rattle.rank_range.proofs.access.write.Goals as goal

pub returns-clause-ok : goal.returns-clause-ok
returns-clause-ok g c =
    let rank = g.M.Mem.rank_of c.args.memory.now in
    let top = g.M.Mem.top_of c.args.memory.now in
    let old = g.M.Mem.bytes_of c.args.memory.now in
    let range : IsRange top old = c.top-top.ensures.range in
    let new = g.M.Mem.bytes_of c.write.new.self in
    on_ok_two c.write.result (Accessible rank top c.args.a (length c.args.bytes.now)) (new ≡ with_part old (c.args.a - base_of rank) c.args.bytes.now) (Becomes rank top old new (with_bytes_at (areas_of rank top old) c.args.a c.args.bytes.now))
    (λ all is. becomes rank top c.args.a old new c.args.bytes.now range all is) c.write.ensures.ok c.write.ensures.bytes

pub returns-clause-refused : goal.returns-clause-refused
returns-clause-refused g c =
    let rank = g.M.Mem.rank_of c.args.memory.now in
    let top = g.M.Mem.top_of c.args.memory.now in
    let old = g.M.Mem.bytes_of c.args.memory.now in
    let range : IsRange top old = c.top-top.ensures.range in
    on_err_by c.write.result (Accessible rank top c.args.a (length c.args.bytes.now) → ⊥) (with_bytes_at (areas_of rank top old) c.args.a c.args.bytes.now ≡ None)
    (λ none. refused rank top c.args.a old c.args.bytes.now range none) c.write.ensures.refused
