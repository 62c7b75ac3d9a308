use Rattle.std.proofs.Common.{◌≡◌, ◌-◌}
use Rattle.std.specs.Prelude.{Some, None, replicate}
use Rattle.rank_range.specs.Layout.{Accessible, base_of, IsRange}
use Rattle.rank_range.specs.Parts.{with_part}
use Rattle.rank_range.specs.Areas.{areas_of, with_bytes_at}
use Rattle.rank_range.proofs.AccessLemmas.{fill_yes, fill_no, on_ok_two, on_err_by}
use Rattle.c_lib.specs.Answers.{LeavesTheRest}
use Rattle.c_lib.proofs.ChangeLemmas.{leaves_fill}
use Rattle.c_lib.proofs.memory.fill.Goals as goal

pub returns-clause-ok : goal.returns-clause-ok
returns-clause-ok g c =
    let rank = g.M.Mem.rank_of c.args.m.now in
    let top = g.M.Mem.top_of c.args.m.now in
    let old = g.M.Mem.bytes_of c.args.m.now in
    let range : IsRange top old = c.top-top.ensures.range in
    let new = g.M.Mem.bytes_of c.fill.new.self in
    on_ok_two c.fill.result (Accessible rank top c.args.a c.args.n)
    (new ≡ with_part old (c.args.a - base_of rank) (replicate c.args.n c.args.byte))
    (with_bytes_at (areas_of rank top old) c.args.a (replicate c.args.n c.args.byte) ≡ Some (areas_of rank top new))
    (λ all is. (fill_yes rank top c.args.a c.args.n c.args.byte old new range all is).areas_are) c.fill.ensures.ok c.fill.ensures.bytes

pub returns-clause-refused : goal.returns-clause-refused
returns-clause-refused g c =
    let rank = g.M.Mem.rank_of c.args.m.now in
    let top = g.M.Mem.top_of c.args.m.now in
    let old = g.M.Mem.bytes_of c.args.m.now in
    let range : IsRange top old = c.top-top.ensures.range in
    on_err_by c.fill.result (Accessible rank top c.args.a c.args.n → ⊥)
    (with_bytes_at (areas_of rank top old) c.args.a (replicate c.args.n c.args.byte) ≡ None)
    (λ none. fill_no rank top c.args.a c.args.n c.args.byte old range none) c.fill.ensures.refused

pub returns-clause-rest : goal.returns-clause-rest
returns-clause-rest g c =
    let rank = g.M.Mem.rank_of c.args.m.now in
    let top = g.M.Mem.top_of c.args.m.now in
    let old = g.M.Mem.bytes_of c.args.m.now in
    let range : IsRange top old = c.top-top.ensures.range in
    let new = g.M.Mem.bytes_of c.fill.new.self in
    on_ok_two c.fill.result (Accessible rank top c.args.a c.args.n)
    (new ≡ with_part old (c.args.a - base_of rank) (replicate c.args.n c.args.byte))
    (LeavesTheRest rank top old new)
    (λ all is. leaves_fill rank top c.args.a c.args.n c.args.byte old new range all is) c.fill.ensures.ok c.fill.ensures.bytes
