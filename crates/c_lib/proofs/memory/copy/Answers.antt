use Rattle.std.proofs.Common.{◌≡◌, ◌-◌}
use Rattle.std.specs.Prelude.{Some, None}
use Rattle.rank_range.specs.Layout.{Accessible, base_of, IsRange}
use Rattle.rank_range.specs.Parts.{part, with_part}
use Rattle.rank_range.specs.Areas.{areas_of, copied_at}
use Rattle.rank_range.proofs.AccessLemmas.{copy_yes, copy_no, on_ok_three, on_err_by}
use Rattle.c_lib.specs.Answers.{LeavesTheRest}
use Rattle.c_lib.proofs.ChangeLemmas.{leaves_copy}
use Rattle.c_lib.proofs.memory.copy.Goals as goal

pub returns-clause-ok : goal.returns-clause-ok
returns-clause-ok g c =
    let rank = g.M.Mem.rank_of c.args.m.now in
    let top = g.M.Mem.top_of c.args.m.now in
    let old = g.M.Mem.bytes_of c.args.m.now in
    let range : IsRange top old = c.top-top.ensures.range in
    let new = g.M.Mem.bytes_of c.copy.new.self in
    on_ok_three c.copy.result (Accessible rank top c.args.from c.args.n) (Accessible rank top c.args.to c.args.n)
    (new ≡ with_part old (c.args.to - base_of rank) (part old (c.args.from - base_of rank) c.args.n))
    (copied_at (areas_of rank top old) c.args.to c.args.from c.args.n ≡ Some (areas_of rank top new))
    (λ there room is. (copy_yes rank top c.args.to c.args.from c.args.n old new range there room is).areas_are) c.copy.ensures.there c.copy.ensures.room c.copy.ensures.bytes

pub returns-clause-refused : goal.returns-clause-refused
returns-clause-refused g c =
    let rank = g.M.Mem.rank_of c.args.m.now in
    let top = g.M.Mem.top_of c.args.m.now in
    let old = g.M.Mem.bytes_of c.args.m.now in
    let range : IsRange top old = c.top-top.ensures.range in
    on_err_by c.copy.result (Accessible rank top c.args.from c.args.n → Accessible rank top c.args.to c.args.n → ⊥)
    (copied_at (areas_of rank top old) c.args.to c.args.from c.args.n ≡ None)
    (λ none. copy_no rank top c.args.to c.args.from c.args.n old range none) c.copy.ensures.refused

pub returns-clause-rest : goal.returns-clause-rest
returns-clause-rest g c =
    let rank = g.M.Mem.rank_of c.args.m.now in
    let top = g.M.Mem.top_of c.args.m.now in
    let old = g.M.Mem.bytes_of c.args.m.now in
    let range : IsRange top old = c.top-top.ensures.range in
    let new = g.M.Mem.bytes_of c.copy.new.self in
    on_ok_three c.copy.result (Accessible rank top c.args.from c.args.n) (Accessible rank top c.args.to c.args.n)
    (new ≡ with_part old (c.args.to - base_of rank) (part old (c.args.from - base_of rank) c.args.n))
    (LeavesTheRest rank top old new)
    (λ there room is. leaves_copy rank top c.args.to c.args.from c.args.n old new range there room is) c.copy.ensures.there c.copy.ensures.room c.copy.ensures.bytes
