use Rattle.std.proofs.Common.{◌≡◌, ◌-◌, ap, sym, ◌∙◌}
use Rattle.std.specs.Prelude.{Some, None}
use Rattle.rank_range.specs.Layout.{Accessible, base_of, IsRange}
use Rattle.rank_range.specs.Parts.{part}
use Rattle.rank_range.specs.Areas.{areas_of, bytes_at}
use Rattle.rank_range.proofs.AccessLemmas.{read_yes, read_no, if_ok, on_err_by}
use Rattle.rank_range.proofs.access.view.Goals as goal

pub returns-clause-value : goal.returns-clause-value
returns-clause-value g c =
    let rank = g.M.Mem.rank_of c.args.memory.now in
    let top = g.M.Mem.top_of c.args.memory.now in
    let old = g.M.Mem.bytes_of c.args.memory.now in
    let range : IsRange top old = c.top-top.ensures.range in
    if_ok c.view.result (λ v. v.now ≡ part old (c.args.a - base_of rank) c.args.n) (λ v. bytes_at (areas_of rank top old) c.args.a c.args.n ≡ Some v.now)
    (Accessible rank top c.args.a c.args.n) (λ v is all. read_yes rank top c.args.a c.args.n old range all ∙ ap Some (sym is))
    c.view.ensures.value c.view.ensures.ok

pub returns-clause-refused : goal.returns-clause-refused
returns-clause-refused g c =
    let rank = g.M.Mem.rank_of c.args.memory.now in
    let top = g.M.Mem.top_of c.args.memory.now in
    let old = g.M.Mem.bytes_of c.args.memory.now in
    let range : IsRange top old = c.top-top.ensures.range in
    on_err_by c.view.result (Accessible rank top c.args.a c.args.n → ⊥) (bytes_at (areas_of rank top old) c.args.a c.args.n ≡ None)
    (λ none. read_no rank top c.args.a c.args.n old range none) c.view.ensures.refused
