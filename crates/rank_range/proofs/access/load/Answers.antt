use Rattle.std.proofs.Common.{◌≡◌, ◌-◌}
use Rattle.std.specs.Prelude.{Some, None}
use Rattle.rank_range.specs.Layout.{Accessible, base_of, IsRange}
use Rattle.rank_range.specs.Numbers.{bytes_in, number_at}
use Rattle.rank_range.specs.Areas.{areas_of, number_of}
use Rattle.rank_range.proofs.AccessLemmas.{load_yes, load_no, if_ok, on_err_by}
use Rattle.rank_range.proofs.access.load.Goals as goal

pub returns-clause-value : goal.returns-clause-value
returns-clause-value g c =
    let rank = g.M.Mem.rank_of c.args.memory.now in
    let top = g.M.Mem.top_of c.args.memory.now in
    let old = g.M.Mem.bytes_of c.args.memory.now in
    let range : IsRange top old = c.top-top.ensures.range in
    let n = bytes_in c.args.width in
    if_ok c.load.result (λ v. v ≡ number_at old (c.args.a - base_of rank) n) (λ v. number_of (areas_of rank top old) c.args.a n ≡ Some v)
    (Accessible rank top c.args.a n) (λ v is all. load_yes rank top c.args.a n v old range all is) c.load.ensures.value c.load.ensures.ok

pub returns-clause-refused : goal.returns-clause-refused
returns-clause-refused g c =
    let rank = g.M.Mem.rank_of c.args.memory.now in
    let top = g.M.Mem.top_of c.args.memory.now in
    let old = g.M.Mem.bytes_of c.args.memory.now in
    let range : IsRange top old = c.top-top.ensures.range in
    let n = bytes_in c.args.width in
    on_err_by c.load.result (Accessible rank top c.args.a n → ⊥) (number_of (areas_of rank top old) c.args.a n ≡ None)
    (λ none. load_no rank top c.args.a n old range none) c.load.ensures.refused
