use Rattle.std.proofs.Common.{List, ℕ, ap, sym, ◌∙◌}
use Rattle.rank_range.specs.Areas.{areas_of}
use Rattle.rank_range.specs.Library.{library_does, with_int, atoi_value}
use Rattle.c_lib.proofs.CallLemmas.{atoi_does}
use Rattle.c_lib.proofs.calls.atoi.Goals as goal

pub returns-in-Some : goal.returns-in-Some
unfolding library_does
returns-in-Some g c =
    let areas = areas_of (g.M.Mem.rank_of c.args.m.now) (g.M.Mem.top_of c.args.m.now) (g.M.Mem.bytes_of c.args.m.now) in
    ap (λ (xs : List ℕ). with_int (atoi_value xs) areas) (sym c.rest_at.ensures)
    ∙ atoi_does (atoi_value c.rest_at.result.now) c.in-Some.bits c.silent.result.value c.silent.result.text areas c.in-Some.ensures
    (c.silent.ensures.value ∙ c.extended.ensures) c.silent.ensures.text
