use Rattle.std.proofs.Common.{◌≡◌, ◌*◌, ◌∙◌, List, ℕ, ap, sym, Some}
use Rattle.rank_range.specs.Areas.{areas_of}
use Rattle.mpi_rules.specs.Faults.{cause_of}
use Rattle.mpi_rules.specs.Places.{count_of, is_open}
use Rattle.mpi_rules.specs.Requests.{numbers_at}
use Rattle.mpi_call.specs.Answers.{kept, data_in}
use Rattle.mpi_call.specs.Arrays.{number_faults}
use Rattle.mpi_call.proofs.WaitLemmas.{array_stops, array_open, numbers_tell, are_held}
use Rattle.mpi_call.proofs.waitall.held_numbers.Goals as goal

pub returns-in-Some-clause-err : goal.returns-in-Some-clause-err
returns-in-Some-clause-err g c =
    let areas = areas_of (g.M.Mem.rank_of c.args.m.now) (g.M.Mem.top_of c.args.m.now) (g.M.Mem.bytes_of c.args.m.now) in
    let mpi = data_in (kept c.args.st.now.own c.args.st.now.sweep (g.B.MatchBook.held c.args.st.now.book)) in
    array_stops areas mpi c.args.count.now c.args.requests (numbers_at areas c.args.requests (count_of c.args.count.now)) c.in-Some.cause
    (sym c.in-Some.is ∙ (c.cause.ensures ∙ ap cause_of c.array_faults.ensures))

pub numbers_at-requires : goal.numbers_at-requires
numbers_at-requires g c =
    let areas = areas_of (g.M.Mem.rank_of c.args.m.now) (g.M.Mem.top_of c.args.m.now) (g.M.Mem.bytes_of c.args.m.now) in
    let mpi = data_in (kept c.args.st.now.own c.args.st.now.sweep (g.B.MatchBook.held c.args.st.now.book)) in
    ap (λ (n : ℕ). is_open areas c.args.requests (n * 4)) c.count_of.ensures.value
    ∙ array_open areas mpi c.args.count.now c.args.requests (sym c.in_default.is ∙ (c.cause.ensures ∙ ap cause_of c.array_faults.ensures))

pub returns-in-Some-cause-clause-err : goal.returns-in-Some-cause-clause-err
returns-in-Some-cause-clause-err g c =
    let areas = areas_of (g.M.Mem.rank_of c.args.m.now) (g.M.Mem.top_of c.args.m.now) (g.M.Mem.bytes_of c.args.m.now) in
    let mpi = data_in (kept c.args.st.now.own c.args.st.now.sweep (g.B.MatchBook.held c.args.st.now.book)) in
    let numbers : c.as_slice.result.now ≡ numbers_at areas c.args.requests (count_of c.args.count.now) =
    c.as_slice.ensures ∙ c.in-Ok.ensures ∙ ap (numbers_at areas c.args.requests) c.count_of.ensures.value in
    numbers_tell areas mpi c.args.count.now c.args.requests (numbers_at areas c.args.requests (count_of c.args.count.now)) (Some c.in-Some-cause.cause)
    (sym c.in_default.is ∙ (c.cause.ensures ∙ ap cause_of c.array_faults.ensures))
    (sym c.in-Some-cause.is ∙ (c.cause-2.ensures ∙ ap cause_of (c.number_faults.ensures ∙ ap (λ (xs : List ℕ). number_faults mpi c.args.count.now xs) numbers)))

pub returns-in-None-clause-ok : goal.returns-in-None-clause-ok
returns-in-None-clause-ok g c =
    let areas = areas_of (g.M.Mem.rank_of c.args.m.now) (g.M.Mem.top_of c.args.m.now) (g.M.Mem.bytes_of c.args.m.now) in
    let mpi = data_in (kept c.args.st.now.own c.args.st.now.sweep (g.B.MatchBook.held c.args.st.now.book)) in
    are_held areas mpi c.args.count.now c.args.requests c.count_of.result c.in-Ok.numbers c.in-Ok.ensures c.count_of.ensures.value c.count_of.ensures.fits
    (sym c.in_default.is ∙ (c.cause.ensures ∙ ap cause_of c.array_faults.ensures))
    (sym c.in-None.is ∙ (c.cause-2.ensures ∙ ap cause_of (c.number_faults.ensures ∙ ap (λ (xs : List ℕ). number_faults mpi c.args.count.now xs) c.as_slice.ensures)))
