use Rattle.std.proofs.Common.{ℤ, pos, ap, sym, not}
use Rattle.rank_range.specs.Areas.{areas_of}
use Rattle.mpi_types.specs.declared.state.Phase.{Phase}
use Rattle.mpi_rules.specs.Data.{is_before}
use Rattle.mpi_rules.specs.Own.{flag_of, initialized_reply}
use Rattle.mpi_call.specs.Answers.{kept}
use Rattle.mpi_call.proofs.DoesLemmas.{told_is}
use Rattle.mpi_call.proofs.own.initialized.Goals as goal

abbrev is_begun : Phase → ℤ
is_begun p = flag_of (not (is_before p))

pub returns-in-Before : goal.returns-in-Before
unfolding initialized_reply
returns-in-Before g c =
    let areas = areas_of (g.M.Mem.rank_of c.args.m.now) (g.M.Mem.top_of c.args.m.now) (g.M.Mem.bytes_of c.args.m.now) in
    let k = kept c.args.st.now.own c.args.st.now.sweep (g.B.MatchBook.held c.args.st.now.book) in
    told_is areas k c.args.flag (pos 0) (is_begun c.args.st.now.own.phase) c.told.result (ap (λ (p : Phase). is_begun p) (sym c.in-Before.is)) (c.told.ensures.does k)

pub returns-in-Running : goal.returns-in-Running
unfolding initialized_reply
returns-in-Running g c =
    let areas = areas_of (g.M.Mem.rank_of c.args.m.now) (g.M.Mem.top_of c.args.m.now) (g.M.Mem.bytes_of c.args.m.now) in
    let k = kept c.args.st.now.own c.args.st.now.sweep (g.B.MatchBook.held c.args.st.now.book) in
    told_is areas k c.args.flag (pos 1) (is_begun c.args.st.now.own.phase) c.told-in-Running.result (ap (λ (p : Phase). is_begun p) (sym c.in-Running.is)) (c.told-in-Running.ensures.does k)

pub returns-in-After : goal.returns-in-After
unfolding initialized_reply
returns-in-After g c =
    let areas = areas_of (g.M.Mem.rank_of c.args.m.now) (g.M.Mem.top_of c.args.m.now) (g.M.Mem.bytes_of c.args.m.now) in
    let k = kept c.args.st.now.own c.args.st.now.sweep (g.B.MatchBook.held c.args.st.now.book) in
    told_is areas k c.args.flag (pos 1) (is_begun c.args.st.now.own.phase) c.told-in-After.result (ap (λ (p : Phase). is_begun p) (sym c.in-After.is)) (c.told-in-After.ensures.does k)
