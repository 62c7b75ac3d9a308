use Rattle.std.proofs.Common.{ℤ, pos, ap, sym}
use Rattle.rank_range.specs.Areas.{areas_of}
use Rattle.mpi_types.specs.declared.state.Phase.{Phase}
use Rattle.mpi_rules.specs.Data.{is_after}
use Rattle.mpi_rules.specs.Own.{flag_of, finalized_reply}
use Rattle.mpi_call.specs.Answers.{kept}
use Rattle.mpi_call.proofs.DoesLemmas.{told_is}
use Rattle.mpi_call.proofs.own.finalized.Goals as goal

abbrev is_over : Phase → ℤ
is_over p = flag_of (is_after p)

pub returns-in-After : goal.returns-in-After
unfolding finalized_reply
returns-in-After g c =
    let areas = areas_of (g.M.Mem.rank_of c.args.m.now) (g.M.Mem.top_of c.args.m.now) (g.M.Mem.bytes_of c.args.m.now) in
    let k = kept c.args.st.now.own c.args.st.now.sweep (g.B.MatchBook.held c.args.st.now.book) in
    told_is areas k c.args.flag (pos 1) (is_over c.args.st.now.own.phase) c.told.result (ap (λ (p : Phase). is_over p) (sym c.in-After.is)) (c.told.ensures.does k)

pub returns-in-Running : goal.returns-in-Running
unfolding finalized_reply
returns-in-Running g c =
    let areas = areas_of (g.M.Mem.rank_of c.args.m.now) (g.M.Mem.top_of c.args.m.now) (g.M.Mem.bytes_of c.args.m.now) in
    let k = kept c.args.st.now.own c.args.st.now.sweep (g.B.MatchBook.held c.args.st.now.book) in
    told_is areas k c.args.flag (pos 0) (is_over c.args.st.now.own.phase) c.told-in-Running.result (ap (λ (p : Phase). is_over p) (sym c.in-Running.is)) (c.told-in-Running.ensures.does k)

pub returns-in-Before : goal.returns-in-Before
unfolding finalized_reply
returns-in-Before g c =
    let areas = areas_of (g.M.Mem.rank_of c.args.m.now) (g.M.Mem.top_of c.args.m.now) (g.M.Mem.bytes_of c.args.m.now) in
    let k = kept c.args.st.now.own c.args.st.now.sweep (g.B.MatchBook.held c.args.st.now.book) in
    told_is areas k c.args.flag (pos 0) (is_over c.args.st.now.own.phase) c.told-in-Before.result (ap (λ (p : Phase). is_over p) (sym c.in-Before.is)) (c.told-in-Before.ensures.does k)
