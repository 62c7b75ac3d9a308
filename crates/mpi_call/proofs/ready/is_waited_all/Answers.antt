use Rattle.std.proofs.Common.{◌*◌, ◌∙◌, ap, sym, arith}
use Rattle.std.specs.Prelude.{is_some}
use Rattle.rank_range.specs.Areas.{areas_of}
use Rattle.mpi_rules.specs.Faults.{cause_of}
use Rattle.mpi_call.specs.Answers.{kept, data_in}
use Rattle.mpi_call.specs.Arrays.{array_faults}
use Rattle.mpi_call.proofs.ReadyLemmas.{waitall_ready, waitall_stopped, waitall_open, bytes_length, no_cause}
use Rattle.mpi_call.proofs.ready.is_waited_all.Goals as goal

pub are_told-requires : goal.are_told-requires
are_told-requires g c =
    let size = bytes_length (areas_of (g.M.Mem.rank_of c.args.m.now) (g.M.Mem.top_of c.args.m.now) (g.M.Mem.bytes_of c.args.m.now)) c.args.requests (c.count_of-size.result * 4) c.in-Ok.bytes.now c.in-Ok.ensures.value in
    omega (arith, size)

pub returns-then-is_some : goal.returns-then-is_some
returns-then-is_some g c =
    waitall_stopped (areas_of (g.M.Mem.rank_of c.args.m.now) (g.M.Mem.top_of c.args.m.now) (g.M.Mem.bytes_of c.args.m.now)) (data_in (kept c.args.st.now.own c.args.st.now.sweep (g.B.MatchBook.held c.args.st.now.book))) c.args.count.now c.args.requests c.args.status
    (sym (c.is_some.ensures ∙ ap is_some (c.cause.ensures ∙ ap cause_of c.array_faults.ensures)) ∙ c.if-is_some.true)

pub returns-in-Ok : goal.returns-in-Ok
returns-in-Ok g c =
    c.are_told.ensures
    ∙ waitall_ready (areas_of (g.M.Mem.rank_of c.args.m.now) (g.M.Mem.top_of c.args.m.now) (g.M.Mem.bytes_of c.args.m.now)) (data_in (kept c.args.st.now.own c.args.st.now.sweep (g.B.MatchBook.held c.args.st.now.book))) c.args.count.now c.args.requests c.args.status c.count_of-size.result c.in-Ok.bytes.now
    (no_cause (cause_of (array_faults (areas_of (g.M.Mem.rank_of c.args.m.now) (g.M.Mem.top_of c.args.m.now) (g.M.Mem.bytes_of c.args.m.now)) (data_in (kept c.args.st.now.own c.args.st.now.sweep (g.B.MatchBook.held c.args.st.now.book))) c.args.count.now c.args.requests))
    (sym (c.is_some.ensures ∙ ap is_some (c.cause.ensures ∙ ap cause_of c.array_faults.ensures)) ∙ c.if-is_some.false))
    c.count_of-size.ensures.value c.in-Ok.ensures.value

pub returns-in-Err : goal.returns-in-Err
returns-in-Err g c =
    absurd (waitall_open (areas_of (g.M.Mem.rank_of c.args.m.now) (g.M.Mem.top_of c.args.m.now) (g.M.Mem.bytes_of c.args.m.now)) (data_in (kept c.args.st.now.own c.args.st.now.sweep (g.B.MatchBook.held c.args.st.now.book))) c.args.count.now c.args.requests c.count_of-size.result
    (no_cause (cause_of (array_faults (areas_of (g.M.Mem.rank_of c.args.m.now) (g.M.Mem.top_of c.args.m.now) (g.M.Mem.bytes_of c.args.m.now)) (data_in (kept c.args.st.now.own c.args.st.now.sweep (g.B.MatchBook.held c.args.st.now.book))) c.args.count.now c.args.requests))
    (sym (c.is_some.ensures ∙ ap is_some (c.cause.ensures ∙ ap cause_of c.array_faults.ensures)) ∙ c.if-is_some.false))
    c.count_of-size.ensures.value c.in-Err.ensures.refused)
