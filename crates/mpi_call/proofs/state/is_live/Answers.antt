use Rattle.std.proofs.Common.{◌||◌, sym, ◌∙◌}
use Rattle.std.specs.Prelude.{is_some}
use Rattle.mpi_rules.specs.Data.{is_live, complete_of, is_waiting, pair_of}
use Rattle.mpi_call.proofs.LiveLemmas.{live_told, none_or}
use Rattle.mpi_call.proofs.state.is_live.Goals as goal

pub returns-else-is_some : goal.returns-else-is_some
unfolding is_live
returns-else-is_some g c =
    let l = g.B.MatchBook.held c.args.st.now.book in
    none_or (λ r. r.kind) c.complete_kind.result (complete_of c.args.number c.args.st.now.own.complete) c.is_live.result
    (is_waiting c.args.number l.posted || is_some (pair_of c.args.number l.matched)) c.complete_kind.ensures (sym c.is_some.ensures ∙ c.if-is_some.false) (live_told l c.args.number c.is_live.result c.is_live.ensures.told)
