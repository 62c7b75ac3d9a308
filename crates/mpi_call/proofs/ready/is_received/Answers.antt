use Rattle.std.proofs.Common.{◌∙◌}
use Rattle.rank_range.specs.Areas.{areas_of}
use Rattle.mpi_call.specs.Answers.{kept, data_in}
use Rattle.mpi_call.proofs.ReadyLemmas.{received_ready}
use Rattle.mpi_call.proofs.ready.is_received.Goals as goal

pub returns : goal.returns
returns g c = c.is_some.ensures ∙ received_ready (areas_of (g.M.Mem.rank_of c.args.m.now) (g.M.Mem.top_of c.args.m.now) (g.M.Mem.bytes_of c.args.m.now)) (data_in (kept c.args.st.now.own c.args.st.now.sweep (g.B.MatchBook.held c.args.st.now.book))) c.args.status c.completion.result c.completion.ensures
