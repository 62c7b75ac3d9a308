use Rattle.std.proofs.Common.{Bool, ◌∙◌, ap, sym}
use Rattle.rank_range.specs.Areas.{areas_of}
use Rattle.mpi_rules.specs.Calls.{reply, reply_to}
use Rattle.mpi_call.specs.Answers.{kept, data_in}
use Rattle.mpi_call.specs.Ready.{is_answered}
use Rattle.mpi_call.proofs.ReadyLemmas.{tests_ready, others_ready}
use Rattle.mpi_call.proofs.ready.answerable.Goals as goal

pub returns-in-Test : goal.returns-in-Test
unfolding reply
returns-in-Test g c = tests_ready (areas_of (g.M.Mem.rank_of c.args.m.now) (g.M.Mem.top_of c.args.m.now) (g.M.Mem.bytes_of c.args.m.now)) (data_in (kept c.args.st.now.own c.args.st.now.sweep (g.B.MatchBook.held c.args.st.now.book))) c.args.c.now.call c.args.c.now.second c.args.c.now.arguments c.in-Test.is

pub returns-in_default : goal.returns-in_default
unfolding reply
returns-in_default g c =
    c.is_gathered.ensures
    ∙ others_ready (areas_of (g.M.Mem.rank_of c.args.m.now) (g.M.Mem.top_of c.args.m.now) (g.M.Mem.bytes_of c.args.m.now)) (data_in (kept c.args.st.now.own c.args.st.now.sweep (g.B.MatchBook.held c.args.st.now.book))) c.args.c.now.call c.args.c.now.arguments c.requires.served
    (c.in_default.not-Recv, c.in_default.not-Wait, c.in_default.not-Waitall, c.in_default.not-Test)
    ∙ ap (λ (b : Bool). is_answered (reply_to c.args.c.now.call b c.args.c.now.arguments (areas_of (g.M.Mem.rank_of c.args.m.now) (g.M.Mem.top_of c.args.m.now) (g.M.Mem.bytes_of c.args.m.now)) (data_in (kept c.args.st.now.own c.args.st.now.sweep (g.B.MatchBook.held c.args.st.now.book))))) (sym c.requires.tick)
