use Rattle.std.proofs.Common.{◌∙◌, ap, sym}
use Rattle.std.specs.Prelude.{is_some}
use Rattle.mpi_call.specs.Answers.{kept, data_in}
use Rattle.mpi_call.proofs.ReadyLemmas.{came_more, came_lacks, came_past, each_live}
use Rattle.mpi_call.proofs.ready.all_complete.Goals as goal

pub came_of-requires : goal.came_of-requires
came_of-requires g c some = each_live (data_in (kept c.args.st.now.own c.args.st.now.sweep (g.B.MatchBook.held c.args.st.now.book))) c.args.count c.loop-i.i c.number_in.result c.args.bytes.now c.requires.live c.loop-i-test.true c.number_in.ensures some

pub loop-i-preserved : goal.loop-i-preserved
loop-i-preserved g c =
    came_more (data_in (kept c.args.st.now.own c.args.st.now.sweep (g.B.MatchBook.held c.args.st.now.book))) c.args.count c.loop-i.i c.number_in.result c.args.bytes.now c.came_of.result c.loop-i-test.true c.number_in.ensures c.came_of.ensures
    (ap is_some c.in-Some.is) ∙ c.loop-i.invariant

pub returns-in-None : goal.returns-in-None
returns-in-None g c =
    sym (sym c.loop-i.invariant
    ∙ came_lacks (data_in (kept c.args.st.now.own c.args.st.now.sweep (g.B.MatchBook.held c.args.st.now.book))) c.args.count c.loop-i.i c.number_in.result c.args.bytes.now c.came_of.result c.loop-i-test.true c.number_in.ensures c.came_of.ensures
    (ap is_some c.in-None.is))

pub returns : goal.returns
returns g c = sym (sym c.loop-i.invariant ∙ came_past (data_in (kept c.args.st.now.own c.args.st.now.sweep (g.B.MatchBook.held c.args.st.now.book))) c.args.count c.loop-i.i c.args.bytes.now c.loop-i-test.false)
