use Rattle.std.proofs.Common.{◌∙◌, sym}
use Rattle.mpi_rules.specs.Requests.{is_request}
use Rattle.mpi_call.specs.Answers.{kept, data_in}
use Rattle.mpi_call.proofs.ReadyLemmas.{all_more, all_fail, all_past}
use Rattle.mpi_call.proofs.ready.all_requests.Goals as goal

pub loop-i-preserved : goal.loop-i-preserved
loop-i-preserved g c =
    all_more (is_request (data_in (kept c.args.st.now.own c.args.st.now.sweep (g.B.MatchBook.held c.args.st.now.book)))) c.args.count c.loop-i.i c.number_in.result c.args.bytes.now c.loop-i-test.true c.number_in.ensures
    (sym c.is_request.ensures ∙ c.if-not-is_request.false) ∙ c.loop-i.invariant

pub returns-then-not-is_request : goal.returns-then-not-is_request
returns-then-not-is_request g c =
    sym (sym c.loop-i.invariant
    ∙ all_fail (is_request (data_in (kept c.args.st.now.own c.args.st.now.sweep (g.B.MatchBook.held c.args.st.now.book)))) c.args.count c.loop-i.i c.number_in.result c.args.bytes.now c.loop-i-test.true c.number_in.ensures
    (sym c.is_request.ensures ∙ c.if-not-is_request.true))

pub returns : goal.returns
returns g c = sym (sym c.loop-i.invariant ∙ all_past (is_request (data_in (kept c.args.st.now.own c.args.st.now.sweep (g.B.MatchBook.held c.args.st.now.book)))) c.args.count c.loop-i.i c.args.bytes.now c.loop-i-test.false)
