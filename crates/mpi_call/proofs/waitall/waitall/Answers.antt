use Rattle.std.proofs.Common.{◌∙◌, ap, sym, length}
use Rattle.mpi_call.specs.Answers.{kept, data_in}
use Rattle.mpi_call.proofs.ArrayLemmas.{all_length}
use Rattle.mpi_call.proofs.waitall.waitall.Goals as goal

pub end_where_open-result-requires-clause-sizes : goal.end_where_open-result-requires-clause-sizes
end_where_open-result-requires-clause-sizes g c =
    ap length c.as_slice-2.ensures
    ∙ all_length (data_in (kept c.args.st.now.own c.args.st.now.sweep (g.B.MatchBook.held c.args.st.now.book))) c.as_slice.result.now c.in-Some.all
    (sym c.in-Some.is ∙ c.in-Ok-all_came.ensures)
    ∙ ap length (c.as_slice.ensures ∙ sym c.as_slice-3.ensures)
