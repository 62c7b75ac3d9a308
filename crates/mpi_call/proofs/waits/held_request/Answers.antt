use Rattle.std.proofs.Common.{◌≡◌, ◌∙◌, ap, sym, None}
use Rattle.rank_range.specs.Areas.{areas_of}
use Rattle.mpi_rules.specs.Faults.{cause_of}
use Rattle.mpi_rules.specs.Places.{is_open, variable_at}
use Rattle.mpi_rules.specs.Requests.{variable_faults, is_request}
use Rattle.mpi_call.specs.Answers.{kept, data_in}
use Rattle.mpi_call.proofs.DoesLemmas.{no_variable, no_request, not_false}
use Rattle.mpi_call.proofs.EndLemmas.{request_live}
use Rattle.mpi_call.proofs.waits.held_request.Goals as goal

pub returns-in-None-clause-ok : goal.returns-in-None-clause-ok
returns-in-None-clause-ok g c =
    let areas = areas_of (g.M.Mem.rank_of c.args.m.now) (g.M.Mem.top_of c.args.m.now) (g.M.Mem.bytes_of c.args.m.now) in
    let mpi = data_in (kept c.args.st.now.own c.args.st.now.sweep (g.B.MatchBook.held c.args.st.now.book)) in
    let faults = variable_faults areas mpi c.args.at in
    let none : None ≡ cause_of faults = sym c.in-None.is ∙ (c.cause.ensures ∙ ap cause_of c.variable_faults.ensures) in
    record {
      number = c.variable.ensures;
      checks = none;
      reached = not_false (is_open areas c.args.at 4) (no_variable faults none);
      live = λ some. request_live mpi c.variable.result (variable_at areas c.args.at) c.variable.ensures some
          (not_false (is_request mpi (variable_at areas c.args.at)) (no_request faults none));
    }
