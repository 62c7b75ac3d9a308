use Rattle.std.proofs.Common.{Bool, ◌==◌, ◌∙◌, ap, rules}
use Rattle.std.specs.Prelude.{not, filter}
use Rattle.std.proofs.lemmas.Fn.{filter_same}
use Rattle.mpi_types.specs.declared.state.CompleteRequest.{CompleteRequest}
use Rattle.mpi_call.proofs.requests.without.Goals as goal

pub returns : goal.returns
returns c =
    let test : CompleteRequest → Bool = λ x. not (x.number == c.args.number) in
    c.from_vec.ensures ∙ (filter_same _ test _ (λ x b f' k. search rules) _ _ c.retain.ensures.filtered ∙ ap (filter test) c.into_vec-all.ensures)
