use Rattle.std.proofs.Common.{Bool, ◌∙◌, ap, rules}
use Rattle.std.specs.Prelude.{pos, not, filter}
use Rattle.std.specs.Ordering.{int_eq}
use Rattle.std.proofs.lemmas.Fn.{filter_same}
use Rattle.mpi_types.specs.declared.group.Communicator.{Communicator}
use Rattle.mpi_call.proofs.own.without.Goals as goal

pub returns : goal.returns
returns c =
    let test : Communicator → Bool = λ x. not (int_eq (pos x.number) c.args.comm.now) in
    c.from_vec.ensures ∙ (filter_same _ test _ (λ x b f' k. search rules) _ _ c.retain.ensures.filtered ∙ ap (filter test) c.into_vec-all.ensures)
