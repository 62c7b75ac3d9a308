use Rattle.std.proofs.Common.{Bool, ◌∙◌, ap, rules}
use Rattle.std.specs.Prelude.{not, filter}
use Rattle.std.proofs.lemmas.Fn.{filter_same}
use Rattle.mpi_types.specs.declared.argument.TreeMsg.{TreeMsg}
use Rattle.collectives.specs.Held.{is_up_of}
use Rattle.collectives.proofs.held.others_of.Goals as goal

pub returns : goal.returns
returns c =
    let test : TreeMsg → Bool = λ m. not (is_up_of c.args.joined.now.ctx c.args.joined.now.position m) in
    c.from_vec.ensures ∙ (filter_same _ test _ (λ x b f' k. search rules) _ _ c.retain.ensures.filtered
    ∙ ap (filter test) c.into_vec-messages.ensures)
