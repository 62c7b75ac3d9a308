use Rattle.std.proofs.Common.{◌≡◌, ℕ, List, rules, ap, ◌∙◌, to_z, of_z, w32, slice_index}
use Rattle.rank_range.specs.Kinds.{value_of}
use Rattle.rank_range.specs.declared.kinds.Kind.TheVariants.{Int}
use Rattle.rank_machine.proofs.LibraryLemmas.{exits}
use Rattle.rank_machine.proofs.library.exit.Goals as goal

pub returns : goal.returns
returns g c =
    let e : to_z w32 (of_z w32 c.int_of.result) ≡ c.int_of.result = search rules in
    exits _ _ _ c.args.work.now _ _ _ _
    (e ∙ c.int_of.ensures ∙ ap (value_of Int) c.argument.ensures ∙ ap (λ (ws : List ℕ). value_of Int (slice_index ws 0)) c.top.ensures)
