use Rattle.std.proofs.Common.{◌≡◌, ◌∙◌, List, ℕ, ap}
use Rattle.std.specs.Prelude.{insert}
use Rattle.mpi_types.specs.declared.group.Communicator.{Communicator}
use Rattle.mpi_call.specs.Numbers.{place_for}
use Rattle.mpi_call.proofs.NumberLemmas.{placed}
use Rattle.mpi_call.proofs.gathering.with_communicator.Goals as goal

pub returns : goal.returns
returns c =
    let new = c.args.new in
    let place : c.place_for-place.result ≡ place_for new.number c.args.list =
    c.place_for-place.ensures.value ∙ ap (place_for new.number) (c.as_slice.ensures.value ∙ c.into_vec-all.ensures) in
    c.from_vec.ensures ∙ c.in_ok-insert.ensures.items
    ∙ ap (λ (xs : List Communicator). insert xs c.place_for-place.result new) c.into_vec-all.ensures
    ∙ ap (λ (k : ℕ). insert c.args.list k new) place ∙ placed new c.args.list
