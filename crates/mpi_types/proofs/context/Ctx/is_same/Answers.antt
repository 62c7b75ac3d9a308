use Rattle.std.proofs.Common.{◌≡◌, List, Bool, sym, ◌∙◌}
use Rattle.std.specs.Bool.{Decides}
use Rattle.std.proofs.lemmas.Slice.Eq.{slice_eq-Decides}
use Rattle.mpi_types.specs.declared.context.Level.{Level}
use Rattle.mpi_types.proofs.AcceptLemmas.{levels_tell}
use Rattle.mpi_types.proofs.context.Ctx.is_same.Goals as goal

-- what tells of two lists tells of two that equal them
at_equals : (xs ys us vs : List Level) (r : Bool) → us ≡ xs → vs ≡ ys → Decides r (us ≡ vs) → Decides r (xs ≡ ys)
at_equals xs ys us vs r p q told = (λ t. sym p ∙ told.0 t ∙ q, λ e. told.1 (p ∙ e ∙ sym q))

pub returns : goal.returns
returns c =
    at_equals _ _ _ _ _ (c.as_slice.ensures.value ∙ c.self.view_is) (c.as_slice-2.ensures.value ∙ c.other.view_is)
    (slice_eq-Decides levels_tell _ _ _ c.eq.ensures)
