use Rattle.std.proofs.Common.{sym, ◌∙◌, refl}
use Rattle.w_model.specs.World.{world_of}
use Rattle.w_model.specs.Texts.{end_untrapped}
use Rattle.cluster.proofs.ToldLemmas.{end-of-all}
use Rattle.cluster.proofs.told.end_of.Goals as goal

pub returns-in-Some : goal.returns-in-Some
returns-in-Some c = λ code s h bound_is stand.
    end-of-all code s _ h _ (end_untrapped s (world_of h)) stand (sym c.in-Some.is ∙ c.first_trapped.ensures) refl

pub returns-in-None : goal.returns-in-None
returns-in-None c = λ code s h bound_is stand.
    end-of-all code s _ h _ c.end_untrapped.result stand (sym c.in-None.is ∙ c.first_trapped.ensures) (c.end_untrapped.ensures code s h bound_is stand)
