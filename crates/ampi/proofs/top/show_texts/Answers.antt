use Rattle.std.proofs.Common.{◌∙◌, sym, List, ℕ, subst}
use Rattle.run_words.specs.Words.{AskForCode}
use Rattle.ampi.specs.Sources.{AreLoaded}
use Rattle.ampi.proofs.top.show_texts.Goals as goal

pub returns-in-Ok-clause-answers : goal.returns-in-Ok-clause-answers
returns-in-Ok-clause-answers g c = λ words r journal asks loaded.
    let P : List (List ℕ) → Type 0 = λ names. AreLoaded r.held names c.args.texts.now in
    let named = sym (c.as_slice.ensures.value ∙ c.in-Ok.ensures) in
    c.show_named.ensures.answers words r journal (subst (AskForCode words) named asks) (subst P named loaded)
