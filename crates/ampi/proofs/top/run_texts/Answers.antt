use Rattle.std.proofs.Common.{◌∙◌, ap, sym, List, ℕ, subst, map, string_bytes}
use Rattle.ampi.specs.Sources.{AreLoaded}
use Rattle.ampi.proofs.top.run_texts.Goals as goal

pub run_named-requires-clause-named : goal.run_named-requires-clause-named
run_named-requires-clause-named g c = c.as_slice-in-Ok.ensures.value ∙ c.in-Ok.ensures ∙ ap (map string_bytes) c.as_slice.ensures.value

pub returns-in-Ok-clause-answers : goal.returns-in-Ok-clause-answers
returns-in-Ok-clause-answers g c = λ words r asked loaded.
    let P : List (List ℕ) → Type 0 = λ names. AreLoaded r.held names c.args.texts.now in
    let named = c.as_slice-in-Ok.ensures.value ∙ c.in-Ok.ensures ∙ ap (map string_bytes) c.as_slice.ensures.value in
    c.run_named.ensures.answers words r asked (subst P (sym named) loaded)
