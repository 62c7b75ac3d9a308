use Rattle.std.proofs.Common.{◌≤◌, List, length, sym, subst, ◌∙◌, ap, fold, arith}
use Rattle.std.proofs.lemmas.List.{at_drop_all}
use Rattle.c_types.specs.declared.program.Use.{Use}
use Rattle.c_types.specs.Segment.{IsUndefinedUse}
use Rattle.privatise.specs.First.{IsFirst, earlier}
use Rattle.privatise.proofs.UseLemmas.{undefined_tokens, first_undefined}
use Rattle.privatise.proofs.refusals.undefined_use.Goals as goal

pub returns : goal.returns
returns c =
    let program = c.args.program.now in
    let first = c.loop-name.first in
    let past : length program.uses ≤ c.loop-name.name-index = omega (arith, ap (λ (us : List Use). length us) c.as_slice-name-items.ensures) in
    let none = at_drop_all (λ (us : List Use). fold earlier first (undefined_tokens program us)) program.uses c.loop-name.name-index past in
    subst (IsFirst (IsUndefinedUse program)) (sym c.loop-name.invariant ∙ none) (first_undefined program)
