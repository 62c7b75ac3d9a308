use Rattle.std.proofs.Common.{◌≡◌, sym, ap, ◌∙◌}
use Rattle.c_judge.specs.Judging as judging
use Rattle.c_judge.specs.Judging.{declarator, Declaring}
use Rattle.c_judge.specs.Parts.{direct_of}
use Rattle.c_judge.proofs.TypeTrees.{declarator_is}
use Rattle.c_judge.proofs.typing.+name.Goals as goal

pub returns-in-Name : goal.returns-in-Name
returns-in-Name t c =
    sym (ap (λ (d : Declaring). d.name) (declarator_is _) ∙ ap (λ d. judging.direct_name (direct_of d)) c.in-Name.is)

pub returns-in-Nested : goal.returns-in-Nested
returns-in-Nested t c =
    c.declared_name.ensures ∙ ap (λ d. (declarator d).name) c.get.ensures
    ∙ sym (ap (λ (d : Declaring). d.name) (declarator_is _) ∙ ap (λ d. judging.direct_name (direct_of d)) c.in-Nested.is)
