use Rattle.std.proofs.Common.{◌≡◌, refl}
use Rattle.matcher.proofs.Steps.{any_at}
use Rattle.matcher.proofs.list_book.ListBookMatchBook.matched.Goals as goal

pub returns-in-Some-clause-told : goal.returns-in-Some-clause-told
returns-in-Some-clause-told c =
    rw (← c.self.view_is) (
      λ t. any_at (λ p. p.receive.request ≡ c.args.request) c.self.inside.matched.items c.in-Some.field-0 (rw c.as_slice.ensures.value at c.in-Some.ensures),
      λ _. refl,
    )
