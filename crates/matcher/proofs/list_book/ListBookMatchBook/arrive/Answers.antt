use Rattle.std.proofs.Common.{Some}
use Rattle.mpi_types.specs.declared.lists.BookLists.{BookLists}
use Rattle.mpi_types.specs.Book.{IsOrderly}
use Rattle.mpi_types.specs.Post.{hit_of, Arrives}
use Rattle.mpi_types.proofs.BookLemmas.{Arrives-settled, Arrives-orderly}
use Rattle.matcher.proofs.Steps.{arrives_by_place}
use Rattle.matcher.proofs.list_book.ListBookMatchBook.arrive.Goals as goal

abbrev before : goal.After-put_pair → BookLists
before c = record { posted = c.self.inside.posted.items; matched = c.self.inside.matched.items; arrived = c.self.inside.arrived.items }

abbrev after : goal.After-put_pair → BookLists
after c = record { posted = c.remove-receive.new.self.items; matched = c.put_pair.new.matched.items; arrived = c.self.inside.arrived.items }

done : (c : goal.After-put_pair) → Arrives (before c) c.args.message (Some (hit_of c.remove-receive.result c.args.message)) (after c)
done c =
    arrives_by_place c.self.inside.posted.items c.remove-receive.new.self.items c.self.inside.matched.items c.reserve.new.self.items
    c.put_pair.new.matched.items c.self.inside.arrived.items c.remove-receive.result c.args.message c.in-Some.at c.place_of-place.result
    c.self.invariant (rw c.as_slice.ensures.value at c.in-Some.ensures) c.remove-receive.ensures.value c.remove-receive.ensures.items
    c.reserve.ensures.items (rw c.as_slice-2.ensures.value at c.place_of-place.ensures) c.put_pair.ensures

kept : (c : goal.After-put_pair) → IsOrderly (after c)
kept c =
    Arrives-orderly (before c) c.args.message (Some (hit_of c.remove-receive.result c.args.message)) (after c) (done c) c.self.invariant

pub invariant_of-self-2 : goal.invariant_of-self-2
invariant_of-self-2 c = kept c

pub returns-clause-ok : goal.returns-clause-ok
returns-clause-ok c = rw (← c.self.view_is) (done c)

pub returns-clause-settled : goal.returns-clause-settled
returns-clause-settled c =
    rw (← c.self.view_is)
    (Arrives-settled (before c) c.args.message (Some (hit_of c.remove-receive.result c.args.message)) (after c) (done c))

pub returns-clause-orderly : goal.returns-clause-orderly
returns-clause-orderly c = kept c
