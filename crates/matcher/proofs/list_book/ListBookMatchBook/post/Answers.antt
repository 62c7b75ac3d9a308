use Rattle.std.proofs.Common.{None, Some, arith}
use Rattle.mpi_types.specs.declared.lists.BookLists.{BookLists}
use Rattle.mpi_types.specs.Book.{IsOrderly}
use Rattle.mpi_types.specs.Post.{hit_of, Posts}
use Rattle.mpi_types.proofs.BookLemmas.{Posts-settled, Posts-orderly}
use Rattle.matcher.proofs.Steps.{posts_by_place, posts_behind}
use Rattle.matcher.proofs.list_book.ListBookMatchBook.post.Goals as goal

abbrev before : goal.After-put_pair → BookLists
before c = record { posted = c.self.inside.posted.items; matched = c.self.inside.matched.items; arrived = c.self.inside.arrived.items }

abbrev after : goal.After-put_pair → BookLists
after c = record { posted = c.self.inside.posted.items; matched = c.put_pair.new.matched.items; arrived = c.remove-message.new.self.items }

done : (c : goal.After-put_pair) → Posts (before c) c.args.receive (Some (hit_of c.args.receive c.remove-message.result)) (after c)
done c =
    let next = rw (← c.self.view_is) at c.requires in
    posts_by_place c.self.inside.posted.items c.self.inside.matched.items c.reserve.new.self.items c.put_pair.new.matched.items
    c.self.inside.arrived.items c.remove-message.new.self.items c.args.receive c.remove-message.result c.in-Some.at c.len-place.result
    next (rw c.as_slice.ensures.value at c.in-Some.ensures) c.remove-message.ensures.value c.remove-message.ensures.items
    c.reserve.ensures.items (omega arith) c.put_pair.ensures

kept : (c : goal.After-put_pair) → IsOrderly (after c)
kept c =
    Posts-orderly (before c) c.args.receive (Some (hit_of c.args.receive c.remove-message.result)) (after c)
    (done c) (rw (← c.self.view_is) at c.requires) c.self.invariant

pub invariant_of-self-2 : goal.invariant_of-self-2
invariant_of-self-2 c = kept c

pub returns-clause-ok : goal.returns-clause-ok
returns-clause-ok c = rw (← c.self.view_is) (done c)

pub returns-clause-settled : goal.returns-clause-settled
returns-clause-settled c =
    rw (← c.self.view_is)
    (Posts-settled (before c) c.args.receive (Some (hit_of c.args.receive c.remove-message.result)) (after c) (done c))

pub returns-clause-orderly : goal.returns-clause-orderly
returns-clause-orderly c = kept c

abbrev waiting_before : goal.In_ok-push → BookLists
waiting_before c = record { posted = c.self.inside.posted.items; matched = c.self.inside.matched.items; arrived = c.self.inside.arrived.items }

abbrev waiting_after : goal.In_ok-push → BookLists
waiting_after c = record { posted = c.push.new.self.items; matched = c.self.inside.matched.items; arrived = c.self.inside.arrived.items }

waits : (c : goal.In_ok-push) → Posts (waiting_before c) c.args.receive None (waiting_after c)
waits c =
    posts_behind c.self.inside.posted.items c.push.new.self.items c.self.inside.matched.items c.self.inside.arrived.items c.args.receive
    (rw c.as_slice.ensures.value at c.in_default.ensures) c.in_ok-push.ensures.items

pub returns-in_default-clause-settled : goal.returns-in_default-clause-settled
returns-in_default-clause-settled c =
    rw (← c.self.view_is) (Posts-settled (waiting_before c) c.args.receive None (waiting_after c) (waits c))

pub returns-in_default-clause-orderly : goal.returns-in_default-clause-orderly
returns-in_default-clause-orderly c =
    Posts-orderly (waiting_before c) c.args.receive None (waiting_after c) (waits c) (rw (← c.self.view_is) at c.requires) c.self.invariant
