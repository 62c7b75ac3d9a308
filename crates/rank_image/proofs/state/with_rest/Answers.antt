use Rattle.std.proofs.Common.{◌∙◌, [], ap, sym, subst}
use Rattle.mpi_types.specs.Book.{IsOrderly}
use Rattle.rank_image.specs.Image.{Rank}
use Rattle.rank_image.specs.State.{rank_of}
use Rattle.rank_image.proofs.Orderly.{orderly}
use Rattle.rank_image.proofs.state.with_rest.Goals as goal

pub from_lists-requires : goal.from_lists-requires
from_lists-requires g c =
    let head = c.args.rest.head in
    let is = c.mpi_of-own.ensures 0 [] head.regs head.ending head.load in
    subst (λ l. IsOrderly l) (sym (ap (λ (r : Rank). r.lists) is)) (orderly c.args.rest.middle.requests c.args.rest.tail.arrived c.requires)

pub returns-in-Ok-clause-rest : goal.returns-in-Ok-clause-rest
returns-in-Ok-clause-rest g c =
    let head = c.args.rest.head in
    let mpi = c.mpi_of-own.result in
    λ number bytes. ap (λ l. rank_of number bytes head.regs head.ending head.load mpi.own mpi.sweep l mpi.sent mpi.reorder) c.in-Ok.ensures
    ∙ c.mpi_of-own.ensures number bytes head.regs head.ending head.load
