use Rattle.std.proofs.Common.{◌∙◌, sym, ap}
use Rattle.am_base.specs.Headers.{item_in, items_of}
use Rattle.am_base.proofs.headers.header_item.Goals as goal

-- the table is the header's
pub returns-in-Mpi : goal.returns-in-Mpi
returns-in-Mpi c = c.named.ensures ∙ ap (λ header. item_in (items_of header) c.args.name.now) (sym c.in-Mpi.is)
