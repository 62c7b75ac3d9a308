use Rattle.std.proofs.Common.{sym, ◌∙◌}
use Rattle.mpi_call.proofs.RangeLemmas.{open_small}
use Rattle.mpi_call.proofs.places.is_open.Goals as goal

pub returns-clause-small : goal.returns-clause-small
returns-clause-small g c open_is =
    open_small (g.M.Mem.rank_of c.args.m.now) (g.M.Mem.top_of c.args.m.now) c.args.a c.args.n (g.M.Mem.bytes_of c.args.m.now) c.top-top.ensures.range
    (sym c.is_seen.ensures ∙ open_is)
