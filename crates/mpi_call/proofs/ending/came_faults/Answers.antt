use Rattle.rank_range.specs.Areas.{areas_of}
use Rattle.mpi_call.proofs.EndLemmas.{faults_are}
use Rattle.mpi_call.proofs.ending.came_faults.Goals as goal

pub returns : goal.returns
returns g c x variable more same open_is others_is =
    faults_are (areas_of (g.M.Mem.rank_of c.args.m.now) (g.M.Mem.top_of c.args.m.now) (g.M.Mem.bytes_of c.args.m.now)) c.args.s.now x variable more
    c.args.others c.is_closed.result c.args.status same open_is others_is c.is_closed.ensures
