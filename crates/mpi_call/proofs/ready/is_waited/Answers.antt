use Rattle.mpi_call.proofs.ready.is_waited.Goals as goal

pub came_of-requires : goal.came_of-requires
came_of-requires g c = c.in-Ok.ensures.ok.live
