use Rattle.std.proofs.Common.{arith}
use Rattle.rank_range.specs.Areas.{areas_of}
use Rattle.mpi_call.proofs.CountLemmas.{seen_length, seen_number}
use Rattle.mpi_call.proofs.counts.status_bits.Goals as goal

pub read_number-requires : goal.read_number-requires
read_number-requires g c =
    omega (arith, seen_length (areas_of (g.M.Mem.rank_of c.args.m.now) (g.M.Mem.top_of c.args.m.now) (g.M.Mem.bytes_of c.args.m.now)) c.args.status 16 c.in-Ok.bytes.now c.in-Ok.ensures.value)

pub returns-in-Ok : goal.returns-in-Ok
returns-in-Ok g c =
    seen_number (areas_of (g.M.Mem.rank_of c.args.m.now) (g.M.Mem.top_of c.args.m.now) (g.M.Mem.bytes_of c.args.m.now)) c.args.status c.read_number.result
    c.in-Ok.bytes.now c.in-Ok.ensures.value c.read_number.ensures.value
