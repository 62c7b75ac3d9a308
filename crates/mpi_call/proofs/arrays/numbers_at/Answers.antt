use Rattle.std.proofs.Common.{◌≡◌, ◌*◌, ◌∙◌, ap, length, arith}
use Rattle.rank_range.specs.Areas.{areas_of}
use Rattle.mpi_call.proofs.ArrayLemmas.{read_length}
use Rattle.mpi_call.proofs.arrays.numbers_at.Goals as goal

pub numbers_in-requires : goal.numbers_in-requires
numbers_in-requires g c =
    let areas = areas_of (g.M.Mem.rank_of c.args.m.now) (g.M.Mem.top_of c.args.m.now) (g.M.Mem.bytes_of c.args.m.now) in
    let size : length c.as_slice.result.now ≡ c.args.count * 4 =
    ap length (c.as_slice.ensures ∙ c.in_ok-bytes.ensures) ∙ read_length areas c.args.requests (c.args.count * 4) c.requires in
    omega (arith, size)
