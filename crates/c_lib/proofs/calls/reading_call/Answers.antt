use Rattle.rank_range.specs.Areas.{areas_of}
use Rattle.c_lib.proofs.calls.reading_call.Goals as goal

pub returns-in-Putchar : goal.returns-in-Putchar
returns-in-Putchar g c =
    rw c.in-Putchar.is (c.putchar.ensures (areas_of (g.M.Mem.rank_of c.args.m.now) (g.M.Mem.top_of c.args.m.now) (g.M.Mem.bytes_of c.args.m.now)))
