use Rattle.rank_range.specs.Areas.{areas_of}
use Rattle.c_lib.proofs.ChangeLemmas.{rest_yes, rest_no, room_is}
use Rattle.c_lib.proofs.memory.rest_at.Goals as goal

pub returns-in-Ok : goal.returns-in-Ok
returns-in-Ok g c =
    let rank = g.M.Mem.rank_of c.args.m.now in
    let top = g.M.Mem.top_of c.args.m.now in
    let bytes = g.M.Mem.bytes_of c.args.m.now in
    let all = room_is rank top c.rank.result.0 c.top.result c.args.a c.room.result bytes c.rank.ensures.range c.rank.ensures.value c.top.ensures.value c.room.ensures in
    rest_yes (areas_of rank top bytes) c.args.a c.room.result c.in-Ok.bytes.now all c.in-Ok.ensures.value

pub returns-in-Err : goal.returns-in-Err
returns-in-Err g c =
    let rank = g.M.Mem.rank_of c.args.m.now in
    let top = g.M.Mem.top_of c.args.m.now in
    let bytes = g.M.Mem.bytes_of c.args.m.now in
    let all = room_is rank top c.rank.result.0 c.top.result c.args.a c.room.result bytes c.rank.ensures.range c.rank.ensures.value c.top.ensures.value c.room.ensures in
    absurd (rest_no (areas_of rank top bytes) c.args.a c.room.result all c.in-Err.ensures.refused)
