use Rattle.std.proofs.Common.{◌+◌, length, get_or, refl}
use Rattle.rank_range.specs.Areas.{areas_of}
use Rattle.rank_range.specs.Library.{library_does}
use Rattle.c_lib.proofs.CallLemmas.{copies_yes, copies_no}
use Rattle.c_lib.proofs.calls.strcpy.Goals as goal

pub returns-in-Ok-clause-done : goal.returns-in-Ok-clause-done
unfolding library_does
returns-in-Ok-clause-done g c =
    let rank = g.M.Mem.rank_of c.args.m.now in
    let top = g.M.Mem.top_of c.args.m.now in
    let words = c.args.args.now in
    copies_yes (areas_of rank top (g.M.Mem.bytes_of c.args.m.now)) (areas_of rank top (g.M.Mem.bytes_of c.copy.new.m))
    (get_or words 0 0) (get_or words 1 0) (length c.in-Some.text.now + 1) c.silent.result.value c.in-Some.text.now c.silent.result.text
    c.in-Some.ensures refl c.in-Ok.ensures.ok c.silent.ensures.value c.silent.ensures.text

pub returns-in-Err-clause-done : goal.returns-in-Err-clause-done
unfolding library_does
returns-in-Err-clause-done g c =
    let words = c.args.args.now in
    copies_no (areas_of (g.M.Mem.rank_of c.args.m.now) (g.M.Mem.top_of c.args.m.now) (g.M.Mem.bytes_of c.args.m.now))
    (get_or words 0 0) (get_or words 1 0) (length c.in-Some.text.now + 1) c.in-Some.text.now c.in-Some.ensures refl c.in-Err.ensures.refused
