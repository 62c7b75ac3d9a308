use Rattle.std.proofs.Common.{◌+◌, ◌++◌, take, drop, arith, sym}
use Rattle.std.proofs.Math.Seq.{take-add}
use Rattle.std.proofs.lemmas.List.{take_rest}
use Rattle.am_io.proofs.PieceLemmas.{Appends-append, Appends-same}
use Rattle.am_io.proofs.host.write_whole.Goals as goal

pub loop-done-preserved : goal.loop-done-preserved
loop-done-preserved g c =
    let before = g.W.Write.contents c.args.writer.now in
    let now = g.W.Write.contents c.write.new.self in
    let piece = c.args.piece.now in
    let done = c.loop-done.done in
    let count = c.in-Ok.count in (
      grind arith,
      Appends-same before now (take done piece ++ take count (drop done piece)) (take (done + count) piece)
          (sym (take-add done count piece))
          (Appends-append before (g.W.Write.contents c.loop-done.writer) now (take done piece) (take count (drop done piece))
          c.loop-done.invariant.1 (rw (take_rest piece done) at c.in-Ok.ensures.bytes)),
    )
