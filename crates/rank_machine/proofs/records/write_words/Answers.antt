use Rattle.std.proofs.Common.{◌≤◌, ◌+◌, ◌*◌, length, arith}
use Rattle.rank_range.proofs.ChangeLemmas.{keeps_one}
use Rattle.rank_machine.proofs.RecordLemmas.{written_more}
use Rattle.rank_machine.proofs.records.write_words.Goals as goal

pub loop-i-preserved : goal.loop-i-preserved
loop-i-preserved g c =
    let before = c.loop-i.invariant in
    let size = before.kept.whole in
    let inside : c.args.at + 8 * c.loop-i.i + 8 ≤ length (g.M.Mem.bytes_of c.loop-i.memory) =
    omega (arith, size, c.requires.whole, c.requires.inside, c.requires.few, c.loop-i-test.true) in
    written_more _ _ _ _ _ _ _ _ _ _ _ _ c.args.at c.args.words.now c.loop-i.i c.set_raw.ensures.bytes
    (omega (arith, c.requires.whole, c.requires.inside)) c.loop-i-test.true c.requires.few (c.type_inv.words c.loop-i.i).fits before
    (keeps_one _ _ _ _ _ _ _ _ (c.args.at + 8 * c.loop-i.i) 8 _ inside c.set_raw.ensures.bytes c.set_raw.ensures.marks c.set_raw.ensures.owner c.set_raw.ensures.stack)
