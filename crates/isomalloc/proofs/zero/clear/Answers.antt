use Rattle.std.proofs.Common.{◌≤◌, ◌+◌, ◌*◌, arith}
use Rattle.rank_range.proofs.ChangeLemmas.{keeps_one}
use Rattle.isomalloc.proofs.Zeros.{cleared_none, cleared_more}
use Rattle.isomalloc.proofs.zero.clear.Goals as goal

pub loop-word-init : goal.loop-word-init
loop-word-init g c =
    cleared_none (g.M.Mem.rank_of c.args.memory.now) (g.M.Mem.top_of c.args.memory.now) (g.M.Mem.bytes_of c.args.memory.now)
    (g.M.Mem.marks_of c.args.memory.now) c.args.at (c.args.at + 16 * c.args.units)

pub loop-word-preserved : goal.loop-word-preserved
loop-word-preserved g c =
    let inside : c.args.at + 8 * c.loop-word.word + 8 ≤ c.args.at + 16 * c.args.units = omega (arith, c.loop-word-test.true) in
    let kept = c.loop-word.invariant.kept in
    let size = kept.whole in
    cleared_more _ _ _ _ _ _ _ _ _ _ _ _ c.args.at (c.args.at + 16 * c.args.units) c.loop-word.word c.set_raw.ensures.bytes
    (omega (arith, c.requires.inside, c.requires.whole)) inside c.loop-word.invariant
    (keeps_one _ _ _ _ _ _ _ _ (c.args.at + 8 * c.loop-word.word) 8 0 (omega (arith, inside, size, c.requires.inside, c.requires.whole))
    c.set_raw.ensures.bytes c.set_raw.ensures.marks c.set_raw.ensures.owner c.set_raw.ensures.stack)

pub returns-clause-zero : goal.returns-clause-zero
returns-clause-zero g c i below = c.loop-word.invariant.zero i (omega (arith, c.loop-word-test.false, below))

pub returns-clause-beside : goal.returns-clause-beside
returns-clause-beside g c = c.loop-word.invariant.beside

pub returns-clause-kept : goal.returns-clause-kept
returns-clause-kept g c = c.loop-word.invariant.kept
