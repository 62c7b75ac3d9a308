use Rattle.rank_machine.proofs.RecordLemmas.{read_more}
use Rattle.std.proofs.Common.{arith}
use Rattle.rank_machine.proofs.records.read_operands.Goals as goal

pub loop-i-preserved : goal.loop-i-preserved
loop-i-preserved g c =
    read_more (g.M.Mem.bytes_of c.args.memory.now) c.args.at c.loop-i.i c.raw.result c.loop-i.operands c.push-fits.new.self c.push-fits.result
    (omega (arith, c.loop-i-test.true, c.requires.few)) c.loop-i.invariant c.raw.ensures.value c.push-fits.ensures.room c.push-fits.ensures.after
