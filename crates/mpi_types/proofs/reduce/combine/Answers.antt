use Rattle.std.proofs.Common.{◌≡◌, length, arith}
use Rattle.mpi_types.proofs.ReduceLemmas.{stepped}
use Rattle.mpi_types.proofs.reduce.combine.Goals as goal

pub loop-i-preserved : goal.loop-i-preserved
loop-i-preserved c =
    let many : c.len-i-end.result ≡ length c.args.total.now.items = omega arith in
    let s = stepped c.args.operation c.args.datatype c.size-size.result c.loop-i.i c.index.result.now c.element-other.result c.combined.result
    c.len-i-end.result c.loop-i.total.items c.args.total.now.items c.args.body.now c.loop-i.invariant.as_long many
    c.loop-i-test.true c.loop-i.invariant.rest c.size-size.ensures c.index.ensures c.element-other.ensures c.combined.ensures in
    record { as_long = s.as_long; rest = s.rest }
