use Rattle.std.proofs.Common.{arith}
use Rattle.c_types.proofs.PopLaws.{popped}
use Rattle.c_types.proofs.scope.Scope.close.Goals as goal

pub loop-self-preserved-in-loop-self : goal.loop-self-preserved-in-loop-self
loop-self-preserved-in-loop-self g c =
    let less = c.loop-self-test.true in
    let size = c.len.ensures in
    let rest = popped c.pop.result _ _ _ c.args.len c.pop.ensures c.loop-self.invariant.1 (omega (arith, less, size)) in
    (c.loop-self.invariant.0, rest.0, rest.1)
