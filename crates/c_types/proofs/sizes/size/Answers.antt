use Rattle.std.proofs.Common.{arith}
use Rattle.c_types.proofs.SizeLemmas.{small_array}
use Rattle.c_types.proofs.sizes.size.Goals as goal

pub overflow_mul-size : goal.overflow_mul-size
overflow_mul-size c =
    let most = small_array _ _ _ _ _ c.loop-part-test.true c.in-Array.is c.loop-part.invariant.1 in
    omega (arith, most)
