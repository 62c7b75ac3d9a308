use Rattle.std.proofs.Common.{◌<◌, ℕ, get_or}
use Rattle.am_base.specs.declared.numbers.ProcId.{ProcId}
use Rattle.bench.proofs.plans.ascend.Given as goal

abbrev pub invariant-loop-i : goal.invariant-loop-i
invariant-loop-i l = (j k : ℕ) (d : ProcId) → j < k → k < l.i → (get_or l.live j d).0 < (get_or l.live k d).0

abbrev pub invariant-loop-q : goal.invariant-loop-q
invariant-loop-q l = (j : ℕ) (d : ProcId) → j < l.q-index → (get_or l.live j d).0 < l.p.0
