use Rattle.std.proofs.Common.{◌≡◌, ◌++◌, take, drop, List, ℕ}
use Rattle.std.specs.Prelude.{option_map}
use Rattle.rank_range.specs.Areas.{before_zero}
use Rattle.c_lib.proofs.texts.before_zero.Given as goal

abbrev pub invariant-loop-n : goal.invariant-loop-n
invariant-loop-n l =
    before_zero l.bytes ≡ option_map (λ (more : List ℕ). take l.n l.bytes ++ more) (before_zero (drop l.n l.bytes))
