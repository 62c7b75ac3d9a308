use Rattle.std.proofs.Common.{◌≡◌, ◌≤◌, length, take}
use Rattle.c_types.proofs.scope.Scope.close.Given as goal

abbrev pub invariant-loop-self : goal.invariant-loop-self
invariant-loop-self g l =
    (l.self.names ≡ take l.len l.fn.self.names)
    × (l.self.meanings ≡ take (length l.self.meanings) l.fn.self.meanings)
    × (l.len ≤ length l.self.meanings)

abbrev pub decreases-loop-self : goal.decreases-loop-self
decreases-loop-self g l = length l.self.meanings
