use Rattle.std.proofs.Common.{◌≤◌, ◌++◌, length, take}
use Rattle.c_grammar.specs.Names.{Names, of_known}
use Rattle.c_grammar.specs.Meanings.{Agrees, Hide}
use Rattle.c_grammar.proofs.scope.restore_all.Given as goal

abbrev pub invariant-backward : goal.invariant-backward
invariant-backward l =
    ((under : Names) → Agrees l.fn.meanings.entries (of_known l.names ++ under) → Hide under l.names
    → Agrees l.meanings.entries (of_known (take l.count l.names) ++ under))
    × (l.count ≤ length l.names)

abbrev pub decreases-backward : goal.decreases-backward
decreases-backward l = l.count
