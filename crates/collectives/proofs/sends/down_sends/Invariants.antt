use Rattle.std.proofs.Common.{◌≡◌, ◌≤◌, ◌++◌, ◌-◌, map}
use Rattle.collectives.specs.Tree.{children_from, children}
use Rattle.collectives.specs.Sends.{down_send}
use Rattle.collectives.proofs.sends.down_sends.Given as goal

abbrev pub invariant-loop-child : goal.invariant-loop-child
invariant-loop-child l = record {
  so_far : l.sends ++ map (down_send l.joined l.args) (children_from (l.end - l.child) l.members l.child l.end) ≡ map (down_send l.joined l.args) (children l.members l.joined.arg.member);
  end_within : l.end ≤ l.members;
}

abbrev pub decreases-loop-child : goal.decreases-loop-child
decreases-loop-child l = l.end - l.child
