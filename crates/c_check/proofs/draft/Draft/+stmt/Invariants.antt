use Rattle.std.proofs.Common.{◌≡◌, ◌+◌, ◌*◌, map, drop, []}
use Rattle.c_check.specs.Statements as statements
use Rattle.c_check.specs.Running.{item_of}
use Rattle.c_check.proofs.draft.Draft.+stmt.Given as goal

abbrev pub invariant-items-loop-item : goal.invariant-items-loop-item
invariant-items-loop-item l =
    statements.items l.lines (map (item_of l.lines) (drop l.item-index l.items)) l.inside l.done l.self
    ≡ statements.items l.fn.lines (map (item_of l.fn.lines) l.fn.items) l.inside [] l.fn.self

abbrev pub decreases-block : goal.decreases-block
decreases-block l = 4 * goal.size-block l + 3

abbrev pub decreases-items : goal.decreases-items
decreases-items l = 4 * goal.size-items l + 2

abbrev pub decreases-item : goal.decreases-item
decreases-item l = 4 * goal.size-item l + 1

abbrev pub decreases-else_behind : goal.decreases-else_behind
decreases-else_behind l = 4 * goal.size-else_behind l + 1

abbrev pub decreases-while_behind : goal.decreases-while_behind
decreases-while_behind l = 4 * goal.size-while_behind l + 1

abbrev pub decreases-for_behind : goal.decreases-for_behind
decreases-for_behind l = 4 * goal.size-for_behind l + 1

abbrev pub decreases-switch_behind : goal.decreases-switch_behind
decreases-switch_behind l = 4 * goal.size-switch_behind l + 1

abbrev pub decreases-labelled : goal.decreases-labelled
decreases-labelled l = 4 * goal.size-labelled l + 1

abbrev pub decreases-stmt : goal.decreases-stmt
decreases-stmt l = 4 * goal.size-stmt l + 0
