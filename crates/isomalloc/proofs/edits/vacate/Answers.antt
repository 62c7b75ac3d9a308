use Rattle.std.proofs.Common.{sym, ap, subst}
use Rattle.std.proofs.lemmas.Bool.{both_ways}
use Rattle.isomalloc.specs.declared.nodes.Entry.{Entry}
use Rattle.isomalloc.specs.Entries.{MayBeNode}
use Rattle.isomalloc.proofs.Taken.{known}
use Rattle.isomalloc.proofs.Given.{Half, others, opened, used_blocks, few_holes, next_may, previous_may, can_join_behind, half_joined, half_without, hole_at, same_previous, can_join_before, done_joined, done_without, hole_before, vacated}
use Rattle.isomalloc.proofs.edits.vacate.Goals.{then-is_hole, else-is_hole}
use Rattle.isomalloc.proofs.edits.vacate.Goals as goal

pub open-requires-clause-below : goal.open-requires-clause-below
open-requires-clause-below g c = (known (g.M.Mem.bytes_of c.args.memory.now) c.args.number c.requires.used).below

pub open-requires-clause-some : goal.open-requires-clause-some
open-requires-clause-some g c = used_blocks (g.M.Mem.bytes_of c.args.memory.now) c.args.number c.requires.used c.requires.block

pub open-requires-clause-few : goal.open-requires-clause-few
open-requires-clause-few g c = few_holes (g.M.Mem.bytes_of c.args.memory.now) c.args.number c.requires.used

pub read_node-entry-requires : goal.read_node-entry-requires
read_node-entry-requires g c = (known (g.M.Mem.bytes_of c.args.memory.now) c.args.number c.requires.used).below

pub is_hole-requires : goal.is_hole-requires
is_hole-requires g c =
    let loose = opened (g.M.Mem.bytes_of c.args.memory.now) (g.M.Mem.bytes_of c.open.new.memory) c.args.number c.requires.used c.requires.block c.open.ensures.nodes c.open.ensures.header c.open.ensures.stays in
    let next = ap (λ (e : Entry). e.next) c.read_node-entry.ensures in
    subst MayBeNode (sym next) (next_may (g.M.Mem.bytes_of c.open.new.memory) (others (g.M.Mem.bytes_of c.args.memory.now) c.requires.used.left c.requires.used.right) c.requires.used.left c.args.number c.requires.used.right c.requires.used.unused loose)

pub join-requires-clause-below : goal.join-requires-clause-below
join-requires-clause-below g c =
    let loose = opened (g.M.Mem.bytes_of c.args.memory.now) (g.M.Mem.bytes_of c.open.new.memory) c.args.number c.requires.used c.requires.block c.open.ensures.nodes c.open.ensures.header c.open.ensures.stays in
    let next = ap (λ (e : Entry). e.next) c.read_node-entry.ensures in
    let hole = c.is_hole.ensures.0 c.if-is_hole.true in
    let can = can_join_behind (g.M.Mem.bytes_of c.open.new.memory) (others (g.M.Mem.bytes_of c.args.memory.now) c.requires.used.left c.requires.used.right) c.requires.used.left c.args.number c.read_node-entry.result.next c.requires.used.right c.requires.used.unused loose next hole.0 in
    can.below

pub join-requires-clause-known : goal.join-requires-clause-known
join-requires-clause-known g c =
    let loose = opened (g.M.Mem.bytes_of c.args.memory.now) (g.M.Mem.bytes_of c.open.new.memory) c.args.number c.requires.used c.requires.block c.open.ensures.nodes c.open.ensures.header c.open.ensures.stays in
    let next = ap (λ (e : Entry). e.next) c.read_node-entry.ensures in
    let hole = c.is_hole.ensures.0 c.if-is_hole.true in
    let can = can_join_behind (g.M.Mem.bytes_of c.open.new.memory) (others (g.M.Mem.bytes_of c.args.memory.now) c.requires.used.left c.requires.used.right) c.requires.used.left c.args.number c.read_node-entry.result.next c.requires.used.right c.requires.used.unused loose next hole.0 in
    can.known

pub join-requires-clause-inside : goal.join-requires-clause-inside
join-requires-clause-inside g c =
    let loose = opened (g.M.Mem.bytes_of c.args.memory.now) (g.M.Mem.bytes_of c.open.new.memory) c.args.number c.requires.used c.requires.block c.open.ensures.nodes c.open.ensures.header c.open.ensures.stays in
    let next = ap (λ (e : Entry). e.next) c.read_node-entry.ensures in
    let hole = c.is_hole.ensures.0 c.if-is_hole.true in
    let can = can_join_behind (g.M.Mem.bytes_of c.open.new.memory) (others (g.M.Mem.bytes_of c.args.memory.now) c.requires.used.left c.requires.used.right) c.requires.used.left c.args.number c.read_node-entry.result.next c.requires.used.right c.requires.used.unused loose next hole.0 in
    can.inside

pub join-requires-clause-unused : goal.join-requires-clause-unused
join-requires-clause-unused g c =
    let loose = opened (g.M.Mem.bytes_of c.args.memory.now) (g.M.Mem.bytes_of c.open.new.memory) c.args.number c.requires.used c.requires.block c.open.ensures.nodes c.open.ensures.header c.open.ensures.stays in
    let next = ap (λ (e : Entry). e.next) c.read_node-entry.ensures in
    let hole = c.is_hole.ensures.0 c.if-is_hole.true in
    let can = can_join_behind (g.M.Mem.bytes_of c.open.new.memory) (others (g.M.Mem.bytes_of c.args.memory.now) c.requires.used.left c.requires.used.right) c.requires.used.left c.args.number c.read_node-entry.result.next c.requires.used.right c.requires.used.unused loose next hole.0 in
    can.unused

pub is_hole-requires-2 : goal.is_hole-requires-2
is_hole-requires-2 g c =
    let loose = opened (g.M.Mem.bytes_of c.args.memory.now) (g.M.Mem.bytes_of c.open.new.memory) c.args.number c.requires.used c.requires.block c.open.ensures.nodes c.open.ensures.header c.open.ensures.stays in
    let previous = ap (λ (e : Entry). e.previous) c.read_node-entry.ensures in
    subst MayBeNode (sym previous) (previous_may (g.M.Mem.bytes_of c.open.new.memory) (others (g.M.Mem.bytes_of c.args.memory.now) c.requires.used.left c.requires.used.right) c.requires.used.left c.args.number c.requires.used.right c.requires.used.unused loose)

pub join-requires-then-is_hole-2-clause-behind_below : goal.join-requires-then-is_hole-2-clause-behind_below
join-requires-then-is_hole-2-clause-behind_below g c =
    let loose = opened (g.M.Mem.bytes_of c.args.memory.now) (g.M.Mem.bytes_of c.open.new.memory) c.args.number c.requires.used c.requires.block c.open.ensures.nodes c.open.ensures.header c.open.ensures.stays in
    let next = ap (λ (e : Entry). e.next) c.read_node-entry.ensures in
    let previous = ap (λ (e : Entry). e.previous) c.read_node-entry.ensures in
    let half : Half (g.M.Mem.bytes_of c.if-is_hole.memory) (others (g.M.Mem.bytes_of c.args.memory.now) c.requires.used.left c.requires.used.right) c.requires.used.left c.args.number =
    elim c.if-is_hole.branch [
      | then-is_hole w ↦ let hole = c.is_hole.ensures.0 w.if-is_hole.true in
          let after = half_joined (g.M.Mem.bytes_of c.open.new.memory) (g.M.Mem.bytes_of w.join.new.memory) (others (g.M.Mem.bytes_of c.args.memory.now) c.requires.used.left c.requires.used.right) c.requires.used.left c.args.number c.read_node-entry.result.next c.requires.used.right c.requires.used.unused loose next hole.0 hole.1
          w.join.ensures.nodes w.join.ensures.header w.join.ensures.stays in
          rw w.memory-is after
      | else-is_hole w ↦ let after = half_without (g.M.Mem.bytes_of c.open.new.memory) (others (g.M.Mem.bytes_of c.args.memory.now) c.requires.used.left c.requires.used.right) c.requires.used.left c.args.number c.requires.used.right c.requires.used.unused loose
          (λ below hole. both_ways c.is_hole.result w.if-is_hole.false (c.is_hole.ensures.1 (hole_at (g.M.Mem.bytes_of c.open.new.memory) c.args.number c.read_node-entry.result.next next below hole))) in
          rw w.memory-is after
    ] in
    let now = same_previous (g.M.Mem.bytes_of c.open.new.memory) (g.M.Mem.bytes_of c.if-is_hole.memory) (others (g.M.Mem.bytes_of c.args.memory.now) c.requires.used.left c.requires.used.right) c.requires.used.left c.args.number c.requires.used.right c.requires.used.unused c.read_node-entry.result.previous loose half previous in
    let hole = c.is_hole-2.ensures.0 c.if-is_hole-2.true in
    let can = can_join_before (g.M.Mem.bytes_of c.if-is_hole.memory) (others (g.M.Mem.bytes_of c.args.memory.now) c.requires.used.left c.requires.used.right) c.requires.used.left c.read_node-entry.result.previous c.args.number half now hole.0 hole.1 in
    can.behind_below

pub join-requires-then-is_hole-2-clause-known : goal.join-requires-then-is_hole-2-clause-known
join-requires-then-is_hole-2-clause-known g c =
    let loose = opened (g.M.Mem.bytes_of c.args.memory.now) (g.M.Mem.bytes_of c.open.new.memory) c.args.number c.requires.used c.requires.block c.open.ensures.nodes c.open.ensures.header c.open.ensures.stays in
    let next = ap (λ (e : Entry). e.next) c.read_node-entry.ensures in
    let previous = ap (λ (e : Entry). e.previous) c.read_node-entry.ensures in
    let half : Half (g.M.Mem.bytes_of c.if-is_hole.memory) (others (g.M.Mem.bytes_of c.args.memory.now) c.requires.used.left c.requires.used.right) c.requires.used.left c.args.number =
    elim c.if-is_hole.branch [
      | then-is_hole w ↦ let hole = c.is_hole.ensures.0 w.if-is_hole.true in
          let after = half_joined (g.M.Mem.bytes_of c.open.new.memory) (g.M.Mem.bytes_of w.join.new.memory) (others (g.M.Mem.bytes_of c.args.memory.now) c.requires.used.left c.requires.used.right) c.requires.used.left c.args.number c.read_node-entry.result.next c.requires.used.right c.requires.used.unused loose next hole.0 hole.1
          w.join.ensures.nodes w.join.ensures.header w.join.ensures.stays in
          rw w.memory-is after
      | else-is_hole w ↦ let after = half_without (g.M.Mem.bytes_of c.open.new.memory) (others (g.M.Mem.bytes_of c.args.memory.now) c.requires.used.left c.requires.used.right) c.requires.used.left c.args.number c.requires.used.right c.requires.used.unused loose
          (λ below hole. both_ways c.is_hole.result w.if-is_hole.false (c.is_hole.ensures.1 (hole_at (g.M.Mem.bytes_of c.open.new.memory) c.args.number c.read_node-entry.result.next next below hole))) in
          rw w.memory-is after
    ] in
    let now = same_previous (g.M.Mem.bytes_of c.open.new.memory) (g.M.Mem.bytes_of c.if-is_hole.memory) (others (g.M.Mem.bytes_of c.args.memory.now) c.requires.used.left c.requires.used.right) c.requires.used.left c.args.number c.requires.used.right c.requires.used.unused c.read_node-entry.result.previous loose half previous in
    let hole = c.is_hole-2.ensures.0 c.if-is_hole-2.true in
    let can = can_join_before (g.M.Mem.bytes_of c.if-is_hole.memory) (others (g.M.Mem.bytes_of c.args.memory.now) c.requires.used.left c.requires.used.right) c.requires.used.left c.read_node-entry.result.previous c.args.number half now hole.0 hole.1 in
    can.known

pub join-requires-then-is_hole-2-clause-inside : goal.join-requires-then-is_hole-2-clause-inside
join-requires-then-is_hole-2-clause-inside g c =
    let loose = opened (g.M.Mem.bytes_of c.args.memory.now) (g.M.Mem.bytes_of c.open.new.memory) c.args.number c.requires.used c.requires.block c.open.ensures.nodes c.open.ensures.header c.open.ensures.stays in
    let next = ap (λ (e : Entry). e.next) c.read_node-entry.ensures in
    let previous = ap (λ (e : Entry). e.previous) c.read_node-entry.ensures in
    let half : Half (g.M.Mem.bytes_of c.if-is_hole.memory) (others (g.M.Mem.bytes_of c.args.memory.now) c.requires.used.left c.requires.used.right) c.requires.used.left c.args.number =
    elim c.if-is_hole.branch [
      | then-is_hole w ↦ let hole = c.is_hole.ensures.0 w.if-is_hole.true in
          let after = half_joined (g.M.Mem.bytes_of c.open.new.memory) (g.M.Mem.bytes_of w.join.new.memory) (others (g.M.Mem.bytes_of c.args.memory.now) c.requires.used.left c.requires.used.right) c.requires.used.left c.args.number c.read_node-entry.result.next c.requires.used.right c.requires.used.unused loose next hole.0 hole.1
          w.join.ensures.nodes w.join.ensures.header w.join.ensures.stays in
          rw w.memory-is after
      | else-is_hole w ↦ let after = half_without (g.M.Mem.bytes_of c.open.new.memory) (others (g.M.Mem.bytes_of c.args.memory.now) c.requires.used.left c.requires.used.right) c.requires.used.left c.args.number c.requires.used.right c.requires.used.unused loose
          (λ below hole. both_ways c.is_hole.result w.if-is_hole.false (c.is_hole.ensures.1 (hole_at (g.M.Mem.bytes_of c.open.new.memory) c.args.number c.read_node-entry.result.next next below hole))) in
          rw w.memory-is after
    ] in
    let now = same_previous (g.M.Mem.bytes_of c.open.new.memory) (g.M.Mem.bytes_of c.if-is_hole.memory) (others (g.M.Mem.bytes_of c.args.memory.now) c.requires.used.left c.requires.used.right) c.requires.used.left c.args.number c.requires.used.right c.requires.used.unused c.read_node-entry.result.previous loose half previous in
    let hole = c.is_hole-2.ensures.0 c.if-is_hole-2.true in
    let can = can_join_before (g.M.Mem.bytes_of c.if-is_hole.memory) (others (g.M.Mem.bytes_of c.args.memory.now) c.requires.used.left c.requires.used.right) c.requires.used.left c.read_node-entry.result.previous c.args.number half now hole.0 hole.1 in
    can.inside

pub join-requires-then-is_hole-2-clause-unused : goal.join-requires-then-is_hole-2-clause-unused
join-requires-then-is_hole-2-clause-unused g c =
    let loose = opened (g.M.Mem.bytes_of c.args.memory.now) (g.M.Mem.bytes_of c.open.new.memory) c.args.number c.requires.used c.requires.block c.open.ensures.nodes c.open.ensures.header c.open.ensures.stays in
    let next = ap (λ (e : Entry). e.next) c.read_node-entry.ensures in
    let previous = ap (λ (e : Entry). e.previous) c.read_node-entry.ensures in
    let half : Half (g.M.Mem.bytes_of c.if-is_hole.memory) (others (g.M.Mem.bytes_of c.args.memory.now) c.requires.used.left c.requires.used.right) c.requires.used.left c.args.number =
    elim c.if-is_hole.branch [
      | then-is_hole w ↦ let hole = c.is_hole.ensures.0 w.if-is_hole.true in
          let after = half_joined (g.M.Mem.bytes_of c.open.new.memory) (g.M.Mem.bytes_of w.join.new.memory) (others (g.M.Mem.bytes_of c.args.memory.now) c.requires.used.left c.requires.used.right) c.requires.used.left c.args.number c.read_node-entry.result.next c.requires.used.right c.requires.used.unused loose next hole.0 hole.1
          w.join.ensures.nodes w.join.ensures.header w.join.ensures.stays in
          rw w.memory-is after
      | else-is_hole w ↦ let after = half_without (g.M.Mem.bytes_of c.open.new.memory) (others (g.M.Mem.bytes_of c.args.memory.now) c.requires.used.left c.requires.used.right) c.requires.used.left c.args.number c.requires.used.right c.requires.used.unused loose
          (λ below hole. both_ways c.is_hole.result w.if-is_hole.false (c.is_hole.ensures.1 (hole_at (g.M.Mem.bytes_of c.open.new.memory) c.args.number c.read_node-entry.result.next next below hole))) in
          rw w.memory-is after
    ] in
    let now = same_previous (g.M.Mem.bytes_of c.open.new.memory) (g.M.Mem.bytes_of c.if-is_hole.memory) (others (g.M.Mem.bytes_of c.args.memory.now) c.requires.used.left c.requires.used.right) c.requires.used.left c.args.number c.requires.used.right c.requires.used.unused c.read_node-entry.result.previous loose half previous in
    let hole = c.is_hole-2.ensures.0 c.if-is_hole-2.true in
    let can = can_join_before (g.M.Mem.bytes_of c.if-is_hole.memory) (others (g.M.Mem.bytes_of c.args.memory.now) c.requires.used.left c.requires.used.right) c.requires.used.left c.read_node-entry.result.previous c.args.number half now hole.0 hole.1 in
    can.unused

pub join-requires-then-is_hole-2-clause-some : goal.join-requires-then-is_hole-2-clause-some
join-requires-then-is_hole-2-clause-some g c =
    let loose = opened (g.M.Mem.bytes_of c.args.memory.now) (g.M.Mem.bytes_of c.open.new.memory) c.args.number c.requires.used c.requires.block c.open.ensures.nodes c.open.ensures.header c.open.ensures.stays in
    let next = ap (λ (e : Entry). e.next) c.read_node-entry.ensures in
    let previous = ap (λ (e : Entry). e.previous) c.read_node-entry.ensures in
    let half : Half (g.M.Mem.bytes_of c.if-is_hole.memory) (others (g.M.Mem.bytes_of c.args.memory.now) c.requires.used.left c.requires.used.right) c.requires.used.left c.args.number =
    elim c.if-is_hole.branch [
      | then-is_hole w ↦ let hole = c.is_hole.ensures.0 w.if-is_hole.true in
          let after = half_joined (g.M.Mem.bytes_of c.open.new.memory) (g.M.Mem.bytes_of w.join.new.memory) (others (g.M.Mem.bytes_of c.args.memory.now) c.requires.used.left c.requires.used.right) c.requires.used.left c.args.number c.read_node-entry.result.next c.requires.used.right c.requires.used.unused loose next hole.0 hole.1
          w.join.ensures.nodes w.join.ensures.header w.join.ensures.stays in
          rw w.memory-is after
      | else-is_hole w ↦ let after = half_without (g.M.Mem.bytes_of c.open.new.memory) (others (g.M.Mem.bytes_of c.args.memory.now) c.requires.used.left c.requires.used.right) c.requires.used.left c.args.number c.requires.used.right c.requires.used.unused loose
          (λ below hole. both_ways c.is_hole.result w.if-is_hole.false (c.is_hole.ensures.1 (hole_at (g.M.Mem.bytes_of c.open.new.memory) c.args.number c.read_node-entry.result.next next below hole))) in
          rw w.memory-is after
    ] in
    let now = same_previous (g.M.Mem.bytes_of c.open.new.memory) (g.M.Mem.bytes_of c.if-is_hole.memory) (others (g.M.Mem.bytes_of c.args.memory.now) c.requires.used.left c.requires.used.right) c.requires.used.left c.args.number c.requires.used.right c.requires.used.unused c.read_node-entry.result.previous loose half previous in
    let hole = c.is_hole-2.ensures.0 c.if-is_hole-2.true in
    let can = can_join_before (g.M.Mem.bytes_of c.if-is_hole.memory) (others (g.M.Mem.bytes_of c.args.memory.now) c.requires.used.left c.requires.used.right) c.requires.used.left c.read_node-entry.result.previous c.args.number half now hole.0 hole.1 in
    can.some

pub returns-then-is_hole-2-clause-blocks : goal.returns-then-is_hole-2-clause-blocks
returns-then-is_hole-2-clause-blocks g c =
    let loose = opened (g.M.Mem.bytes_of c.args.memory.now) (g.M.Mem.bytes_of c.open.new.memory) c.args.number c.requires.used c.requires.block c.open.ensures.nodes c.open.ensures.header c.open.ensures.stays in
    let next = ap (λ (e : Entry). e.next) c.read_node-entry.ensures in
    let previous = ap (λ (e : Entry). e.previous) c.read_node-entry.ensures in
    let half : Half (g.M.Mem.bytes_of c.if-is_hole.memory) (others (g.M.Mem.bytes_of c.args.memory.now) c.requires.used.left c.requires.used.right) c.requires.used.left c.args.number =
    elim c.if-is_hole.branch [
      | then-is_hole w ↦ let hole = c.is_hole.ensures.0 w.if-is_hole.true in
          let after = half_joined (g.M.Mem.bytes_of c.open.new.memory) (g.M.Mem.bytes_of w.join.new.memory) (others (g.M.Mem.bytes_of c.args.memory.now) c.requires.used.left c.requires.used.right) c.requires.used.left c.args.number c.read_node-entry.result.next c.requires.used.right c.requires.used.unused loose next hole.0 hole.1
          w.join.ensures.nodes w.join.ensures.header w.join.ensures.stays in
          rw w.memory-is after
      | else-is_hole w ↦ let after = half_without (g.M.Mem.bytes_of c.open.new.memory) (others (g.M.Mem.bytes_of c.args.memory.now) c.requires.used.left c.requires.used.right) c.requires.used.left c.args.number c.requires.used.right c.requires.used.unused loose
          (λ below hole. both_ways c.is_hole.result w.if-is_hole.false (c.is_hole.ensures.1 (hole_at (g.M.Mem.bytes_of c.open.new.memory) c.args.number c.read_node-entry.result.next next below hole))) in
          rw w.memory-is after
    ] in
    let now = same_previous (g.M.Mem.bytes_of c.open.new.memory) (g.M.Mem.bytes_of c.if-is_hole.memory) (others (g.M.Mem.bytes_of c.args.memory.now) c.requires.used.left c.requires.used.right) c.requires.used.left c.args.number c.requires.used.right c.requires.used.unused c.read_node-entry.result.previous loose half previous in
    let hole = c.is_hole-2.ensures.0 c.if-is_hole-2.true in
    vacated (g.M.Mem.bytes_of c.args.memory.now) (g.M.Mem.bytes_of c.join-then-is_hole-2.new.memory) c.args.number c.requires.used c.requires.block
    (done_joined (g.M.Mem.bytes_of c.if-is_hole.memory) (g.M.Mem.bytes_of c.join-then-is_hole-2.new.memory) (others (g.M.Mem.bytes_of c.args.memory.now) c.requires.used.left c.requires.used.right) c.requires.used.left c.read_node-entry.result.previous c.args.number half now hole.0 hole.1
    c.join-then-is_hole-2.ensures.nodes c.join-then-is_hole-2.ensures.header c.join-then-is_hole-2.ensures.stays)

pub returns-else-is_hole-2-clause-blocks : goal.returns-else-is_hole-2-clause-blocks
returns-else-is_hole-2-clause-blocks g c =
    let loose = opened (g.M.Mem.bytes_of c.args.memory.now) (g.M.Mem.bytes_of c.open.new.memory) c.args.number c.requires.used c.requires.block c.open.ensures.nodes c.open.ensures.header c.open.ensures.stays in
    let next = ap (λ (e : Entry). e.next) c.read_node-entry.ensures in
    let previous = ap (λ (e : Entry). e.previous) c.read_node-entry.ensures in
    let half : Half (g.M.Mem.bytes_of c.if-is_hole.memory) (others (g.M.Mem.bytes_of c.args.memory.now) c.requires.used.left c.requires.used.right) c.requires.used.left c.args.number =
    elim c.if-is_hole.branch [
      | then-is_hole w ↦ let hole = c.is_hole.ensures.0 w.if-is_hole.true in
          let after = half_joined (g.M.Mem.bytes_of c.open.new.memory) (g.M.Mem.bytes_of w.join.new.memory) (others (g.M.Mem.bytes_of c.args.memory.now) c.requires.used.left c.requires.used.right) c.requires.used.left c.args.number c.read_node-entry.result.next c.requires.used.right c.requires.used.unused loose next hole.0 hole.1
          w.join.ensures.nodes w.join.ensures.header w.join.ensures.stays in
          rw w.memory-is after
      | else-is_hole w ↦ let after = half_without (g.M.Mem.bytes_of c.open.new.memory) (others (g.M.Mem.bytes_of c.args.memory.now) c.requires.used.left c.requires.used.right) c.requires.used.left c.args.number c.requires.used.right c.requires.used.unused loose
          (λ below hole. both_ways c.is_hole.result w.if-is_hole.false (c.is_hole.ensures.1 (hole_at (g.M.Mem.bytes_of c.open.new.memory) c.args.number c.read_node-entry.result.next next below hole))) in
          rw w.memory-is after
    ] in
    let now = same_previous (g.M.Mem.bytes_of c.open.new.memory) (g.M.Mem.bytes_of c.if-is_hole.memory) (others (g.M.Mem.bytes_of c.args.memory.now) c.requires.used.left c.requires.used.right) c.requires.used.left c.args.number c.requires.used.right c.requires.used.unused c.read_node-entry.result.previous loose half previous in
    vacated (g.M.Mem.bytes_of c.args.memory.now) (g.M.Mem.bytes_of c.if-is_hole.memory) c.args.number c.requires.used c.requires.block
    (done_without (g.M.Mem.bytes_of c.if-is_hole.memory) (others (g.M.Mem.bytes_of c.args.memory.now) c.requires.used.left c.requires.used.right) c.requires.used.left c.args.number half
    (λ below hole. both_ways c.is_hole-2.result c.if-is_hole-2.false (c.is_hole-2.ensures.1 (hole_before (g.M.Mem.bytes_of c.if-is_hole.memory) c.args.number c.read_node-entry.result.previous now below hole))))
