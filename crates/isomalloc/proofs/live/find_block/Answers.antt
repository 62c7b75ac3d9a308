use Rattle.std.proofs.Common.{inl, inr, sym, ◌∙◌, ap, subst, arith}
use Rattle.rank_range.specs.Nodes.{node_at}
use Rattle.isomalloc.specs.declared.nodes.Entry.{Entry}
use Rattle.isomalloc.specs.declared.nodes.Header.{Header}
use Rattle.isomalloc.proofs.Taken.{known}
use Rattle.isomalloc.proofs.Walk.{Reached, NoneLive, first_small, reached_node, reached_end, way_on, here_is, none_live_start, none_live_next, none_live_end, none_live_here, block_here}
use Rattle.isomalloc.proofs.live.find_block.Goals as goal

pub overflow_cast-number : goal.overflow_cast-number
overflow_cast-number g c =
    let first = ap (λ (h : Header). h.first) c.read_header-number.ensures in
    let small = first_small (g.M.Mem.bytes_of c.args.memory.now) c.requires in
    omega (arith, first, small)

pub loop-number-init : goal.loop-number-init
loop-number-init g c =
    let first = ap (λ (h : Header). h.first) c.read_header-number.ensures in
    subst (Reached (g.M.Mem.bytes_of c.args.memory.now) (NoneLive (g.M.Mem.rank_of c.args.memory.now) (g.M.Mem.bytes_of c.args.memory.now) c.args.address)) (sym first)
    (none_live_start (g.M.Mem.rank_of c.args.memory.now) (g.M.Mem.bytes_of c.args.memory.now) c.args.address c.requires)

pub read_node-entry-requires : goal.read_node-entry-requires
read_node-entry-requires g c =
    let at = (reached_node (g.M.Mem.bytes_of c.args.memory.now) (NoneLive (g.M.Mem.rank_of c.args.memory.now) (g.M.Mem.bytes_of c.args.memory.now) c.args.address) c.loop-number.number c.loop-number.invariant c.loop-number-test.true) in
    (known (g.M.Mem.bytes_of c.args.memory.now) c.loop-number.number at.used).below

pub overflow_mul-here : goal.overflow_mul-here
overflow_mul-here g c =
    let at = (reached_node (g.M.Mem.bytes_of c.args.memory.now) (NoneLive (g.M.Mem.rank_of c.args.memory.now) (g.M.Mem.bytes_of c.args.memory.now) c.args.address) c.loop-number.number c.loop-number.invariant c.loop-number-test.true) in
    let inside = (known (g.M.Mem.bytes_of c.args.memory.now) c.loop-number.number at.used).inside in
    let start = ap (λ (e : Entry). e.start) c.read_node-entry.ensures in
    omega (arith, inside, start)

pub returns-then-address-here : goal.returns-then-address-here
returns-then-address-here g c =
    let at = (reached_node (g.M.Mem.bytes_of c.args.memory.now) (NoneLive (g.M.Mem.rank_of c.args.memory.now) (g.M.Mem.bytes_of c.args.memory.now) c.args.address) c.loop-number.number c.loop-number.invariant c.loop-number-test.true) in
    let start = ap (λ (e : Entry). e.start) c.read_node-entry.ensures in
    let here = here_is (g.M.Mem.rank_of c.args.memory.now) c.rank.result.0 c.base.result (node_at (g.M.Mem.bytes_of c.args.memory.now) c.loop-number.number).start c.read_node-entry.result.start
    c.base.ensures c.rank.ensures.value start in
    none_live_here (g.M.Mem.rank_of c.args.memory.now) (g.M.Mem.bytes_of c.args.memory.now) c.args.address c.loop-number.number at
    (inl (omega (arith, here, c.if-address-here.true)))

pub returns-else-entry-eq-BLOCK : goal.returns-else-entry-eq-BLOCK
returns-else-entry-eq-BLOCK g c =
    let at = (reached_node (g.M.Mem.bytes_of c.args.memory.now) (NoneLive (g.M.Mem.rank_of c.args.memory.now) (g.M.Mem.bytes_of c.args.memory.now) c.args.address) c.loop-number.number c.loop-number.invariant c.loop-number-test.true) in
    let kind = ap (λ (e : Entry). e.kind) c.read_node-entry.ensures in
    let start = ap (λ (e : Entry). e.start) c.read_node-entry.ensures in
    let here = here_is (g.M.Mem.rank_of c.args.memory.now) c.rank.result.0 c.base.result (node_at (g.M.Mem.bytes_of c.args.memory.now) c.loop-number.number).start c.read_node-entry.result.start
    c.base.ensures c.rank.ensures.value start in
    none_live_here (g.M.Mem.rank_of c.args.memory.now) (g.M.Mem.bytes_of c.args.memory.now) c.args.address c.loop-number.number at
    (inr (c.if-address-here-2.true ∙ here, λ full. c.if-entry-eq-BLOCK.false (kind ∙ full)))

pub returns-then-entry-eq-BLOCK : goal.returns-then-entry-eq-BLOCK
returns-then-entry-eq-BLOCK g c =
    let at = (reached_node (g.M.Mem.bytes_of c.args.memory.now) (NoneLive (g.M.Mem.rank_of c.args.memory.now) (g.M.Mem.bytes_of c.args.memory.now) c.args.address) c.loop-number.number c.loop-number.invariant c.loop-number-test.true) in
    let kind = ap (λ (e : Entry). e.kind) c.read_node-entry.ensures in
    let start = ap (λ (e : Entry). e.start) c.read_node-entry.ensures in
    let here = here_is (g.M.Mem.rank_of c.args.memory.now) c.rank.result.0 c.base.result (node_at (g.M.Mem.bytes_of c.args.memory.now) c.loop-number.number).start c.read_node-entry.result.start
    c.base.ensures c.rank.ensures.value start in
    block_here (g.M.Mem.rank_of c.args.memory.now) (g.M.Mem.bytes_of c.args.memory.now) c.args.address c.loop-number.number at
    (c.if-address-here-2.true ∙ here) (sym kind ∙ c.if-entry-eq-BLOCK.true)

pub loop-number-smaller : goal.loop-number-smaller
loop-number-smaller g c =
    let at = (reached_node (g.M.Mem.bytes_of c.args.memory.now) (NoneLive (g.M.Mem.rank_of c.args.memory.now) (g.M.Mem.bytes_of c.args.memory.now) c.args.address) c.loop-number.number c.loop-number.invariant c.loop-number-test.true) in
    way_on (g.M.Mem.bytes_of c.args.memory.now) c.loop-number.number c.read_node-entry.result.next
    (ap (λ (e : Entry). e.next) c.read_node-entry.ensures) at.used

pub loop-number-preserved : goal.loop-number-preserved
loop-number-preserved g c =
    let at = (reached_node (g.M.Mem.bytes_of c.args.memory.now) (NoneLive (g.M.Mem.rank_of c.args.memory.now) (g.M.Mem.bytes_of c.args.memory.now) c.args.address) c.loop-number.number c.loop-number.invariant c.loop-number-test.true) in
    let next = ap (λ (e : Entry). e.next) c.read_node-entry.ensures in
    let start = ap (λ (e : Entry). e.start) c.read_node-entry.ensures in
    let here = here_is (g.M.Mem.rank_of c.args.memory.now) c.rank.result.0 c.base.result (node_at (g.M.Mem.bytes_of c.args.memory.now) c.loop-number.number).start c.read_node-entry.result.start
    c.base.ensures c.rank.ensures.value start in
    subst (Reached (g.M.Mem.bytes_of c.args.memory.now) (NoneLive (g.M.Mem.rank_of c.args.memory.now) (g.M.Mem.bytes_of c.args.memory.now) c.args.address)) (sym next)
    (none_live_next (g.M.Mem.rank_of c.args.memory.now) (g.M.Mem.bytes_of c.args.memory.now) c.args.address c.loop-number.number at
    (omega (arith, here, c.if-address-here.false, c.if-address-here-2.false)))

pub returns : goal.returns
returns g c =
    none_live_end (g.M.Mem.rank_of c.args.memory.now) (g.M.Mem.bytes_of c.args.memory.now) c.args.address
    (reached_end (g.M.Mem.bytes_of c.args.memory.now) (NoneLive (g.M.Mem.rank_of c.args.memory.now) (g.M.Mem.bytes_of c.args.memory.now) c.args.address) c.loop-number.number
    c.loop-number.invariant c.loop-number-test.false)
