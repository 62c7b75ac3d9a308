use Rattle.std.proofs.Common.{arith, ◌-◌, ◌+◌, refl}
use Rattle.rank_image.proofs.Chains.{chain_ends, chain_none, no_more, more_nodes, all_push}
use Rattle.rank_image.proofs.heap.chain.Goals as goal

pub returns-then-number-clause-nodes : goal.returns-then-number-clause-nodes
returns-then-number-clause-nodes c =
    no_more c.args.bytes.now _ c.loop-i.nodes.items (c.args.most - c.loop-i.i) c.loop-i.number c.loop-i.invariant.0
    (chain_ends c.args.bytes.now (c.args.most - c.loop-i.i) c.loop-i.number c.if-number.true)

pub returns-clause-nodes : goal.returns-clause-nodes
returns-clause-nodes c =
    no_more c.args.bytes.now _ c.loop-i.nodes.items (c.args.most - c.loop-i.i) c.loop-i.number c.loop-i.invariant.0
    (chain_none c.args.bytes.now (c.args.most - c.loop-i.i) c.loop-i.number (omega (arith, c.loop-i-test.false)))

pub loop-i-preserved : goal.loop-i-preserved
loop-i-preserved c = (
  more_nodes c.args.bytes.now _ c.loop-i.nodes.items c.push.new.self.items (c.args.most - c.loop-i.i) (c.args.most - (c.loop-i.i + 1)) c.loop-i.number
      c.next_of-number.result c.loop-i.invariant.0 (omega (arith, c.loop-i-test.true)) c.if-number.false c.in_ok-push.ensures.items c.next_of-number.ensures,
  all_push c.loop-i.nodes.items c.push.new.self.items c.loop-i.number c.loop-i.invariant.1 c.if-number.false c.in_ok-push.ensures.items,
)
