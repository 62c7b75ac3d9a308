use Rattle.std.proofs.Common.{◌∙◌, [], ap, subst, sym, arith}
use Rattle.forwarding.specs.Waiting.{IsFirstFor, those_for}
use Rattle.forwarding.proofs.Moves.{one_moved, all_given, all_kept}
use Rattle.forwarding.proofs.room.move_out.Goals as goal

pub loop-at-preserved : goal.loop-at-preserved
loop-at-preserved c = (
  one_moved c.args.r.0 c.args.packets.now.items c.args.given.now.items c.loop-at.packets.items c.loop-at.given.items c.remove-packet.new.self.items
      c.put_last.new.given.items c.in-Some.at c.remove-packet.result c.loop-at.invariant.0
      (subst (λ ps. IsFirstFor c.args.r.0 ps c.in-Some.at) c.as_slice.ensures.value c.in-Some.ensures) c.remove-packet.ensures.value
      c.remove-packet.ensures.items c.put_last.ensures.items,
  omega (arith, c.loop-at.invariant.1, c.remove-packet.ensures.len, c.put_last.ensures.len, c.put_last.ensures.room),
)

pub returns-in-None-clause-given : goal.returns-in-None-clause-given
returns-in-None-clause-given c =
    all_given c.args.r.0 c.args.packets.now.items c.args.given.now.items c.loop-at.packets.items c.loop-at.given.items c.loop-at.invariant.0
    (sym (ap (those_for c.args.r.0) c.as_slice.ensures.value) ∙ c.in-None.ensures)

pub returns-in-None-clause-kept : goal.returns-in-None-clause-kept
returns-in-None-clause-kept c =
    all_kept c.args.r.0 c.args.packets.now.items c.args.given.now.items c.loop-at.packets.items c.loop-at.given.items c.loop-at.invariant.0
    (sym (ap (those_for c.args.r.0) c.as_slice.ensures.value) ∙ c.in-None.ensures)
