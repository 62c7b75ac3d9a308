use Rattle.std.proofs.Common.{◌++◌, [], ◌∷◌, ◌∙◌, ap}
use Rattle.collectives.specs.Sends.{down_send}
use Rattle.collectives.proofs.SweepLemmas.{sends_start, sends_step}
use Rattle.collectives.proofs.sends.down_sends.Goals as goal

pub loop-child-init : goal.loop-child-init
loop-child-init c = record {
  so_far = sends_start (down_send c.args.joined.now c.args.args.now) c.new-sends.result c.args.members c.from-member.result c.args.joined.now.arg.member
      c.end_of-end.result c.new-sends.ensures c.end_of-end.ensures.value c.from-member.ensures;
  end_within = c.end_of-end.ensures.cut;
}

pub loop-child-preserved : goal.loop-child-preserved
loop-child-preserved c =
    let f = down_send c.args.joined.now c.args.args.now in
    record {
      so_far = sends_step f c.loop-child.sends c.push.new.self _ c.args.members c.loop-child.child c.end_of-child.result c.end_of-end.result
          c.loop-child-test.true c.loop-child.invariant.end_within c.loop-child.invariant.so_far
          (c.in_ok-push.ensures.ok ∙ ap (λ x. c.loop-child.sends ++ x ∷ []) c.in_ok-down_send.ensures) c.end_of-child.ensures.value;
      end_within = c.loop-child.invariant.end_within;
    }
