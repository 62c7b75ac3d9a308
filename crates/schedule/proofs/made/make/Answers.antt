use Rattle.std.proofs.Common.{◌-◌, ◌<◌, ◌++◌, ◌∙◌, ap, length, take, List, arith}
use Rattle.schedule.specs.declared.event.Event.{Event}
use Rattle.schedule.specs.Made.{events_of, turns}
use Rattle.schedule.proofs.MadeLaws.{turn_kept, longer, all_made, losses_more, losses_few, from_nothing}
use Rattle.schedule.proofs.made.make.Goals as goal

pub loop-generator-smaller : goal.loop-generator-smaller
loop-generator-smaller c =
    let grew = longer _ _ _ _ _ _ c.in_ok-append_turn.ensures.ok in
    omega (arith, grew, c.loop-generator-test.true, c.len.ensures, c.loop-generator.events.ok.0)

pub loop-generator-preserved : goal.loop-generator-preserved
loop-generator-preserved c =
    let grew = longer _ _ _ _ _ _ c.in_ok-append_turn.ensures.ok in
    let wanted : length c.loop-generator.events.items < c.args.count = omega (arith, c.loop-generator-test.true, c.len.ensures, c.loop-generator.events.ok.0) in
    record {
      so_far = turn_kept _ _ _ _ _ _ _ _ _ _ _ wanted c.drawn-turn.ensures c.makes_loss-is_loss.ensures c.in_ok-append_turn.ensures.ok
          (losses_more _ _ _ _ c.makes_loss-is_loss.ensures c.from-losses.ensures)
          ∙ c.loop-generator.invariant.so_far;
      few = losses_few _ _ _ _ _ c.from-losses.ensures c.loop-generator.invariant.few grew;
    }

pub loop-generator-init : goal.loop-generator-init
loop-generator-init c = record {
  so_far = ap (λ (x : List Event). take c.args.count (x ++ events_of c.args.ranks c.args.processors 0 (turns (c.args.count - length x) c.new-generator.result))) c.new-events.ensures.items
      ∙ from_nothing _ _ _ _ _ c.new-generator.ensures;
  few = omega arith;
}

pub returns : goal.returns
returns c =
    c.truncate.ensures.items
    ∙ all_made _ _ _ _ _ _ (omega (arith, c.loop-generator-test.false, c.len.ensures, c.loop-generator.events.ok.0))
    ∙ c.loop-generator.invariant.so_far
