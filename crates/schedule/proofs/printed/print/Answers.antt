use Rattle.schedule.proofs.PrintedLaws.{print_step, small_step, print_back}
use Rattle.schedule.proofs.printed.print.Goals as goal

pub loop-event-preserved : goal.loop-event-preserved
loop-event-preserved c = record {
  so_far = print_step _ _ _ _ _ _ c.loop-event-test.true c.in_ok-append_event.ensures.ok c.loop-event.invariant.so_far;
  small = small_step _ _ _ c.loop-event-test.true c.loop-event.invariant.small c.in_ok-append_event.ensures.small;
}

pub returns-clause-back : goal.returns-clause-back
returns-clause-back c = print_back _ _ _ c.loop-event-test.false c.loop-event.invariant.so_far c.loop-event.invariant.small
