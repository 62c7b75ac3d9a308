use Rattle.std.proofs.Common.{◌≡◌, ◌++◌, map}
use Rattle.std.specs.List.{range_with_len}
use Rattle.schedule.specs.declared.event.Event.TheVariants.{Save}
use Rattle.schedule.proofs.made.append_saves.Given as goal

abbrev pub invariant-loop-processor : goal.invariant-loop-processor
invariant-loop-processor l = l.events.items ≡ l.fn.events.items ++ map Save (range_with_len 0 l.processor)
