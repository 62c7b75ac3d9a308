use Rattle.std.proofs.Common.{◌≡◌, ◌++◌, take, drop}
use Rattle.std.specs.List.{flat_map, AllByRecursion}
use Rattle.schedule.specs.Grammar.{parts_of}
use Rattle.schedule.specs.Printed.{line_text, printed, HasSmallNumbers}
use Rattle.schedule.proofs.printed.print.Given as goal

abbrev pub invariant-loop-event : goal.invariant-loop-event
invariant-loop-event l = record {
  so_far : l.out ++ flat_map (λ event. line_text (parts_of event)) (drop l.event-index l.events) ≡ printed l.events;
  small : AllByRecursion HasSmallNumbers (take l.event-index l.events);
}
