use Rattle.std.proofs.Common.{◌≡◌, ◌-◌, ◌≤◌, ◌++◌, take, length}
use Rattle.schedule.specs.Made.{events_of, turns, made}
use Rattle.schedule.proofs.made.make.Given as goal

-- what the turns to come add, as far as it is wanted
abbrev pub invariant-loop-generator : goal.invariant-loop-generator
invariant-loop-generator l = record {
  so_far : take l.count (l.events.items ++ events_of l.ranks l.processors l.losses (turns (l.count - length l.events.items) l.generator))
      ≡ made l.seed l.count l.ranks l.processors;
  few : l.losses ≤ length l.events.items;
}

abbrev pub decreases-loop-generator : goal.decreases-loop-generator
decreases-loop-generator l = l.count - length l.events.items
