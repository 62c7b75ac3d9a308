-- Runs one behind another.
use Rattle.std.specs.Prelude.{ℕ, ◌≡◌, ◌+◌, true}
use Rattle.rank_range.specs.declared.run.Output.{Output}
use Rattle.vm_code.specs.declared.code.Code.{Code}
use Rattle.rank_machine.specs.View.{Rank}
use Rattle.rank_machine.specs.Ran.{Ran, goes_on}
use Rattle.rank_machine.specs.declared.stop.Stop.{Stop}
use Rattle.rank_machine.specs.declared.stop.Stop.TheVariants as stop

-- A run of so many ticks and then one of so many more are a run of all these ticks.
abbrev pub AreJoined : Type 0
AreJoined =
    (code : Code) (old mid new : Rank) (first second : ℕ) (old_output mid_output new_output : Output) (result : Stop)
    → Ran code old first old_output mid_output stop.Paused mid → Ran code mid second mid_output new_output result new
    → Ran code old (first + second) old_output new_output result new

-- So are a run that stopped for the time being and then one more, of the ticks that the first one took and those of the second.
abbrev pub GoOnAsOne : Type 0
GoOnAsOne =
    (code : Code) (old mid new : Rank) (first second : ℕ) (old_output mid_output new_output : Output) (halt result : Stop)
    → goes_on halt ≡ true
    → (one : Ran code old first old_output mid_output halt mid) → Ran code mid second mid_output new_output result new
    → Ran code old (one.taken + second) old_output new_output result new
