-- What `read` gives, beside the answer of a text.
use Rattle.std.specs.Prelude.{◌≡◌, Result, Ok, Err, Vec}
use Rattle.std.specs.declared.alloc.Global.{Global}
use Rattle.schedule.specs.declared.event.Event.{Event}
use Rattle.schedule.specs.declared.error.SchedError.{SchedError}
use Rattle.schedule.specs.declared.error.SchedError.TheVariants.{BadLine, TooMany, Memory}
use Rattle.schedule.specs.Grammar.{Answer, Events, Bad, Many}

-- What a call gave is this answer, unless memory was wanting.
abbrev pub Gives : Result (Vec Event Global) SchedError → Answer → Type 0
Gives (Ok events) answer = answer ≡ Events events.items
Gives (Err (BadLine n)) answer = answer ≡ Bad n
Gives (Err (TooMany n)) answer = answer ≡ Many n
Gives (Err Memory) answer = Unit {0}
