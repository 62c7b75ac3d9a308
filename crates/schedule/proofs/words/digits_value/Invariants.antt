use Rattle.std.proofs.Common.{◌≡◌, ◌<◌, ◌^◌, drop}
use Rattle.schedule.specs.Reading.{number_from}
use Rattle.schedule.proofs.words.digits_value.Given as goal

abbrev pub invariant-loop-digit : goal.invariant-loop-digit
invariant-loop-digit l = record {
  so_far : number_from l.value (drop l.digit-index l.digits) ≡ number_from 0 l.digits;
  small : l.value < 2 ^ 32;
}
