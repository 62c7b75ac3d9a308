use Rattle.std.proofs.Common.{◌≡◌, ◌<◌, ◌^◌, drop}
use Rattle.c_lex.specs.Literals.{number_of}
use Rattle.c_lex.proofs.NumberLaws.{number_from}
use Rattle.c_lex.proofs.numbers.number_of.Given as goal

abbrev pub invariant-loop-digit : goal.invariant-loop-digit
invariant-loop-digit l = record {
  so_far : number_from l.base l.value (drop l.digit-index l.digits) ≡ number_of l.base l.digits;
  small : l.value < 2 ^ 64;
}
