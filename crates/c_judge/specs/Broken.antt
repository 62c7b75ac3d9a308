-- Which of several broken rules is told: the one at the least token, and at one token the one with the least number.
use Rattle.std.specs.Prelude.{◌&&◌, ◌||◌, ◌==◌, nat_lt, nat_le, if◌then◌else◌, Bool, Option, Some, None}
use Rattle.c_typing.specs.Rules.{number_of}
use Rattle.c_judge.specs.declared.broken.Broken.{Broken}

abbrev pub is_not_behind : Broken → Broken → Bool
is_not_behind a b = nat_lt a.token b.token || ((a.token == b.token) && nat_le (number_of a.rule) (number_of b.rule))

abbrev pub noted : Option Broken → Broken → Option Broken
noted None now = Some now
noted (Some told) now = if is_not_behind told now then Some told else Some now
