use Rattle.std.proofs.Common.{refl}
use Rattle.byte_formats.specs.Formats.{number8, number16, number32, number64, signed32}
use Rattle.call_tests.proofs.tests.fields.are_spelled.Goals as goal

pub spell-requires : goal.spell-requires
unfolding number8
spell-requires c = refl

pub spell-requires-2 : goal.spell-requires-2
unfolding number16
spell-requires-2 c = refl

pub spell-requires-3 : goal.spell-requires-3
unfolding number32
spell-requires-3 c = refl

pub spell-requires-4 : goal.spell-requires-4
unfolding number64
spell-requires-4 c = refl

pub spell-requires-5 : goal.spell-requires-5
unfolding signed32
spell-requires-5 c = refl
