use Rattle.std.proofs.Common.{refl}
use Rattle.byte_formats.specs.Formats.{number8, number16, number32}
use Rattle.call_tests.proofs.tests.fields.put_counts.Goals as goal

pub put_text-requires : goal.put_text-requires
unfolding number32
put_text-requires c = refl

pub put_count8-requires : goal.put_count8-requires
unfolding number8
put_count8-requires c = refl

pub put_count16-requires : goal.put_count16-requires
unfolding number16
put_count16-requires c = refl

pub put_count32-requires : goal.put_count32-requires
unfolding number32
put_count32-requires c = refl
