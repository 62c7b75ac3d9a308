use Rattle.std.proofs.Common.{refl}
use Rattle.byte_formats.specs.Formats.{number16}
use Rattle.call_tests.proofs.tests.fields.put_lists.Goals as goal

pub put_option-requires : goal.put_option-requires
unfolding number16
put_option-requires c = refl

pub put_many-requires : goal.put_many-requires
unfolding number16
put_many-requires c = refl
