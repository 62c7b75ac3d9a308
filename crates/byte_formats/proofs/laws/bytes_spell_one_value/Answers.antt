use Rattle.byte_formats.specs.ChoiceLaws.{one_value, whole_is_read}
use Rattle.byte_formats.proofs.laws.bytes_spell_one_value.Goals as goal

pub returns-clause-one : goal.returns-clause-one
returns-clause-one g c = one_value

pub returns-clause-whole : goal.returns-clause-whole
returns-clause-whole g c = whole_is_read
