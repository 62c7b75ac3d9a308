use Rattle.byte_formats.specs.FormatLaws.{number16_fits}
use Rattle.byte_formats.proofs.fields.put_count16.Goals as goal

pub overflow_cast-count : goal.overflow_cast-count
overflow_cast-count c = record { fits = number16_fits c.args.count c.requires }
