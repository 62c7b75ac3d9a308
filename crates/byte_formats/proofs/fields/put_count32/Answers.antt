use Rattle.byte_formats.specs.FormatLaws.{number32_fits}
use Rattle.byte_formats.proofs.fields.put_count32.Goals as goal

pub overflow_cast-count : goal.overflow_cast-count
overflow_cast-count c = record { fits = number32_fits c.args.count c.requires }
