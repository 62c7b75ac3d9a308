-- What the reader's values say, with no borrow.
use Rattle.std.specs.Prelude.{map, string_bytes}
use Rattle.std.specs.Option.{option_copied}
use Rattle.run_words.specs.Words.{Asked}
use Rattle.run_words.specs.steps.Reading.{Said, files_in}
use Rattle.run_words.specs.declared.reading.Found.{Found}
use Rattle.run_words.specs.declared.reading.Run.{Run}

abbrev pub said_by : Found → Said
said_by found = record { files = found.files; ranks = found.ranks; ticks = found.ticks; journal = option_copied found.journal }

abbrev pub asked_in : Run → Asked
asked_in run = record { files = files_in (map string_bytes run.parts.now); ranks = run.ranks; ticks = run.ticks; journal = option_copied run.journal }
