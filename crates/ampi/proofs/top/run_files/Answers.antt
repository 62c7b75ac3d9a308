use Rattle.std.proofs.Common.{ap, map, string_bytes}
use Rattle.ampi.specs.Answers.{reads}
use Rattle.ampi.proofs.AnswerLemmas.{asks-files, few-and-short}
use Rattle.ampi.proofs.top.run_files.Goals as goal

pub run_texts-requires-clause-short : goal.run_texts-requires-clause-short
run_texts-requires-clause-short g c =
    rw c.as_slice-in-Ok.ensures.value (few-and-short _ string_bytes c.args.command.now.files.items c.in-Ok.texts.items c.requires.some
    (rw c.as_slice.ensures.value at c.in-Ok.ensures.loaded))

pub returns-in-Ok-clause-answers : goal.returns-in-Ok-clause-answers
returns-in-Ok-clause-answers g c = λ words asked.
    rw c.in-Ok.ensures.quiet at (c.run_texts.ensures.answers words
    (reads (g.F.Files.held c.args.files.now) (g.F.Files.faults c.args.files.now) (g.F.Files.faults c.load_files.new.files))
    asked (rw c.as_slice-in-Ok.ensures.value (rw c.as_slice.ensures.value at c.in-Ok.ensures.loaded)))

pub returns-in-Err-clause-answers : goal.returns-in-Err-clause-answers
returns-in-Err-clause-answers g c = λ words asked.
    c.in-Err.ensures.told words _ (asks-files words c.args.command.now _ asked (ap (map string_bytes) c.as_slice.ensures.value))
