use Rattle.std.proofs.Common.{inr, string_bytes}
use Rattle.ampi.specs.Answers.{reads}
use Rattle.ampi.proofs.AnswerLemmas.{few-and-short}
use Rattle.ampi.proofs.top.show_code.Goals as goal

pub show_texts-requires : goal.show_texts-requires
show_texts-requires g c =
    record { short = rw c.as_slice.ensures.value (few-and-short _ string_bytes c.args.names.now c.in-Ok.texts.items c.requires.some c.in-Ok.ensures.loaded) }

pub returns-in-Ok-clause-answers : goal.returns-in-Ok-clause-answers
returns-in-Ok-clause-answers g c = λ words journal asks.
    rw c.in-Ok.ensures.quiet at (c.show_texts.ensures.answers words
    (reads (g.F.Files.held c.args.files.now) (g.F.Files.faults c.args.files.now) (g.F.Files.faults c.load_files.new.files))
    journal asks (rw c.as_slice.ensures.value c.in-Ok.ensures.loaded))

pub returns-in-Err-clause-answers : goal.returns-in-Err-clause-answers
returns-in-Err-clause-answers g c = λ words journal asks. c.in-Err.ensures.told words journal (inr asks)
