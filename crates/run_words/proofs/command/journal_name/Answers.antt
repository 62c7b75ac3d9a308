use Rattle.std.proofs.Common.{◌≡◌, None, refl}
use Rattle.run_words.specs.Words.{Asked, AskForRun}
use Rattle.run_words.specs.Asks.{bytes_of_words}
use Rattle.run_words.specs.steps.Views.{asked_in}
use Rattle.run_words.proofs.ReadingLemmas.{asks_for, none_asked, journal_if_some, journal_if_none, IfNone-from}
use Rattle.run_words.proofs.command.journal_name.Goals as goal

pub returns-in_err-run_of-clause-none : goal.returns-in_err-run_of-clause-none
returns-in_err-run_of-clause-none c =
    IfNone-from c.from_residual.result ((asked : Asked) → AskForRun (bytes_of_words c.args.words.now) asked → asked.journal ≡ None)
    (λ asked a. absurd (none_asked _ _ c.deref.ensures.value c.in_err-run_of.ensures asked a))

pub returns-clause-some : goal.returns-clause-some
returns-clause-some c =
    let run = c.in_ok-run_of.field-0 in
    journal_if_some _ run.journal (asked_in run) (asks_for _ _ (asked_in run) c.deref.ensures.value c.in_ok-run_of.ensures) refl

pub returns-clause-none : goal.returns-clause-none
returns-clause-none c =
    let run = c.in_ok-run_of.field-0 in
    journal_if_none _ run.journal (asked_in run) (asks_for _ _ (asked_in run) c.deref.ensures.value c.in_ok-run_of.ensures) refl
