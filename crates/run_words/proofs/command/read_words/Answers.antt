use Rattle.std.proofs.Common.{sym, ap, ◌∙◌, refl}
use Rattle.std.specs.Option.{option_map}
use Rattle.run_words.specs.steps.Views.{asked_in}
use Rattle.run_words.proofs.ReadingLemmas.{asks_for, none_asked, None-from_is_some}
use Rattle.run_words.proofs.command.read_words.Goals as goal

pub returns-in_err-run-clause-bad : goal.returns-in_err-run-clause-bad
returns-in_err-run-clause-bad c =
    let nothing = None-from_is_some c.run_of.result (sym c.in_err-run.ensures.variant) in
    λ _ asked a. none_asked _ _ c.deref.ensures.value (sym (ap (option_map asked_in) nothing) ∙ c.run_of.ensures) asked a

pub returns-clause-accepted : goal.returns-clause-accepted
returns-clause-accepted c =
    let run = c.in_ok-run.run' in
    let read = sym (ap (option_map asked_in) c.in_ok-run.ensures.ok_part) ∙ c.run_of.ensures in
    record {
      asked = asked_in run;
      asks = asks_for _ _ (asked_in run) c.deref.ensures.value read;
      files = c.in_ok-files_in.ensures;
      ranks = refl;
      ticks = refl;
    }

pub returns-in_err-files_in-clause-memory : goal.returns-in_err-files_in-clause-memory
returns-in_err-files_in-clause-memory c =
    let run = c.in_ok-run.run' in
    let read = sym (ap (option_map asked_in) c.in_ok-run.ensures.ok_part) ∙ c.run_of.ensures in
    λ _. (asked_in run, asks_for _ _ (asked_in run) c.deref.ensures.value read)
