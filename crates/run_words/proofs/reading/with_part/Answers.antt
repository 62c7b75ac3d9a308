use Rattle.std.proofs.Common.{◌∷◌, sym, ap, ◌∙◌, map, string_bytes}
use Rattle.std.specs.Prelude.{option_and_then}
use Rattle.run_words.specs.steps.Reading.{said_with}
use Rattle.run_words.specs.steps.Views.{said_by}
use Rattle.run_words.proofs.ReadingLemmas.{said_with-file, said_with-ranks, said_with-ticks, said_with-journal}
use Rattle.run_words.proofs.reading.with_part.Goals as goal

pub returns-then-eq-clause-reads : goal.returns-then-eq-clause-reads
returns-then-eq-clause-reads c =
    let said = said_by c.args.found in
    said_with-ranks c.args.word.now c.deref.result.now _ _ said _ (sym c.if-eq.ensures)
    (ap (map string_bytes) c.in_ok-value.ensures.cases.0 ∙ ap (λ w. w ∷ map string_bytes c.in_ok-value.rest.now) (sym c.deref.ensures))
    c.in_ok-with_ranks.ensures

pub returns-then-eq-2-clause-reads : goal.returns-then-eq-2-clause-reads
returns-then-eq-2-clause-reads c =
    let said = said_by c.args.found in
    said_with-journal c.args.word.now c.deref-then-eq-2.result.now _ _ said _ (sym c.if-eq.ensures) (sym c.if-eq-2.ensures)
    (ap (map string_bytes) c.in_ok-name.ensures.cases.0 ∙ ap (λ w. w ∷ map string_bytes c.in_ok-name.rest.now) (sym c.deref-then-eq-2.ensures))
    c.in_ok-with_journal.ensures

pub returns-then-eq-3-clause-reads : goal.returns-then-eq-3-clause-reads
returns-then-eq-3-clause-reads c =
    let said = said_by c.args.found in
    said_with-ticks c.args.word.now c.deref-then-eq-3.result.now _ _ said _ (sym c.if-eq.ensures) (sym c.if-eq-2.ensures) (sym c.if-eq-3.ensures)
    (ap (map string_bytes) c.in_ok-value-2.ensures.cases.0 ∙ ap (λ w. w ∷ map string_bytes c.in_ok-value-2.rest.now) (sym c.deref-then-eq-3.ensures))
    c.in_ok-with_ticks.ensures

pub returns-clause-reads : goal.returns-clause-reads
returns-clause-reads c =
    let words = map string_bytes c.args.after.now in
    said_with-file c.args.word.now words (said_by c.args.found) (sym c.if-eq.ensures) (sym c.if-eq-2.ensures) (sym c.if-eq-3.ensures)
    ∙ ap (option_and_then (said_with words)) (sym c.in_ok-with_file.ensures)
