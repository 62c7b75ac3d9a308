use Rattle.std.proofs.Common.{sym, ◌∙◌, string_bytes}
use Rattle.run_words.proofs.ReadingLemmas.{asks-code-texts, no-code-texts, same-word}
use Rattle.run_words.proofs.command.code_files.Goals as goal

pub returns-then-not-are_files-clause-none : goal.returns-then-not-are_files-clause-none
returns-then-not-are_files-clause-none c =
    no-code-texts string_bytes _ _ _ (sym c.deref.ensures.value ∙ c.in_ok-first.ensures.cases.0)
    (sym c.if-not-are_files.ensures)

pub returns-clause-some : goal.returns-clause-some
returns-clause-some c =
    asks-code-texts string_bytes _ _ _ (sym c.deref.ensures.value ∙ c.in_ok-first.ensures.cases.0)
    (sym c.as_str.ensures.value ∙ same-word c.as_str.result.now _ c.if-ne.ensures)
    (sym c.if-not-are_files.ensures)
