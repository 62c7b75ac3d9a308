use Rattle.std.proofs.Common.{ap}
use Rattle.run_words.proofs.ReadingLemmas.{one_run}
use Rattle.run_words.specs.Words.{Asked}
use Rattle.run_words.proofs.command.one_meaning.Goals as goal

pub returns : goal.returns
returns c words a b p q =
    let same = one_run words a b p q in
    (ap (λ (asked : Asked). asked.files) same, ap (λ (asked : Asked). asked.ranks) same, ap (λ (asked : Asked). asked.ticks) same, ap (λ (asked : Asked). asked.journal) same)
