use Rattle.std.proofs.Common.{◌≡◌, rules, tests, arith, length, leb, true, string_bytes}
use Rattle.std.proofs.lemmas.Bool.Decides.{nat_tests}
use Rattle.std.proofs.lemmas.Iterator.{YieldsList-from_slice}
use Rattle.std.proofs.lemmas.Iterator.Search.{all_from_yields_List}
use Rattle.run_words.specs.steps.Reading.{is_plain}
use Rattle.run_words.proofs.ReadingLemmas.{are-files}
use Rattle.run_words.proofs.reading.are_files.Goals as goal

pub returns-then-contains : goal.returns-then-contains
returns-then-contains c =
    let h = c.if-contains.ensures.value in
    let some : leb 1 (length c.args.names.now) ≡ true = grind (arith, nat_tests) in
    let few : leb (length c.args.names.now) 16 ≡ true = grind (arith, nat_tests) in
    are-files string_bytes c.args.names.now c.all.result some few
    (all_from_yields_List (λ s. is_plain (string_bytes s)) _ _ c.all.result c.all.ensures.ran (YieldsList-from_slice c.args.names.now cc)
    (λ x b q k. search (rules, tests)))
