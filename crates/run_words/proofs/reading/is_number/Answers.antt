use Rattle.std.proofs.Common.{rules, tests, arith}
use Rattle.std.proofs.lemmas.Bool.Decides.{nat_tests}
use Rattle.std.proofs.lemmas.Iterator.{YieldsList-from_slice}
use Rattle.std.proofs.lemmas.Iterator.Search.{all_from_yields_List}
use Rattle.run_words.specs.Words.{is_digit}
use Rattle.run_words.proofs.reading.is_number.Goals as goal

pub returns-then-contains : goal.returns-then-contains
returns-then-contains c =
    let h = c.if-contains.ensures.value in
    let e = all_from_yields_List is_digit _ _ c.all.result c.all.ensures.ran (YieldsList-from_slice c.args.word.now cc) (λ x b q k. search (rules, tests)) in grind (arith, nat_tests)
