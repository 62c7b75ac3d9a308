use Rattle.std.proofs.Common.{◌≡◌, sym, ◌∙◌, leb, arith}
use Rattle.std.proofs.lemmas.Bool.Decides.{nat_tests}
use Rattle.run_words.proofs.NumberLemmas.{parsed, ticks_said-large, ticks_said-read}
use Rattle.run_words.proofs.reading.ticks_in.Goals as goal

pub returns-in_err-ticks : goal.returns-in_err-ticks
returns-in_err-ticks c =
    let word = c.args.value.now in
    let number = sym c.if-not-is_number.ensures in
    c.from_residual.ensures
    ∙ ticks_said-large word c.parse.result (parsed 64 word c.parse.result number c.parse.ensures.value.0) c.in_err-ticks.ensures.value

pub returns : goal.returns
returns c =
    let word = c.args.value.now in
    let number = sym c.if-not-is_number.ensures in
    let fits : c.contains.result ≡ leb c.in_ok-ticks.ticks 16000000 = grind (arith, nat_tests) in
    c.then_some.ensures
    ∙ ticks_said-read word c.parse.result c.in_ok-ticks.ticks c.contains.result number (parsed 64 word c.parse.result number c.parse.ensures.value.0) c.in_ok-ticks.ensures.value fits
