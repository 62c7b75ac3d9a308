use Rattle.std.proofs.Common.{◌≡◌, sym, ◌∙◌, ◌&&◌, leb, arith}
use Rattle.std.proofs.lemmas.Bool.Decides.{nat_tests}
use Rattle.run_words.proofs.NumberLemmas.{parsed, ranks_said-large, ranks_said-read}
use Rattle.run_words.proofs.reading.ranks_in.Goals as goal

pub returns-in_err-ranks : goal.returns-in_err-ranks
returns-in_err-ranks c =
    let word = c.args.value.now in
    let number = sym c.if-not-is_number.ensures in
    c.from_residual.ensures
    ∙ ranks_said-large word c.parse.result (parsed 16 word c.parse.result number c.parse.ensures.value.0) c.in_err-ranks.ensures.value

pub returns : goal.returns
returns c =
    let word = c.args.value.now in
    let number = sym c.if-not-is_number.ensures in
    let fits : c.contains.result ≡ (leb 1 c.in_ok-ranks.ranks && leb c.in_ok-ranks.ranks 256) = grind (arith, nat_tests) in
    c.then_some.ensures
    ∙ ranks_said-read word c.parse.result c.in_ok-ranks.ranks c.contains.result number (parsed 16 word c.parse.result number c.parse.ensures.value.0) c.in_ok-ranks.ensures.value fits
