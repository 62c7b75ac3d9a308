use Rattle.std.proofs.Common.{◌≡◌, take}
use Rattle.c_const.specs.Constants.{chain, evaluated_links, names_in, told_in}
use Rattle.c_const.proofs.expressions.+evaluate.Given as goal

abbrev pub invariant-chain-loop-link : goal.invariant-chain-loop-link
invariant-chain-loop-link l =
    l.value ≡ chain l.fn.first (evaluated_links (names_in l.env) (told_in l.types.entries) (take l.link-index l.links))
