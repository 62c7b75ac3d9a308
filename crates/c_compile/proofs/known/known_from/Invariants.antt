use Rattle.std.proofs.Common.{◌≡◌, drop}
use Rattle.std.specs.List.{position_from}
use Rattle.c_lex.specs.declared.token.Token.{Token}
use Rattle.c_compile.specs.Known.{is_in, known_from}
use Rattle.c_compile.proofs.known.known_from.Given as goal

abbrev pub invariant-loop-at : goal.invariant-loop-at
invariant-loop-at l =
    position_from (λ (t : Token). is_in l.header t.headers) l.at (drop l.at l.tokens) ≡ known_from l.header l.tokens
