use Rattle.std.proofs.Common.{◌≡◌, take, map}
use Rattle.c_lex.specs.declared.token.Token.{Token}
use Rattle.c_compile.proofs.lines.lines_of.Given as goal

abbrev pub invariant-loop-token : goal.invariant-loop-token
invariant-loop-token l = l.found ≡ map (λ (t : Token). t.line) (take l.token-index l.tokens)
