-- Strings are joined one after another. Only private functions cite it.
use Rattle.std.specs.Prelude.{List, [], ◌∷◌}
use Rattle.c_lex.specs.declared.token.Token.{Token as AToken}
use Rattle.c_lex.specs.Tokens.{before_joined}

abbrev pub added_behind : AToken → List AToken → AToken → List AToken
added_behind t [] last = before_joined t (last ∷ [])
added_behind t (u ∷ us) last = t ∷ added_behind u us last

-- the tokens and one more, which is joined to the last one where both are strings
abbrev pub added : List AToken → AToken → List AToken
added [] last = last ∷ []
added (t ∷ ts) last = added_behind t ts last
