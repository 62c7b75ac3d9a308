-- Which brackets are open behind tokens. A bracket that closes the innermost one has the nesting of the one that it closes.
use Rattle.std.specs.Prelude.{ℕ, ◌-◌, Bool, false, List, [], ◌∷◌, ◌++◌, length, take, drop}
use Rattle.c_lex.specs.declared.token.Token.{Token}
use Rattle.c_lex.specs.declared.token.TokenKind.{TokenKind}
use Rattle.c_lex.specs.declared.token.TokenKind.TheVariants as kind
use Rattle.c_lex.specs.declared.token.Mark.{Mark}
use Rattle.c_lex.specs.declared.token.Mark.TheVariants as mark
use Rattle.c_grammar.specs.Reading.{sees_mark}

-- the brackets that are wanted behind one more token, the innermost last
abbrev pub met_mark : Mark → List Mark → List Mark
met_mark mark.OpenParen wanted = wanted ++ mark.CloseParen ∷ []
met_mark mark.OpenBracket wanted = wanted ++ mark.CloseBracket ∷ []
met_mark mark.OpenBrace wanted = wanted ++ mark.CloseBrace ∷ []
met_mark mark.CloseParen wanted = take (length wanted - 1) wanted
met_mark mark.CloseBracket wanted = take (length wanted - 1) wanted
met_mark mark.CloseBrace wanted = take (length wanted - 1) wanted
met_mark _ wanted = wanted

abbrev pub met : TokenKind → List Mark → List Mark
met (kind.Mark m) wanted = met_mark m wanted
met (kind.Keyword k) wanted = wanted
met kind.Name wanted = wanted
met (kind.Number t) wanted = wanted
met kind.Character wanted = wanted
met kind.Text wanted = wanted

-- behind these tokens
unfoldable pub wanted_behind : List Mark → List Token → List Mark
wanted_behind wanted [] = wanted
wanted_behind wanted (t ∷ ts) = wanted_behind (met t.kind wanted) ts

abbrev pub closes : List Mark → List Token → Bool
closes [] ts = false
closes (m ∷ ms) ts = sees_mark m ts

-- the token of this number closes the innermost bracket
unfoldable pub closes_innermost : List Token → ℕ → Bool
closes_innermost ts k =
    let wanted = wanted_behind [] (take k ts) in closes (drop (length wanted - 1) wanted) (drop k ts)
