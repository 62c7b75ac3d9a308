-- Which places stand within the limits: those where a token can stand within them. Brackets that close one don't count, since they have
-- the nesting of their opener and not of the place.
use Rattle.std.specs.Prelude.{ℕ, false, List, [], ◌∷◌, ◌++◌, take, Any}
use Rattle.c_lex.specs.declared.token.Token.{Token}
use Rattle.c_lex.specs.declared.token.TokenKind.{TokenKind}
use Rattle.c_lex.specs.declared.token.TokenKind.TheVariants as kind
use Rattle.c_lex.specs.declared.token.NumberType.TheVariants as number_type
use Rattle.c_lex.specs.declared.token.Keyword.TheVariants as keyword
use Rattle.c_lex.specs.declared.token.Mark.TheVariants as mark
use Rattle.c_grammar.specs.Nesting.{Begins}

-- Kinds of tokens of which one can stand at each place of a unit: where an expression, a declaration, a declarator, a statement or a
-- name begins, and where one ends.
abbrev pub kinds : List TokenKind
kinds =
    kind.Mark mark.Question ∷ kind.Number number_type.Int ∷ kind.Name ∷ kind.Keyword keyword.Int ∷ kind.Mark mark.Semicolon
    ∷ kind.Mark mark.OpenBrace ∷ kind.Mark mark.Star ∷ kind.Mark mark.OpenBracket ∷ kind.Mark mark.Comma ∷ kind.Mark mark.Colon
    ∷ kind.Mark mark.OpenParen ∷ kind.Keyword keyword.While ∷ []

-- a token of this kind
abbrev pub plain : TokenKind → Token
plain k = record { kind = k; line = 0; value = 0; text = []; headers = record { mpi = false; stdio = false; stdlib = false; strings = false } }

-- these tokens up to the place, and one of this kind there
abbrev pub with_token : List Token → ℕ → TokenKind → List Token
with_token ts k of = take k ts ++ plain of ∷ []

-- a token can stand at the place of number k, within the limits
abbrev pub HasPlace : ℕ → ℕ → List Token → ℕ → Type 0
HasPlace limit most ts k = Any (λ of. Begins limit most (with_token ts k of)) kinds
