-- From which token on the names of a header are known.
use Rattle.std.specs.Prelude.{ℕ, ◌≡◌, nat_le, Bool, false, List, Option, Some, None, slice_get}
use Rattle.std.specs.List.{position_from}
use Rattle.c_lex.specs.declared.token.Token.{Token}
use Rattle.c_lex.specs.declared.token.Header.{Header}
use Rattle.c_lex.specs.declared.token.Header.TheVariants as header
use Rattle.c_lex.specs.declared.token.Headers.{Headers}
use Rattle.c_lex.specs.Tokens.{AreTokens}
use Rattle.c_judge.specs.declared.headers.KnownHeaders.{KnownHeaders}

-- whether the header is one of these
abbrev pub is_in : Header → Headers → Bool
is_in header.Mpi h = h.mpi
is_in header.Stdio h = h.stdio
is_in header.Stdlib h = h.stdlib
is_in header.Strings h = h.strings

-- the first token before which the header is included
abbrev pub known_from : Header → List Token → Option ℕ
known_from h tokens = position_from (λ (t : Token). is_in h t.headers) 0 tokens

abbrev pub known_in : List Token → KnownHeaders
known_in tokens = record {
  mpi = known_from header.Mpi tokens;
  stdio = known_from header.Stdio tokens;
  stdlib = known_from header.Stdlib tokens;
  strings = known_from header.Strings tokens;
}

-- whether a header that is known from this token on is known at another one
abbrev pub is_known_at : Option ℕ → ℕ → Bool
is_known_at (Some first) at = nat_le first at
is_known_at None at = false

-- The tokens of a text before which a header is included are just those from its first one on.
abbrev pub KnownWhereIncluded : Type 0
KnownWhereIncluded =
    (text : List ℕ) (tokens : List Token) (h : Header) (at : ℕ) (t : Token) → AreTokens text tokens → slice_get tokens at ≡ Some t
    → is_in h t.headers ≡ is_known_at (known_from h tokens) at
