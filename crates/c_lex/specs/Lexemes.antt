-- One token at the front of a text (C11, 6.4).
use Rattle.std.specs.Prelude.{◌≡◌, ℕ, false, List, [], ◌∷◌}
use Rattle.c_lex.specs.declared.token.Keyword.{Keyword}
use Rattle.c_lex.specs.declared.token.Mark.{Mark}
use Rattle.c_lex.specs.declared.token.NumberType.{NumberType}
use Rattle.c_lex.specs.declared.token.TokenKind.TheVariants as kind
use Rattle.c_lex.specs.declared.lexeme.Lexeme.{Lexeme}
use Rattle.c_lex.specs.Words.{keyword_text, IsWord, IsName, IsMark}
use Rattle.c_lex.specs.Literals.{IsNumber, IsCharacter, AreCharacters, char_value, begins_fraction}

abbrev pub keyword_token : Keyword → Lexeme
keyword_token k = record { kind = kind.Keyword k; value = 0; text = [] }

abbrev pub name_token : List ℕ → Lexeme
name_token word = record { kind = kind.Name; value = 0; text = word }

abbrev pub number_token : ℕ → NumberType → Lexeme
number_token value t = record { kind = kind.Number t; value = value; text = [] }

abbrev pub character_token : ℕ → Lexeme
character_token b = record { kind = kind.Character; value = char_value b; text = [] }

abbrev pub text_token : List ℕ → Lexeme
text_token bytes = record { kind = kind.Text; value = 0; text = bytes }

abbrev pub mark_token : Mark → Lexeme
mark_token m = record { kind = kind.Mark m; value = 0; text = [] }

-- The text begins with this token, the longest that it can spell there, and then comes the rest.
pub data IsLexeme (text : List ℕ) (l : Lexeme) (rest : List ℕ) : Type 0 where
  keyword : (k : Keyword) → IsWord text (keyword_text k) rest → l ≡ keyword_token k → IsLexeme text l rest
  name : (word : List ℕ) → IsWord text word rest → IsName word → l ≡ name_token word → IsLexeme text l rest
  number : (value : ℕ) (t : NumberType) → IsNumber text value t rest → l ≡ number_token value t → IsLexeme text l rest
  character : (b : ℕ) (body : List ℕ) → text ≡ 39 ∷ body → IsCharacter 39 body b (39 ∷ rest) → l ≡ character_token b
      → IsLexeme text l rest
  string : (bytes body : List ℕ) → text ≡ 34 ∷ body → AreCharacters 34 body bytes (34 ∷ rest) → l ≡ text_token bytes
      → IsLexeme text l rest
  mark : (m : Mark) → IsMark text m rest → begins_fraction text ≡ false → l ≡ mark_token m → IsLexeme text l rest
