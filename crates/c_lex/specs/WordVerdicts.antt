-- What a word at the front of a text is.
use Rattle.std.specs.Prelude.{ℕ, if◌then◌else◌, Option, Some, None, List, [], ◌∷◌, take, drop, find}
use Rattle.std.specs.Str.{bytes_eq}
use Rattle.c_lex.specs.declared.token.Keyword.{Keyword}
use Rattle.c_lex.specs.declared.token.Keyword.TheVariants as keyword
use Rattle.c_lex.specs.declared.lexeme.Lexeme.{Lexeme}
use Rattle.c_lex.specs.declared.fronts.Seen.TheVariants as seen
use Rattle.c_lex.specs.Words.{keyword_text}
use Rattle.c_lex.specs.Lexemes.{keyword_token, name_token}
use Rattle.c_lex.specs.Faults.{OutWord}
use Rattle.c_lex.specs.Fronts.{Front, Right, Wrong}
use Rattle.c_lex.specs.Reading.{word_len, is_out_word}

abbrev pub keywords : List Keyword
keywords =
    keyword.Auto ∷ keyword.Break ∷ keyword.Case ∷ keyword.Char ∷ keyword.Const ∷ keyword.Continue ∷ keyword.Default ∷ keyword.Do ∷ keyword.Else ∷ keyword.Enum ∷ keyword.Extern ∷ keyword.For ∷ keyword.If ∷ keyword.Inline ∷ keyword.Int ∷ keyword.Long ∷ keyword.Register ∷ keyword.Restrict ∷ keyword.Return ∷ keyword.Short ∷ keyword.Signed ∷ keyword.Sizeof ∷ keyword.Static ∷ keyword.Struct ∷ keyword.Switch ∷ keyword.Typedef ∷ keyword.Unsigned ∷ keyword.Void ∷ keyword.Volatile ∷ keyword.While ∷ []

unfoldable pub keyword_of : List ℕ → Option Keyword
keyword_of word = find (λ k. bytes_eq (keyword_text k) word) keywords

abbrev pub token_of_keyword : Option Keyword → List ℕ → Lexeme
token_of_keyword (Some k) word = keyword_token k
token_of_keyword None word = name_token word

abbrev pub word_verdict : List ℕ → List ℕ → Front
word_verdict word rest =
    if is_out_word word then Wrong OutWord 0 else Right (seen.Token (token_of_keyword (keyword_of word) word)) rest

unfoldable pub word_front : List ℕ → Front
word_front text = word_verdict (take (word_len text) text) (drop (word_len text) text)
