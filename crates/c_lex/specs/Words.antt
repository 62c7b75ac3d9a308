-- Words and punctuators (C11, 6.4.1, 6.4.2 and 6.4.6).
use Rattle.std.specs.Prelude.{◌≡◌, ◌≢◌, ℕ, ◌<◌, ◌==◌, ◌||◌, ◌&&◌, nat_le, Bool, IsTrue, List, [], ◌∷◌, ◌++◌, length, codes}
use Rattle.std.specs.List.{AllByRecursion}
use Rattle.c_lex.specs.declared.token.Keyword.{Keyword}
use Rattle.c_lex.specs.declared.token.Keyword.TheVariants as keyword
use Rattle.c_lex.specs.declared.token.Mark.{Mark}
use Rattle.c_lex.specs.declared.token.Mark.TheVariants as mark
use Rattle.c_lex.specs.Blanks.{BeginsWith, First, NotFirst}

-- ---- words

-- a letter or an underscore; or a digit too
abbrev pub starts_word : ℕ → Bool
starts_word b = (nat_le 97 b && nat_le b 122) || ((nat_le 65 b && nat_le b 90) || b == 95)

abbrev pub continues_word : ℕ → Bool
continues_word b = starts_word b || (nat_le 48 b && nat_le b 57)

abbrev pub keyword_text : Keyword → List ℕ
keyword_text keyword.Auto = codes "auto"
keyword_text keyword.Break = codes "break"
keyword_text keyword.Case = codes "case"
keyword_text keyword.Char = codes "char"
keyword_text keyword.Const = codes "const"
keyword_text keyword.Continue = codes "continue"
keyword_text keyword.Default = codes "default"
keyword_text keyword.Do = codes "do"
keyword_text keyword.Else = codes "else"
keyword_text keyword.Enum = codes "enum"
keyword_text keyword.Extern = codes "extern"
keyword_text keyword.For = codes "for"
keyword_text keyword.If = codes "if"
keyword_text keyword.Inline = codes "inline"
keyword_text keyword.Int = codes "int"
keyword_text keyword.Long = codes "long"
keyword_text keyword.Register = codes "register"
keyword_text keyword.Restrict = codes "restrict"
keyword_text keyword.Return = codes "return"
keyword_text keyword.Short = codes "short"
keyword_text keyword.Signed = codes "signed"
keyword_text keyword.Sizeof = codes "sizeof"
keyword_text keyword.Static = codes "static"
keyword_text keyword.Struct = codes "struct"
keyword_text keyword.Switch = codes "switch"
keyword_text keyword.Typedef = codes "typedef"
keyword_text keyword.Unsigned = codes "unsigned"
keyword_text keyword.Void = codes "void"
keyword_text keyword.Volatile = codes "volatile"
keyword_text keyword.While = codes "while"

-- the words of C that this profile leaves out
abbrev pub out_words : List (List ℕ)
out_words =
    codes "float" ∷ codes "double" ∷ codes "goto" ∷ codes "union" ∷ codes "_Bool" ∷ codes "_Complex"
    ∷ codes "_Imaginary" ∷ []

-- The text is this word, a longest one, and then the rest.
pub record IsWord (text word rest : List ℕ) : Type 0 where
  pub text_is : text ≡ word ++ rest
  pub starts : First starts_word word
  pub all : AllByRecursion (λ b. IsTrue (continues_word b)) word
  pub ends : NotFirst continues_word rest

-- a word that is a name
pub record IsName (word : List ℕ) : Type 0 where
  pub no_keyword : (k : Keyword) → word ≢ keyword_text k
  pub no_out_word : AllByRecursion (λ out. word ≢ out) out_words

-- ---- punctuators

abbrev pub mark_text : Mark → List ℕ
mark_text mark.OpenParen = codes "("
mark_text mark.CloseParen = codes ")"
mark_text mark.OpenBracket = codes "["
mark_text mark.CloseBracket = codes "]"
mark_text mark.OpenBrace = codes "{"
mark_text mark.CloseBrace = codes "}"
mark_text mark.Semicolon = codes ";"
mark_text mark.Comma = codes ","
mark_text mark.Colon = codes ":"
mark_text mark.Question = codes "?"
mark_text mark.Dot = codes "."
mark_text mark.Arrow = codes "->"
mark_text mark.Assign = codes "="
mark_text mark.PlusAssign = codes "+="
mark_text mark.MinusAssign = codes "-="
mark_text mark.StarAssign = codes "*="
mark_text mark.SlashAssign = codes "/="
mark_text mark.PercentAssign = codes "%="
mark_text mark.AmpersandAssign = codes "&="
mark_text mark.CaretAssign = codes "^="
mark_text mark.BarAssign = codes "|="
mark_text mark.ShiftLeftAssign = codes "<<="
mark_text mark.ShiftRightAssign = codes ">>="
mark_text mark.OrOr = codes "||"
mark_text mark.AndAnd = codes "&&"
mark_text mark.Bar = codes "|"
mark_text mark.Caret = codes "^"
mark_text mark.Ampersand = codes "&"
mark_text mark.Equal = codes "=="
mark_text mark.NotEqual = codes "!="
mark_text mark.Less = codes "<"
mark_text mark.Greater = codes ">"
mark_text mark.AtMost = codes "<="
mark_text mark.AtLeast = codes ">="
mark_text mark.ShiftLeft = codes "<<"
mark_text mark.ShiftRight = codes ">>"
mark_text mark.Plus = codes "+"
mark_text mark.Minus = codes "-"
mark_text mark.Star = codes "*"
mark_text mark.Slash = codes "/"
mark_text mark.Percent = codes "%"
mark_text mark.PlusPlus = codes "++"
mark_text mark.MinusMinus = codes "--"
mark_text mark.Tilde = codes "~"
mark_text mark.Bang = codes "!"

-- The text is this punctuator, and then the rest. None that is longer begins there, and no comment.
pub record IsMark (text : List ℕ) (m : Mark) (rest : List ℕ) : Type 0 where
  pub text_is : text ≡ mark_text m ++ rest
  pub longest : (other : Mark) → length (mark_text m) < length (mark_text other) → BeginsWith (mark_text other) text → ⊥
  pub no_block : BeginsWith (codes "/*") text → ⊥
  pub no_line : BeginsWith (codes "//") text → ⊥

-- a punctuator begins with this byte
abbrev pub StartsMark : ℕ → Type 0
StartsMark b = (m : Mark) × BeginsWith (b ∷ []) (mark_text m)
