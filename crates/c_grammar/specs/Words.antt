-- What the keywords and punctuators stand for in the grammar.
use Rattle.std.specs.Prelude.{ℕ, ◌≡◌, ◌-◌, Option, Some, None, List, length}
use Rattle.c_lex.specs.declared.token.Token.{Token}
use Rattle.c_lex.specs.declared.token.TokenKind.{TokenKind}
use Rattle.c_lex.specs.declared.token.TokenKind.TheVariants as kind
use Rattle.c_lex.specs.declared.token.Keyword.{Keyword}
use Rattle.c_lex.specs.declared.token.Keyword.TheVariants as keyword
use Rattle.c_lex.specs.declared.token.Mark.{Mark}
use Rattle.c_lex.specs.declared.token.Mark.TheVariants as mark
use Rattle.c_lex.specs.declared.token.NumberType.{NumberType as TokenType}
use Rattle.c_lex.specs.declared.token.NumberType.TheVariants as token_type
use Rattle.c_ast.specs.declared.words.NumberType.{NumberType}
use Rattle.c_ast.specs.declared.words.NumberType.TheVariants as number_type
use Rattle.c_ast.specs.declared.words.Storage.{Storage}
use Rattle.c_ast.specs.declared.words.Storage.TheVariants as storage
use Rattle.c_ast.specs.declared.words.Qualifier.{Qualifier}
use Rattle.c_ast.specs.declared.words.Qualifier.TheVariants as qualifier
use Rattle.c_ast.specs.declared.words.TypeWord.{TypeWord}
use Rattle.c_ast.specs.declared.words.TypeWord.TheVariants as word
use Rattle.c_ast.specs.declared.words.PrefixOp.{PrefixOp}
use Rattle.c_ast.specs.declared.words.PrefixOp.TheVariants as prefix
use Rattle.c_ast.specs.declared.words.BinaryOp.{BinaryOp}
use Rattle.c_ast.specs.declared.words.BinaryOp.TheVariants as binary
use Rattle.c_ast.specs.declared.words.AssignOp.{AssignOp}
use Rattle.c_ast.specs.declared.words.AssignOp.TheVariants as assign

abbrev pub IsMark : Mark → Token → Type 0
IsMark m t = t.kind ≡ kind.Mark m

abbrev pub IsKeyword : Keyword → Token → Type 0
IsKeyword k t = t.kind ≡ kind.Keyword k

-- the number of the first of these last tokens of so many
abbrev pub number_of : ℕ → List Token → ℕ
number_of total ts = total - length ts

abbrev pub number_type_of : TokenType → NumberType
number_type_of token_type.Int = number_type.Int
number_type_of token_type.UnsignedInt = number_type.UnsignedInt
number_type_of token_type.Long = number_type.Long
number_type_of token_type.UnsignedLong = number_type.UnsignedLong

abbrev pub storage_of : TokenKind → Option Storage
storage_of (kind.Keyword keyword.Typedef) = Some storage.Typedef
storage_of (kind.Keyword keyword.Extern) = Some storage.Extern
storage_of (kind.Keyword keyword.Static) = Some storage.Static
storage_of (kind.Keyword keyword.Auto) = Some storage.Auto
storage_of (kind.Keyword keyword.Register) = Some storage.Register
storage_of (kind.Keyword keyword.Inline) = Some storage.Inline
storage_of _ = None

abbrev pub qualifier_of : TokenKind → Option Qualifier
qualifier_of (kind.Keyword keyword.Const) = Some qualifier.Const
qualifier_of (kind.Keyword keyword.Volatile) = Some qualifier.Volatile
qualifier_of (kind.Keyword keyword.Restrict) = Some qualifier.Restrict
qualifier_of _ = None

abbrev pub word_of : TokenKind → Option TypeWord
word_of (kind.Keyword keyword.Void) = Some word.Void
word_of (kind.Keyword keyword.Char) = Some word.Char
word_of (kind.Keyword keyword.Short) = Some word.Short
word_of (kind.Keyword keyword.Int) = Some word.Int
word_of (kind.Keyword keyword.Long) = Some word.Long
word_of (kind.Keyword keyword.Signed) = Some word.Signed
word_of (kind.Keyword keyword.Unsigned) = Some word.Unsigned
word_of _ = None

abbrev pub prefix_of : TokenKind → Option PrefixOp
prefix_of (kind.Mark mark.PlusPlus) = Some prefix.Increment
prefix_of (kind.Mark mark.MinusMinus) = Some prefix.Decrement
prefix_of (kind.Mark mark.Ampersand) = Some prefix.Address
prefix_of (kind.Mark mark.Star) = Some prefix.Deref
prefix_of (kind.Mark mark.Plus) = Some prefix.Plus
prefix_of (kind.Mark mark.Minus) = Some prefix.Minus
prefix_of (kind.Mark mark.Tilde) = Some prefix.Complement
prefix_of (kind.Mark mark.Bang) = Some prefix.Not
prefix_of _ = None

abbrev pub placed : ℕ → BinaryOp → Option (ℕ × BinaryOp)
placed level op = Some (level, op)

-- the operators between two operands, by their level: the lower it is, the closer they bind
abbrev pub operator_of : TokenKind → Option (ℕ × BinaryOp)
operator_of (kind.Mark mark.Star) = placed 1 binary.Multiply
operator_of (kind.Mark mark.Slash) = placed 1 binary.Divide
operator_of (kind.Mark mark.Percent) = placed 1 binary.Remainder
operator_of (kind.Mark mark.Plus) = placed 2 binary.Add
operator_of (kind.Mark mark.Minus) = placed 2 binary.Subtract
operator_of (kind.Mark mark.ShiftLeft) = placed 3 binary.ShiftLeft
operator_of (kind.Mark mark.ShiftRight) = placed 3 binary.ShiftRight
operator_of (kind.Mark mark.Less) = placed 4 binary.Less
operator_of (kind.Mark mark.Greater) = placed 4 binary.Greater
operator_of (kind.Mark mark.AtMost) = placed 4 binary.AtMost
operator_of (kind.Mark mark.AtLeast) = placed 4 binary.AtLeast
operator_of (kind.Mark mark.Equal) = placed 5 binary.Equal
operator_of (kind.Mark mark.NotEqual) = placed 5 binary.NotEqual
operator_of (kind.Mark mark.Ampersand) = placed 6 binary.BitAnd
operator_of (kind.Mark mark.Caret) = placed 7 binary.BitXor
operator_of (kind.Mark mark.Bar) = placed 8 binary.BitOr
operator_of (kind.Mark mark.AndAnd) = placed 9 binary.And
operator_of (kind.Mark mark.OrOr) = placed 10 binary.Or
operator_of _ = None

abbrev pub assign_of : TokenKind → Option AssignOp
assign_of (kind.Mark mark.Assign) = Some assign.Set
assign_of (kind.Mark mark.StarAssign) = Some assign.Multiply
assign_of (kind.Mark mark.SlashAssign) = Some assign.Divide
assign_of (kind.Mark mark.PercentAssign) = Some assign.Remainder
assign_of (kind.Mark mark.PlusAssign) = Some assign.Add
assign_of (kind.Mark mark.MinusAssign) = Some assign.Subtract
assign_of (kind.Mark mark.ShiftLeftAssign) = Some assign.ShiftLeft
assign_of (kind.Mark mark.ShiftRightAssign) = Some assign.ShiftRight
assign_of (kind.Mark mark.AmpersandAssign) = Some assign.BitAnd
assign_of (kind.Mark mark.CaretAssign) = Some assign.BitXor
assign_of (kind.Mark mark.BarAssign) = Some assign.BitOr
assign_of _ = None
