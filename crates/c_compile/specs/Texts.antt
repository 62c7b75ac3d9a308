-- The source that a text is, or why it is none.
use Rattle.std.specs.Prelude.{ℕ, ◌≡◌, ◌⊎◌, List}
use Rattle.c_lex.specs.declared.token.Token.{Token}
use Rattle.c_lex.specs.declared.error.LexError.{LexError}
use Rattle.c_lex.specs.declared.error.LexError.TheVariants as lex_error
use Rattle.c_lex.specs.Faults.{Cause as Fault}
use Rattle.c_lex.specs.Faults as fault
use Rattle.c_lex.specs.Tokens.{AreTokens, IsFault}
use Rattle.c_grammar.specs.declared.error.ParseError.{ParseError}
use Rattle.c_grammar.specs.declared.error.ParseError.TheVariants as parse_error
use Rattle.c_grammar.specs.Grammar.{ParsesWithin}
use Rattle.c_grammar.specs.Refusals.{IsRefused, IsUnexpected, IsTooNested}
use Rattle.c_check.specs.declared.units.Source.{Source}
use Rattle.c_compile.specs.declared.cause.Cause.{Cause}
use Rattle.c_compile.specs.declared.cause.Cause.TheVariants as cause
use Rattle.c_compile.specs.declared.error.TextError.{TextError}
use Rattle.c_compile.specs.declared.error.TextError.TheVariants.{Wrong, Memory}
use Rattle.c_compile.specs.Lines.{line_of_byte, lines_of, line_in}
use Rattle.c_compile.specs.Known.{known_in}

-- The text is this source: its tokens are the tree, with nesting of at most 64 and chains of at most 512.
pub record IsSource (text : List ℕ) (source : Source) : Type 0 where
  pub tokens : List Token
  pub are_tokens : AreTokens text tokens
  pub parses : ParsesWithin 64 512 tokens source.tree
  pub known_is : source.known ≡ known_in tokens
  pub lines_are : source.lines ≡ lines_of text tokens

abbrev pub cause_of : Fault → Cause
cause_of fault.BadByte = cause.BadByte
cause_of fault.FloatLiteral = cause.FloatLiteral
cause_of fault.OutWord = cause.OutWord
cause_of fault.TooWide = cause.TooWide
cause_of fault.Unclosed = cause.Unclosed
cause_of fault.Directive = cause.Directive
cause_of fault.TooMany = cause.TooMany

-- It has no tokens: this fault is the first, and its byte is on this line.
pub record HasNoTokens (text : List ℕ) (why : Cause) (line : ℕ) : Type 0 where
  pub fault_is : Fault
  pub at : ℕ
  pub is_fault : IsFault text fault_is at
  pub why_is : why ≡ cause_of fault_is
  pub line_is : line ≡ line_of_byte text at

-- Its tokens are no unit within the limits: this token is the first that none goes on with, for one of two causes.
pub record HasNoTree (text : List ℕ) (why : Cause) (line : ℕ) : Type 0 where
  pub tokens : List Token
  pub are_tokens : AreTokens text tokens
  pub token : ℕ
  pub refused : IsRefused 64 512 tokens token
  pub why_is : ((why ≡ cause.Unexpected) × IsUnexpected 64 512 tokens token) ⊎ ((why ≡ cause.TooNested) × IsTooNested 64 512 tokens token)
  pub line_is : line ≡ line_in (lines_of text tokens) token

abbrev pub IsWrong : List ℕ → Cause → ℕ → Type 0
IsWrong text why line = HasNoTokens text why line ⊎ HasNoTree text why line

-- What is told of the text is so. Want of memory says nothing.
abbrev pub IsWhyNot : List ℕ → TextError → Type 0
IsWhyNot text (Wrong why line) = IsWrong text why line
IsWhyNot text Memory = Unit {0}

abbrev pub wrong_at : List ℕ → Cause → ℕ → TextError
wrong_at text why at = Wrong why (line_of_byte text at)

-- what is told of a text without tokens, and of one whose tokens are no unit
abbrev pub told_by_lexer : List ℕ → LexError → TextError
told_by_lexer text (lex_error.BadByte at) = wrong_at text cause.BadByte at
told_by_lexer text (lex_error.FloatLiteral at) = wrong_at text cause.FloatLiteral at
told_by_lexer text (lex_error.OutWord at) = wrong_at text cause.OutWord at
told_by_lexer text (lex_error.TooWide at) = wrong_at text cause.TooWide at
told_by_lexer text (lex_error.Unclosed at) = wrong_at text cause.Unclosed at
told_by_lexer text (lex_error.Directive at) = wrong_at text cause.Directive at
told_by_lexer text (lex_error.TooMany at) = wrong_at text cause.TooMany at
told_by_lexer text lex_error.Memory = Memory

abbrev pub told_by_parser : List ℕ → ParseError → TextError
told_by_parser lines (parse_error.Unexpected token) = Wrong cause.Unexpected (line_in lines token)
told_by_parser lines (parse_error.TooNested token) = Wrong cause.TooNested (line_in lines token)
told_by_parser lines parse_error.Memory = Memory
