-- How specifiers are read one by one.
use Rattle.std.specs.Prelude.{ℕ, ◌||◌, Bool, Option, Some, None, Ok, List, [], ◌∷◌}
use Rattle.c_lex.specs.declared.token.Token.{Token}
use Rattle.c_ast.specs.declared.declaration.Specifier.{Specifier}
use Rattle.c_ast.specs.declared.declaration.Specifier.TheVariants as specifier
use Rattle.c_phrases.specs.declared.specifiers.SpecsSoFar.{SpecsSoFar}
use Rattle.c_grammar.specs.Names.{Names}
use Rattle.c_grammar.specs.Types.{Typed, Untyped, Whole, declares_types}
use Rattle.c_grammar.specs.Reading.{Reader, ◌>>=◌, behind}
use Rattle.c_grammar.specs.ReadingDecl.{typed_by, Saying, SaysStorage, SaysQualifier, SaysWord, SaysStruct, SaysEnum, SaysName, SaysNothing, saying_type, saying_of, struct_spec, enum_spec}
use Rattle.c_grammar.specs.Inner.{Inner}

abbrev pub typed_of : SpecsSoFar → Typed
typed_of t = typed_by t.words t.is_whole

-- a specifier, if one comes next, and what all have said then: of the type, and whether a `typedef` is among them
abbrev pub Step : Type 0
Step = Option Specifier × (Typed × Bool)

abbrev pub said : ℕ → ℕ → Inner → Saying → Typed → Bool → Reader Step
said total room inner (SaysStorage w) typed flag s = Ok ((Some (specifier.Storage w), (typed, flag || declares_types w)), behind s)
said total room inner (SaysQualifier q) typed flag s = Ok ((Some (specifier.Qualifier q), (typed, flag)), behind s)
said total room inner (SaysWord typed' w) typed flag s = Ok ((Some (specifier.Word w), (typed', flag)), behind s)
said total room inner SaysStruct typed flag s = struct_spec total inner s >>= λ x. Ok ((Some (specifier.Struct x.0), (Whole, flag)), x.1)
said total room inner SaysEnum typed flag s = enum_spec total room inner s >>= λ x. Ok ((Some (specifier.Enum x.0), (Whole, flag)), x.1)
said total room inner (SaysName name) typed flag s = Ok ((Some (specifier.TypedefName name), (Whole, flag)), behind s)
said total room inner SaysNothing typed flag s = Ok ((None, (typed, flag)), s)

unfoldable pub specifier_step : ℕ → ℕ → Inner → Typed → Bool → Reader Step
specifier_step total room inner typed flag s = said total room inner (saying_of total s.names typed s.rest) typed flag s

-- what a token says that is no word of a type
abbrev pub saying_whole : ℕ → Names → List Token → Saying
saying_whole total names [] = SaysNothing
saying_whole total names (t ∷ ts) = saying_type total names Untyped t ts

unfoldable pub whole_step : ℕ → ℕ → Inner → Bool → Reader Step
whole_step total room inner flag s = said total room inner (saying_whole total s.names s.rest) Untyped flag s
