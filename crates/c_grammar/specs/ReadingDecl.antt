-- How the parts of declarations are read, by what reads one level further in.
use Rattle.std.specs.Prelude.{ℕ, zero, suc, ◌+◌, ◌-◌, ◌&&◌, ◌||◌, nat_eq, nat_le, not, if◌then◌else◌, Bool, true, false, Option, Some, None, Ok, Err, List, [], ◌∷◌, ◌++◌, length, take, drop}
use Rattle.c_lex.specs.declared.token.Token.{Token}
use Rattle.c_lex.specs.declared.token.Keyword.TheVariants as keyword
use Rattle.c_lex.specs.declared.token.Mark.TheVariants as mark
use Rattle.c_ast.specs.declared.words.Name.{Name}
use Rattle.c_ast.specs.declared.words.Storage.{Storage}
use Rattle.c_ast.specs.declared.words.Qualifier.{Qualifier}
use Rattle.c_ast.specs.declared.words.TypeWord.{TypeWord}
use Rattle.c_ast.specs.declared.words.TypeWord.TheVariants as word
use Rattle.c_ast.specs.declared.expression.Expr.{Expr}
use Rattle.c_ast.specs.declared.declaration.Specifier.{Specifier}
use Rattle.c_ast.specs.declared.declaration.Specifier.TheVariants as specifier
use Rattle.c_ast.specs.declared.declaration.StructSpec.{StructSpec}
use Rattle.c_ast.specs.declared.declaration.StructSpec.TheVariants as a_struct
use Rattle.c_ast.specs.declared.declaration.Member.{Member, roll-Member}
use Rattle.c_ast.specs.declared.declaration.EnumSpec.{EnumSpec}
use Rattle.c_ast.specs.declared.declaration.EnumSpec.TheVariants as an_enum
use Rattle.c_ast.specs.declared.declaration.Enumerator.{Enumerator}
use Rattle.c_ast.specs.declared.declaration.Declarator.{Declarator, roll-Declarator}
use Rattle.c_ast.specs.declared.declaration.Direct.TheVariants as direct
use Rattle.c_ast.specs.declared.declaration.DirectSuffix.{DirectSuffix}
use Rattle.c_ast.specs.declared.declaration.DirectSuffix.TheVariants as suffix
use Rattle.c_ast.specs.declared.declaration.Param.{Param}
use Rattle.c_ast.specs.declared.declaration.Param.TheVariants as param
use Rattle.c_ast.specs.declared.declaration.Abstract.{Abstract}
use Rattle.c_grammar.specs.declared.phrases.Extent.TheVariants as extent
use Rattle.c_grammar.specs.Names.{Names, is_type_in, declared, name_at}
use Rattle.c_grammar.specs.Words.{number_of, storage_of, qualifier_of, word_of}
use Rattle.c_grammar.specs.Types.{times, Typed, Untyped, Words, Whole, declares_types}
use Rattle.c_grammar.specs.Owns.{Own, Open, settled}
use Rattle.c_grammar.specs.Grammar.{behind_pointers}
use Rattle.c_grammar.specs.Reading.{State, Fault, Unexpected, TooNested, Reader, ◌>>=◌, is_mark, is_keyword, is_name, sees_mark, sees_keyword, tail, behind, here, expect_mark, expect_name, name_at_front}
use Rattle.c_grammar.specs.ReadingExpr.{choose}
use Rattle.c_grammar.specs.declared.phrases.ReadSpecs.{ReadSpecs}
use Rattle.c_grammar.specs.declared.phrases.ReadDeclarator.{ReadDeclarator}
use Rattle.c_grammar.specs.declared.phrases.ReadDirect.{ReadDirect}
use Rattle.c_grammar.specs.declared.phrases.ReadParam.{ReadParam}
use Rattle.c_grammar.specs.declared.phrases.ReadParam.TheVariants.{Named, Unnamed}
use Rattle.c_grammar.specs.Inner.{Inner}

-- ---- types

-- the words are those of a type
abbrev pub are_of_type : List TypeWord → Bool
are_of_type ws =
    (nat_eq (length ws) 1 && nat_eq (times word.Void ws) 1)
    || ((nat_eq (times word.Char ws) 1 && (nat_le (times word.Signed ws + times word.Unsigned ws) 1
    && nat_eq (length ws) (times word.Char ws + times word.Signed ws + times word.Unsigned ws)))
    || (nat_le 1 (length ws) && (nat_le (times word.Signed ws + times word.Unsigned ws) 1 && (nat_le (times word.Int ws) 1
    && (((nat_le (times word.Short ws) 1 && nat_eq (times word.Long ws) 0)
    || (nat_eq (times word.Short ws) 0 && nat_le (times word.Long ws) 2))
    && (nat_eq (times word.Void ws) 0 && nat_eq (times word.Char ws) 0))))))

-- what specifiers have said of the type: words so far, or whole
abbrev pub typed_by : List TypeWord → Bool → Typed
typed_by ws true = Whole
typed_by [] false = Untyped
typed_by (w ∷ ws) false = Words (w ∷ ws)

-- A word is taken where the words so far and it are of a type.
abbrev pub taken_word : TypeWord → Typed → Option Typed
taken_word w Untyped = Some (Words (w ∷ []))
taken_word w (Words ws) = if are_of_type (ws ++ w ∷ []) then Some (Words (ws ++ w ∷ [])) else None
taken_word w Whole = None

abbrev pub is_untyped : Typed → Bool
is_untyped Untyped = true
is_untyped (Words ws) = false
is_untyped Whole = false

-- ---- structures

-- declarators with commas between them behind those before, so many at most, and the semicolon
unfoldable pub members_declared : ℕ → Inner → ℕ → List Declarator → Reader (List Declarator)
members_declared total inner zero front s = Err (Unexpected (here total s))
members_declared total inner (suc count) front s =
    inner.declarator s
    >>= λ x. if sees_mark mark.Comma x.1.rest then members_declared total inner count (front ++ x.0.tree ∷ []) (behind x.1)
    else (expect_mark total mark.Semicolon x.1 >>= λ s'. Ok (front ++ x.0.tree ∷ [], s'))

unfoldable pub member : ℕ → Inner → Reader Member
member total inner s =
    inner.specs s
    >>= λ x. members_declared total inner (length x.1.rest) [] x.1
    >>= λ y. Ok (roll-Member (record { specs = x.0.specs; declarators = y.0 }), y.1)

-- Members behind those before, so many at most, and the brace that closes them. At the end of the tokens none is read, but where there
-- is no room it is nested too deeply.
unfoldable pub members : ℕ → Inner → ℕ → List Member → Reader (List Member)
members total inner zero front s = member total inner s >>= λ x. Err (Unexpected (here total x.1))
members total inner (suc count) front s =
    member total inner s
    >>= λ x. if sees_mark mark.CloseBrace x.1.rest then Ok (front ++ x.0 ∷ [], behind x.1)
    else members total inner count (front ++ x.0 ∷ []) x.1

-- behind `struct`, whose number this is, and its name
unfoldable pub struct_body : ℕ → Inner → ℕ → Option Name → Reader (StructSpec Member)
struct_body total inner token name s =
    expect_mark total mark.OpenBrace s
    >>= λ start. members total inner (length start.rest) [] start
    >>= λ x. Ok (a_struct.Body token name x.0, x.1)

unfoldable pub struct_spec : ℕ → Inner → Reader (StructSpec Member)
struct_spec total inner s =
    choose (name_at_front total (tail s.rest)) (struct_body total inner (here total s) None (behind s))
    (λ name. if sees_mark mark.OpenBrace (tail (tail s.rest))
    then struct_body total inner (here total s) (Some name) (behind (behind s))
    else Ok (a_struct.Reference (here total s) name, behind (behind s)))

-- ---- enumerations

-- the token at the front stands too deep
unfoldable pub too_deep : ℕ → State → Fault
too_deep total s = TooNested (here total s)

abbrev pub with_declared : List ℕ → State → State
with_declared name s = record { names = declared s.names name false; rest = s.rest }

-- an enumerator, which is declared behind its value
unfoldable pub enumerator : ℕ → Inner → Reader (Enumerator Expr)
enumerator total inner s =
    expect_name total s
    >>= λ x. if sees_mark mark.Assign x.1.rest
    then (inner.expr extent.Cond (behind x.1)
    >>= λ y. Ok (record { name = x.0; value = Some y.0 }, with_declared x.0.text y.1))
    else Ok (record { name = x.0; value = None }, with_declared x.0.text x.1)

-- enumerators behind those before, so many at most, and the brace that closes them
unfoldable pub enumerators : ℕ → Inner → ℕ → List (Enumerator Expr) → Reader (List (Enumerator Expr))
enumerators total inner zero front s = Err (Unexpected (here total s))
enumerators total inner (suc count) front s =
    enumerator total inner s
    >>= λ x. if sees_mark mark.CloseBrace x.1.rest then Ok (front ++ x.0 ∷ [], behind x.1)
    else (expect_mark total mark.Comma x.1
    >>= λ s'. if sees_mark mark.CloseBrace s'.rest then Ok (front ++ x.0 ∷ [], behind s')
    else enumerators total inner count (front ++ x.0 ∷ []) s')

unfoldable pub enum_body : ℕ → ℕ → Inner → ℕ → Option Name → Reader (EnumSpec Expr)
enum_body total room inner token name s =
    expect_mark total mark.OpenBrace s
    >>= λ start. if nat_eq room 0 then Err (too_deep total start)
    else (enumerators total inner (length start.rest) [] start >>= λ x. Ok (an_enum.Body token name x.0, x.1))

unfoldable pub enum_spec : ℕ → ℕ → Inner → Reader (EnumSpec Expr)
enum_spec total room inner s =
    choose (name_at_front total (tail s.rest)) (enum_body total room inner (here total s) None (behind s))
    (λ name. if sees_mark mark.OpenBrace (tail (tail s.rest))
    then enum_body total room inner (here total s) (Some name) (behind (behind s))
    else Ok (an_enum.Reference (here total s) name, behind (behind s)))

-- ---- specifiers

-- what the next token says as a specifier
pub data Saying : Type 0 where
  SaysStorage : Storage → Saying
  SaysQualifier : Qualifier → Saying
  SaysWord : Typed → TypeWord → Saying
  SaysStruct : Saying
  SaysEnum : Saying
  SaysName : Name → Saying
  SaysNothing : Saying

abbrev pub saying_type : ℕ → Names → Typed → Token → List Token → Saying
saying_type total names typed t ts =
    if not (is_untyped typed) then SaysNothing
    else (if is_keyword keyword.Struct t.kind then SaysStruct
    else (if is_keyword keyword.Enum t.kind then SaysEnum
    else (if is_name t.kind && is_type_in names t.headers t.text then SaysName (name_at (number_of total (t ∷ ts)) t)
    else SaysNothing)))

abbrev pub saying_word : ℕ → Names → Typed → Token → List Token → Saying
saying_word total names typed t ts =
    choose (word_of t.kind) (saying_type total names typed t ts)
    (λ w. choose (taken_word w typed) SaysNothing (λ typed'. SaysWord typed' w))

abbrev pub saying_of : ℕ → Names → Typed → List Token → Saying
saying_of total names typed [] = SaysNothing
saying_of total names typed (t ∷ ts) =
    choose (storage_of t.kind)
    (choose (qualifier_of t.kind) (saying_word total names typed t ts) (λ q. SaysQualifier q))
    (λ s. SaysStorage s)

-- behind the last specifier
abbrev pub ended_specs : ℕ → ℕ → Typed → Bool → List Specifier → Reader ReadSpecs
ended_specs total token typed is_typedef ss s =
    if is_untyped typed then Err (Unexpected (here total s))
    else Ok (record { specs = record { token = token; specifiers = ss }; is_typedef = is_typedef }, s)

-- what goes on with specifiers
abbrev pub GoesOn : Type 0
GoesOn = Typed → Bool → List Specifier → Reader ReadSpecs

abbrev pub by_saying : ℕ → ℕ → Inner → ℕ → GoesOn → Saying → GoesOn
by_saying total room inner token on (SaysStorage w) typed is_typedef front s =
    on typed (is_typedef || declares_types w) (front ++ specifier.Storage w ∷ []) (behind s)
by_saying total room inner token on (SaysQualifier q) typed is_typedef front s =
    on typed is_typedef (front ++ specifier.Qualifier q ∷ []) (behind s)
by_saying total room inner token on (SaysWord typed' w) typed is_typedef front s =
    on typed' is_typedef (front ++ specifier.Word w ∷ []) (behind s)
by_saying total room inner token on SaysStruct typed is_typedef front s =
    struct_spec total inner s >>= λ x. on Whole is_typedef (front ++ specifier.Struct x.0 ∷ []) x.1
by_saying total room inner token on SaysEnum typed is_typedef front s =
    enum_spec total room inner s >>= λ x. on Whole is_typedef (front ++ specifier.Enum x.0 ∷ []) x.1
by_saying total room inner token on (SaysName name) typed is_typedef front s =
    on Whole is_typedef (front ++ specifier.TypedefName name ∷ []) (behind s)
by_saying total room inner token on SaysNothing typed is_typedef front s = ended_specs total token typed is_typedef front s

-- Specifiers behind those before, so many at most; the first of all has the number `token`.
unfoldable pub specifiers : ℕ → ℕ → Inner → ℕ → ℕ → GoesOn
specifiers total room inner token zero typed is_typedef front s = ended_specs total token typed is_typedef front s
specifiers total room inner token (suc count) typed is_typedef front s =
    by_saying total room inner token (specifiers total room inner token count) (saying_of total s.names typed s.rest) typed is_typedef front s

unfoldable pub specs : ℕ → ℕ → Inner → Reader ReadSpecs
specs total room inner s = specifiers total room inner (here total s) (length s.rest) Untyped false [] s

-- ---- declarators

abbrev pub qualifier_at : List Token → Option Qualifier
qualifier_at [] = None
qualifier_at (t ∷ ts) = qualifier_of t.kind

-- qualifiers behind those before
abbrev pub qualifiers : List Qualifier → List Token → List Qualifier × List Token
qualifiers front [] = (front, [])
qualifiers front (t ∷ ts) = choose (qualifier_of t.kind) (front, t ∷ ts) (λ q. qualifiers (front ++ q ∷ []) ts)

abbrev pub at_rest : State → List Token → State
at_rest s ts = record { names = s.names; rest = ts }

-- pointers with their qualifiers behind those before, so many at most
unfoldable pub pointers : ℕ → List (List Qualifier) → State → List (List Qualifier) × State
pointers zero front s = (front, s)
pointers (suc count) front s =
    if sees_mark mark.Star s.rest
    then (let x = qualifiers [] (tail s.rest) in pointers count (front ++ x.0 ∷ []) (at_rest s x.1))
    else (front, s)

-- `[ cond ]` or `[ ]`
unfoldable pub size : ℕ → Inner → Reader (Option Expr)
size total inner s =
    if sees_mark mark.CloseBracket (tail s.rest) then Ok (None, behind (behind s))
    else (inner.expr extent.Cond (behind s) >>= λ x. expect_mark total mark.CloseBracket x.1 >>= λ s'. Ok (Some x.0, s'))

-- the tree of a parameter, and its name declared
abbrev pub param_of : ReadSpecs → ReadParam × State → Param × State
param_of specs (Named d, s) = (param.Named specs.specs d.tree, with_declared d.name s)
param_of specs (Unnamed a, s) = (param.Unnamed specs.specs a, s)

unfoldable pub parameter : ℕ → Inner → Reader Param
parameter total inner s = inner.specs s >>= λ x. inner.param x.1 >>= λ y. Ok (param_of x.0 y)

-- parameters behind those before, so many at most, and the bracket that closes them
unfoldable pub parameters : ℕ → Inner → ℕ → List Param → Reader (List Param)
parameters total inner zero front s = Err (Unexpected (here total s))
parameters total inner (suc count) front s =
    parameter total inner s
    >>= λ x. if sees_mark mark.Comma x.1.rest then parameters total inner count (front ++ x.0 ∷ []) (behind x.1)
    else (expect_mark total mark.CloseParen x.1 >>= λ s'. Ok (front ++ x.0 ∷ [], s'))

-- the names that came to those before, and the names before again
abbrev pub added : Names → Names → Names
added before names = take (length names - length before) names

abbrev pub restored : Names → Names → Names
restored before names = drop (length names - length before) names

-- a suffix of a declarator, with what the function's parameters bring
abbrev pub Suffixed : Type 0
Suffixed = DirectSuffix × Own

-- behind `(`: the parameters are a scope
unfoldable pub function : ℕ → ℕ → Inner → Own → Reader Suffixed
function total room inner own s =
    if sees_mark mark.CloseParen (tail s.rest)
    then Ok ((suffix.Empty (here total s), settled own []), behind (behind s))
    else (if sees_keyword keyword.Void (tail s.rest) && sees_mark mark.CloseParen (tail (tail s.rest))
    then (if nat_eq room 0 then Err (too_deep total (behind s))
    else Ok ((suffix.Void (here total s), settled own []), behind (behind (behind s))))
    else (parameters total inner (length s.rest) [] (behind s)
    >>= λ x. Ok ((suffix.Params (here total s) x.0, settled own (added s.names x.1.names)), record { names = restored s.names x.1.names; rest = x.1.rest })))

-- suffixes behind those before, so many at most
unfoldable pub suffixes : ℕ → ℕ → Inner → ℕ → Own → List DirectSuffix → Reader (List DirectSuffix × Own)
suffixes total room inner zero own front s = Ok ((front, own), s)
suffixes total room inner (suc count) own front s =
    if sees_mark mark.OpenBracket s.rest
    then (size total inner s
    >>= λ x. suffixes total room inner count (settled own []) (front ++ suffix.Array (here total s) x.0 ∷ []) x.1)
    else (if sees_mark mark.OpenParen s.rest
    then (function total room inner own s >>= λ x. suffixes total room inner count x.0.1 (front ++ x.0.0 ∷ []) x.1)
    else Ok ((front, own), s))

unfoldable pub direct_at : ℕ → Inner → Reader ReadDirect
direct_at total inner s =
    if sees_mark mark.OpenParen s.rest
    then (inner.declarator (behind s)
    >>= λ x. expect_mark total mark.CloseParen x.1
    >>= λ s'. Ok (record { tree = direct.Nested (here total s) x.0.tree; name = x.0.name; own = x.0.own }, s'))
    else (expect_name total s
    >>= λ x. Ok (record { tree = direct.Name x.0; name = x.0.text; own = Open }, x.1))

-- behind the pointers of a declarator, whose first token has this number
unfoldable pub declarator_from : ℕ → ℕ → Inner → ℕ → List (List Qualifier) → Reader ReadDeclarator
declarator_from total room inner token ps s =
    direct_at total inner s
    >>= λ x. suffixes total room inner (length x.1.rest) x.0.own [] x.1
    >>= λ y. Ok (
      record {
        tree = roll-Declarator (record { token = token; pointers = ps; direct = x.0.tree; suffixes = y.0.0 });
        name = x.0.name;
        own = behind_pointers ps y.0.1;
      },
      y.1,
    )

unfoldable pub declarator : ℕ → ℕ → Inner → Reader ReadDeclarator
declarator total room inner s =
    let x = pointers (length s.rest) [] s in declarator_from total room inner (here total s) x.0 x.1

-- ---- declarators without a name

-- sizes of arrays behind those before, so many at most
unfoldable pub sizes : ℕ → Inner → ℕ → List (Option Expr) → Reader (List (Option Expr))
sizes total inner zero front s = Ok (front, s)
sizes total inner (suc count) front s =
    if sees_mark mark.OpenBracket s.rest
    then (size total inner s >>= λ x. sizes total inner count (front ++ x.0 ∷ []) x.1)
    else Ok (front, s)

abbrev pub unnamed_from : ℕ → Inner → ℕ → Reader (Abstract Expr)
unnamed_from total inner count s =
    sizes total inner (length s.rest) [] s >>= λ x. Ok (record { pointers = count; sizes = x.0 }, x.1)

-- stars alone
unfoldable pub stars : ℕ → List Token → ℕ × List Token
stars count [] = (count, [])
stars count (t ∷ ts) = if is_mark mark.Star t.kind then stars (suc count) ts else (count, t ∷ ts)

unfoldable pub unnamed : ℕ → Inner → Reader (Abstract Expr)
unnamed total inner s = let x = stars 0 s.rest in unnamed_from total inner x.0 (at_rest s x.1)

-- no qualifier stands behind a pointer
abbrev pub are_bare : List (List Qualifier) → Bool
are_bare [] = true
are_bare ([] ∷ ps) = are_bare ps
are_bare ((q ∷ qs) ∷ ps) = false

abbrev pub starts_direct : List Token → Bool
starts_direct [] = false
starts_direct (t ∷ ts) = is_name t.kind || is_mark mark.OpenParen t.kind

-- a declarator with a name or without one
unfoldable pub param_declarator : ℕ → ℕ → Inner → Reader ReadParam
param_declarator total room inner s =
    let x = pointers (length s.rest) [] s in
    if starts_direct x.1.rest
    then (declarator_from total room inner (here total s) x.0 x.1 >>= λ y. Ok (Named y.0, y.1))
    else (if are_bare x.0 then (unnamed_from total inner (length x.0) x.1 >>= λ y. Ok (Unnamed y.0, y.1))
    else Err (Unexpected (here total x.1)))
