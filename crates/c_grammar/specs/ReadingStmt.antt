-- How initialisers, declarations, statements and units are read.
use Rattle.std.specs.Prelude.{ℕ, zero, suc, ◌-◌, ◌&&◌, ◌||◌, nat_eq, not, if◌then◌else◌, Bool, true, false, Option, Some, None, Ok, Err, List, [], ◌∷◌, ◌++◌, length, drop}
use Rattle.c_lex.specs.declared.token.Token.{Token}
use Rattle.c_lex.specs.declared.token.TokenKind.{TokenKind}
use Rattle.c_lex.specs.declared.token.TokenKind.TheVariants as kind
use Rattle.c_lex.specs.declared.token.Keyword.{Keyword}
use Rattle.c_lex.specs.declared.token.Keyword.TheVariants as keyword
use Rattle.c_lex.specs.declared.token.Mark.{Mark}
use Rattle.c_lex.specs.declared.token.Mark.TheVariants as mark
use Rattle.c_ast.specs.declared.expression.Expr.{Expr}
use Rattle.c_ast.specs.declared.declaration.Init.{Init}
use Rattle.c_ast.specs.declared.declaration.Init.TheVariants as an_init
use Rattle.c_ast.specs.declared.declaration.InitDeclarator.{InitDeclarator}
use Rattle.c_ast.specs.declared.declaration.Decl.{Decl}
use Rattle.c_ast.specs.declared.declaration.External.{External}
use Rattle.c_ast.specs.declared.declaration.External.TheVariants as an_external
use Rattle.c_ast.specs.declared.declaration.Unit.{Unit as AUnit}
use Rattle.c_ast.specs.declared.statement.Stmt.{Stmt}
use Rattle.c_ast.specs.declared.statement.Stmt.TheVariants as stmt
use Rattle.c_ast.specs.declared.statement.ForStart.{ForStart}
use Rattle.c_ast.specs.declared.statement.ForStart.TheVariants as start
use Rattle.c_ast.specs.declared.statement.BlockItem.{BlockItem}
use Rattle.c_ast.specs.declared.statement.BlockItem.TheVariants as an_item
use Rattle.c_grammar.specs.declared.phrases.Extent.TheVariants as extent
use Rattle.c_grammar.specs.declared.phrases.ReadSpecs.{ReadSpecs}
use Rattle.c_grammar.specs.declared.phrases.ReadDeclarator.{ReadDeclarator}
use Rattle.c_grammar.specs.declared.phrases.Head.{Head}
use Rattle.c_grammar.specs.Names.{Names, declared, nothing}
use Rattle.c_grammar.specs.Owns.{own_names}
use Rattle.c_grammar.specs.Reading.{State, Fault, Unexpected, Outcome, Reader, ◌>>=◌, sees_mark, sees_keyword, tail, behind, here, expect_mark, expect_keyword}
use Rattle.c_grammar.specs.ReadingExpr.{sees_type, sees_expr}
use Rattle.c_grammar.specs.ReadingDecl.{too_deep}
use Rattle.c_grammar.specs.Levels.{readers}

-- ---- scopes

-- the state where only the first names, so many, are left
unfoldable pub left_to : ℕ → State → State
left_to len s = record { names = drop (length s.names - len) s.names; rest = s.rest }

-- the state where only so many names are left as before
abbrev pub left : Names → State → State
left before s = left_to (length before) s

abbrev pub declaring : List ℕ → Bool → State → State
declaring name is_type s = record { names = declared s.names name is_type; rest = s.rest }

-- ---- initialisers

-- a comma, and no brace that closes the list behind it
abbrev pub inits_go_on : List Token → Bool
inits_go_on ts = sees_mark mark.Comma ts && not (sees_mark mark.CloseBrace (tail ts))

-- behind a comma, where one comes next
abbrev pub behind_comma : State → State
behind_comma s = if sees_mark mark.Comma s.rest then behind s else s

unfoldable pub inits_end : ℕ → List Init → Reader (List Init)
inits_end total front s = expect_mark total mark.CloseBrace (behind_comma s) >>= λ s'. Ok (front, s')

-- more initialisers behind those before, so many at most, and the brace that closes the list
unfoldable pub more_inits : ℕ → Reader Init → ℕ → List Init → Reader (List Init)
more_inits total read zero front s = Err (Unexpected (here total s))
more_inits total read (suc count) front s =
    if inits_go_on s.rest then (read (behind s) >>= λ x. more_inits total read count (front ++ x.0 ∷ []) x.1)
    else inits_end total front s

-- behind the brace that opens the list
unfoldable pub inits : ℕ → Reader Init → Reader (List Init)
inits total read s = read s >>= λ x. more_inits total read (length x.1.rest) (x.0 ∷ []) x.1

unfoldable pub init : ℕ → ℕ → ℕ → Reader Init
init total most zero s = Err (too_deep total s)
init total most (suc room) s =
    if sees_mark mark.OpenBrace s.rest
    then (inits total (init total most room) (behind s) >>= λ x. Ok (an_init.List (here total s) x.0, x.1))
    else ((readers total most (suc room)).expr extent.Assign s >>= λ x. Ok (an_init.Value x.0, x.1))

-- ---- declarations

-- behind a declarator: its name is declared, and then comes its initialiser, if there is one
unfoldable pub initialised : ℕ → ℕ → ℕ → Bool → ReadDeclarator → Reader InitDeclarator
initialised total most room is_typedef d s =
    if sees_mark mark.Assign s.rest
    then (init total most room (behind (declaring d.name is_typedef s)) >>= λ x. Ok (record { declarator = d.tree; init = Some x.0 }, x.1))
    else Ok (record { declarator = d.tree; init = None }, declaring d.name is_typedef s)

unfoldable pub init_declarator : ℕ → ℕ → ℕ → Bool → Reader InitDeclarator
init_declarator total most room is_typedef s =
    (readers total most room).declarator s >>= λ x. initialised total most room is_typedef x.0 x.1

-- more declarators, each behind a comma, behind those before, so many at most, and the semicolon
unfoldable pub more_declared : ℕ → ℕ → ℕ → Bool → ℕ → List InitDeclarator → Reader (List InitDeclarator)
more_declared total most room is_typedef zero front s = Err (Unexpected (here total s))
more_declared total most room is_typedef (suc count) front s =
    if sees_mark mark.Comma s.rest
    then (init_declarator total most room is_typedef (behind s)
    >>= λ x. more_declared total most room is_typedef count (front ++ x.0 ∷ []) x.1)
    else (expect_mark total mark.Semicolon s >>= λ s'. Ok (front, s'))

-- behind the first declarator
unfoldable pub all_declared : ℕ → ℕ → ℕ → Bool → ReadDeclarator → Reader (List InitDeclarator)
all_declared total most room is_typedef d s =
    initialised total most room is_typedef d s
    >>= λ x. more_declared total most room is_typedef (length x.1.rest) (x.0 ∷ []) x.1

-- behind the specifiers, of which the first has this number
unfoldable pub decl_from : ℕ → ℕ → ℕ → ℕ → ReadSpecs → ReadDeclarator → Reader Decl
decl_from total most room token ss d s =
    all_declared total most room ss.is_typedef d s
    >>= λ x. Ok (record { token = token; specs = ss.specs; declared = x.0 }, x.1)

unfoldable pub decl_behind : ℕ → ℕ → ℕ → ℕ → ReadSpecs → Reader Decl
decl_behind total most room token ss s =
    if sees_mark mark.Semicolon s.rest then Ok (record { token = token; specs = ss.specs; declared = [] }, behind s)
    else ((readers total most room).declarator s >>= λ x. decl_from total most room token ss x.0 x.1)

unfoldable pub decl : ℕ → ℕ → ℕ → Reader Decl
decl total most room s = (readers total most room).specs s >>= λ x. decl_behind total most room (here total s) x.0 x.1

-- ---- statements

-- `[ expr ]`, and this punctuator
unfoldable pub optional : ℕ → ℕ → ℕ → Mark → Reader (Option Expr)
optional total most room m s =
    if sees_mark m s.rest then Ok (None, behind s)
    else ((readers total most room).expr extent.Comma s >>= λ x. expect_mark total m x.1 >>= λ s'. Ok (Some x.0, s'))

-- `( expr )`, by the room inside
unfoldable pub bracketed : ℕ → ℕ → ℕ → Reader Expr
bracketed total most room s =
    expect_mark total mark.OpenParen s
    >>= λ start. (readers total most room).expr extent.Comma start
    >>= λ x. expect_mark total mark.CloseParen x.1 >>= λ s'. Ok (x.0, s')

unfoldable pub for_start : ℕ → ℕ → ℕ → Reader ForStart
for_start total most room s =
    if sees_type s.names s.rest then (decl total most room s >>= λ x. Ok (start.Declaration x.0, x.1))
    else (optional total most room mark.Semicolon s >>= λ x. Ok (start.Expression x.0, x.1))

-- what stands in the parentheses of a `for`, and the one that closes them
unfoldable pub for_head : ℕ → ℕ → ℕ → Reader Head
for_head total most room s =
    if nat_eq room 0 then Err (too_deep total s)
    else (for_start total most room s
    >>= λ x. optional total most room mark.Semicolon x.1
    >>= λ y. optional total most room mark.CloseParen y.1
    >>= λ z. Ok (record { start = x.0; test = y.0; step = z.0 }, z.1))

-- the statement behind `if`, by the number of that, and with the room inside of the brackets
unfoldable pub if_with : ℕ → ℕ → Reader Stmt → ℕ → ℕ → Reader Stmt
if_with total most inner room token s =
    bracketed total most room s
    >>= λ x. inner x.1
    >>= λ y. if sees_keyword keyword.Else y.1.rest
    then (inner (behind (left x.1.names y.1)) >>= λ z. Ok (stmt.If token x.0 y.0 (Some z.0), left s.names z.1))
    else Ok (stmt.If token x.0 y.0 None, left s.names y.1)

unfoldable pub while_with : ℕ → ℕ → Reader Stmt → ℕ → ℕ → Reader Stmt
while_with total most inner room token s =
    bracketed total most room s >>= λ x. inner x.1 >>= λ y. Ok (stmt.While token x.0 y.0, left s.names y.1)

unfoldable pub switch_with : ℕ → ℕ → Reader Stmt → ℕ → ℕ → Reader Stmt
switch_with total most inner room token s =
    bracketed total most room s >>= λ x. inner x.1 >>= λ y. Ok (stmt.Switch token x.0 y.0, left s.names y.1)

unfoldable pub do_with : ℕ → ℕ → Reader Stmt → ℕ → ℕ → Reader Stmt
do_with total most inner room token s =
    inner s
    >>= λ x. expect_keyword total keyword.While (left s.names x.1)
    >>= λ s'. bracketed total most room s'
    >>= λ y. expect_mark total mark.Semicolon y.1 >>= λ s''. Ok (stmt.Do token x.0 y.0, left s.names s'')

unfoldable pub for_with : ℕ → ℕ → Reader Stmt → ℕ → ℕ → Reader Stmt
for_with total most inner room token s =
    expect_mark total mark.OpenParen s
    >>= λ s'. for_head total most room s'
    >>= λ x. inner x.1 >>= λ y. Ok (stmt.For token x.0.start x.0.test x.0.step y.0, left s.names y.1)

-- these by the room at the keyword itself
unfoldable pub case_with : ℕ → ℕ → Reader Stmt → ℕ → ℕ → Reader Stmt
case_with total most inner room token s =
    (readers total most room).expr extent.Cond s
    >>= λ x. expect_mark total mark.Colon x.1 >>= λ s'. inner s' >>= λ y. Ok (stmt.Case token x.0 y.0, y.1)

unfoldable pub default_with : ℕ → Reader Stmt → ℕ → Reader Stmt
default_with total inner token s =
    expect_mark total mark.Colon s >>= λ s'. inner s' >>= λ y. Ok (stmt.Default token y.0, y.1)

-- a statement that is `token` and a semicolon
unfoldable pub word_alone : ℕ → Stmt → Reader Stmt
word_alone total a s = expect_mark total mark.Semicolon s >>= λ s'. Ok (a, s')

unfoldable pub return_with : ℕ → ℕ → ℕ → ℕ → Reader Stmt
return_with total most room token s = optional total most room mark.Semicolon s >>= λ x. Ok (stmt.Return token x.0, x.1)

unfoldable pub express_with : ℕ → ℕ → ℕ → Reader Stmt
express_with total most room s =
    optional total most room mark.Semicolon s >>= λ x. Ok (stmt.Express (here total s) x.0, x.1)

abbrev pub keyword_of : TokenKind → Option Keyword
keyword_of (kind.Keyword k) = Some k
keyword_of (kind.Mark m) = None
keyword_of kind.Name = None
keyword_of (kind.Number t) = None
keyword_of kind.Character = None
keyword_of kind.Text = None

abbrev pub keyword_at : List Token → Option Keyword
keyword_at [] = None
keyword_at (t ∷ ts) = keyword_of t.kind

-- a statement that is no block, by the keyword that comes first
abbrev pub by_keyword : ℕ → ℕ → Reader Stmt → ℕ → Option Keyword → Reader Stmt
by_keyword total most inner room (Some keyword.If) s = if_with total most inner (room - 1) (here total s) (behind s)
by_keyword total most inner room (Some keyword.While) s = while_with total most inner (room - 1) (here total s) (behind s)
by_keyword total most inner room (Some keyword.Do) s = do_with total most inner (room - 1) (here total s) (behind s)
by_keyword total most inner room (Some keyword.For) s = for_with total most inner (room - 1) (here total s) (behind s)
by_keyword total most inner room (Some keyword.Switch) s = switch_with total most inner (room - 1) (here total s) (behind s)
by_keyword total most inner room (Some keyword.Case) s = case_with total most inner room (here total s) (behind s)
by_keyword total most inner room (Some keyword.Default) s = default_with total inner (here total s) (behind s)
by_keyword total most inner room (Some keyword.Break) s = word_alone total (stmt.Break (here total s)) (behind s)
by_keyword total most inner room (Some keyword.Continue) s = word_alone total (stmt.Continue (here total s)) (behind s)
by_keyword total most inner room (Some keyword.Return) s = return_with total most room (here total s) (behind s)
by_keyword total most inner room _ s = express_with total most room s

-- a statement that is no block begins with this keyword
abbrev pub starts_simple : Option Keyword → Bool
starts_simple (Some keyword.If) = true
starts_simple (Some keyword.While) = true
starts_simple (Some keyword.Do) = true
starts_simple (Some keyword.For) = true
starts_simple (Some keyword.Switch) = true
starts_simple (Some keyword.Case) = true
starts_simple (Some keyword.Default) = true
starts_simple (Some keyword.Break) = true
starts_simple (Some keyword.Continue) = true
starts_simple (Some keyword.Return) = true
starts_simple _ = false

-- a statement that is no block may begin here
abbrev pub sees_simple : Names → List Token → Bool
sees_simple names ts = starts_simple (keyword_at ts) || (sees_mark mark.Semicolon ts || sees_expr names ts)

-- where a block has room, and no other statement: what begins none isn't expected
unfoldable pub cramped : ℕ → State → Fault
cramped total s = if sees_simple s.names s.rest then too_deep total s else Unexpected (here total s)

unfoldable pub simple : ℕ → ℕ → Reader Stmt → ℕ → Reader Stmt
simple total most inner room s =
    if nat_eq room 0 then Err (cramped total s) else by_keyword total most inner room (keyword_at s.rest) s

-- a declaration or a statement
unfoldable pub item : ℕ → ℕ → Reader Stmt → ℕ → Reader (BlockItem Stmt)
item total most inner room s =
    if sees_type s.names s.rest then (decl total most room s >>= λ x. Ok (an_item.Declaration x.0, x.1))
    else (inner s >>= λ x. Ok (an_item.Statement x.0, x.1))

-- What stands in a block behind what stands before, so many at most, and the brace that closes it. At the end of the tokens nothing is
-- read, but where there is no room it is nested too deeply.
unfoldable pub items : ℕ → ℕ → Reader Stmt → ℕ → ℕ → List (BlockItem Stmt) → Reader (List (BlockItem Stmt))
items total most inner room zero front s = item total most inner room s >>= λ x. Err (Unexpected (here total x.1))
items total most inner room (suc count) front s =
    if sees_mark mark.CloseBrace s.rest then Ok (front, behind s)
    else (item total most inner room s >>= λ x. items total most inner room count (front ++ x.0 ∷ []) x.1)

unfoldable pub block_with : ℕ → ℕ → Reader Stmt → ℕ → Reader Stmt
block_with total most inner room s =
    items total most inner room (length (tail s.rest)) [] (behind s)
    >>= λ x. Ok (stmt.Block (here total s) x.0, left s.names x.1)

unfoldable pub statement : ℕ → ℕ → ℕ → Reader Stmt
statement total most zero s = Err (too_deep total s)
statement total most (suc room) s =
    if sees_mark mark.OpenBrace s.rest then block_with total most (statement total most room) room s
    else simple total most (statement total most room) room s

-- ---- units

-- the body of a function behind its declarator, with the room inside of its brackets
unfoldable pub function : ℕ → ℕ → ℕ → ℕ → ReadSpecs → ReadDeclarator → Reader External
function total most room token ss d s =
    let outer = declared s.names d.name ss.is_typedef in
    items total most (statement total most room) room (length (tail s.rest)) [] (record { names = own_names d.own ++ outer; rest = tail s.rest })
    >>= λ x. Ok (an_external.Function token ss.specs d.tree x.0, left outer x.1)

-- a declaration outside all functions, by the room inside of brackets
unfoldable pub external_behind : ℕ → ℕ → ℕ → ℕ → ReadSpecs → Reader External
external_behind total most room token ss s =
    if sees_mark mark.Semicolon s.rest
    then Ok (an_external.Declaration (record { token = token; specs = ss.specs; declared = [] }), behind s)
    else ((readers total most (suc room)).declarator s
    >>= λ x. if sees_mark mark.OpenBrace x.1.rest then function total most room token ss x.0 x.1
    else (decl_from total most (suc room) token ss x.0 x.1 >>= λ y. Ok (an_external.Declaration y.0, y.1)))

unfoldable pub external : ℕ → ℕ → ℕ → Reader External
external total most room s =
    (readers total most (suc room)).specs s >>= λ x. external_behind total most room (here total s) x.0 x.1

abbrev pub is_end : List Token → Bool
is_end [] = true
is_end (t ∷ ts) = false

-- all to the end, behind what stands before, so many at most
unfoldable pub externals : ℕ → ℕ → ℕ → ℕ → List External → State → Outcome (List External)
externals total most room zero front s = if is_end s.rest then Ok front else Err (Unexpected (here total s))
externals total most room (suc count) front s =
    if is_end s.rest then Ok front
    else (external total most room s >>= λ x. externals total most room count (front ++ x.0 ∷ []) x.1)

unfoldable pub unit : ℕ → ℕ → List Token → Outcome AUnit
unit most room ts =
    externals (length ts) most room (length ts) [] (record { names = nothing; rest = ts }) >>= λ es. Ok (record { externals = es })
