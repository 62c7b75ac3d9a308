-- How an expression is read, by what reads one level further in.
use Rattle.std.specs.Prelude.{ℕ, zero, suc, ◌&&◌, ◌||◌, nat_eq, not, is_some, if◌then◌else◌, Bool, true, false, Option, Some, None, Ok, Err, List, [], ◌∷◌, ◌++◌, length}
use Rattle.c_lex.specs.declared.token.Token.{Token}
use Rattle.c_lex.specs.declared.token.TokenKind.{TokenKind}
use Rattle.c_lex.specs.declared.token.TokenKind.TheVariants as kind
use Rattle.c_lex.specs.declared.token.Keyword.TheVariants as keyword
use Rattle.c_lex.specs.declared.token.Mark.{Mark}
use Rattle.c_lex.specs.declared.token.Mark.TheVariants as mark
use Rattle.c_ast.specs.declared.words.BinaryOp.{BinaryOp}
use Rattle.c_ast.specs.declared.words.AssignOp.{AssignOp}
use Rattle.c_ast.specs.declared.words.PrefixOp.{PrefixOp}
use Rattle.c_ast.specs.declared.expression.Expr.{Expr}
use Rattle.c_ast.specs.declared.expression.Expr.TheVariants as expr
use Rattle.c_ast.specs.declared.expression.Link.{Link}
use Rattle.c_ast.specs.declared.expression.PostfixOp.{PostfixOp}
use Rattle.c_ast.specs.declared.expression.PostfixOp.TheVariants as after
use Rattle.c_ast.specs.declared.declaration.TypeName.{TypeName, roll-TypeName}
use Rattle.c_grammar.specs.declared.phrases.Extent.{Extent}
use Rattle.c_grammar.specs.declared.phrases.Extent.TheVariants as extent
use Rattle.c_grammar.specs.Names.{Names, is_type_in, name_at}
use Rattle.c_grammar.specs.Words.{number_of, number_type_of, storage_of, qualifier_of, word_of, prefix_of, operator_of, assign_of}
use Rattle.c_grammar.specs.Grammar.{postfixed, linked, listed}
use Rattle.c_grammar.specs.Reading.{State, Unexpected, TooNested, Outcome, Reader, ◌>>=◌, same_mark, same_keyword, is_keyword, is_name, sees_mark, sees_keyword, tail, behind, here, expect_mark, expect_name}
use Rattle.c_grammar.specs.Inner.{Inner}

-- ---- what a token may begin

-- a type name may begin with this token
abbrev pub starts_type : Names → Token → Bool
starts_type names t =
    is_some (storage_of t.kind) || (is_some (qualifier_of t.kind) || (is_some (word_of t.kind)
    || (is_keyword keyword.Struct t.kind || (is_keyword keyword.Enum t.kind
    || (is_name t.kind && is_type_in names t.headers t.text)))))

abbrev pub sees_type : Names → List Token → Bool
sees_type names [] = false
sees_type names (t ∷ ts) = starts_type names t

-- an expression may begin with this token, which is of this kind
abbrev pub kind_starts : Names → Token → TokenKind → Bool
kind_starts names t (kind.Mark m) = same_mark m mark.OpenParen || is_some (prefix_of (kind.Mark m))
kind_starts names t (kind.Keyword k) = same_keyword k keyword.Sizeof
kind_starts names t kind.Name = not (is_type_in names t.headers t.text)
kind_starts names t (kind.Number type) = true
kind_starts names t kind.Character = true
kind_starts names t kind.Text = true

abbrev pub sees_expr : Names → List Token → Bool
sees_expr names [] = false
sees_expr names (t ∷ ts) = kind_starts names t t.kind

-- a `(` and the begin of a type name
abbrev pub sees_type_in_parens : Names → List Token → Bool
sees_type_in_parens names ts = sees_mark mark.OpenParen ts && sees_type names (tail ts)

-- ---- primary expressions

abbrev pub token_expr : ℕ → Names → Token → TokenKind → Option Expr
token_expr number names t kind.Name =
    if is_type_in names t.headers t.text then None else Some (expr.Name (name_at number t))
token_expr number names t (kind.Number type) = Some (expr.Number number t.value (number_type_of type))
token_expr number names t kind.Character = Some (expr.Character number t.value)
token_expr number names t kind.Text = Some (expr.Text number t.text)
token_expr number names t (kind.Keyword k) = None
token_expr number names t (kind.Mark m) = None

-- the expression that the next token is by itself
abbrev pub front_expr : ℕ → Names → List Token → Option Expr
front_expr total names [] = None
front_expr total names (t ∷ ts) = token_expr (number_of total (t ∷ ts)) names t t.kind

-- the second where there is a value, and else the first
abbrev pub choose : {A B : Type 0} → Option A → B → (A → B) → B
choose None b f = b
choose (Some a) b f = f a

abbrev pub or_else : {A : Type 0} → ℕ → State → Option A → Outcome (A × State)
or_else total s (Some a) = Ok (a, behind s)
or_else total s None = Err (Unexpected (here total s))

unfoldable pub paren : ℕ → Inner → Reader Expr
paren total inner s =
    inner.expr extent.Comma (behind s)
    >>= λ x. expect_mark total mark.CloseParen x.1 >>= λ s'. Ok (expr.Paren (here total s) x.0, s')

unfoldable pub primary : ℕ → Inner → Reader Expr
primary total inner s =
    if sees_mark mark.OpenParen s.rest then paren total inner s else or_else total s (front_expr total s.names s.rest)

-- ---- postfix operators

unfoldable pub index : ℕ → Inner → Reader (PostfixOp Expr)
index total inner s =
    inner.expr extent.Comma (behind s)
    >>= λ x. expect_mark total mark.CloseBracket x.1 >>= λ s'. Ok (after.Index (here total s) x.0, s')

-- arguments with commas between them, so many at most, and the bracket that closes them
unfoldable pub arguments : ℕ → Inner → ℕ → List Expr → Reader (List Expr)
arguments total inner zero front s = Err (Unexpected (here total s))
arguments total inner (suc count) front s =
    inner.expr extent.Assign s
    >>= λ x. if sees_mark mark.Comma x.1.rest then arguments total inner count (front ++ x.0 ∷ []) (behind x.1)
    else (expect_mark total mark.CloseParen x.1 >>= λ s'. Ok (front ++ x.0 ∷ [], s'))

unfoldable pub call : ℕ → Inner → Reader (PostfixOp Expr)
call total inner s =
    if sees_mark mark.CloseParen (tail s.rest) then Ok (after.Call (here total s) [], behind (behind s))
    else (arguments total inner (length s.rest) [] (behind s) >>= λ x. Ok (after.Call (here total s) x.0, x.1))

unfoldable pub dot : ℕ → Reader (PostfixOp Expr)
dot total s = expect_name total (behind s) >>= λ x. Ok (after.Member (here total s) x.0, x.1)

unfoldable pub arrow : ℕ → Reader (PostfixOp Expr)
arrow total s = expect_name total (behind s) >>= λ x. Ok (after.Arrow (here total s) x.0, x.1)

-- what a postfix operator is read by
abbrev pub postfix_by : ℕ → Inner → Mark → Option (Reader (PostfixOp Expr))
postfix_by total inner mark.OpenBracket = Some (index total inner)
postfix_by total inner mark.OpenParen = Some (call total inner)
postfix_by total inner mark.Dot = Some (dot total)
postfix_by total inner mark.Arrow = Some (arrow total)
postfix_by total inner mark.PlusPlus = Some (λ s. Ok (after.Increment (here total s), behind s))
postfix_by total inner mark.MinusMinus = Some (λ s. Ok (after.Decrement (here total s), behind s))
postfix_by total inner _ = None

abbrev pub postfix_of : ℕ → Inner → TokenKind → Option (Reader (PostfixOp Expr))
postfix_of total inner (kind.Mark m) = postfix_by total inner m
postfix_of total inner (kind.Keyword k) = None
postfix_of total inner kind.Name = None
postfix_of total inner (kind.Number t) = None
postfix_of total inner kind.Character = None
postfix_of total inner kind.Text = None

abbrev pub postfix_at : ℕ → Inner → List Token → Option (Reader (PostfixOp Expr))
postfix_at total inner [] = None
postfix_at total inner (t ∷ ts) = postfix_of total inner t.kind

-- postfix operators behind those before, so many more at most
unfoldable pub postfixes : ℕ → Inner → ℕ → List (PostfixOp Expr) → Reader (List (PostfixOp Expr))
postfixes total inner zero front s =
    choose (postfix_at total inner s.rest) (Ok (front, s)) (λ read. Err (TooNested (here total s)))
postfixes total inner (suc spare) front s =
    choose (postfix_at total inner s.rest) (Ok (front, s))
    (λ read. read s >>= λ x. postfixes total inner spare (front ++ x.0 ∷ []) x.1)

-- one postfix operator, which has to come next
unfoldable pub one_postfix : ℕ → Inner → Reader (PostfixOp Expr)
one_postfix total inner s = choose (postfix_at total inner s.rest) (Err (Unexpected (here total s))) (λ read. read s)

unfoldable pub postfix : ℕ → ℕ → Inner → Reader Expr
postfix total most inner s =
    primary total inner s
    >>= λ x. postfixes total inner most [] x.1 >>= λ y. Ok (postfixed (here total s) x.0 y.0, y.1)

-- ---- prefix operators

abbrev pub prefix_at : List Token → Option PrefixOp
prefix_at [] = None
prefix_at (t ∷ ts) = prefix_of t.kind

unfoldable pub prefixed : ℕ → Inner → PrefixOp → Reader Expr
prefixed total inner op s =
    inner.expr extent.Unary (behind s) >>= λ x. Ok (expr.Prefix (here total s) op x.0, x.1)

unfoldable pub sizeof : ℕ → Inner → Reader Expr
sizeof total inner s =
    if sees_type_in_parens s.names (tail s.rest)
    then (inner.type_in_parens (behind s) >>= λ x. Ok (expr.SizeofType (here total s) x.0, x.1))
    else (inner.expr extent.Unary (behind s) >>= λ x. Ok (expr.SizeofExpr (here total s) x.0, x.1))

-- `( typename )`
unfoldable pub type_in_parens : ℕ → Inner → Reader TypeName
type_in_parens total inner s =
    expect_mark total mark.OpenParen s
    >>= λ start. inner.specs start
    >>= λ x. inner.unnamed x.1
    >>= λ y. expect_mark total mark.CloseParen y.1
    >>= λ s'. Ok (roll-TypeName (record { specs = x.0.specs; declarator = y.0 }), s')

unfoldable pub cast : ℕ → Inner → Reader Expr
cast total inner s =
    type_in_parens total inner s
    >>= λ x. inner.expr extent.Unary x.1 >>= λ y. Ok (expr.Cast (here total s) x.0 y.0, y.1)

unfoldable pub unary : ℕ → ℕ → Inner → Reader Expr
unary total most inner s =
    choose (prefix_at s.rest)
    (if sees_keyword keyword.Sizeof s.rest then sizeof total inner s
    else (if sees_type_in_parens s.names s.rest then cast total inner s else postfix total most inner s))
    (λ op. prefixed total inner op s)

-- ---- operators between operands

abbrev pub operator_at : List Token → Option (ℕ × BinaryOp)
operator_at [] = None
operator_at (t ∷ ts) = operator_of t.kind

-- the operator that comes next, where it is of this level
abbrev pub of_level : ℕ → ℕ × BinaryOp → Option BinaryOp
of_level level place = if nat_eq place.0 level then Some place.1 else None

abbrev pub operator_in : ℕ → List Token → Option BinaryOp
operator_in level ts = choose (operator_at ts) None (of_level level)

-- operators of this level with their right operands behind those before, so many more at most
unfoldable pub links : ℕ → Reader Expr → ℕ → ℕ → List (Link Expr) → Reader (List (Link Expr))
links total next level zero front s =
    choose (operator_in level s.rest) (Ok (front, s)) (λ op. Err (TooNested (here total s)))
links total next level (suc spare) front s =
    choose (operator_in level s.rest) (Ok (front, s))
    (λ op. next (behind s)
    >>= λ x. links total next level spare (front ++ record { at = here total s; op = op; right = x.0 } ∷ []) x.1)

-- what goes on with a first operand, whose first token has this number, of this level and those below it
unfoldable pub level_from : ℕ → ℕ → Reader Expr → ℕ → ℕ → Expr → Reader Expr
level_from total most unary zero token first s = Ok (first, s)
level_from total most unary (suc level) token first s =
    level_from total most unary level token first s
    >>= λ x. links total (λ t. unary t >>= λ y. level_from total most unary level (here total t) y.0 y.1) (suc level) most [] x.1
    >>= λ z. Ok (linked token x.0 z.0, z.1)

-- an operand of a level
abbrev pub level_with : ℕ → ℕ → Reader Expr → ℕ → Reader Expr
level_with total most unary level s = unary s >>= λ y. level_from total most unary level (here total s) y.0 y.1

-- ---- conditions, assignments and commas

-- behind a test, at its `?`
abbrev pub conditional : ℕ → Inner → ℕ → Expr → Reader Expr
conditional total inner token test s =
    inner.expr extent.Comma (behind s)
    >>= λ y. expect_mark total mark.Colon y.1
    >>= λ s'. inner.expr extent.Cond s'
    >>= λ z. Ok (expr.Conditional token test (here total s) y.0 z.0, z.1)

unfoldable pub cond_from : ℕ → ℕ → Inner → ℕ → Expr → Reader Expr
cond_from total most inner token first s =
    level_from total most (unary total most inner) 10 token first s
    >>= λ x. if sees_mark mark.Question x.1.rest
    then (inner.expr extent.Comma (behind x.1)
    >>= λ y. expect_mark total mark.Colon y.1
    >>= λ s'. inner.expr extent.Cond s'
    >>= λ z. Ok (expr.Conditional token x.0 (here total x.1) y.0 z.0, z.1))
    else Ok x

unfoldable pub cond : ℕ → ℕ → Inner → Reader Expr
cond total most inner s = unary total most inner s >>= λ x. cond_from total most inner (here total s) x.0 x.1

abbrev pub assign_at : List Token → Option AssignOp
assign_at [] = None
assign_at (t ∷ ts) = assign_of t.kind

unfoldable pub assign : ℕ → ℕ → Inner → Reader Expr
assign total most inner s =
    unary total most inner s
    >>= λ x. choose (assign_at x.1.rest) (cond_from total most inner (here total s) x.0 x.1)
    (λ op. inner.expr extent.Assign (behind x.1)
    >>= λ y. Ok (expr.Assign (here total s) x.0 (here total x.1) op y.0, y.1))

-- more expressions behind commas, behind those before, so many more at most
unfoldable pub others : ℕ → Reader Expr → ℕ → List Expr → Reader (List Expr)
others total next zero front s =
    if sees_mark mark.Comma s.rest then Err (TooNested (here total s)) else Ok (front, s)
others total next (suc spare) front s =
    if sees_mark mark.Comma s.rest then (next (behind s) >>= λ x. others total next spare (front ++ x.0 ∷ []) x.1)
    else Ok (front, s)

unfoldable pub comma : ℕ → ℕ → Inner → Reader Expr
comma total most inner s =
    assign total most inner s
    >>= λ x. others total (assign total most inner) most [] x.1 >>= λ y. Ok (listed (here total s) x.0 y.0, y.1)

unfoldable pub expr_of : ℕ → ℕ → Inner → Extent → Reader Expr
expr_of total most inner extent.Unary = unary total most inner
expr_of total most inner extent.Cond = cond total most inner
expr_of total most inner extent.Assign = assign total most inner
expr_of total most inner extent.Comma = comma total most inner
