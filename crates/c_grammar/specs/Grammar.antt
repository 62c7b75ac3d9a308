-- The grammar (C11, 6.5 to 6.9, cut to this profile). Each family has one case for each alternative of its production. It says of
-- whole lists of tokens what stands there: `ts` begins with the tokens of one such part, by its tree, and then comes `rest`.
--
-- `names` are the names in scope before the part, and the names behind `rest` those in scope after it. `room` is one more than the
-- nesting that may be added at the place: a token stands only where it is a successor. The nesting of a token is the number of `(`, `[`
-- and `{` that are open around it, with one for each statement around it that is no block, each prefix operator, and each `?` or
-- assignment operator on whose right it stands. `most` is the number of operators that a chain may have: one run of binary, comma or
-- postfix operators at one level. `total` is the number of all tokens; a tree's nodes have the numbers of their first tokens.
use Rattle.std.specs.Prelude.{ℕ, suc, ◌≡◌, ◌≤◌, ◌⊎◌, ◌||◌, Bool, true, false, Option, Some, None, List, [], ◌∷◌, ◌++◌, length}
use Rattle.c_lex.specs.declared.token.Token.{Token}
use Rattle.c_lex.specs.declared.token.TokenKind.TheVariants as kind
use Rattle.c_lex.specs.declared.token.NumberType.{NumberType as TokenType}
use Rattle.c_lex.specs.declared.token.Keyword.TheVariants as keyword
use Rattle.c_lex.specs.declared.token.Mark.TheVariants as mark
use Rattle.c_ast.specs.declared.words.Storage.{Storage}
use Rattle.c_ast.specs.declared.words.Qualifier.{Qualifier}
use Rattle.c_ast.specs.declared.words.TypeWord.{TypeWord}
use Rattle.c_ast.specs.declared.words.PrefixOp.{PrefixOp}
use Rattle.c_ast.specs.declared.words.BinaryOp.{BinaryOp}
use Rattle.c_ast.specs.declared.words.AssignOp.{AssignOp}
use Rattle.c_ast.specs.declared.expression.Expr.{Expr}
use Rattle.c_ast.specs.declared.expression.Expr.TheVariants as expr
use Rattle.c_ast.specs.declared.expression.Link.{Link}
use Rattle.c_ast.specs.declared.expression.PostfixOp.{PostfixOp}
use Rattle.c_ast.specs.declared.expression.PostfixOp.TheVariants as behind
use Rattle.c_ast.specs.declared.declaration.Specifier.{Specifier}
use Rattle.c_ast.specs.declared.declaration.Specifier.TheVariants as specifier
use Rattle.c_ast.specs.declared.declaration.Specs.{Specs}
use Rattle.c_ast.specs.declared.declaration.StructSpec.{StructSpec}
use Rattle.c_ast.specs.declared.declaration.StructSpec.TheVariants as a_struct
use Rattle.c_ast.specs.declared.declaration.Member.{Member, roll-Member}
use Rattle.c_ast.specs.declared.declaration.EnumSpec.{EnumSpec}
use Rattle.c_ast.specs.declared.declaration.EnumSpec.TheVariants as an_enum
use Rattle.c_ast.specs.declared.declaration.Enumerator.{Enumerator}
use Rattle.c_ast.specs.declared.declaration.Declarator.{Declarator, roll-Declarator}
use Rattle.c_ast.specs.declared.declaration.Direct.{Direct}
use Rattle.c_ast.specs.declared.declaration.Direct.TheVariants as direct
use Rattle.c_ast.specs.declared.declaration.DirectSuffix.{DirectSuffix}
use Rattle.c_ast.specs.declared.declaration.DirectSuffix.TheVariants as suffix
use Rattle.c_ast.specs.declared.declaration.Param.{Param}
use Rattle.c_ast.specs.declared.declaration.Param.TheVariants as param
use Rattle.c_ast.specs.declared.declaration.Abstract.{Abstract}
use Rattle.c_ast.specs.declared.declaration.TypeName.{TypeName, roll-TypeName}
use Rattle.c_ast.specs.declared.declaration.Init.{Init}
use Rattle.c_ast.specs.declared.declaration.Init.TheVariants as init
use Rattle.c_ast.specs.declared.declaration.InitDeclarator.{InitDeclarator}
use Rattle.c_ast.specs.declared.declaration.Decl.{Decl}
use Rattle.c_ast.specs.declared.declaration.External.{External}
use Rattle.c_ast.specs.declared.declaration.External.TheVariants as external
use Rattle.c_ast.specs.declared.declaration.Unit.{Unit as AUnit}
use Rattle.c_ast.specs.declared.statement.Stmt.{Stmt}
use Rattle.c_ast.specs.declared.statement.Stmt.TheVariants as stmt
use Rattle.c_ast.specs.declared.statement.ForStart.{ForStart}
use Rattle.c_ast.specs.declared.statement.ForStart.TheVariants as start
use Rattle.c_ast.specs.declared.statement.BlockItem.{BlockItem}
use Rattle.c_ast.specs.declared.statement.BlockItem.TheVariants as item
use Rattle.c_grammar.specs.Names.{Names, IsTypeName, IsOrdinary, declared, nothing, name_at}
use Rattle.c_grammar.specs.Owns.{Own, Open, settled, own_names}
use Rattle.c_grammar.specs.Words.{IsMark, IsKeyword, number_of, number_type_of, storage_of, qualifier_of, word_of, prefix_of, placed, operator_of, assign_of}
use Rattle.c_grammar.specs.Types.{Typed, Untyped, Whole, with_word, IsOneType, declares_types}

-- ---- trees of repeated parts

-- operators behind a primary expression, if there are any
abbrev pub postfixed : ℕ → Expr → List (PostfixOp Expr) → Expr
postfixed token e [] = e
postfixed token e (o ∷ os) = expr.Postfix token e (o ∷ os)

-- operators of one level, if there are any
abbrev pub linked : ℕ → Expr → List (Link Expr) → Expr
linked token e [] = e
linked token e (l ∷ ls) = expr.Binary token e (l ∷ ls)

-- more expressions behind commas, if there are any
abbrev pub listed : ℕ → Expr → List Expr → Expr
listed token e [] = e
listed token e (x ∷ xs) = expr.Comma token e (x ∷ xs)

-- a pointer is applied where one stands
abbrev pub behind_pointers : List (List Qualifier) → Own → Own
behind_pointers [] own = own
behind_pointers (p ∷ ps) own = settled own []

-- a type name may begin with this token
abbrev pub StartsType : Names → Token → Type 0
StartsType names t =
    ((s : Storage) × (storage_of t.kind ≡ Some s)) ⊎ (((q : Qualifier) × (qualifier_of t.kind ≡ Some q))
    ⊎ (((w : TypeWord) × (word_of t.kind ≡ Some w)) ⊎ (IsKeyword keyword.Struct t ⊎ (IsKeyword keyword.Enum t ⊎ IsTypeName names t))))

-- a `(` and the begin of a type name
abbrev pub StartsTypeInParens : Names → List Token → Type 0
StartsTypeInParens names [] = ⊥
StartsTypeInParens names (o ∷ []) = ⊥
StartsTypeInParens names (o ∷ t ∷ ts) = IsMark mark.OpenParen o × StartsType names t

-- `void` and `)`
abbrev pub IsVoidAlone : List Token → Type 0
IsVoidAlone [] = ⊥
IsVoidAlone (v ∷ []) = ⊥
IsVoidAlone (v ∷ c ∷ ts) = IsKeyword keyword.Void v × IsMark mark.CloseParen c

-- ---- pointers

pub data AreQualifiers : ℕ → List Token → List Token → List Qualifier → Type 0 where
  no_qualifiers : {room : ℕ} {rest : List Token} → AreQualifiers room rest rest []
  more_qualifiers : {room : ℕ} {t : Token} {ts rest : List Token} {qs : List Qualifier} (q : Qualifier)
      → qualifier_of t.kind ≡ Some q → AreQualifiers (suc room) ts rest qs → AreQualifiers (suc room) (t ∷ ts) rest (q ∷ qs)

-- pointers, each with its qualifiers
pub data ArePointers : ℕ → List Token → List Token → List (List Qualifier) → Type 0 where
  no_pointers : {room : ℕ} {rest : List Token} → ArePointers room rest rest []
  more_pointers : {room : ℕ} {t : Token} {ts mid rest : List Token} {qs : List Qualifier} {ps : List (List Qualifier)}
      → IsMark mark.Star t → AreQualifiers (suc room) ts mid qs → ArePointers (suc room) mid rest ps
      → ArePointers (suc room) (t ∷ ts) rest (qs ∷ ps)

-- ---- expressions and declarations

-- The parts of expressions: primary ones, with postfix operators, with prefix operators, of one of the ten levels and those
-- below it, with `?:`, with assignments, and with commas.
pub data Part : Type 0 where
  Primary : Part
  Postfix : Part
  Unary : Part
  Level : ℕ → Part
  Cond : Part
  Assign : Part
  Comma : Part

mutual
  pub data IsExpr (total most : ℕ) : Part → ℕ → Names → List Token → List Token → Names → Expr → Type 0 where
    -- primary
    name : {room : ℕ} {names : Names} {t : Token} {rest : List Token}
        → IsOrdinary names t
        → IsExpr total most Primary (suc room) names (t ∷ rest) rest names (expr.Name (name_at (number_of total (t ∷ rest)) t))
    number : {room : ℕ} {names : Names} {t : Token} {rest : List Token} (type : TokenType)
        → t.kind ≡ kind.Number type
        → IsExpr total most Primary (suc room) names (t ∷ rest) rest names
        (expr.Number (number_of total (t ∷ rest)) t.value (number_type_of type))
    character : {room : ℕ} {names : Names} {t : Token} {rest : List Token}
        → t.kind ≡ kind.Character
        → IsExpr total most Primary (suc room) names (t ∷ rest) rest names (expr.Character (number_of total (t ∷ rest)) t.value)
    text : {room : ℕ} {names : Names} {t : Token} {rest : List Token}
        → t.kind ≡ kind.Text
        → IsExpr total most Primary (suc room) names (t ∷ rest) rest names (expr.Text (number_of total (t ∷ rest)) t.text)
    paren : {room : ℕ} {names after : Names} {t c : Token} {ts rest : List Token} {a : Expr}
        → IsMark mark.OpenParen t → IsExpr total most Comma room names ts (c ∷ rest) after a → IsMark mark.CloseParen c
        → IsExpr total most Primary (suc room) names (t ∷ ts) rest after (expr.Paren (number_of total (t ∷ ts)) a)
    -- postfix
    postfix : {room : ℕ} {names between after : Names} {ts mid rest : List Token} {a : Expr} {os : List (PostfixOp Expr)}
        → IsExpr total most Primary room names ts mid between a → ArePostfix total most room between mid rest after os
        → length os ≤ most
        → IsExpr total most Postfix room names ts rest after (postfixed (number_of total ts) a os)
    -- unary
    operand : {room : ℕ} {names after : Names} {ts rest : List Token} {a : Expr}
        → IsExpr total most Postfix room names ts rest after a → IsExpr total most Unary room names ts rest after a
    prefixed : {room : ℕ} {names after : Names} {t : Token} {ts rest : List Token} {a : Expr} (op : PrefixOp)
        → prefix_of t.kind ≡ Some op → IsExpr total most Unary room names ts rest after a
        → IsExpr total most Unary (suc room) names (t ∷ ts) rest after (expr.Prefix (number_of total (t ∷ ts)) op a)
    -- behind `sizeof`, a `(` and a type name are never a cast's
    sizeof_expr : {room : ℕ} {names after : Names} {t : Token} {ts rest : List Token} {a : Expr}
        → IsKeyword keyword.Sizeof t → (StartsTypeInParens names ts → ⊥) → IsExpr total most Unary room names ts rest after a
        → IsExpr total most Unary (suc room) names (t ∷ ts) rest after (expr.SizeofExpr (number_of total (t ∷ ts)) a)
    sizeof_type : {room : ℕ} {names after : Names} {t o c : Token} {ts rest : List Token} {n : TypeName}
        → IsKeyword keyword.Sizeof t → IsMark mark.OpenParen o → IsTypeNamed total most room names ts (c ∷ rest) after n
        → IsMark mark.CloseParen c
        → IsExpr total most Unary (suc (suc room)) names (t ∷ o ∷ ts) rest after (expr.SizeofType (number_of total (t ∷ o ∷ ts)) n)
    cast : {room : ℕ} {names between after : Names} {o c : Token} {ts mid rest : List Token} {n : TypeName} {a : Expr}
        → IsMark mark.OpenParen o → IsTypeNamed total most room names ts (c ∷ mid) between n → IsMark mark.CloseParen c
        → IsExpr total most Unary room between mid rest after a
        → IsExpr total most Unary (suc room) names (o ∷ ts) rest after (expr.Cast (number_of total (o ∷ ts)) n a)
    -- binary
    lowest : {room : ℕ} {names after : Names} {ts rest : List Token} {a : Expr}
        → IsExpr total most Unary room names ts rest after a → IsExpr total most (Level 0) room names ts rest after a
    chained : {level room : ℕ} {names between after : Names} {ts mid rest : List Token} {a : Expr} {ls : List (Link Expr)}
        → IsExpr total most (Level level) room names ts mid between a → AreLinks total most level room between mid rest after ls
        → length ls ≤ most
        → IsExpr total most (Level (suc level)) room names ts rest after (linked (number_of total ts) a ls)
    -- cond
    binary : {room : ℕ} {names after : Names} {ts rest : List Token} {a : Expr}
        → IsExpr total most (Level 10) room names ts rest after a → IsExpr total most Cond room names ts rest after a
    conditional : {room : ℕ} {names n m after : Names} {q c : Token} {ts mid more rest : List Token} {a b d : Expr}
        → IsExpr total most (Level 10) (suc room) names ts (q ∷ mid) n a → IsMark mark.Question q
        → IsExpr total most Comma room n mid (c ∷ more) m b → IsMark mark.Colon c → IsExpr total most Cond room m more rest after d
        → IsExpr total most Cond (suc room) names ts rest after
        (expr.Conditional (number_of total ts) a (number_of total (q ∷ mid)) b d)
    -- assign
    value : {room : ℕ} {names after : Names} {ts rest : List Token} {a : Expr}
        → IsExpr total most Cond room names ts rest after a → IsExpr total most Assign room names ts rest after a
    assigned : {room : ℕ} {names between after : Names} {t : Token} {ts mid rest : List Token} {a b : Expr} (op : AssignOp)
        → IsExpr total most Unary (suc room) names ts (t ∷ mid) between a → assign_of t.kind ≡ Some op
        → IsExpr total most Assign room between mid rest after b
        → IsExpr total most Assign (suc room) names ts rest after
        (expr.Assign (number_of total ts) a (number_of total (t ∷ mid)) op b)
    -- expr
    comma : {room : ℕ} {names between after : Names} {ts mid rest : List Token} {a : Expr} {es : List Expr}
        → IsExpr total most Assign room names ts mid between a → AreOthers total most room between mid rest after es
        → length es ≤ most
        → IsExpr total most Comma room names ts rest after (listed (number_of total ts) a es)

  -- operators of the level above this one, each with its right operand
  pub data AreLinks (total most : ℕ) : ℕ → ℕ → Names → List Token → List Token → Names → List (Link Expr) → Type 0 where
    no_links : {level room : ℕ} {names : Names} {rest : List Token} → AreLinks total most level room names rest rest names []
    more_links : {level room : ℕ} {names between after : Names} {t : Token} {ts mid rest : List Token} {a : Expr} {ls : List (Link Expr)} (op : BinaryOp)
        → operator_of t.kind ≡ placed (suc level) op → IsExpr total most (Level level) room names ts mid between a
        → AreLinks total most level room between mid rest after ls
        → AreLinks total most level room names (t ∷ ts) rest after
        (record { at = number_of total (t ∷ ts); op = op; right = a } ∷ ls)

  -- more expressions, each behind a comma
  pub data AreOthers (total most : ℕ) : ℕ → Names → List Token → List Token → Names → List Expr → Type 0 where
    no_others : {room : ℕ} {names : Names} {rest : List Token} → AreOthers total most room names rest rest names []
    more_others : {room : ℕ} {names between after : Names} {t : Token} {ts mid rest : List Token} {a : Expr} {es : List Expr}
        → IsMark mark.Comma t → IsExpr total most Assign room names ts mid between a
        → AreOthers total most room between mid rest after es
        → AreOthers total most room names (t ∷ ts) rest after (a ∷ es)

  pub data ArePostfix (total most : ℕ) : ℕ → Names → List Token → List Token → Names → List (PostfixOp Expr) → Type 0 where
    no_postfix : {room : ℕ} {names : Names} {rest : List Token} → ArePostfix total most room names rest rest names []
    index : {room : ℕ} {names between after : Names} {t c : Token} {ts mid rest : List Token} {a : Expr} {os : List (PostfixOp Expr)}
        → IsMark mark.OpenBracket t → IsExpr total most Comma room names ts (c ∷ mid) between a → IsMark mark.CloseBracket c
        → ArePostfix total most (suc room) between mid rest after os
        → ArePostfix total most (suc room) names (t ∷ ts) rest after (behind.Index (number_of total (t ∷ ts)) a ∷ os)
    call : {room : ℕ} {names between after : Names} {t c : Token} {ts mid rest : List Token} {es : List Expr} {os : List (PostfixOp Expr)}
        → IsMark mark.OpenParen t → AreArguments total most room names ts (c ∷ mid) between es → IsMark mark.CloseParen c
        → ArePostfix total most (suc room) between mid rest after os
        → ArePostfix total most (suc room) names (t ∷ ts) rest after (behind.Call (number_of total (t ∷ ts)) es ∷ os)
    dot : {room : ℕ} {names after : Names} {d t : Token} {mid rest : List Token} {os : List (PostfixOp Expr)}
        → IsMark mark.Dot d → t.kind ≡ kind.Name → ArePostfix total most (suc room) names mid rest after os
        → ArePostfix total most (suc room) names (d ∷ t ∷ mid) rest after
        (behind.Member (number_of total (d ∷ t ∷ mid)) (name_at (number_of total (t ∷ mid)) t) ∷ os)
    arrow : {room : ℕ} {names after : Names} {d t : Token} {mid rest : List Token} {os : List (PostfixOp Expr)}
        → IsMark mark.Arrow d → t.kind ≡ kind.Name → ArePostfix total most (suc room) names mid rest after os
        → ArePostfix total most (suc room) names (d ∷ t ∷ mid) rest after
        (behind.Arrow (number_of total (d ∷ t ∷ mid)) (name_at (number_of total (t ∷ mid)) t) ∷ os)
    increment : {room : ℕ} {names after : Names} {t : Token} {mid rest : List Token} {os : List (PostfixOp Expr)}
        → IsMark mark.PlusPlus t → ArePostfix total most (suc room) names mid rest after os
        → ArePostfix total most (suc room) names (t ∷ mid) rest after (behind.Increment (number_of total (t ∷ mid)) ∷ os)
    decrement : {room : ℕ} {names after : Names} {t : Token} {mid rest : List Token} {os : List (PostfixOp Expr)}
        → IsMark mark.MinusMinus t → ArePostfix total most (suc room) names mid rest after os
        → ArePostfix total most (suc room) names (t ∷ mid) rest after (behind.Decrement (number_of total (t ∷ mid)) ∷ os)

  -- what stands in the parentheses of a call
  pub data AreArguments (total most : ℕ) : ℕ → Names → List Token → List Token → Names → List Expr → Type 0 where
    no_arguments : {room : ℕ} {names : Names} {rest : List Token} → AreArguments total most room names rest rest names []
    arguments : {room : ℕ} {names between after : Names} {ts mid rest : List Token} {a : Expr} {es : List Expr}
        → IsExpr total most Assign room names ts mid between a → AreOthers total most room between mid rest after es
        → AreArguments total most room names ts rest after (a ∷ es)

  pub data IsTypeNamed (total most : ℕ) : ℕ → Names → List Token → List Token → Names → TypeName → Type 0 where
    type_named : {room : ℕ} {names between after : Names} {ts mid rest : List Token} {is_typedef : Bool} {ss : Specs Specifier} {a : Abstract Expr}
        → AreSpecs total most room names ts mid between is_typedef ss → IsAbstract total most room between mid rest after a
        → IsTypeNamed total most room names ts rest after (roll-TypeName (record { specs = ss; declarator = a }))

  -- pointers, and then arrays
  pub data IsAbstract (total most : ℕ) : ℕ → Names → List Token → List Token → Names → Abstract Expr → Type 0 where
    arrays : {room : ℕ} {names after : Names} {ts rest : List Token} {sizes : List (Option Expr)}
        → AreSizes total most room names ts rest after sizes
        → IsAbstract total most room names ts rest after (record { pointers = 0; sizes = sizes })
    pointer : {room : ℕ} {names after : Names} {t : Token} {ts rest : List Token} {a : Abstract Expr}
        → IsMark mark.Star t → IsAbstract total most (suc room) names ts rest after a
        → IsAbstract total most (suc room) names (t ∷ ts) rest after (record { pointers = suc a.pointers; sizes = a.sizes })

  pub data AreSizes (total most : ℕ) : ℕ → Names → List Token → List Token → Names → List (Option Expr) → Type 0 where
    no_sizes : {room : ℕ} {names : Names} {rest : List Token} → AreSizes total most room names rest rest names []
    more_sizes : {room : ℕ} {names between after : Names} {ts mid rest : List Token} {size : Option Expr} {sizes : List (Option Expr)}
        → IsSize total most room names ts mid between size → AreSizes total most room between mid rest after sizes
        → AreSizes total most room names ts rest after (size ∷ sizes)

  -- `[ cond ]` or `[ ]`
  pub data IsSize (total most : ℕ) : ℕ → Names → List Token → List Token → Names → Option Expr → Type 0 where
    unsized : {room : ℕ} {names : Names} {o c : Token} {rest : List Token}
        → IsMark mark.OpenBracket o → IsMark mark.CloseBracket c
        → IsSize total most (suc room) names (o ∷ c ∷ rest) rest names None
    sized : {room : ℕ} {names after : Names} {o c : Token} {ts rest : List Token} {a : Expr}
        → IsMark mark.OpenBracket o → IsExpr total most Cond room names ts (c ∷ rest) after a → IsMark mark.CloseBracket c
        → IsSize total most (suc room) names (o ∷ ts) rest after (Some a)

  -- specifiers with just one type; whether a `typedef` is among them
  pub data AreSpecs (total most : ℕ) : ℕ → Names → List Token → List Token → Names → Bool → Specs Specifier → Type 0 where
    specs : {room : ℕ} {names after : Names} {ts rest : List Token} {typed : Typed} {is_typedef : Bool} {ss : List Specifier}
        → AreSpecifiers total most room names Untyped ts rest after typed is_typedef ss → IsOneType typed
        → AreSpecs total most room names ts rest after is_typedef (record { token = number_of total ts; specifiers = ss })

  -- Specifiers, from what those before have said of the type to what all have said. Behind a type every name is an ordinary one.
  pub data AreSpecifiers (total most : ℕ) : ℕ → Names → Typed → List Token → List Token → Names → Typed → Bool → List Specifier → Type 0 where
    no_specifiers : {room : ℕ} {names : Names} {typed : Typed} {rest : List Token}
        → AreSpecifiers total most room names typed rest rest names typed false []
    storage : {room : ℕ} {names after : Names} {typed typed' : Typed} {t : Token} {ts rest : List Token} {is_typedef : Bool} {ss : List Specifier} (s : Storage)
        → storage_of t.kind ≡ Some s → AreSpecifiers total most (suc room) names typed ts rest after typed' is_typedef ss
        → AreSpecifiers total most (suc room) names typed (t ∷ ts) rest after typed' (declares_types s || is_typedef) (specifier.Storage s ∷ ss)
    qualifier : {room : ℕ} {names after : Names} {typed typed' : Typed} {t : Token} {ts rest : List Token} {is_typedef : Bool} {ss : List Specifier} (q : Qualifier)
        → qualifier_of t.kind ≡ Some q → AreSpecifiers total most (suc room) names typed ts rest after typed' is_typedef ss
        → AreSpecifiers total most (suc room) names typed (t ∷ ts) rest after typed' is_typedef (specifier.Qualifier q ∷ ss)
    word : {room : ℕ} {names after : Names} {typed between typed' : Typed} {t : Token} {ts rest : List Token} {is_typedef : Bool} {ss : List Specifier} (w : TypeWord)
        → word_of t.kind ≡ Some w → with_word w typed ≡ Some between
        → AreSpecifiers total most (suc room) names between ts rest after typed' is_typedef ss
        → AreSpecifiers total most (suc room) names typed (t ∷ ts) rest after typed' is_typedef (specifier.Word w ∷ ss)
    struct_specifier : {room : ℕ} {names between after : Names} {typed' : Typed} {ts mid rest : List Token} {is_typedef : Bool} {ss : List Specifier} {s : StructSpec Member}
        → IsStruct total most room names ts mid between s
        → AreSpecifiers total most room between Whole mid rest after typed' is_typedef ss
        → AreSpecifiers total most room names Untyped ts rest after typed' is_typedef (specifier.Struct s ∷ ss)
    enum_specifier : {room : ℕ} {names between after : Names} {typed' : Typed} {ts mid rest : List Token} {is_typedef : Bool} {ss : List Specifier} {e : EnumSpec Expr}
        → IsEnum total most room names ts mid between e
        → AreSpecifiers total most room between Whole mid rest after typed' is_typedef ss
        → AreSpecifiers total most room names Untyped ts rest after typed' is_typedef (specifier.Enum e ∷ ss)
    typedef_name : {room : ℕ} {names after : Names} {typed' : Typed} {t : Token} {ts rest : List Token} {is_typedef : Bool} {ss : List Specifier}
        → IsTypeName names t → AreSpecifiers total most (suc room) names Whole ts rest after typed' is_typedef ss
        → AreSpecifiers total most (suc room) names Untyped (t ∷ ts) rest after typed' is_typedef
        (specifier.TypedefName (name_at (number_of total (t ∷ ts)) t) ∷ ss)

  pub data IsStruct (total most : ℕ) : ℕ → Names → List Token → List Token → Names → StructSpec Member → Type 0 where
    struct_reference : {room : ℕ} {names : Names} {s t : Token} {rest : List Token}
        → IsKeyword keyword.Struct s → t.kind ≡ kind.Name
        → IsStruct total most (suc room) names (s ∷ t ∷ rest) rest names
        (a_struct.Reference (number_of total (s ∷ t ∷ rest)) (name_at (number_of total (t ∷ rest)) t))
    struct_tagged : {room : ℕ} {names after : Names} {s t o c : Token} {ts rest : List Token} {ms : List Member}
        → IsKeyword keyword.Struct s → t.kind ≡ kind.Name → IsMark mark.OpenBrace o
        → AreMembers total most room names ts (c ∷ rest) after ms → IsMark mark.CloseBrace c
        → IsStruct total most (suc room) names (s ∷ t ∷ o ∷ ts) rest after
        (a_struct.Body (number_of total (s ∷ t ∷ o ∷ ts)) (Some (name_at (number_of total (t ∷ o ∷ ts)) t)) ms)
    struct_untagged : {room : ℕ} {names after : Names} {s o c : Token} {ts rest : List Token} {ms : List Member}
        → IsKeyword keyword.Struct s → IsMark mark.OpenBrace o
        → AreMembers total most room names ts (c ∷ rest) after ms → IsMark mark.CloseBrace c
        → IsStruct total most (suc room) names (s ∷ o ∷ ts) rest after (a_struct.Body (number_of total (s ∷ o ∷ ts)) None ms)

  -- one member declaration or more
  pub data AreMembers (total most : ℕ) : ℕ → Names → List Token → List Token → Names → List Member → Type 0 where
    one_member : {room : ℕ} {names after : Names} {ts rest : List Token} {m : Member}
        → IsMember total most room names ts rest after m → AreMembers total most room names ts rest after (m ∷ [])
    more_members : {room : ℕ} {names between after : Names} {ts mid rest : List Token} {m : Member} {ms : List Member}
        → IsMember total most room names ts mid between m → AreMembers total most room between mid rest after ms
        → AreMembers total most room names ts rest after (m ∷ ms)

  -- a member is no ordinary name
  pub data IsMember (total most : ℕ) : ℕ → Names → List Token → List Token → Names → Member → Type 0 where
    member : {room : ℕ} {names between after : Names} {s : Token} {ts mid rest : List Token} {is_typedef : Bool} {ss : Specs Specifier} {ds : List Declarator}
        → AreSpecs total most room names ts mid between is_typedef ss → AreDeclarators total most room between mid (s ∷ rest) after ds
        → IsMark mark.Semicolon s
        → IsMember total most room names ts rest after (roll-Member (record { specs = ss; declarators = ds }))

  -- declarators with commas between them
  pub data AreDeclarators (total most : ℕ) : ℕ → Names → List Token → List Token → Names → List Declarator → Type 0 where
    one_declarator : {room : ℕ} {names after : Names} {ts rest : List Token} {bytes : List ℕ} {own : Own} {d : Declarator}
        → IsDeclarator total most room names ts rest after bytes own d → AreDeclarators total most room names ts rest after (d ∷ [])
    more_declarators : {room : ℕ} {names between after : Names} {t : Token} {ts mid rest : List Token} {bytes : List ℕ} {own : Own} {d : Declarator} {ds : List Declarator}
        → IsDeclarator total most room names ts (t ∷ mid) between bytes own d → IsMark mark.Comma t
        → AreDeclarators total most room between mid rest after ds
        → AreDeclarators total most room names ts rest after (d ∷ ds)

  pub data IsEnum (total most : ℕ) : ℕ → Names → List Token → List Token → Names → EnumSpec Expr → Type 0 where
    enum_reference : {room : ℕ} {names : Names} {e t : Token} {rest : List Token}
        → IsKeyword keyword.Enum e → t.kind ≡ kind.Name
        → IsEnum total most (suc room) names (e ∷ t ∷ rest) rest names
        (an_enum.Reference (number_of total (e ∷ t ∷ rest)) (name_at (number_of total (t ∷ rest)) t))
    enum_tagged : {room : ℕ} {names after : Names} {e t o c : Token} {ts rest : List Token} {es : List (Enumerator Expr)}
        → IsKeyword keyword.Enum e → t.kind ≡ kind.Name → IsMark mark.OpenBrace o
        → AreEnumerators total most room names ts (c ∷ rest) after es → IsMark mark.CloseBrace c
        → IsEnum total most (suc room) names (e ∷ t ∷ o ∷ ts) rest after
        (an_enum.Body (number_of total (e ∷ t ∷ o ∷ ts)) (Some (name_at (number_of total (t ∷ o ∷ ts)) t)) es)
    enum_untagged : {room : ℕ} {names after : Names} {e o c : Token} {ts rest : List Token} {es : List (Enumerator Expr)}
        → IsKeyword keyword.Enum e → IsMark mark.OpenBrace o
        → AreEnumerators total most room names ts (c ∷ rest) after es → IsMark mark.CloseBrace c
        → IsEnum total most (suc room) names (e ∷ o ∷ ts) rest after (an_enum.Body (number_of total (e ∷ o ∷ ts)) None es)

  -- enumerators with commas between them, and perhaps one at the end
  pub data AreEnumerators (total most : ℕ) : ℕ → Names → List Token → List Token → Names → List (Enumerator Expr) → Type 0 where
    one_enumerator : {room : ℕ} {names after : Names} {ts rest : List Token} {e : Enumerator Expr}
        → IsEnumerator total most room names ts rest after e → AreEnumerators total most room names ts rest after (e ∷ [])
    last_enumerator : {room : ℕ} {names after : Names} {t : Token} {ts rest : List Token} {e : Enumerator Expr}
        → IsEnumerator total most room names ts (t ∷ rest) after e → IsMark mark.Comma t
        → AreEnumerators total most room names ts rest after (e ∷ [])
    more_enumerators : {room : ℕ} {names between after : Names} {t : Token} {ts mid rest : List Token} {e : Enumerator Expr} {es : List (Enumerator Expr)}
        → IsEnumerator total most room names ts (t ∷ mid) between e → IsMark mark.Comma t
        → AreEnumerators total most room between mid rest after es
        → AreEnumerators total most room names ts rest after (e ∷ es)

  -- an enumerator is declared behind its value
  pub data IsEnumerator (total most : ℕ) : ℕ → Names → List Token → List Token → Names → Enumerator Expr → Type 0 where
    enumerator : {room : ℕ} {names : Names} {t : Token} {rest : List Token}
        → t.kind ≡ kind.Name
        → IsEnumerator total most (suc room) names (t ∷ rest) rest (declared names t.text false)
        (record { name = name_at (number_of total (t ∷ rest)) t; value = None })
    valued : {room : ℕ} {names after : Names} {t e : Token} {ts rest : List Token} {a : Expr}
        → t.kind ≡ kind.Name → IsMark mark.Assign e → IsExpr total most Cond (suc room) names ts rest after a
        → IsEnumerator total most (suc room) names (t ∷ e ∷ ts) rest (declared after t.text false)
        (record { name = name_at (number_of total (t ∷ e ∷ ts)) t; value = Some a })

  -- A declarator, by the name that it declares and what the parameters of its function bring. The name itself is declared by
  -- whoever the declarator belongs to.
  pub data IsDeclarator (total most : ℕ) : ℕ → Names → List Token → List Token → Names → List ℕ → Own → Declarator → Type 0 where
    declarator : {room : ℕ} {names between after : Names} {ts start mid rest : List Token} {bytes : List ℕ} {inner own : Own}
        {ps : List (List Qualifier)} {d : Direct Declarator} {ss : List DirectSuffix}
        → ArePointers room ts start ps → IsDirect total most room names start mid between bytes inner d
        → AreSuffixes total most room between inner mid rest after own ss
        → IsDeclarator total most room names ts rest after bytes (behind_pointers ps own)
        (roll-Declarator (record { token = number_of total ts; pointers = ps; direct = d; suffixes = ss }))

  pub data IsDirect (total most : ℕ) : ℕ → Names → List Token → List Token → Names → List ℕ → Own → Direct Declarator → Type 0 where
    direct_name : {room : ℕ} {names : Names} {t : Token} {rest : List Token}
        → t.kind ≡ kind.Name
        → IsDirect total most (suc room) names (t ∷ rest) rest names t.text Open (direct.Name (name_at (number_of total (t ∷ rest)) t))
    nested : {room : ℕ} {names after : Names} {o c : Token} {ts rest : List Token} {bytes : List ℕ} {own : Own} {d : Declarator}
        → IsMark mark.OpenParen o → IsDeclarator total most room names ts (c ∷ rest) after bytes own d → IsMark mark.CloseParen c
        → IsDirect total most (suc room) names (o ∷ ts) rest after bytes own (direct.Nested (number_of total (o ∷ ts)) d)

  pub data AreSuffixes (total most : ℕ) : ℕ → Names → Own → List Token → List Token → Names → Own → List DirectSuffix → Type 0 where
    no_suffixes : {room : ℕ} {names : Names} {own : Own} {rest : List Token} → AreSuffixes total most room names own rest rest names own []
    array : {room : ℕ} {names between after : Names} {own own' : Own} {ts mid rest : List Token} {size : Option Expr} {ss : List DirectSuffix}
        → IsSize total most room names ts mid between size → AreSuffixes total most room between (settled own []) mid rest after own' ss
        → AreSuffixes total most room names own ts rest after own' (suffix.Array (number_of total ts) size ∷ ss)
    -- a parameter list is a scope
    empty : {room : ℕ} {names after : Names} {own own' : Own} {o c : Token} {mid rest : List Token} {ss : List DirectSuffix}
        → IsMark mark.OpenParen o → IsMark mark.CloseParen c
        → AreSuffixes total most (suc room) names (settled own []) mid rest after own' ss
        → AreSuffixes total most (suc room) names own (o ∷ c ∷ mid) rest after own' (suffix.Empty (number_of total (o ∷ c ∷ mid)) ∷ ss)
    void : {room : ℕ} {names after : Names} {own own' : Own} {o v c : Token} {mid rest : List Token} {ss : List DirectSuffix}
        → IsMark mark.OpenParen o → IsKeyword keyword.Void v → IsMark mark.CloseParen c
        → AreSuffixes total most (suc (suc room)) names (settled own []) mid rest after own' ss
        → AreSuffixes total most (suc (suc room)) names own (o ∷ v ∷ c ∷ mid) rest after own'
        (suffix.Void (number_of total (o ∷ v ∷ c ∷ mid)) ∷ ss)
    params : {room : ℕ} (added : Names) {names after : Names} {own own' : Own} {o c : Token} {ts mid rest : List Token} {ps : List Param} {ss : List DirectSuffix}
        → IsMark mark.OpenParen o → (IsVoidAlone ts → ⊥) → AreParams total most room names ts (c ∷ mid) (added ++ names) ps
        → IsMark mark.CloseParen c
        → AreSuffixes total most (suc room) names (settled own added) mid rest after own' ss
        → AreSuffixes total most (suc room) names own (o ∷ ts) rest after own' (suffix.Params (number_of total (o ∷ ts)) ps ∷ ss)

  -- parameters with commas between them
  pub data AreParams (total most : ℕ) : ℕ → Names → List Token → List Token → Names → List Param → Type 0 where
    one_param : {room : ℕ} {names after : Names} {ts rest : List Token} {p : Param}
        → IsParam total most room names ts rest after p → AreParams total most room names ts rest after (p ∷ [])
    more_params : {room : ℕ} {names between after : Names} {t : Token} {ts mid rest : List Token} {p : Param} {ps : List Param}
        → IsParam total most room names ts (t ∷ mid) between p → IsMark mark.Comma t
        → AreParams total most room between mid rest after ps
        → AreParams total most room names ts rest after (p ∷ ps)

  pub data IsParam (total most : ℕ) : ℕ → Names → List Token → List Token → Names → Param → Type 0 where
    named_param : {room : ℕ} {names between after : Names} {ts mid rest : List Token} {is_typedef : Bool} {bytes : List ℕ} {own : Own}
        {ss : Specs Specifier} {d : Declarator}
        → AreSpecs total most room names ts mid between is_typedef ss → IsDeclarator total most room between mid rest after bytes own d
        → IsParam total most room names ts rest (declared after bytes false) (param.Named ss d)
    unnamed_param : {room : ℕ} {names between after : Names} {ts mid rest : List Token} {is_typedef : Bool} {ss : Specs Specifier} {a : Abstract Expr}
        → AreSpecs total most room names ts mid between is_typedef ss → IsAbstract total most room between mid rest after a
        → IsParam total most room names ts rest after (param.Unnamed ss a)

mutual
  pub data IsInit (total most : ℕ) : ℕ → Names → List Token → List Token → Names → Init → Type 0 where
    init_value : {room : ℕ} {names after : Names} {ts rest : List Token} {a : Expr}
        → IsExpr total most Assign room names ts rest after a → IsInit total most room names ts rest after (init.Value a)
    list : {room : ℕ} {names after : Names} {o c : Token} {ts rest : List Token} {is : List Init}
        → IsMark mark.OpenBrace o → AreInits total most room names ts (c ∷ rest) after is → IsMark mark.CloseBrace c
        → IsInit total most (suc room) names (o ∷ ts) rest after (init.List (number_of total (o ∷ ts)) is)

  -- initialisers with commas between them, and perhaps one at the end
  pub data AreInits (total most : ℕ) : ℕ → Names → List Token → List Token → Names → List Init → Type 0 where
    one_init : {room : ℕ} {names after : Names} {ts rest : List Token} {i : Init}
        → IsInit total most room names ts rest after i → AreInits total most room names ts rest after (i ∷ [])
    last_init : {room : ℕ} {names after : Names} {t : Token} {ts rest : List Token} {i : Init}
        → IsInit total most room names ts (t ∷ rest) after i → IsMark mark.Comma t
        → AreInits total most room names ts rest after (i ∷ [])
    more_inits : {room : ℕ} {names between after : Names} {t : Token} {ts mid rest : List Token} {i : Init} {is : List Init}
        → IsInit total most room names ts (t ∷ mid) between i → IsMark mark.Comma t → AreInits total most room between mid rest after is
        → AreInits total most room names ts rest after (i ∷ is)

-- A name is declared directly behind its declarator, so it is in scope in its own initialiser.
pub data IsInitDeclarator (total most : ℕ) (is_typedef : Bool) : ℕ → Names → List Token → List Token → Names → InitDeclarator → Type 0 where
  plain : {room : ℕ} {names after : Names} {ts rest : List Token} {bytes : List ℕ} {own : Own} {d : Declarator}
      → IsDeclarator total most room names ts rest after bytes own d
      → IsInitDeclarator total most is_typedef room names ts rest (declared after bytes is_typedef) (record { declarator = d; init = None })
  initialised : {room : ℕ} {names between after : Names} {t : Token} {ts mid rest : List Token} {bytes : List ℕ} {own : Own} {d : Declarator} {i : Init}
      → IsDeclarator total most room names ts (t ∷ mid) between bytes own d → IsMark mark.Assign t
      → IsInit total most room (declared between bytes is_typedef) mid rest after i
      → IsInitDeclarator total most is_typedef room names ts rest after (record { declarator = d; init = Some i })

pub data AreInitDeclarators (total most : ℕ) (is_typedef : Bool) : ℕ → Names → List Token → List Token → Names → List InitDeclarator → Type 0 where
  one : {room : ℕ} {names after : Names} {ts rest : List Token} {d : InitDeclarator}
      → IsInitDeclarator total most is_typedef room names ts rest after d
      → AreInitDeclarators total most is_typedef room names ts rest after (d ∷ [])
  more : {room : ℕ} {names between after : Names} {t : Token} {ts mid rest : List Token} {d : InitDeclarator} {ds : List InitDeclarator}
      → IsInitDeclarator total most is_typedef room names ts (t ∷ mid) between d → IsMark mark.Comma t
      → AreInitDeclarators total most is_typedef room between mid rest after ds
      → AreInitDeclarators total most is_typedef room names ts rest after (d ∷ ds)

pub data IsDecl (total most : ℕ) : ℕ → Names → List Token → List Token → Names → Decl → Type 0 where
  bare : {room : ℕ} {names after : Names} {s : Token} {ts rest : List Token} {is_typedef : Bool} {ss : Specs Specifier}
      → AreSpecs total most room names ts (s ∷ rest) after is_typedef ss → IsMark mark.Semicolon s
      → IsDecl total most room names ts rest after (record { token = number_of total ts; specs = ss; declared = [] })
  some : {room : ℕ} {names between after : Names} {s : Token} {ts mid rest : List Token} {is_typedef : Bool} {ss : Specs Specifier} {ds : List InitDeclarator}
      → AreSpecs total most room names ts mid between is_typedef ss
      → AreInitDeclarators total most is_typedef room between mid (s ∷ rest) after ds → IsMark mark.Semicolon s
      → IsDecl total most room names ts rest after (record { token = number_of total ts; specs = ss; declared = ds })

-- ---- statements

-- `[ expr ]` and this punctuator
pub data IsOptional (total most : ℕ) : ℕ → Names → List Token → List Token → Names → Option Expr → Type 0 where
  none : {room : ℕ} {names : Names} {rest : List Token} → IsOptional total most room names rest rest names None
  some : {room : ℕ} {names after : Names} {ts rest : List Token} {a : Expr}
      → IsExpr total most Comma room names ts rest after a → IsOptional total most room names ts rest after (Some a)

pub data IsForStart (total most : ℕ) : ℕ → Names → List Token → List Token → Names → ForStart → Type 0 where
  declaration : {room : ℕ} {names after : Names} {ts rest : List Token} {d : Decl}
      → IsDecl total most room names ts rest after d → IsForStart total most room names ts rest after (start.Declaration d)
  expression : {room : ℕ} {names after : Names} {s : Token} {ts rest : List Token} {a : Option Expr}
      → IsOptional total most (suc room) names ts (s ∷ rest) after a → IsMark mark.Semicolon s
      → IsForStart total most (suc room) names ts rest after (start.Expression a)

-- `( expr )` behind a keyword
pub data IsTest (total most : ℕ) : ℕ → Names → List Token → List Token → Names → Expr → Type 0 where
  test : {room : ℕ} {names after : Names} {o c : Token} {ts rest : List Token} {a : Expr}
      → IsMark mark.OpenParen o → IsExpr total most Comma room names ts (c ∷ rest) after a → IsMark mark.CloseParen c
      → IsTest total most (suc room) names (o ∷ ts) rest after a

-- A statement. The first index says whether it ends with an `if` that has no `else`: such a statement stands before no `else`, so
-- an `else` belongs to the nearest `if`. Blocks, `if`, `switch` and loops, and the parts of these, are scopes.
mutual
  pub data IsStmt (total most : ℕ) : Bool → ℕ → Names → List Token → List Token → Names → Stmt → Type 0 where
    block : {room : ℕ} {names inner : Names} {o c : Token} {ts rest : List Token} {is : List (BlockItem Stmt)}
        → IsMark mark.OpenBrace o → AreItems total most room names ts (c ∷ rest) inner is → IsMark mark.CloseBrace c
        → IsStmt total most false (suc room) names (o ∷ ts) rest names (stmt.Block (number_of total (o ∷ ts)) is)
    express : {room : ℕ} {names after : Names} {s : Token} {ts rest : List Token} {a : Option Expr}
        → IsOptional total most (suc room) names ts (s ∷ rest) after a → IsMark mark.Semicolon s
        → IsStmt total most false (suc (suc room)) names ts rest after (stmt.Express (number_of total ts) a)
    if_then : {ends : Bool} {room : ℕ} {names inner after : Names} {t : Token} {ts mid rest : List Token} {a : Expr} {s : Stmt}
        → IsKeyword keyword.If t → IsTest total most (suc room) names ts mid inner a
        → IsStmt total most ends (suc room) inner mid rest after s
        → IsStmt total most true (suc (suc room)) names (t ∷ ts) rest names (stmt.If (number_of total (t ∷ ts)) a s None)
    if_else : {ends : Bool} {room : ℕ} {names inner after after' : Names} {t e : Token} {ts mid more rest : List Token} {a : Expr} {s s' : Stmt}
        → IsKeyword keyword.If t → IsTest total most (suc room) names ts mid inner a
        → IsStmt total most false (suc room) inner mid (e ∷ more) after s → IsKeyword keyword.Else e
        → IsStmt total most ends (suc room) inner more rest after' s'
        → IsStmt total most ends (suc (suc room)) names (t ∷ ts) rest names (stmt.If (number_of total (t ∷ ts)) a s (Some s'))
    while_do : {ends : Bool} {room : ℕ} {names inner after : Names} {t : Token} {ts mid rest : List Token} {a : Expr} {s : Stmt}
        → IsKeyword keyword.While t → IsTest total most (suc room) names ts mid inner a
        → IsStmt total most ends (suc room) inner mid rest after s
        → IsStmt total most ends (suc (suc room)) names (t ∷ ts) rest names (stmt.While (number_of total (t ∷ ts)) a s)
    do_while : {ends : Bool} {room : ℕ} {names inner after : Names} {t w s : Token} {ts mid rest : List Token} {a : Expr} {b : Stmt}
        → IsKeyword keyword.Do t → IsStmt total most ends (suc room) names ts (w ∷ mid) inner b → IsKeyword keyword.While w
        → IsTest total most (suc room) names mid (s ∷ rest) after a → IsMark mark.Semicolon s
        → IsStmt total most false (suc (suc room)) names (t ∷ ts) rest names (stmt.Do (number_of total (t ∷ ts)) b a)
    for_do : {ends : Bool} {room : ℕ} {names n m k after : Names} {t o s c : Token} {ts mid more end rest : List Token}
        {a : ForStart} {b d : Option Expr} {body : Stmt}
        → IsKeyword keyword.For t → IsMark mark.OpenParen o → IsForStart total most room names ts mid n a
        → IsOptional total most room n mid (s ∷ more) m b → IsMark mark.Semicolon s
        → IsOptional total most room m more (c ∷ end) k d → IsMark mark.CloseParen c
        → IsStmt total most ends (suc room) k end rest after body
        → IsStmt total most ends (suc (suc room)) names (t ∷ o ∷ ts) rest names
        (stmt.For (number_of total (t ∷ o ∷ ts)) a b d body)
    switch : {ends : Bool} {room : ℕ} {names inner after : Names} {t : Token} {ts mid rest : List Token} {a : Expr} {s : Stmt}
        → IsKeyword keyword.Switch t → IsTest total most (suc room) names ts mid inner a
        → IsStmt total most ends (suc room) inner mid rest after s
        → IsStmt total most ends (suc (suc room)) names (t ∷ ts) rest names (stmt.Switch (number_of total (t ∷ ts)) a s)
    case : {ends : Bool} {room : ℕ} {names between after : Names} {t c : Token} {ts mid rest : List Token} {a : Expr} {s : Stmt}
        → IsKeyword keyword.Case t → IsExpr total most Cond (suc room) names ts (c ∷ mid) between a → IsMark mark.Colon c
        → IsStmt total most ends (suc room) between mid rest after s
        → IsStmt total most ends (suc (suc room)) names (t ∷ ts) rest after (stmt.Case (number_of total (t ∷ ts)) a s)
    default : {ends : Bool} {room : ℕ} {names after : Names} {t c : Token} {mid rest : List Token} {s : Stmt}
        → IsKeyword keyword.Default t → IsMark mark.Colon c → IsStmt total most ends (suc room) names mid rest after s
        → IsStmt total most ends (suc (suc room)) names (t ∷ c ∷ mid) rest after (stmt.Default (number_of total (t ∷ c ∷ mid)) s)
    break : {room : ℕ} {names : Names} {t s : Token} {rest : List Token}
        → IsKeyword keyword.Break t → IsMark mark.Semicolon s
        → IsStmt total most false (suc (suc room)) names (t ∷ s ∷ rest) rest names (stmt.Break (number_of total (t ∷ s ∷ rest)))
    continue : {room : ℕ} {names : Names} {t s : Token} {rest : List Token}
        → IsKeyword keyword.Continue t → IsMark mark.Semicolon s
        → IsStmt total most false (suc (suc room)) names (t ∷ s ∷ rest) rest names (stmt.Continue (number_of total (t ∷ s ∷ rest)))
    return : {room : ℕ} {names after : Names} {t s : Token} {ts rest : List Token} {a : Option Expr}
        → IsKeyword keyword.Return t → IsOptional total most (suc room) names ts (s ∷ rest) after a → IsMark mark.Semicolon s
        → IsStmt total most false (suc (suc room)) names (t ∷ ts) rest after (stmt.Return (number_of total (t ∷ ts)) a)

  -- what stands in a block
  pub data AreItems (total most : ℕ) : ℕ → Names → List Token → List Token → Names → List (BlockItem Stmt) → Type 0 where
    no_items : {room : ℕ} {names : Names} {rest : List Token} → AreItems total most room names rest rest names []
    declaration_item : {room : ℕ} {names between after : Names} {ts mid rest : List Token} {d : Decl} {is : List (BlockItem Stmt)}
        → IsDecl total most room names ts mid between d → AreItems total most room between mid rest after is
        → AreItems total most room names ts rest after (item.Declaration d ∷ is)
    statement_item : {ends : Bool} {room : ℕ} {names between after : Names} {ts mid rest : List Token} {s : Stmt} {is : List (BlockItem Stmt)}
        → IsStmt total most ends room names ts mid between s → AreItems total most room between mid rest after is
        → AreItems total most room names ts rest after (item.Statement s ∷ is)

-- ---- units

pub data IsExternal (total most : ℕ) : ℕ → Names → List Token → List Token → Names → External → Type 0 where
  declaration : {room : ℕ} {names after : Names} {ts rest : List Token} {d : Decl}
      → IsDecl total most room names ts rest after d → IsExternal total most room names ts rest after (external.Declaration d)
  -- the parameters and the outermost block are one scope
  function : {room : ℕ} {names between after inner : Names} {o c : Token} {ts mid body rest : List Token} {is_typedef : Bool} {bytes : List ℕ} {own : Own}
      {ss : Specs Specifier} {d : Declarator} {is : List (BlockItem Stmt)}
      → AreSpecs total most (suc room) names ts mid between is_typedef ss
      → IsDeclarator total most (suc room) between mid (o ∷ body) after bytes own d → IsMark mark.OpenBrace o
      → AreItems total most room (own_names own ++ declared after bytes is_typedef) body (c ∷ rest) inner is → IsMark mark.CloseBrace c
      → IsExternal total most (suc room) names ts rest (declared after bytes is_typedef)
      (external.Function (number_of total ts) ss d is)

pub data AreExternals (total most : ℕ) : ℕ → Names → List Token → List Token → Names → List External → Type 0 where
  none : {room : ℕ} {names : Names} {rest : List Token} → AreExternals total most room names rest rest names []
  more : {room : ℕ} {names between after : Names} {ts mid rest : List Token} {e : External} {es : List External}
      → IsExternal total most room names ts mid between e → AreExternals total most room between mid rest after es
      → AreExternals total most room names ts rest after (e ∷ es)

-- The tokens are this unit, with no nesting over this limit, and no chain over that one.
abbrev pub ParsesWithin : ℕ → ℕ → List Token → AUnit → Type 0
ParsesWithin limit most tokens unit =
    (after : Names) × AreExternals (length tokens) most (suc limit) nothing tokens [] after unit.externals

-- the tokens are this unit, whatever its nesting and its chains
abbrev pub Parses : List Token → AUnit → Type 0
Parses tokens unit = (limit most : ℕ) × ParsesWithin limit most tokens unit
