-- What it is that a level reads: only what the grammar has there (sound), and all that it has there, where it ends (complete).
use Rattle.std.proofs.Common.{◌≡◌, ℕ, suc, Bool, true, false, List, [], ◌∷◌, None, Ok}
use Rattle.c_lex.specs.declared.token.Token.{Token}
use Rattle.c_lex.specs.declared.token.TokenKind.{TokenKind}
use Rattle.c_lex.specs.declared.token.TokenKind.TheVariants as kind
use Rattle.c_lex.specs.declared.token.Mark.{Mark}
use Rattle.c_lex.specs.declared.token.Mark.TheVariants as mark
use Rattle.c_ast.specs.declared.expression.Expr.{Expr}
use Rattle.c_ast.specs.declared.declaration.Abstract.{Abstract}
use Rattle.c_ast.specs.declared.declaration.TypeName.{TypeName}
use Rattle.c_grammar.specs.declared.phrases.Extent.{Extent}
use Rattle.c_grammar.specs.declared.phrases.Extent.TheVariants as extent
use Rattle.c_grammar.specs.declared.phrases.ReadSpecs.{ReadSpecs}
use Rattle.c_grammar.specs.declared.phrases.ReadDeclarator.{ReadDeclarator}
use Rattle.c_grammar.specs.declared.phrases.ReadParam.{ReadParam}
use Rattle.c_grammar.specs.declared.phrases.ReadParam.TheVariants.{Named, Unnamed}
use Rattle.c_grammar.specs.Names.{Names}
use Rattle.c_grammar.specs.Words.{IsMark}
use Rattle.c_grammar.specs.Grammar.{IsExpr, AreSpecs, IsDeclarator, IsAbstract, IsTypeNamed}
use Rattle.c_grammar.specs.Nesting.{Bounds, Stands, expr_stands, specs_stand, declarator_stands, abstract_stands, type_stands}
use Rattle.c_grammar.specs.Reading.{State, sees_mark}
use Rattle.c_grammar.specs.ReadingExpr.{operator_at, assign_at}
use Rattle.c_grammar.specs.ReadingDecl.{starts_direct, qualifier_at}
use Rattle.c_grammar.specs.Inner.{Inner, part_of}
use Rattle.c_grammar.proofs.Late.{Meets}

abbrev pub at_state : Names → List Token → State
at_state names ts = record { names = names; rest = ts }

-- `( typename )`, with so much room at its first bracket
pub record IsTypeInParens (total most room : ℕ) (names : Names) (ts rest : List Token) (after : Names) (t : TypeName) : Type 0 where
  pub inner : ℕ
  pub open_token : Token
  pub start : List Token
  pub close_token : Token
  pub room_is : room ≡ suc inner
  pub ts_are : ts ≡ open_token ∷ start
  pub opens : IsMark mark.OpenParen open_token
  pub named : IsTypeNamed total most inner names start (close_token ∷ rest) after t
  pub closes : IsMark mark.CloseParen close_token

-- what stands behind the specifiers of a parameter
abbrev pub IsParamPart : ℕ → ℕ → ℕ → Names → List Token → List Token → Names → ReadParam → Type 0
IsParamPart total most room names ts rest after (Named d) = IsDeclarator total most room names ts rest after d.name d.own d.tree
IsParamPart total most room names ts rest after (Unnamed a) = IsAbstract total most room names ts rest after a

-- All that a level reads is in the grammar.
pub record Sound (total most room : ℕ) (inner : Inner) : Type 0 where
  pub expr : (x : Extent) (s s' : State) (e : Expr) → inner.expr x s ≡ Ok (e, s')
      → IsExpr total most (part_of x) room s.names s.rest s'.rest s'.names e
  pub specs : (s s' : State) (x : ReadSpecs) → inner.specs s ≡ Ok (x, s')
      → AreSpecs total most room s.names s.rest s'.rest s'.names x.is_typedef x.specs
  pub declarator : (s s' : State) (d : ReadDeclarator) → inner.declarator s ≡ Ok (d, s')
      → IsDeclarator total most room s.names s.rest s'.rest s'.names d.name d.own d.tree
  pub unnamed : (s s' : State) (a : Abstract Expr) → inner.unnamed s ≡ Ok (a, s')
      → IsAbstract total most room s.names s.rest s'.rest s'.names a
  pub param : (s s' : State) (p : ReadParam) → inner.param s ≡ Ok (p, s')
      → IsParamPart total most room s.names s.rest s'.rest s'.names p
  pub type_in_parens : (s s' : State) (t : TypeName) → inner.type_in_parens s ≡ Ok (t, s')
      → IsTypeInParens total most room s.names s.rest s'.rest s'.names t

-- ---- where parts end

abbrev pub is_postfix_mark : Mark → Bool
is_postfix_mark mark.OpenBracket = true
is_postfix_mark mark.OpenParen = true
is_postfix_mark mark.Dot = true
is_postfix_mark mark.Arrow = true
is_postfix_mark mark.PlusPlus = true
is_postfix_mark mark.MinusMinus = true
is_postfix_mark _ = false

abbrev pub is_postfix : TokenKind → Bool
is_postfix (kind.Mark m) = is_postfix_mark m
is_postfix (kind.Keyword k) = false
is_postfix kind.Name = false
is_postfix (kind.Number t) = false
is_postfix kind.Character = false
is_postfix kind.Text = false

abbrev pub sees_postfix : List Token → Bool
sees_postfix [] = false
sees_postfix (t ∷ ts) = is_postfix t.kind

-- no keyword comes next
abbrev pub is_keyword_at : List Token → Bool
is_keyword_at [] = false
is_keyword_at (t ∷ ts) = by_kind t.kind
  where
    by_kind : TokenKind → Bool
    by_kind (kind.Keyword k) = true
    by_kind (kind.Mark m) = false
    by_kind kind.Name = false
    by_kind (kind.Number t) = false
    by_kind kind.Character = false
    by_kind kind.Text = false

-- the next token doesn't go on with a part that ends so
pub record EndsUnary (rest : List Token) : Type 0 where
  pub no_postfix : sees_postfix rest ≡ false

pub record EndsCond (rest : List Token) : Type 0 where
  pub unary : EndsUnary rest
  pub no_operator : operator_at rest ≡ None
  pub no_question : sees_mark mark.Question rest ≡ false

pub record EndsAssign (rest : List Token) : Type 0 where
  pub cond : EndsCond rest
  pub no_assign : assign_at rest ≡ None

pub record EndsComma (rest : List Token) : Type 0 where
  pub assign : EndsAssign rest
  pub no_comma : sees_mark mark.Comma rest ≡ false

abbrev pub Ends : Extent → List Token → Type 0
Ends extent.Unary rest = EndsUnary rest
Ends extent.Cond rest = EndsCond rest
Ends extent.Assign rest = EndsAssign rest
Ends extent.Comma rest = EndsComma rest

pub record EndsDeclarator (rest : List Token) : Type 0 where
  pub no_array : sees_mark mark.OpenBracket rest ≡ false
  pub no_function : sees_mark mark.OpenParen rest ≡ false

pub record EndsUnnamed (rest : List Token) : Type 0 where
  pub no_array : sees_mark mark.OpenBracket rest ≡ false
  pub no_pointer : sees_mark mark.Star rest ≡ false

abbrev pub EndsParam : ReadParam → List Token → Type 0
EndsParam (Named d) rest = EndsDeclarator rest
EndsParam (Unnamed a) rest = EndsUnnamed rest × (starts_direct rest ≡ false) × (qualifier_at rest ≡ None)

-- ---- what stands within the limits

abbrev pub in_parens_stands : (b : Bounds) {total most room : ℕ} {names after : Names} {ts rest : List Token} {t : TypeName}
    → IsTypeInParens total most room names ts rest after t → Type 0
in_parens_stands b {rest = rest} d =
    Stands b (suc d.inner) (d.open_token ∷ d.start) × type_stands b d.named × Stands b (suc d.inner) (d.close_token ∷ rest)

abbrev pub param_part_stands : (b : Bounds) (total most room : ℕ) (names : Names) (ts rest : List Token) (after : Names) (p : ReadParam)
    → IsParamPart total most room names ts rest after p → Type 0
param_part_stands b total most room names ts rest after (Named d) is = declarator_stands b is
param_part_stands b total most room names ts rest after (Unnamed a) is = abstract_stands b is

-- Specifiers can be read, so there is room. A reader with none says nothing of tokens that may follow specifiers.
pub record TakesSpecs (inner : Inner) : Type 0 where
  pub from : State
  pub found : ReadSpecs × State
  pub reads : inner.specs from ≡ Ok found

-- All that the grammar has at a place with so much room, and ends there, is read, or a late token stands too deep.
pub record Complete (total wide : ℕ) (b : Bounds) (place : ℕ) (inner : Inner) : Type 0 where
  pub expr : (x : Extent) (names after : Names) (ts rest : List Token) (e : Expr)
      → (d : IsExpr total wide (part_of x) place names ts rest after e) → expr_stands b d → Ends x rest
      → Meets total b.later (inner.expr x (at_state names ts)) (Ok (e, at_state after rest))
  pub specs : (names after : Names) (ts rest : List Token) (x : ReadSpecs)
      → (d : AreSpecs total wide place names ts rest after x.is_typedef x.specs) → specs_stand b d → is_keyword_at rest ≡ false
      → sees_mark mark.OpenBrace rest ≡ false
      → Meets total b.later (inner.specs (at_state names ts)) (Ok (x, at_state after rest))
  pub declarator : (names after : Names) (ts rest : List Token) (x : ReadDeclarator)
      → (d : IsDeclarator total wide place names ts rest after x.name x.own x.tree) → declarator_stands b d → EndsDeclarator rest
      → Meets total b.later (inner.declarator (at_state names ts)) (Ok (x, at_state after rest))
  pub unnamed : TakesSpecs inner → (names after : Names) (ts rest : List Token) (a : Abstract Expr)
      → (d : IsAbstract total wide place names ts rest after a) → abstract_stands b d → EndsUnnamed rest
      → Meets total b.later (inner.unnamed (at_state names ts)) (Ok (a, at_state after rest))
  pub param : TakesSpecs inner → (names after : Names) (ts rest : List Token) (p : ReadParam)
      → (d : IsParamPart total wide place names ts rest after p) → param_part_stands b total wide place names ts rest after p d → EndsParam p rest
      → Meets total b.later (inner.param (at_state names ts)) (Ok (p, at_state after rest))
  pub type_in_parens : (names after : Names) (ts rest : List Token) (t : TypeName)
      → (d : IsTypeInParens total wide place names ts rest after t) → in_parens_stands b d
      → Meets total b.later (inner.type_in_parens (at_state names ts)) (Ok (t, at_state after rest))
