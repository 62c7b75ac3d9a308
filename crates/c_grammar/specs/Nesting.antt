-- How deep the tokens of a unit stand, and how long its chains are, by the way in which it is in the grammar. The room that a place
-- has is what the families of `Grammar` say; a token stands beyond the limit where no more than `spare` room is there.
use Rattle.std.specs.Prelude.{ℕ, suc, ◌≤◌, ◌+◌, ◌++◌, Bool, Option, List, [], ◌∷◌, length}
use Rattle.c_lex.specs.declared.token.Token.{Token}
use Rattle.c_ast.specs.declared.words.Qualifier.{Qualifier}
use Rattle.c_ast.specs.declared.expression.Expr.{Expr}
use Rattle.c_ast.specs.declared.expression.Link.{Link}
use Rattle.c_ast.specs.declared.expression.PostfixOp.{PostfixOp}
use Rattle.c_ast.specs.declared.declaration.Specifier.{Specifier}
use Rattle.c_ast.specs.declared.declaration.Specs.{Specs}
use Rattle.c_ast.specs.declared.declaration.StructSpec.{StructSpec}
use Rattle.c_ast.specs.declared.declaration.Member.{Member}
use Rattle.c_ast.specs.declared.declaration.EnumSpec.{EnumSpec}
use Rattle.c_ast.specs.declared.declaration.Enumerator.{Enumerator}
use Rattle.c_ast.specs.declared.declaration.Declarator.{Declarator}
use Rattle.c_ast.specs.declared.declaration.Direct.{Direct}
use Rattle.c_ast.specs.declared.declaration.DirectSuffix.{DirectSuffix}
use Rattle.c_ast.specs.declared.declaration.Param.{Param}
use Rattle.c_ast.specs.declared.declaration.Abstract.{Abstract}
use Rattle.c_ast.specs.declared.declaration.TypeName.{TypeName}
use Rattle.c_ast.specs.declared.declaration.Init.{Init}
use Rattle.c_ast.specs.declared.declaration.InitDeclarator.{InitDeclarator}
use Rattle.c_ast.specs.declared.declaration.Decl.{Decl}
use Rattle.c_ast.specs.declared.declaration.External.{External}
use Rattle.c_ast.specs.declared.declaration.Unit.{Unit as AUnit}
use Rattle.c_ast.specs.declared.statement.Stmt.{Stmt}
use Rattle.c_ast.specs.declared.statement.ForStart.{ForStart}
use Rattle.c_ast.specs.declared.statement.BlockItem.{BlockItem}
use Rattle.c_grammar.specs.Names.{Names, nothing}
use Rattle.c_grammar.specs.Owns.{Own}
use Rattle.c_grammar.specs.Types.{Typed}
use Rattle.c_grammar.specs.Grammar as g
use Rattle.c_grammar.specs.Grammar.{Part, AreQualifiers, ArePointers, IsExpr, AreLinks, AreOthers, ArePostfix, AreArguments, IsTypeNamed, IsAbstract, AreSizes, IsSize, AreSpecs, AreSpecifiers, IsStruct, AreMembers, IsMember, AreDeclarators, IsEnum, AreEnumerators, IsEnumerator, IsDeclarator, IsDirect, AreSuffixes, AreParams, IsParam, IsInit, AreInits, IsInitDeclarator, AreInitDeclarators, IsDecl, IsOptional, IsForStart, IsTest, IsStmt, AreItems, IsExternal, AreExternals}

-- What is beyond the limits: a token with no more than `spare` room, and an operator behind the first `chain` of its chain. The last
-- tokens, `later` in number, may be.
pub record Bounds : Type 0 where
  pub spare : ℕ
  pub chain : ℕ
  pub later : ℕ

-- the token at the front, with so much room
abbrev pub Stands : Bounds → ℕ → List Token → Type 0
Stands b room ts = room ≤ b.spare → length ts ≤ b.later

-- the operator at the front, with so many of its chain before it
abbrev pub Follows : Bounds → ℕ → List Token → Type 0
Follows b before ts = b.chain ≤ before → length ts ≤ b.later

-- ---- pointers

abbrev pub qualifiers_stand : Bounds → {room : ℕ} {ts rest : List Token} {qs : List Qualifier} → AreQualifiers room ts rest qs → Type 0
qualifiers_stand b g.no_qualifiers = Unit {0}
qualifiers_stand b (g.more_qualifiers {room = room} {t = t} {ts = ts} q is qs) = Stands b (suc room) (t ∷ ts) × qualifiers_stand b qs

abbrev pub pointers_stand : Bounds → {room : ℕ} {ts rest : List Token} {ps : List (List Qualifier)} → ArePointers room ts rest ps → Type 0
pointers_stand b g.no_pointers = Unit {0}
pointers_stand b (g.more_pointers {room = room} {t = t} {ts = ts} is qs ps) =
    Stands b (suc room) (t ∷ ts) × qualifiers_stand b qs × pointers_stand b ps

-- ---- expressions and declarations

abbrev mutual
  pub expr_stands : Bounds → {total most : ℕ} {p : Part} {room : ℕ} {names after : Names} {ts rest : List Token} {e : Expr}
      → IsExpr total most p room names ts rest after e → Type 0
  expr_stands b (g.name {room = room} {t = t} {rest = rest} is) = Stands b (suc room) (t ∷ rest)
  expr_stands b (g.number {room = room} {t = t} {rest = rest} type is) = Stands b (suc room) (t ∷ rest)
  expr_stands b (g.character {room = room} {t = t} {rest = rest} is) = Stands b (suc room) (t ∷ rest)
  expr_stands b (g.text {room = room} {t = t} {rest = rest} is) = Stands b (suc room) (t ∷ rest)
  expr_stands b (g.paren {room = room} {t = t} {c = c} {ts = ts} {rest = rest} opens d closes) =
      Stands b (suc room) (t ∷ ts) × expr_stands b d × Stands b (suc room) (c ∷ rest)
  expr_stands b (g.postfix d os few) = expr_stands b d × postfix_stand b 0 os
  expr_stands b (g.operand d) = expr_stands b d
  expr_stands b (g.prefixed {room = room} {t = t} {ts = ts} op is d) = Stands b (suc room) (t ∷ ts) × expr_stands b d
  expr_stands b (g.sizeof_expr {room = room} {t = t} {ts = ts} is no_type d) = Stands b (suc room) (t ∷ ts) × expr_stands b d
  expr_stands b (g.sizeof_type {room = room} {t = t} {o = o} {c = c} {ts = ts} {rest = rest} is opens d closes) =
      Stands b (suc (suc room)) (t ∷ o ∷ ts) × Stands b (suc room) (o ∷ ts) × type_stands b d × Stands b (suc room) (c ∷ rest)
  expr_stands b (g.cast {room = room} {o = o} {c = c} {ts = ts} {mid = mid} opens d closes e) =
      Stands b (suc room) (o ∷ ts) × type_stands b d × Stands b (suc room) (c ∷ mid) × expr_stands b e
  expr_stands b (g.lowest d) = expr_stands b d
  expr_stands b (g.chained d ls few) = expr_stands b d × links_stand b 0 ls
  expr_stands b (g.binary d) = expr_stands b d
  -- the `:` stands on the right of the `?`
  expr_stands b (g.conditional {room = room} {q = q} {c = c} {mid = mid} {more = more} d is e colon f) =
      expr_stands b d × Stands b (suc room) (q ∷ mid) × expr_stands b e × Stands b room (c ∷ more) × expr_stands b f
  expr_stands b (g.value d) = expr_stands b d
  expr_stands b (g.assigned {room = room} {t = t} {mid = mid} op d is e) = expr_stands b d × Stands b (suc room) (t ∷ mid) × expr_stands b e
  expr_stands b (g.comma d es few) = expr_stands b d × others_stand b 0 es

  -- operators behind so many of the same chain
  pub links_stand : Bounds → ℕ → {total most level room : ℕ} {names after : Names} {ts rest : List Token} {ls : List (Link Expr)}
      → AreLinks total most level room names ts rest after ls → Type 0
  links_stand b before g.no_links = Unit {0}
  links_stand b before (g.more_links {room = room} {t = t} {ts = ts} op is d ls) =
      Stands b room (t ∷ ts) × Follows b before (t ∷ ts) × expr_stands b d × links_stand b (suc before) ls

  -- expressions behind commas that are operators of one chain
  pub others_stand : Bounds → ℕ → {total most room : ℕ} {names after : Names} {ts rest : List Token} {es : List Expr}
      → AreOthers total most room names ts rest after es → Type 0
  others_stand b before g.no_others = Unit {0}
  others_stand b before (g.more_others {room = room} {t = t} {ts = ts} is d es) =
      Stands b room (t ∷ ts) × Follows b before (t ∷ ts) × expr_stands b d × others_stand b (suc before) es

  pub postfix_stand : Bounds → ℕ → {total most room : ℕ} {names after : Names} {ts rest : List Token} {os : List (PostfixOp Expr)}
      → ArePostfix total most room names ts rest after os → Type 0
  postfix_stand b before g.no_postfix = Unit {0}
  postfix_stand b before (g.index {room = room} {t = t} {c = c} {ts = ts} {mid = mid} opens d closes os) =
      Stands b (suc room) (t ∷ ts) × Follows b before (t ∷ ts) × expr_stands b d × Stands b (suc room) (c ∷ mid) × postfix_stand b (suc before) os
  postfix_stand b before (g.call {room = room} {t = t} {c = c} {ts = ts} {mid = mid} opens d closes os) =
      Stands b (suc room) (t ∷ ts) × Follows b before (t ∷ ts) × arguments_stand b d × Stands b (suc room) (c ∷ mid) × postfix_stand b (suc before) os
  postfix_stand b before (g.dot {room = room} {d = d} {t = t} {mid = mid} is name os) =
      Stands b (suc room) (d ∷ t ∷ mid) × Follows b before (d ∷ t ∷ mid) × Stands b (suc room) (t ∷ mid) × postfix_stand b (suc before) os
  postfix_stand b before (g.arrow {room = room} {d = d} {t = t} {mid = mid} is name os) =
      Stands b (suc room) (d ∷ t ∷ mid) × Follows b before (d ∷ t ∷ mid) × Stands b (suc room) (t ∷ mid) × postfix_stand b (suc before) os
  postfix_stand b before (g.increment {room = room} {t = t} {mid = mid} is os) =
      Stands b (suc room) (t ∷ mid) × Follows b before (t ∷ mid) × postfix_stand b (suc before) os
  postfix_stand b before (g.decrement {room = room} {t = t} {mid = mid} is os) =
      Stands b (suc room) (t ∷ mid) × Follows b before (t ∷ mid) × postfix_stand b (suc before) os

  -- the commas between arguments are no operators
  pub arguments_stand : Bounds → {total most room : ℕ} {names after : Names} {ts rest : List Token} {es : List Expr}
      → AreArguments total most room names ts rest after es → Type 0
  arguments_stand b g.no_arguments = Unit {0}
  arguments_stand b (g.arguments d es) = expr_stands b d × listed_stand b es

  pub listed_stand : Bounds → {total most room : ℕ} {names after : Names} {ts rest : List Token} {es : List Expr}
      → AreOthers total most room names ts rest after es → Type 0
  listed_stand b g.no_others = Unit {0}
  listed_stand b (g.more_others {room = room} {t = t} {ts = ts} is d es) =
      Stands b room (t ∷ ts) × expr_stands b d × listed_stand b es

  pub type_stands : Bounds → {total most room : ℕ} {names after : Names} {ts rest : List Token} {n : TypeName}
      → IsTypeNamed total most room names ts rest after n → Type 0
  type_stands b (g.type_named ss d) = specs_stand b ss × abstract_stands b d

  pub abstract_stands : Bounds → {total most room : ℕ} {names after : Names} {ts rest : List Token} {a : Abstract Expr}
      → IsAbstract total most room names ts rest after a → Type 0
  abstract_stands b (g.arrays d) = sizes_stand b d
  abstract_stands b (g.pointer {room = room} {t = t} {ts = ts} is d) = Stands b (suc room) (t ∷ ts) × abstract_stands b d

  pub sizes_stand : Bounds → {total most room : ℕ} {names after : Names} {ts rest : List Token} {sizes : List (Option Expr)}
      → AreSizes total most room names ts rest after sizes → Type 0
  sizes_stand b g.no_sizes = Unit {0}
  sizes_stand b (g.more_sizes d ds) = size_stands b d × sizes_stand b ds

  pub size_stands : Bounds → {total most room : ℕ} {names after : Names} {ts rest : List Token} {size : Option Expr}
      → IsSize total most room names ts rest after size → Type 0
  size_stands b (g.unsized {room = room} {o = o} {c = c} {rest = rest} opens closes) =
      Stands b (suc room) (o ∷ c ∷ rest) × Stands b (suc room) (c ∷ rest)
  size_stands b (g.sized {room = room} {o = o} {c = c} {ts = ts} {rest = rest} opens d closes) =
      Stands b (suc room) (o ∷ ts) × expr_stands b d × Stands b (suc room) (c ∷ rest)

  pub specs_stand : Bounds → {total most room : ℕ} {names after : Names} {ts rest : List Token} {is_typedef : Bool} {ss : Specs Specifier}
      → AreSpecs total most room names ts rest after is_typedef ss → Type 0
  specs_stand b (g.specs ss one) = specifiers_stand b ss

  pub specifiers_stand : Bounds → {total most room : ℕ} {names after : Names} {typed typed' : Typed} {ts rest : List Token} {is_typedef : Bool}
      {ss : List Specifier} → AreSpecifiers total most room names typed ts rest after typed' is_typedef ss → Type 0
  specifiers_stand b g.no_specifiers = Unit {0}
  specifiers_stand b (g.storage {room = room} {t = t} {ts = ts} s is ss) = Stands b (suc room) (t ∷ ts) × specifiers_stand b ss
  specifiers_stand b (g.qualifier {room = room} {t = t} {ts = ts} q is ss) = Stands b (suc room) (t ∷ ts) × specifiers_stand b ss
  specifiers_stand b (g.word {room = room} {t = t} {ts = ts} w is with_it ss) = Stands b (suc room) (t ∷ ts) × specifiers_stand b ss
  specifiers_stand b (g.struct_specifier s ss) = struct_stands b s × specifiers_stand b ss
  specifiers_stand b (g.enum_specifier e ss) = enum_stands b e × specifiers_stand b ss
  specifiers_stand b (g.typedef_name {room = room} {t = t} {ts = ts} is ss) = Stands b (suc room) (t ∷ ts) × specifiers_stand b ss

  pub struct_stands : Bounds → {total most room : ℕ} {names after : Names} {ts rest : List Token} {s : StructSpec Member}
      → IsStruct total most room names ts rest after s → Type 0
  struct_stands b (g.struct_reference {room = room} {s = s} {t = t} {rest = rest} is name) =
      Stands b (suc room) (s ∷ t ∷ rest) × Stands b (suc room) (t ∷ rest)
  struct_stands b (g.struct_tagged {room = room} {s = s} {t = t} {o = o} {c = c} {ts = ts} {rest = rest} is name opens ms closes) =
      Stands b (suc room) (s ∷ t ∷ o ∷ ts) × Stands b (suc room) (t ∷ o ∷ ts) × Stands b (suc room) (o ∷ ts) × members_stand b ms
      × Stands b (suc room) (c ∷ rest)
  struct_stands b (g.struct_untagged {room = room} {s = s} {o = o} {c = c} {ts = ts} {rest = rest} is opens ms closes) =
      Stands b (suc room) (s ∷ o ∷ ts) × Stands b (suc room) (o ∷ ts) × members_stand b ms × Stands b (suc room) (c ∷ rest)

  pub members_stand : Bounds → {total most room : ℕ} {names after : Names} {ts rest : List Token} {ms : List Member}
      → AreMembers total most room names ts rest after ms → Type 0
  members_stand b (g.one_member d) = member_stands b d
  members_stand b (g.more_members d ms) = member_stands b d × members_stand b ms

  pub member_stands : Bounds → {total most room : ℕ} {names after : Names} {ts rest : List Token} {m : Member}
      → IsMember total most room names ts rest after m → Type 0
  member_stands b (g.member {room = room} {s = s} {rest = rest} ss ds is) = specs_stand b ss × declarators_stand b ds × Stands b room (s ∷ rest)

  pub declarators_stand : Bounds → {total most room : ℕ} {names after : Names} {ts rest : List Token} {ds : List Declarator}
      → AreDeclarators total most room names ts rest after ds → Type 0
  declarators_stand b (g.one_declarator d) = declarator_stands b d
  declarators_stand b (g.more_declarators {room = room} {t = t} {mid = mid} d is ds) =
      declarator_stands b d × Stands b room (t ∷ mid) × declarators_stand b ds

  pub enum_stands : Bounds → {total most room : ℕ} {names after : Names} {ts rest : List Token} {e : EnumSpec Expr}
      → IsEnum total most room names ts rest after e → Type 0
  enum_stands b (g.enum_reference {room = room} {e = e} {t = t} {rest = rest} is name) =
      Stands b (suc room) (e ∷ t ∷ rest) × Stands b (suc room) (t ∷ rest)
  enum_stands b (g.enum_tagged {room = room} {e = e} {t = t} {o = o} {c = c} {ts = ts} {rest = rest} is name opens es closes) =
      Stands b (suc room) (e ∷ t ∷ o ∷ ts) × Stands b (suc room) (t ∷ o ∷ ts) × Stands b (suc room) (o ∷ ts) × enumerators_stand b es
      × Stands b (suc room) (c ∷ rest)
  enum_stands b (g.enum_untagged {room = room} {e = e} {o = o} {c = c} {ts = ts} {rest = rest} is opens es closes) =
      Stands b (suc room) (e ∷ o ∷ ts) × Stands b (suc room) (o ∷ ts) × enumerators_stand b es × Stands b (suc room) (c ∷ rest)

  pub enumerators_stand : Bounds → {total most room : ℕ} {names after : Names} {ts rest : List Token} {es : List (Enumerator Expr)}
      → AreEnumerators total most room names ts rest after es → Type 0
  enumerators_stand b (g.one_enumerator e) = enumerator_stands b e
  enumerators_stand b (g.last_enumerator {room = room} {t = t} {rest = rest} e is) = enumerator_stands b e × Stands b room (t ∷ rest)
  enumerators_stand b (g.more_enumerators {room = room} {t = t} {mid = mid} e is es) =
      enumerator_stands b e × Stands b room (t ∷ mid) × enumerators_stand b es

  pub enumerator_stands : Bounds → {total most room : ℕ} {names after : Names} {ts rest : List Token} {e : Enumerator Expr}
      → IsEnumerator total most room names ts rest after e → Type 0
  enumerator_stands b (g.enumerator {room = room} {t = t} {rest = rest} is) = Stands b (suc room) (t ∷ rest)
  enumerator_stands b (g.valued {room = room} {t = t} {e = e} {ts = ts} is assign d) =
      Stands b (suc room) (t ∷ e ∷ ts) × Stands b (suc room) (e ∷ ts) × expr_stands b d

  pub declarator_stands : Bounds → {total most room : ℕ} {names after : Names} {ts rest : List Token} {bytes : List ℕ} {own : Own} {d : Declarator}
      → IsDeclarator total most room names ts rest after bytes own d → Type 0
  declarator_stands b (g.declarator ps d ss) = pointers_stand b ps × direct_stands b d × suffixes_stand b ss

  pub direct_stands : Bounds → {total most room : ℕ} {names after : Names} {ts rest : List Token} {bytes : List ℕ} {own : Own}
      {d : Direct Declarator} → IsDirect total most room names ts rest after bytes own d → Type 0
  direct_stands b (g.direct_name {room = room} {t = t} {rest = rest} is) = Stands b (suc room) (t ∷ rest)
  direct_stands b (g.nested {room = room} {o = o} {c = c} {ts = ts} {rest = rest} opens d closes) =
      Stands b (suc room) (o ∷ ts) × declarator_stands b d × Stands b (suc room) (c ∷ rest)

  pub suffixes_stand : Bounds → {total most room : ℕ} {names after : Names} {own own' : Own} {ts rest : List Token} {ss : List DirectSuffix}
      → AreSuffixes total most room names own ts rest after own' ss → Type 0
  suffixes_stand b g.no_suffixes = Unit {0}
  suffixes_stand b (g.array d ss) = size_stands b d × suffixes_stand b ss
  suffixes_stand b (g.empty {room = room} {o = o} {c = c} {mid = mid} opens closes ss) =
      Stands b (suc room) (o ∷ c ∷ mid) × Stands b (suc room) (c ∷ mid) × suffixes_stand b ss
  suffixes_stand b (g.void {room = room} {o = o} {v = v} {c = c} {mid = mid} opens is closes ss) =
      Stands b (suc (suc room)) (o ∷ v ∷ c ∷ mid) × Stands b (suc room) (v ∷ c ∷ mid) × Stands b (suc (suc room)) (c ∷ mid) × suffixes_stand b ss
  suffixes_stand b (g.params {room = room} added {o = o} {c = c} {ts = ts} {mid = mid} opens no_void ps closes ss) =
      Stands b (suc room) (o ∷ ts) × params_stand b ps × Stands b (suc room) (c ∷ mid) × suffixes_stand b ss

  pub params_stand : Bounds → {total most room : ℕ} {names after : Names} {ts rest : List Token} {ps : List Param}
      → AreParams total most room names ts rest after ps → Type 0
  params_stand b (g.one_param p) = param_stands b p
  params_stand b (g.more_params {room = room} {t = t} {mid = mid} p is ps) = param_stands b p × Stands b room (t ∷ mid) × params_stand b ps

  pub param_stands : Bounds → {total most room : ℕ} {names after : Names} {ts rest : List Token} {p : Param}
      → IsParam total most room names ts rest after p → Type 0
  param_stands b (g.named_param ss d) = specs_stand b ss × declarator_stands b d
  param_stands b (g.unnamed_param ss d) = specs_stand b ss × abstract_stands b d

abbrev mutual
  pub init_stands : Bounds → {total most room : ℕ} {names after : Names} {ts rest : List Token} {i : Init}
      → IsInit total most room names ts rest after i → Type 0
  init_stands b (g.init_value d) = expr_stands b d
  init_stands b (g.list {room = room} {o = o} {c = c} {ts = ts} {rest = rest} opens is closes) =
      Stands b (suc room) (o ∷ ts) × inits_stand b is × Stands b (suc room) (c ∷ rest)

  pub inits_stand : Bounds → {total most room : ℕ} {names after : Names} {ts rest : List Token} {is : List Init}
      → AreInits total most room names ts rest after is → Type 0
  inits_stand b (g.one_init i) = init_stands b i
  inits_stand b (g.last_init {room = room} {t = t} {rest = rest} i is) = init_stands b i × Stands b room (t ∷ rest)
  inits_stand b (g.more_inits {room = room} {t = t} {mid = mid} i is more) = init_stands b i × Stands b room (t ∷ mid) × inits_stand b more

abbrev pub init_declarator_stands : Bounds → {total most : ℕ} {is_typedef : Bool} {room : ℕ} {names after : Names} {ts rest : List Token} {d : InitDeclarator}
    → IsInitDeclarator total most is_typedef room names ts rest after d → Type 0
init_declarator_stands b (g.plain d) = declarator_stands b d
init_declarator_stands b (g.initialised {room = room} {t = t} {mid = mid} d is i) =
    declarator_stands b d × Stands b room (t ∷ mid) × init_stands b i

abbrev pub init_declarators_stand : Bounds → {total most : ℕ} {is_typedef : Bool} {room : ℕ} {names after : Names} {ts rest : List Token}
    {ds : List InitDeclarator} → AreInitDeclarators total most is_typedef room names ts rest after ds → Type 0
init_declarators_stand b (g.one d) = init_declarator_stands b d
init_declarators_stand b (g.AreInitDeclarators.more {room = room} {t = t} {mid = mid} d is ds) =
    init_declarator_stands b d × Stands b room (t ∷ mid) × init_declarators_stand b ds

abbrev pub decl_stands : Bounds → {total most room : ℕ} {names after : Names} {ts rest : List Token} {d : Decl}
    → IsDecl total most room names ts rest after d → Type 0
decl_stands b (g.bare {room = room} {s = s} {rest = rest} ss is) = specs_stand b ss × Stands b room (s ∷ rest)
decl_stands b (g.IsDecl.some {room = room} {s = s} {rest = rest} ss ds is) = specs_stand b ss × init_declarators_stand b ds × Stands b room (s ∷ rest)

-- ---- statements

abbrev pub optional_stands : Bounds → {total most room : ℕ} {names after : Names} {ts rest : List Token} {a : Option Expr}
    → IsOptional total most room names ts rest after a → Type 0
optional_stands b g.IsOptional.none = Unit {0}
optional_stands b (g.IsOptional.some d) = expr_stands b d

abbrev pub for_start_stands : Bounds → {total most room : ℕ} {names after : Names} {ts rest : List Token} {a : ForStart}
    → IsForStart total most room names ts rest after a → Type 0
for_start_stands b (g.IsForStart.declaration d) = decl_stands b d
for_start_stands b (g.expression {room = room} {s = s} {rest = rest} d is) = optional_stands b d × Stands b (suc room) (s ∷ rest)

abbrev pub test_stands : Bounds → {total most room : ℕ} {names after : Names} {ts rest : List Token} {a : Expr}
    → IsTest total most room names ts rest after a → Type 0
test_stands b (g.test {room = room} {o = o} {c = c} {ts = ts} {rest = rest} opens d closes) =
    Stands b (suc room) (o ∷ ts) × expr_stands b d × Stands b (suc room) (c ∷ rest)

-- a statement that is no block stands around all its tokens
abbrev mutual
  pub stmt_stands : Bounds → {total most : ℕ} {ends : Bool} {room : ℕ} {names after : Names} {ts rest : List Token} {s : Stmt}
      → IsStmt total most ends room names ts rest after s → Type 0
  stmt_stands b (g.block {room = room} {o = o} {c = c} {ts = ts} {rest = rest} opens is closes) =
      Stands b (suc room) (o ∷ ts) × items_stand b is × Stands b (suc room) (c ∷ rest)
  stmt_stands b (g.express {room = room} {s = s} {rest = rest} d is) = optional_stands b d × Stands b (suc room) (s ∷ rest)
  stmt_stands b (g.if_then {room = room} {t = t} {ts = ts} is d s) = Stands b (suc room) (t ∷ ts) × test_stands b d × stmt_stands b s
  stmt_stands b (g.if_else {room = room} {t = t} {e = e} {ts = ts} {more = more} is d s other s') =
      Stands b (suc room) (t ∷ ts) × test_stands b d × stmt_stands b s × Stands b (suc room) (e ∷ more) × stmt_stands b s'
  stmt_stands b (g.while_do {room = room} {t = t} {ts = ts} is d s) = Stands b (suc room) (t ∷ ts) × test_stands b d × stmt_stands b s
  stmt_stands b (g.do_while {room = room} {t = t} {w = w} {s = s} {ts = ts} {mid = mid} {rest = rest} is d while d' closes) =
      Stands b (suc room) (t ∷ ts) × stmt_stands b d × Stands b (suc room) (w ∷ mid) × test_stands b d' × Stands b (suc room) (s ∷ rest)
  -- what is in the parentheses has one bracket more around it
  stmt_stands b (g.for_do {room = room} {t = t} {o = o} {s = s} {c = c} {ts = ts} {more = more} {end = end} is opens d e semicolon f closes body) =
      Stands b (suc room) (t ∷ o ∷ ts) × Stands b (suc room) (o ∷ ts) × for_start_stands b d × optional_stands b e × Stands b room (s ∷ more)
      × optional_stands b f × Stands b (suc room) (c ∷ end) × stmt_stands b body
  stmt_stands b (g.switch {room = room} {t = t} {ts = ts} is d s) = Stands b (suc room) (t ∷ ts) × test_stands b d × stmt_stands b s
  stmt_stands b (g.case {room = room} {t = t} {c = c} {ts = ts} {mid = mid} is d colon s) =
      Stands b (suc room) (t ∷ ts) × expr_stands b d × Stands b (suc room) (c ∷ mid) × stmt_stands b s
  stmt_stands b (g.default {room = room} {t = t} {c = c} {mid = mid} is colon s) =
      Stands b (suc room) (t ∷ c ∷ mid) × Stands b (suc room) (c ∷ mid) × stmt_stands b s
  stmt_stands b (g.break {room = room} {t = t} {s = s} {rest = rest} is closes) = Stands b (suc room) (t ∷ s ∷ rest) × Stands b (suc room) (s ∷ rest)
  stmt_stands b (g.continue {room = room} {t = t} {s = s} {rest = rest} is closes) = Stands b (suc room) (t ∷ s ∷ rest) × Stands b (suc room) (s ∷ rest)
  stmt_stands b (g.return {room = room} {t = t} {s = s} {ts = ts} {rest = rest} is d closes) =
      Stands b (suc room) (t ∷ ts) × optional_stands b d × Stands b (suc room) (s ∷ rest)

  pub items_stand : Bounds → {total most room : ℕ} {names after : Names} {ts rest : List Token} {is : List (BlockItem Stmt)}
      → AreItems total most room names ts rest after is → Type 0
  items_stand b g.no_items = Unit {0}
  items_stand b (g.declaration_item d is) = decl_stands b d × items_stand b is
  items_stand b (g.statement_item d is) = stmt_stands b d × items_stand b is

-- ---- units

abbrev pub external_stands : Bounds → {total most room : ℕ} {names after : Names} {ts rest : List Token} {e : External}
    → IsExternal total most room names ts rest after e → Type 0
external_stands b (g.IsExternal.declaration d) = decl_stands b d
external_stands b (g.function {room = room} {o = o} {c = c} {body = body} {rest = rest} ss d opens is closes) =
    specs_stand b ss × declarator_stands b d × Stands b (suc room) (o ∷ body) × items_stand b is × Stands b (suc room) (c ∷ rest)

abbrev pub externals_stand : Bounds → {total most room : ℕ} {names after : Names} {ts rest : List Token} {es : List External}
    → AreExternals total most room names ts rest after es → Type 0
externals_stand b g.AreExternals.none = Unit {0}
externals_stand b (g.AreExternals.more e es) = external_stands b e × externals_stand b es

-- A unit begins with these tokens, and they stand within the limits: whatever comes behind them may be nested deeper.
pub record Begins (limit most : ℕ) (front : List Token) : Type 0 where
  pub more : List Token
  pub unit : AUnit
  pub spare : ℕ
  pub wide : ℕ
  pub after : Names
  pub are : AreExternals (length (front ++ more)) wide (suc (limit + spare)) nothing (front ++ more) [] after unit.externals
  pub stand : externals_stand (record { spare = spare; chain = most; later = length more }) are
