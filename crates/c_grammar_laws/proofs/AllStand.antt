-- Within limits all stands within the bounds of these limits: nothing there stands too deep, nor too far in its chain.
use Rattle.std.proofs.Common.{ℕ, suc, ◌+◌, ◌≤◌, Bool, Option, List, length, arith}
use Rattle.c_lex.specs.declared.token.Token.{Token}
use Rattle.c_ast.specs.declared.words.Qualifier.{Qualifier}
use Rattle.c_ast.specs.declared.expression.Expr.{Expr}
use Rattle.c_ast.specs.declared.expression.Link.{Link}
use Rattle.c_ast.specs.declared.expression.PostfixOp.{PostfixOp}
use Rattle.c_ast.specs.declared.declaration.Specifier.{Specifier}
use Rattle.c_ast.specs.declared.declaration.Specs.{Specs}
use Rattle.c_ast.specs.declared.declaration.StructSpec.{StructSpec}
use Rattle.c_ast.specs.declared.declaration.Member.{Member}
use Rattle.c_ast.specs.declared.declaration.EnumSpec.{EnumSpec}
use Rattle.c_ast.specs.declared.declaration.Enumerator.{Enumerator}
use Rattle.c_ast.specs.declared.declaration.Declarator.{Declarator}
use Rattle.c_ast.specs.declared.declaration.Direct.{Direct}
use Rattle.c_ast.specs.declared.declaration.DirectSuffix.{DirectSuffix}
use Rattle.c_ast.specs.declared.declaration.Param.{Param}
use Rattle.c_ast.specs.declared.declaration.Abstract.{Abstract}
use Rattle.c_ast.specs.declared.declaration.TypeName.{TypeName}
use Rattle.c_ast.specs.declared.declaration.Init.{Init}
use Rattle.c_ast.specs.declared.declaration.InitDeclarator.{InitDeclarator}
use Rattle.c_ast.specs.declared.declaration.Decl.{Decl}
use Rattle.c_ast.specs.declared.declaration.External.{External}
use Rattle.c_ast.specs.declared.statement.Stmt.{Stmt}
use Rattle.c_ast.specs.declared.statement.ForStart.{ForStart}
use Rattle.c_ast.specs.declared.statement.BlockItem.{BlockItem}
use Rattle.c_grammar.specs.Names.{Names}
use Rattle.c_grammar.specs.Owns.{Own}
use Rattle.c_grammar.specs.Types.{Typed}
use Rattle.c_grammar.specs.Grammar as g
use Rattle.c_grammar.specs.Grammar.{Part, AreQualifiers, ArePointers, IsExpr, AreLinks, AreOthers, ArePostfix, AreArguments, IsTypeNamed, IsAbstract, AreSizes, IsSize, AreSpecs, AreSpecifiers, IsStruct, AreMembers, IsMember, AreDeclarators, IsEnum, AreEnumerators, IsEnumerator, IsDeclarator, IsDirect, AreSuffixes, AreParams, IsParam, IsInit, AreInits, IsInitDeclarator, AreInitDeclarators, IsDecl, IsOptional, IsForStart, IsTest, IsStmt, AreItems, IsExternal, AreExternals}
use Rattle.c_grammar.specs.Nesting.{Bounds, qualifiers_stand, pointers_stand, expr_stands, links_stand, others_stand, postfix_stand, arguments_stand, listed_stand, type_stands, abstract_stands, sizes_stand, size_stands, specs_stand, specifiers_stand, struct_stands, members_stand, member_stands, declarators_stand, enum_stands, enumerators_stand, enumerator_stands, declarator_stands, direct_stands, suffixes_stand, params_stand, param_stands, init_stands, inits_stand, init_declarator_stands, init_declarators_stand, decl_stands, optional_stands, for_start_stands, test_stands, stmt_stands, items_stand, external_stands, externals_stand}
use Rattle.c_grammar_laws.proofs.Deep.{early}
use Rattle.c_grammar_laws.proofs.Moves.{expr_room, specs_room, declarator_room, enumerator_room, param_room, init_room, init_declarator_room, for_start_room}

-- the bounds of limits
abbrev pub within : ℕ → Bounds
within most = record { spare = 0; chain = most; later = 0 }

no_room : {P : Type 0} (room : ℕ) → suc room ≤ 0 → P
no_room room h = absurd (omega (arith, h))

filled : {P : Type 0} {room : ℕ} → 1 ≤ room → room ≤ 0 → P
filled some_room h = absurd (omega (arith, some_room, h))

module _ (most : ℕ) where
  -- ---- pointers

  pub qualifiers_all_stand : {room : ℕ} {ts rest : List Token} {qs : List Qualifier}
      → (there : AreQualifiers room ts rest qs) → qualifiers_stand (within most) there
  qualifiers_all_stand g.no_qualifiers = tt
  qualifiers_all_stand (g.more_qualifiers {room = room} q is qs) = (no_room room, qualifiers_all_stand qs)

  pub pointers_all_stand : {room : ℕ} {ts rest : List Token} {ps : List (List Qualifier)}
      → (there : ArePointers room ts rest ps) → pointers_stand (within most) there
  pointers_all_stand g.no_pointers = tt
  pointers_all_stand (g.more_pointers {room = room} is qs ps) = (no_room room, qualifiers_all_stand qs, pointers_all_stand ps)

  -- ---- expressions and declarations

  mutual
    pub expr_all_stands : {total : ℕ} {p : Part} {room : ℕ} {names after : Names} {ts rest : List Token} {e : Expr}
        → (there : IsExpr total most p room names ts rest after e) → expr_stands (within most) there
    expr_all_stands (g.name {room = room} is) = no_room room
    expr_all_stands (g.number {room = room} type is) = no_room room
    expr_all_stands (g.character {room = room} is) = no_room room
    expr_all_stands (g.text {room = room} is) = no_room room
    expr_all_stands (g.paren {room = room} opens d closes) = (no_room room, expr_all_stands d, no_room room)
    expr_all_stands (g.postfix d os few) = (expr_all_stands d, postfix_all_stand 0 os (omega (arith, few)))
    expr_all_stands (g.operand d) = expr_all_stands d
    expr_all_stands (g.prefixed {room = room} op is d) = (no_room room, expr_all_stands d)
    expr_all_stands (g.sizeof_expr {room = room} is no_type d) = (no_room room, expr_all_stands d)
    expr_all_stands (g.sizeof_type {room = room} is opens d closes) =
        (no_room (suc room), no_room room, type_all_stands d, no_room room)
    expr_all_stands (g.cast {room = room} opens d closes e) = (no_room room, type_all_stands d, no_room room, expr_all_stands e)
    expr_all_stands (g.lowest d) = expr_all_stands d
    expr_all_stands (g.chained d ls few) = (expr_all_stands d, links_all_stand 0 ls (omega (arith, few)))
    expr_all_stands (g.binary d) = expr_all_stands d
    expr_all_stands (g.conditional {room = room} d is e colon f) =
        (expr_all_stands d, no_room room, expr_all_stands e, filled (expr_room e), expr_all_stands f)
    expr_all_stands (g.value d) = expr_all_stands d
    expr_all_stands (g.assigned {room = room} op d is e) = (expr_all_stands d, no_room room, expr_all_stands e)
    expr_all_stands (g.comma d es few) = (expr_all_stands d, others_all_stand 0 es (omega (arith, few)))

    pub links_all_stand : {total level room : ℕ} {names after : Names} {ts rest : List Token} {ls : List (Link Expr)}
        → (before : ℕ) → (there : AreLinks total most level room names ts rest after ls) → before + length ls ≤ most → links_stand (within most) before there
    links_all_stand before g.no_links enough = tt
    links_all_stand before (g.more_links op is d ls) enough =
        (filled (expr_room d), early before most (omega (arith, enough)), expr_all_stands d, links_all_stand (suc before) ls (omega (arith, enough)))

    pub others_all_stand : {total room : ℕ} {names after : Names} {ts rest : List Token} {es : List Expr}
        → (before : ℕ) → (there : AreOthers total most room names ts rest after es) → before + length es ≤ most → others_stand (within most) before there
    others_all_stand before g.no_others enough = tt
    others_all_stand before (g.more_others is d es) enough =
        (filled (expr_room d), early before most (omega (arith, enough)), expr_all_stands d, others_all_stand (suc before) es (omega (arith, enough)))

    pub postfix_all_stand : {total room : ℕ} {names after : Names} {ts rest : List Token} {os : List (PostfixOp Expr)}
        → (before : ℕ) → (there : ArePostfix total most room names ts rest after os) → before + length os ≤ most → postfix_stand (within most) before there
    postfix_all_stand before g.no_postfix enough = tt
    postfix_all_stand before (g.index {room = room} opens d closes os) enough =
        (no_room room, early before most (omega (arith, enough)), expr_all_stands d, no_room room, postfix_all_stand (suc before) os (omega (arith, enough)))
    postfix_all_stand before (g.call {room = room} opens d closes os) enough =
        (no_room room, early before most (omega (arith, enough)), arguments_all_stand d, no_room room, postfix_all_stand (suc before) os (omega (arith, enough)))
    postfix_all_stand before (g.dot {room = room} is name os) enough =
        (no_room room, early before most (omega (arith, enough)), no_room room, postfix_all_stand (suc before) os (omega (arith, enough)))
    postfix_all_stand before (g.arrow {room = room} is name os) enough =
        (no_room room, early before most (omega (arith, enough)), no_room room, postfix_all_stand (suc before) os (omega (arith, enough)))
    postfix_all_stand before (g.increment {room = room} is os) enough =
        (no_room room, early before most (omega (arith, enough)), postfix_all_stand (suc before) os (omega (arith, enough)))
    postfix_all_stand before (g.decrement {room = room} is os) enough =
        (no_room room, early before most (omega (arith, enough)), postfix_all_stand (suc before) os (omega (arith, enough)))

    pub arguments_all_stand : {total room : ℕ} {names after : Names} {ts rest : List Token} {es : List Expr}
        → (there : AreArguments total most room names ts rest after es) → arguments_stand (within most) there
    arguments_all_stand g.no_arguments = tt
    arguments_all_stand (g.arguments d es) = (expr_all_stands d, listed_all_stand es)

    pub listed_all_stand : {total room : ℕ} {names after : Names} {ts rest : List Token} {es : List Expr}
        → (there : AreOthers total most room names ts rest after es) → listed_stand (within most) there
    listed_all_stand g.no_others = tt
    listed_all_stand (g.more_others is d es) = (filled (expr_room d), expr_all_stands d, listed_all_stand es)

    pub type_all_stands : {total room : ℕ} {names after : Names} {ts rest : List Token} {n : TypeName}
        → (there : IsTypeNamed total most room names ts rest after n) → type_stands (within most) there
    type_all_stands (g.type_named ss d) = (specs_all_stand ss, abstract_all_stands d)

    pub abstract_all_stands : {total room : ℕ} {names after : Names} {ts rest : List Token} {a : Abstract Expr}
        → (there : IsAbstract total most room names ts rest after a) → abstract_stands (within most) there
    abstract_all_stands (g.arrays d) = sizes_all_stand d
    abstract_all_stands (g.pointer {room = room} is d) = (no_room room, abstract_all_stands d)

    pub sizes_all_stand : {total room : ℕ} {names after : Names} {ts rest : List Token} {sizes : List (Option Expr)}
        → (there : AreSizes total most room names ts rest after sizes) → sizes_stand (within most) there
    sizes_all_stand g.no_sizes = tt
    sizes_all_stand (g.more_sizes d ds) = (size_all_stands d, sizes_all_stand ds)

    pub size_all_stands : {total room : ℕ} {names after : Names} {ts rest : List Token} {size : Option Expr}
        → (there : IsSize total most room names ts rest after size) → size_stands (within most) there
    size_all_stands (g.unsized {room = room} opens closes) = (no_room room, no_room room)
    size_all_stands (g.sized {room = room} opens d closes) = (no_room room, expr_all_stands d, no_room room)

    pub specs_all_stand : {total room : ℕ} {names after : Names} {ts rest : List Token} {is_typedef : Bool} {ss : Specs Specifier}
        → (there : AreSpecs total most room names ts rest after is_typedef ss) → specs_stand (within most) there
    specs_all_stand (g.specs ss one) = specifiers_all_stand ss

    pub specifiers_all_stand : {total room : ℕ} {names after : Names} {typed typed' : Typed} {ts rest : List Token} {is_typedef : Bool} {ss : List Specifier}
        → (there : AreSpecifiers total most room names typed ts rest after typed' is_typedef ss) → specifiers_stand (within most) there
    specifiers_all_stand g.no_specifiers = tt
    specifiers_all_stand (g.storage {room = room} s is ss) = (no_room room, specifiers_all_stand ss)
    specifiers_all_stand (g.qualifier {room = room} q is ss) = (no_room room, specifiers_all_stand ss)
    specifiers_all_stand (g.word {room = room} w is with_it ss) = (no_room room, specifiers_all_stand ss)
    specifiers_all_stand (g.struct_specifier s ss) = (struct_all_stands s, specifiers_all_stand ss)
    specifiers_all_stand (g.enum_specifier e ss) = (enum_all_stands e, specifiers_all_stand ss)
    specifiers_all_stand (g.typedef_name {room = room} is ss) = (no_room room, specifiers_all_stand ss)

    pub struct_all_stands : {total room : ℕ} {names after : Names} {ts rest : List Token} {s : StructSpec Member}
        → (there : IsStruct total most room names ts rest after s) → struct_stands (within most) there
    struct_all_stands (g.struct_reference {room = room} is name) = (no_room room, no_room room)
    struct_all_stands (g.struct_tagged {room = room} is name opens ms closes) =
        (no_room room, no_room room, no_room room, members_all_stand ms, no_room room)
    struct_all_stands (g.struct_untagged {room = room} is opens ms closes) =
        (no_room room, no_room room, members_all_stand ms, no_room room)

    pub members_all_stand : {total room : ℕ} {names after : Names} {ts rest : List Token} {ms : List Member}
        → (there : AreMembers total most room names ts rest after ms) → members_stand (within most) there
    members_all_stand (g.one_member d) = member_all_stands d
    members_all_stand (g.more_members d ms) = (member_all_stands d, members_all_stand ms)

    pub member_all_stands : {total room : ℕ} {names after : Names} {ts rest : List Token} {m : Member}
        → (there : IsMember total most room names ts rest after m) → member_stands (within most) there
    member_all_stands (g.member ss ds is) = (specs_all_stand ss, declarators_all_stand ds, filled (specs_room ss))

    pub declarators_all_stand : {total room : ℕ} {names after : Names} {ts rest : List Token} {ds : List Declarator}
        → (there : AreDeclarators total most room names ts rest after ds) → declarators_stand (within most) there
    declarators_all_stand (g.one_declarator d) = declarator_all_stands d
    declarators_all_stand (g.more_declarators d is ds) =
        (declarator_all_stands d, filled (declarator_room d), declarators_all_stand ds)

    pub enum_all_stands : {total room : ℕ} {names after : Names} {ts rest : List Token} {e : EnumSpec Expr}
        → (there : IsEnum total most room names ts rest after e) → enum_stands (within most) there
    enum_all_stands (g.enum_reference {room = room} is name) = (no_room room, no_room room)
    enum_all_stands (g.enum_tagged {room = room} is name opens es closes) =
        (no_room room, no_room room, no_room room, enumerators_all_stand es, no_room room)
    enum_all_stands (g.enum_untagged {room = room} is opens es closes) =
        (no_room room, no_room room, enumerators_all_stand es, no_room room)

    pub enumerators_all_stand : {total room : ℕ} {names after : Names} {ts rest : List Token} {es : List (Enumerator Expr)}
        → (there : AreEnumerators total most room names ts rest after es) → enumerators_stand (within most) there
    enumerators_all_stand (g.one_enumerator e) = enumerator_all_stands e
    enumerators_all_stand (g.last_enumerator e is) = (enumerator_all_stands e, filled (enumerator_room e))
    enumerators_all_stand (g.more_enumerators e is es) =
        (enumerator_all_stands e, filled (enumerator_room e), enumerators_all_stand es)

    pub enumerator_all_stands : {total room : ℕ} {names after : Names} {ts rest : List Token} {e : Enumerator Expr}
        → (there : IsEnumerator total most room names ts rest after e) → enumerator_stands (within most) there
    enumerator_all_stands (g.enumerator {room = room} is) = no_room room
    enumerator_all_stands (g.valued {room = room} is assign d) = (no_room room, no_room room, expr_all_stands d)

    pub declarator_all_stands : {total room : ℕ} {names after : Names} {ts rest : List Token} {bytes : List ℕ} {own : Own} {d : Declarator}
        → (there : IsDeclarator total most room names ts rest after bytes own d) → declarator_stands (within most) there
    declarator_all_stands (g.declarator ps d ss) = (pointers_all_stand ps, direct_all_stands d, suffixes_all_stand ss)

    pub direct_all_stands : {total room : ℕ} {names after : Names} {ts rest : List Token} {bytes : List ℕ} {own : Own} {d : Direct Declarator}
        → (there : IsDirect total most room names ts rest after bytes own d) → direct_stands (within most) there
    direct_all_stands (g.direct_name {room = room} is) = no_room room
    direct_all_stands (g.nested {room = room} opens d closes) = (no_room room, declarator_all_stands d, no_room room)

    pub suffixes_all_stand : {total room : ℕ} {names after : Names} {own own' : Own} {ts rest : List Token} {ss : List DirectSuffix}
        → (there : AreSuffixes total most room names own ts rest after own' ss) → suffixes_stand (within most) there
    suffixes_all_stand g.no_suffixes = tt
    suffixes_all_stand (g.array d ss) = (size_all_stands d, suffixes_all_stand ss)
    suffixes_all_stand (g.empty {room = room} opens closes ss) = (no_room room, no_room room, suffixes_all_stand ss)
    suffixes_all_stand (g.void {room = room} opens is closes ss) =
        (no_room (suc room), no_room room, no_room (suc room), suffixes_all_stand ss)
    suffixes_all_stand (g.params {room = room} added opens no_void ps closes ss) =
        (no_room room, params_all_stand ps, no_room room, suffixes_all_stand ss)

    pub params_all_stand : {total room : ℕ} {names after : Names} {ts rest : List Token} {ps : List Param}
        → (there : AreParams total most room names ts rest after ps) → params_stand (within most) there
    params_all_stand (g.one_param p) = param_all_stands p
    params_all_stand (g.more_params p is ps) = (param_all_stands p, filled (param_room p), params_all_stand ps)

    pub param_all_stands : {total room : ℕ} {names after : Names} {ts rest : List Token} {p : Param}
        → (there : IsParam total most room names ts rest after p) → param_stands (within most) there
    param_all_stands (g.named_param ss d) = (specs_all_stand ss, declarator_all_stands d)
    param_all_stands (g.unnamed_param ss d) = (specs_all_stand ss, abstract_all_stands d)

  mutual
    pub init_all_stands : {total room : ℕ} {names after : Names} {ts rest : List Token} {i : Init}
        → (there : IsInit total most room names ts rest after i) → init_stands (within most) there
    init_all_stands (g.init_value d) = expr_all_stands d
    init_all_stands (g.list {room = room} opens is closes) = (no_room room, inits_all_stand is, no_room room)

    pub inits_all_stand : {total room : ℕ} {names after : Names} {ts rest : List Token} {is : List Init}
        → (there : AreInits total most room names ts rest after is) → inits_stand (within most) there
    inits_all_stand (g.one_init i) = init_all_stands i
    inits_all_stand (g.last_init i is) = (init_all_stands i, filled (init_room i))
    inits_all_stand (g.more_inits i is more) = (init_all_stands i, filled (init_room i), inits_all_stand more)

  pub init_declarator_all_stands : {total : ℕ} {is_typedef : Bool} {room : ℕ} {names after : Names} {ts rest : List Token} {d : InitDeclarator}
      → (there : IsInitDeclarator total most is_typedef room names ts rest after d) → init_declarator_stands (within most) there
  init_declarator_all_stands (g.plain d) = declarator_all_stands d
  init_declarator_all_stands (g.initialised d is i) = (declarator_all_stands d, filled (declarator_room d), init_all_stands i)

  pub init_declarators_all_stand : {total : ℕ} {is_typedef : Bool} {room : ℕ} {names after : Names} {ts rest : List Token} {ds : List InitDeclarator}
      → (there : AreInitDeclarators total most is_typedef room names ts rest after ds) → init_declarators_stand (within most) there
  init_declarators_all_stand (g.one d) = init_declarator_all_stands d
  init_declarators_all_stand (g.AreInitDeclarators.more d is ds) =
      (init_declarator_all_stands d, filled (init_declarator_room d), init_declarators_all_stand ds)

  pub decl_all_stands : {total room : ℕ} {names after : Names} {ts rest : List Token} {d : Decl}
      → (there : IsDecl total most room names ts rest after d) → decl_stands (within most) there
  decl_all_stands (g.bare ss is) = (specs_all_stand ss, filled (specs_room ss))
  decl_all_stands (g.IsDecl.some ss ds is) = (specs_all_stand ss, init_declarators_all_stand ds, filled (specs_room ss))

  -- ---- statements

  pub optional_all_stands : {total room : ℕ} {names after : Names} {ts rest : List Token} {a : Option Expr}
      → (there : IsOptional total most room names ts rest after a) → optional_stands (within most) there
  optional_all_stands g.IsOptional.none = tt
  optional_all_stands (g.IsOptional.some d) = expr_all_stands d

  pub for_start_all_stands : {total room : ℕ} {names after : Names} {ts rest : List Token} {a : ForStart}
      → (there : IsForStart total most room names ts rest after a) → for_start_stands (within most) there
  for_start_all_stands (g.IsForStart.declaration d) = decl_all_stands d
  for_start_all_stands (g.expression {room = room} d is) = (optional_all_stands d, no_room room)

  pub test_all_stands : {total room : ℕ} {names after : Names} {ts rest : List Token} {a : Expr}
      → (there : IsTest total most room names ts rest after a) → test_stands (within most) there
  test_all_stands (g.test {room = room} opens d closes) = (no_room room, expr_all_stands d, no_room room)

  mutual
    pub stmt_all_stands : {total : ℕ} {ends : Bool} {room : ℕ} {names after : Names} {ts rest : List Token} {s : Stmt}
        → (there : IsStmt total most ends room names ts rest after s) → stmt_stands (within most) there
    stmt_all_stands (g.block {room = room} opens is closes) = (no_room room, items_all_stand is, no_room room)
    stmt_all_stands (g.express {room = room} d is) = (optional_all_stands d, no_room room)
    stmt_all_stands (g.if_then {room = room} is d s) = (no_room room, test_all_stands d, stmt_all_stands s)
    stmt_all_stands (g.if_else {room = room} is d s other s') =
        (no_room room, test_all_stands d, stmt_all_stands s, no_room room, stmt_all_stands s')
    stmt_all_stands (g.while_do {room = room} is d s) = (no_room room, test_all_stands d, stmt_all_stands s)
    stmt_all_stands (g.do_while {room = room} is d while d' closes) =
        (no_room room, stmt_all_stands d, no_room room, test_all_stands d', no_room room)
    stmt_all_stands (g.for_do {room = room} is opens d e semicolon f closes body) =
        (no_room room, no_room room, for_start_all_stands d, optional_all_stands e, filled (for_start_room d), optional_all_stands f, no_room room, stmt_all_stands body)
    stmt_all_stands (g.switch {room = room} is d s) = (no_room room, test_all_stands d, stmt_all_stands s)
    stmt_all_stands (g.case {room = room} is d colon s) = (no_room room, expr_all_stands d, no_room room, stmt_all_stands s)
    stmt_all_stands (g.default {room = room} is colon s) = (no_room room, no_room room, stmt_all_stands s)
    stmt_all_stands (g.break {room = room} is closes) = (no_room room, no_room room)
    stmt_all_stands (g.continue {room = room} is closes) = (no_room room, no_room room)
    stmt_all_stands (g.return {room = room} is d closes) = (no_room room, optional_all_stands d, no_room room)

    pub items_all_stand : {total room : ℕ} {names after : Names} {ts rest : List Token} {is : List (BlockItem Stmt)}
        → (there : AreItems total most room names ts rest after is) → items_stand (within most) there
    items_all_stand g.no_items = tt
    items_all_stand (g.declaration_item d is) = (decl_all_stands d, items_all_stand is)
    items_all_stand (g.statement_item d is) = (stmt_all_stands d, items_all_stand is)

  -- ---- units

  pub external_all_stands : {total room : ℕ} {names after : Names} {ts rest : List Token} {e : External}
      → (there : IsExternal total most room names ts rest after e) → external_stands (within most) there
  external_all_stands (g.IsExternal.declaration d) = decl_all_stands d
  external_all_stands (g.function {room = room} ss d opens is closes) =
      (specs_all_stand ss, declarator_all_stands d, no_room room, items_all_stand is, no_room room)

  pub externals_all_stand : {total room : ℕ} {names after : Names} {ts rest : List Token} {es : List External}
      → (there : AreExternals total most room names ts rest after es) → externals_stand (within most) there
  externals_all_stand g.AreExternals.none = tt
  externals_all_stand (g.AreExternals.more e es) = (external_all_stands e, externals_all_stand es)
