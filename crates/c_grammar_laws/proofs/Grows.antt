-- A derivation within limits is one within greater limits: with one more of nesting, and with chains as long or longer.
use Rattle.std.proofs.Common.{ℕ, suc, ◌≤◌, Bool, Option, List, arith}
use Rattle.c_lex.specs.declared.token.Token.{Token}
use Rattle.c_ast.specs.declared.words.Qualifier.{Qualifier}
use Rattle.c_ast.specs.declared.expression.Expr.{Expr}
use Rattle.c_ast.specs.declared.expression.Link.{Link}
use Rattle.c_ast.specs.declared.expression.PostfixOp.{PostfixOp}
use Rattle.c_ast.specs.declared.declaration.Specifier.{Specifier}
use Rattle.c_ast.specs.declared.declaration.Specs.{Specs}
use Rattle.c_ast.specs.declared.declaration.StructSpec.{StructSpec}
use Rattle.c_ast.specs.declared.declaration.Member.{Member}
use Rattle.c_ast.specs.declared.declaration.EnumSpec.{EnumSpec}
use Rattle.c_ast.specs.declared.declaration.Enumerator.{Enumerator}
use Rattle.c_ast.specs.declared.declaration.Declarator.{Declarator}
use Rattle.c_ast.specs.declared.declaration.Direct.{Direct}
use Rattle.c_ast.specs.declared.declaration.DirectSuffix.{DirectSuffix}
use Rattle.c_ast.specs.declared.declaration.Param.{Param}
use Rattle.c_ast.specs.declared.declaration.Abstract.{Abstract}
use Rattle.c_ast.specs.declared.declaration.TypeName.{TypeName}
use Rattle.c_ast.specs.declared.declaration.Init.{Init}
use Rattle.c_ast.specs.declared.declaration.InitDeclarator.{InitDeclarator}
use Rattle.c_ast.specs.declared.declaration.Decl.{Decl}
use Rattle.c_ast.specs.declared.declaration.External.{External}
use Rattle.c_ast.specs.declared.statement.Stmt.{Stmt}
use Rattle.c_ast.specs.declared.statement.ForStart.{ForStart}
use Rattle.c_ast.specs.declared.statement.BlockItem.{BlockItem}
use Rattle.c_grammar.specs.Names.{Names}
use Rattle.c_grammar.specs.Owns.{Own}
use Rattle.c_grammar.specs.Types.{Typed}
use Rattle.c_grammar.specs.Grammar.{Part, AreQualifiers, ArePointers, IsExpr, AreLinks, AreOthers, ArePostfix, AreArguments, IsTypeNamed, IsAbstract, AreSizes, IsSize, AreSpecs, AreSpecifiers, IsStruct, AreMembers, IsMember, AreDeclarators, IsEnum, AreEnumerators, IsEnumerator, IsDeclarator, IsDirect, AreSuffixes, AreParams, IsParam, IsInit, AreInits, IsInitDeclarator, AreInitDeclarators, IsDecl, IsOptional, IsForStart, IsTest, IsStmt, AreItems, IsExternal, AreExternals}
use Rattle.c_grammar.specs.Grammar as grammar

pub qualifiers_grow : {room : ℕ} {ts rest : List Token} {qs : List Qualifier} → AreQualifiers room ts rest qs → AreQualifiers (suc room) ts rest qs
qualifiers_grow grammar.AreQualifiers.no_qualifiers = grammar.AreQualifiers.no_qualifiers
qualifiers_grow (grammar.AreQualifiers.more_qualifiers q is ds) = grammar.AreQualifiers.more_qualifiers q is (qualifiers_grow ds)

pub pointers_grow : {room : ℕ} {ts rest : List Token} {ps : List (List Qualifier)} → ArePointers room ts rest ps → ArePointers (suc room) ts rest ps
pointers_grow grammar.ArePointers.no_pointers = grammar.ArePointers.no_pointers
pointers_grow (grammar.ArePointers.more_pointers is qs ds) = grammar.ArePointers.more_pointers is (qualifiers_grow qs) (pointers_grow ds)

module _ (total most more : ℕ) (wide : most ≤ more) where
  longer : {n : ℕ} → n ≤ most → n ≤ more
  longer few = omega (arith, few, wide)

  mutual
    pub expr_grows : {part : Part} {room : ℕ} {names : Names} {ts : List Token} {rest : List Token} {after : Names} {tree : Expr}
        → IsExpr total most part room names ts rest after tree → IsExpr total more part (suc room) names ts rest after tree
    expr_grows (grammar.IsExpr.name a) = grammar.IsExpr.name a
    expr_grows (grammar.IsExpr.number a b) = grammar.IsExpr.number a b
    expr_grows (grammar.IsExpr.character a) = grammar.IsExpr.character a
    expr_grows (grammar.IsExpr.text a) = grammar.IsExpr.text a
    expr_grows (grammar.IsExpr.paren a b c) = grammar.IsExpr.paren a (expr_grows b) c
    expr_grows (grammar.IsExpr.postfix a b c) = grammar.IsExpr.postfix (expr_grows a) (postfix_grows b) (longer c)
    expr_grows (grammar.IsExpr.operand a) = grammar.IsExpr.operand (expr_grows a)
    expr_grows (grammar.IsExpr.prefixed a b c) = grammar.IsExpr.prefixed a b (expr_grows c)
    expr_grows (grammar.IsExpr.sizeof_expr a b c) = grammar.IsExpr.sizeof_expr a b (expr_grows c)
    expr_grows (grammar.IsExpr.sizeof_type a b c d) = grammar.IsExpr.sizeof_type a b (type_grows c) d
    expr_grows (grammar.IsExpr.cast a b c d) = grammar.IsExpr.cast a (type_grows b) c (expr_grows d)
    expr_grows (grammar.IsExpr.lowest a) = grammar.IsExpr.lowest (expr_grows a)
    expr_grows (grammar.IsExpr.chained a b c) = grammar.IsExpr.chained (expr_grows a) (links_grow b) (longer c)
    expr_grows (grammar.IsExpr.binary a) = grammar.IsExpr.binary (expr_grows a)
    expr_grows (grammar.IsExpr.conditional a b c d e) = grammar.IsExpr.conditional (expr_grows a) b (expr_grows c) d (expr_grows e)
    expr_grows (grammar.IsExpr.value a) = grammar.IsExpr.value (expr_grows a)
    expr_grows (grammar.IsExpr.assigned a b c d) = grammar.IsExpr.assigned a (expr_grows b) c (expr_grows d)
    expr_grows (grammar.IsExpr.comma a b c) = grammar.IsExpr.comma (expr_grows a) (others_grow b) (longer c)

    pub links_grow : {level : ℕ} {room : ℕ} {names : Names} {ts : List Token} {rest : List Token} {after : Names} {tree : List (Link Expr)}
        → AreLinks total most level room names ts rest after tree → AreLinks total more level (suc room) names ts rest after tree
    links_grow grammar.AreLinks.no_links = grammar.AreLinks.no_links
    links_grow (grammar.AreLinks.more_links a b c d) = grammar.AreLinks.more_links a b (expr_grows c) (links_grow d)

    pub others_grow : {room : ℕ} {names : Names} {ts : List Token} {rest : List Token} {after : Names} {tree : List Expr}
        → AreOthers total most room names ts rest after tree → AreOthers total more (suc room) names ts rest after tree
    others_grow grammar.AreOthers.no_others = grammar.AreOthers.no_others
    others_grow (grammar.AreOthers.more_others a b c) = grammar.AreOthers.more_others a (expr_grows b) (others_grow c)

    pub postfix_grows : {room : ℕ} {names : Names} {ts : List Token} {rest : List Token} {after : Names} {tree : List (PostfixOp Expr)}
        → ArePostfix total most room names ts rest after tree → ArePostfix total more (suc room) names ts rest after tree
    postfix_grows grammar.ArePostfix.no_postfix = grammar.ArePostfix.no_postfix
    postfix_grows (grammar.ArePostfix.index a b c d) = grammar.ArePostfix.index a (expr_grows b) c (postfix_grows d)
    postfix_grows (grammar.ArePostfix.call a b c d) = grammar.ArePostfix.call a (arguments_grow b) c (postfix_grows d)
    postfix_grows (grammar.ArePostfix.dot a b c) = grammar.ArePostfix.dot a b (postfix_grows c)
    postfix_grows (grammar.ArePostfix.arrow a b c) = grammar.ArePostfix.arrow a b (postfix_grows c)
    postfix_grows (grammar.ArePostfix.increment a b) = grammar.ArePostfix.increment a (postfix_grows b)
    postfix_grows (grammar.ArePostfix.decrement a b) = grammar.ArePostfix.decrement a (postfix_grows b)

    pub arguments_grow : {room : ℕ} {names : Names} {ts : List Token} {rest : List Token} {after : Names} {tree : List Expr}
        → AreArguments total most room names ts rest after tree → AreArguments total more (suc room) names ts rest after tree
    arguments_grow grammar.AreArguments.no_arguments = grammar.AreArguments.no_arguments
    arguments_grow (grammar.AreArguments.arguments a b) = grammar.AreArguments.arguments (expr_grows a) (others_grow b)

    pub type_grows : {room : ℕ} {names : Names} {ts : List Token} {rest : List Token} {after : Names} {tree : TypeName}
        → IsTypeNamed total most room names ts rest after tree → IsTypeNamed total more (suc room) names ts rest after tree
    type_grows (grammar.IsTypeNamed.type_named a b) = grammar.IsTypeNamed.type_named (specs_grow a) (abstract_grows b)

    pub abstract_grows : {room : ℕ} {names : Names} {ts : List Token} {rest : List Token} {after : Names} {tree : Abstract Expr}
        → IsAbstract total most room names ts rest after tree → IsAbstract total more (suc room) names ts rest after tree
    abstract_grows (grammar.IsAbstract.arrays a) = grammar.IsAbstract.arrays (sizes_grow a)
    abstract_grows (grammar.IsAbstract.pointer a b) = grammar.IsAbstract.pointer a (abstract_grows b)

    pub sizes_grow : {room : ℕ} {names : Names} {ts : List Token} {rest : List Token} {after : Names} {tree : List (Option Expr)}
        → AreSizes total most room names ts rest after tree → AreSizes total more (suc room) names ts rest after tree
    sizes_grow grammar.AreSizes.no_sizes = grammar.AreSizes.no_sizes
    sizes_grow (grammar.AreSizes.more_sizes a b) = grammar.AreSizes.more_sizes (size_grows a) (sizes_grow b)

    pub size_grows : {room : ℕ} {names : Names} {ts : List Token} {rest : List Token} {after : Names} {tree : Option Expr}
        → IsSize total most room names ts rest after tree → IsSize total more (suc room) names ts rest after tree
    size_grows (grammar.IsSize.unsized a b) = grammar.IsSize.unsized a b
    size_grows (grammar.IsSize.sized a b c) = grammar.IsSize.sized a (expr_grows b) c

    pub specs_grow : {room : ℕ} {names : Names} {ts : List Token} {rest : List Token} {after : Names} {flag : Bool} {tree : Specs Specifier}
        → AreSpecs total most room names ts rest after flag tree → AreSpecs total more (suc room) names ts rest after flag tree
    specs_grow (grammar.AreSpecs.specs a b) = grammar.AreSpecs.specs (specifiers_grow a) b

    pub specifiers_grow : {room : ℕ} {names : Names} {typed : Typed} {ts : List Token} {rest : List Token} {after : Names} {typed' : Typed} {flag : Bool} {tree : List Specifier}
        → AreSpecifiers total most room names typed ts rest after typed' flag tree → AreSpecifiers total more (suc room) names typed ts rest after typed' flag tree
    specifiers_grow grammar.AreSpecifiers.no_specifiers = grammar.AreSpecifiers.no_specifiers
    specifiers_grow (grammar.AreSpecifiers.storage a b c) = grammar.AreSpecifiers.storage a b (specifiers_grow c)
    specifiers_grow (grammar.AreSpecifiers.qualifier a b c) = grammar.AreSpecifiers.qualifier a b (specifiers_grow c)
    specifiers_grow (grammar.AreSpecifiers.word a b c d) = grammar.AreSpecifiers.word a b c (specifiers_grow d)
    specifiers_grow (grammar.AreSpecifiers.struct_specifier a b) = grammar.AreSpecifiers.struct_specifier (struct_grows a) (specifiers_grow b)
    specifiers_grow (grammar.AreSpecifiers.enum_specifier a b) = grammar.AreSpecifiers.enum_specifier (enum_grows a) (specifiers_grow b)
    specifiers_grow (grammar.AreSpecifiers.typedef_name a b) = grammar.AreSpecifiers.typedef_name a (specifiers_grow b)

    pub struct_grows : {room : ℕ} {names : Names} {ts : List Token} {rest : List Token} {after : Names} {tree : StructSpec Member}
        → IsStruct total most room names ts rest after tree → IsStruct total more (suc room) names ts rest after tree
    struct_grows (grammar.IsStruct.struct_reference a b) = grammar.IsStruct.struct_reference a b
    struct_grows (grammar.IsStruct.struct_tagged a b c d e) = grammar.IsStruct.struct_tagged a b c (members_grow d) e
    struct_grows (grammar.IsStruct.struct_untagged a b c d) = grammar.IsStruct.struct_untagged a b (members_grow c) d

    pub members_grow : {room : ℕ} {names : Names} {ts : List Token} {rest : List Token} {after : Names} {tree : List Member}
        → AreMembers total most room names ts rest after tree → AreMembers total more (suc room) names ts rest after tree
    members_grow (grammar.AreMembers.one_member a) = grammar.AreMembers.one_member (member_grows a)
    members_grow (grammar.AreMembers.more_members a b) = grammar.AreMembers.more_members (member_grows a) (members_grow b)

    pub member_grows : {room : ℕ} {names : Names} {ts : List Token} {rest : List Token} {after : Names} {tree : Member}
        → IsMember total most room names ts rest after tree → IsMember total more (suc room) names ts rest after tree
    member_grows (grammar.IsMember.member a b c) = grammar.IsMember.member (specs_grow a) (declarators_grow b) c

    pub declarators_grow : {room : ℕ} {names : Names} {ts : List Token} {rest : List Token} {after : Names} {tree : List Declarator}
        → AreDeclarators total most room names ts rest after tree → AreDeclarators total more (suc room) names ts rest after tree
    declarators_grow (grammar.AreDeclarators.one_declarator a) = grammar.AreDeclarators.one_declarator (declarator_grows a)
    declarators_grow (grammar.AreDeclarators.more_declarators a b c) = grammar.AreDeclarators.more_declarators (declarator_grows a) b (declarators_grow c)

    pub enum_grows : {room : ℕ} {names : Names} {ts : List Token} {rest : List Token} {after : Names} {tree : EnumSpec Expr}
        → IsEnum total most room names ts rest after tree → IsEnum total more (suc room) names ts rest after tree
    enum_grows (grammar.IsEnum.enum_reference a b) = grammar.IsEnum.enum_reference a b
    enum_grows (grammar.IsEnum.enum_tagged a b c d e) = grammar.IsEnum.enum_tagged a b c (enumerators_grow d) e
    enum_grows (grammar.IsEnum.enum_untagged a b c d) = grammar.IsEnum.enum_untagged a b (enumerators_grow c) d

    pub enumerators_grow : {room : ℕ} {names : Names} {ts : List Token} {rest : List Token} {after : Names} {tree : List (Enumerator Expr)}
        → AreEnumerators total most room names ts rest after tree → AreEnumerators total more (suc room) names ts rest after tree
    enumerators_grow (grammar.AreEnumerators.one_enumerator a) = grammar.AreEnumerators.one_enumerator (enumerator_grows a)
    enumerators_grow (grammar.AreEnumerators.last_enumerator a b) = grammar.AreEnumerators.last_enumerator (enumerator_grows a) b
    enumerators_grow (grammar.AreEnumerators.more_enumerators a b c) = grammar.AreEnumerators.more_enumerators (enumerator_grows a) b (enumerators_grow c)

    pub enumerator_grows : {room : ℕ} {names : Names} {ts : List Token} {rest : List Token} {after : Names} {tree : Enumerator Expr}
        → IsEnumerator total most room names ts rest after tree → IsEnumerator total more (suc room) names ts rest after tree
    enumerator_grows (grammar.IsEnumerator.enumerator a) = grammar.IsEnumerator.enumerator a
    enumerator_grows (grammar.IsEnumerator.valued a b c) = grammar.IsEnumerator.valued a b (expr_grows c)

    pub declarator_grows : {room : ℕ} {names : Names} {ts : List Token} {rest : List Token} {after : Names} {bytes : List ℕ} {own : Own} {tree : Declarator}
        → IsDeclarator total most room names ts rest after bytes own tree → IsDeclarator total more (suc room) names ts rest after bytes own tree
    declarator_grows (grammar.IsDeclarator.declarator a b c) = grammar.IsDeclarator.declarator (pointers_grow a) (direct_grows b) (suffixes_grow c)

    pub direct_grows : {room : ℕ} {names : Names} {ts : List Token} {rest : List Token} {after : Names} {bytes : List ℕ} {own : Own} {tree : Direct Declarator}
        → IsDirect total most room names ts rest after bytes own tree → IsDirect total more (suc room) names ts rest after bytes own tree
    direct_grows (grammar.IsDirect.direct_name a) = grammar.IsDirect.direct_name a
    direct_grows (grammar.IsDirect.nested a b c) = grammar.IsDirect.nested a (declarator_grows b) c

    pub suffixes_grow : {room : ℕ} {names : Names} {own : Own} {ts : List Token} {rest : List Token} {after : Names} {own' : Own} {tree : List DirectSuffix}
        → AreSuffixes total most room names own ts rest after own' tree → AreSuffixes total more (suc room) names own ts rest after own' tree
    suffixes_grow grammar.AreSuffixes.no_suffixes = grammar.AreSuffixes.no_suffixes
    suffixes_grow (grammar.AreSuffixes.array a b) = grammar.AreSuffixes.array (size_grows a) (suffixes_grow b)
    suffixes_grow (grammar.AreSuffixes.empty a b c) = grammar.AreSuffixes.empty a b (suffixes_grow c)
    suffixes_grow (grammar.AreSuffixes.void a b c d) = grammar.AreSuffixes.void a b c (suffixes_grow d)
    suffixes_grow (grammar.AreSuffixes.params a b c d e f) = grammar.AreSuffixes.params a b c (params_grow d) e (suffixes_grow f)

    pub params_grow : {room : ℕ} {names : Names} {ts : List Token} {rest : List Token} {after : Names} {tree : List Param}
        → AreParams total most room names ts rest after tree → AreParams total more (suc room) names ts rest after tree
    params_grow (grammar.AreParams.one_param a) = grammar.AreParams.one_param (param_grows a)
    params_grow (grammar.AreParams.more_params a b c) = grammar.AreParams.more_params (param_grows a) b (params_grow c)

    pub param_grows : {room : ℕ} {names : Names} {ts : List Token} {rest : List Token} {after : Names} {tree : Param}
        → IsParam total most room names ts rest after tree → IsParam total more (suc room) names ts rest after tree
    param_grows (grammar.IsParam.named_param a b) = grammar.IsParam.named_param (specs_grow a) (declarator_grows b)
    param_grows (grammar.IsParam.unnamed_param a b) = grammar.IsParam.unnamed_param (specs_grow a) (abstract_grows b)

  mutual
    pub init_grows : {room : ℕ} {names : Names} {ts : List Token} {rest : List Token} {after : Names} {tree : Init}
        → IsInit total most room names ts rest after tree → IsInit total more (suc room) names ts rest after tree
    init_grows (grammar.IsInit.init_value a) = grammar.IsInit.init_value (expr_grows a)
    init_grows (grammar.IsInit.list a b c) = grammar.IsInit.list a (inits_grow b) c

    pub inits_grow : {room : ℕ} {names : Names} {ts : List Token} {rest : List Token} {after : Names} {tree : List Init}
        → AreInits total most room names ts rest after tree → AreInits total more (suc room) names ts rest after tree
    inits_grow (grammar.AreInits.one_init a) = grammar.AreInits.one_init (init_grows a)
    inits_grow (grammar.AreInits.last_init a b) = grammar.AreInits.last_init (init_grows a) b
    inits_grow (grammar.AreInits.more_inits a b c) = grammar.AreInits.more_inits (init_grows a) b (inits_grow c)

  pub init_declarator_grows : {is_typedef : Bool} {room : ℕ} {names : Names} {ts : List Token} {rest : List Token} {after : Names} {tree : InitDeclarator}
      → IsInitDeclarator total most is_typedef room names ts rest after tree → IsInitDeclarator total more is_typedef (suc room) names ts rest after tree
  init_declarator_grows (grammar.IsInitDeclarator.plain a) = grammar.IsInitDeclarator.plain (declarator_grows a)
  init_declarator_grows (grammar.IsInitDeclarator.initialised a b c) = grammar.IsInitDeclarator.initialised (declarator_grows a) b (init_grows c)

  pub init_declarators_grow : {is_typedef : Bool} {room : ℕ} {names : Names} {ts : List Token} {rest : List Token} {after : Names} {tree : List InitDeclarator}
      → AreInitDeclarators total most is_typedef room names ts rest after tree → AreInitDeclarators total more is_typedef (suc room) names ts rest after tree
  init_declarators_grow (grammar.AreInitDeclarators.one a) = grammar.AreInitDeclarators.one (init_declarator_grows a)
  init_declarators_grow (grammar.AreInitDeclarators.more a b c) = grammar.AreInitDeclarators.more (init_declarator_grows a) b (init_declarators_grow c)

  pub decl_grows : {room : ℕ} {names : Names} {ts : List Token} {rest : List Token} {after : Names} {tree : Decl}
      → IsDecl total most room names ts rest after tree → IsDecl total more (suc room) names ts rest after tree
  decl_grows (grammar.IsDecl.bare a b) = grammar.IsDecl.bare (specs_grow a) b
  decl_grows (grammar.IsDecl.some a b c) = grammar.IsDecl.some (specs_grow a) (init_declarators_grow b) c

  pub optional_grows : {room : ℕ} {names : Names} {ts : List Token} {rest : List Token} {after : Names} {tree : Option Expr}
      → IsOptional total most room names ts rest after tree → IsOptional total more (suc room) names ts rest after tree
  optional_grows grammar.IsOptional.none = grammar.IsOptional.none
  optional_grows (grammar.IsOptional.some a) = grammar.IsOptional.some (expr_grows a)

  pub start_grows : {room : ℕ} {names : Names} {ts : List Token} {rest : List Token} {after : Names} {tree : ForStart}
      → IsForStart total most room names ts rest after tree → IsForStart total more (suc room) names ts rest after tree
  start_grows (grammar.IsForStart.declaration a) = grammar.IsForStart.declaration (decl_grows a)
  start_grows (grammar.IsForStart.expression a b) = grammar.IsForStart.expression (optional_grows a) b

  pub test_grows : {room : ℕ} {names : Names} {ts : List Token} {rest : List Token} {after : Names} {tree : Expr}
      → IsTest total most room names ts rest after tree → IsTest total more (suc room) names ts rest after tree
  test_grows (grammar.IsTest.test a b c) = grammar.IsTest.test a (expr_grows b) c

  mutual
    pub stmt_grows : {flag : Bool} {room : ℕ} {names : Names} {ts : List Token} {rest : List Token} {after : Names} {tree : Stmt}
        → IsStmt total most flag room names ts rest after tree → IsStmt total more flag (suc room) names ts rest after tree
    stmt_grows (grammar.IsStmt.block a b c) = grammar.IsStmt.block a (items_grow b) c
    stmt_grows (grammar.IsStmt.express a b) = grammar.IsStmt.express (optional_grows a) b
    stmt_grows (grammar.IsStmt.if_then a b c) = grammar.IsStmt.if_then a (test_grows b) (stmt_grows c)
    stmt_grows (grammar.IsStmt.if_else a b c d e) = grammar.IsStmt.if_else a (test_grows b) (stmt_grows c) d (stmt_grows e)
    stmt_grows (grammar.IsStmt.while_do a b c) = grammar.IsStmt.while_do a (test_grows b) (stmt_grows c)
    stmt_grows (grammar.IsStmt.do_while a b c d e) = grammar.IsStmt.do_while a (stmt_grows b) c (test_grows d) e
    stmt_grows (grammar.IsStmt.for_do a b c d e f g h) = grammar.IsStmt.for_do a b (start_grows c) (optional_grows d) e (optional_grows f) g (stmt_grows h)
    stmt_grows (grammar.IsStmt.switch a b c) = grammar.IsStmt.switch a (test_grows b) (stmt_grows c)
    stmt_grows (grammar.IsStmt.case a b c d) = grammar.IsStmt.case a (expr_grows b) c (stmt_grows d)
    stmt_grows (grammar.IsStmt.default a b c) = grammar.IsStmt.default a b (stmt_grows c)
    stmt_grows (grammar.IsStmt.break a b) = grammar.IsStmt.break a b
    stmt_grows (grammar.IsStmt.continue a b) = grammar.IsStmt.continue a b
    stmt_grows (grammar.IsStmt.return a b c) = grammar.IsStmt.return a (optional_grows b) c

    pub items_grow : {room : ℕ} {names : Names} {ts : List Token} {rest : List Token} {after : Names} {tree : List (BlockItem Stmt)}
        → AreItems total most room names ts rest after tree → AreItems total more (suc room) names ts rest after tree
    items_grow grammar.AreItems.no_items = grammar.AreItems.no_items
    items_grow (grammar.AreItems.declaration_item a b) = grammar.AreItems.declaration_item (decl_grows a) (items_grow b)
    items_grow (grammar.AreItems.statement_item a b) = grammar.AreItems.statement_item (stmt_grows a) (items_grow b)

  pub external_grows : {room : ℕ} {names : Names} {ts : List Token} {rest : List Token} {after : Names} {tree : External}
      → IsExternal total most room names ts rest after tree → IsExternal total more (suc room) names ts rest after tree
  external_grows (grammar.IsExternal.declaration a) = grammar.IsExternal.declaration (decl_grows a)
  external_grows (grammar.IsExternal.function a b c d e) = grammar.IsExternal.function (specs_grow a) (declarator_grows b) c (items_grow d) e

  pub externals_grow : {room : ℕ} {names : Names} {ts : List Token} {rest : List Token} {after : Names} {tree : List External}
      → AreExternals total most room names ts rest after tree → AreExternals total more (suc room) names ts rest after tree
  externals_grow grammar.AreExternals.none = grammar.AreExternals.none
  externals_grow (grammar.AreExternals.more a b) = grammar.AreExternals.more (external_grows a) (externals_grow b)
