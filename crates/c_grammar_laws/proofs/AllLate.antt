-- Where all tokens may stand beyond the limits, each part stands within the bounds.
use Rattle.std.proofs.Common.{ℕ, suc, ◌≤◌, Bool, Option, List, length, arith}
use Rattle.c_lex.specs.declared.token.Token.{Token}
use Rattle.c_ast.specs.declared.words.Qualifier.{Qualifier}
use Rattle.c_ast.specs.declared.expression.Expr.{Expr}
use Rattle.c_ast.specs.declared.expression.Link.{Link}
use Rattle.c_ast.specs.declared.expression.PostfixOp.{PostfixOp}
use Rattle.c_ast.specs.declared.declaration.Specifier.{Specifier}
use Rattle.c_ast.specs.declared.declaration.Specs.{Specs}
use Rattle.c_ast.specs.declared.declaration.StructSpec.{StructSpec}
use Rattle.c_ast.specs.declared.declaration.Member.{Member}
use Rattle.c_ast.specs.declared.declaration.EnumSpec.{EnumSpec}
use Rattle.c_ast.specs.declared.declaration.Enumerator.{Enumerator}
use Rattle.c_ast.specs.declared.declaration.Declarator.{Declarator}
use Rattle.c_ast.specs.declared.declaration.Direct.{Direct}
use Rattle.c_ast.specs.declared.declaration.DirectSuffix.{DirectSuffix}
use Rattle.c_ast.specs.declared.declaration.Param.{Param}
use Rattle.c_ast.specs.declared.declaration.Abstract.{Abstract}
use Rattle.c_ast.specs.declared.declaration.TypeName.{TypeName}
use Rattle.c_ast.specs.declared.declaration.Init.{Init}
use Rattle.c_ast.specs.declared.declaration.InitDeclarator.{InitDeclarator}
use Rattle.c_ast.specs.declared.declaration.Decl.{Decl}
use Rattle.c_ast.specs.declared.declaration.External.{External}
use Rattle.c_ast.specs.declared.statement.Stmt.{Stmt}
use Rattle.c_ast.specs.declared.statement.ForStart.{ForStart}
use Rattle.c_ast.specs.declared.statement.BlockItem.{BlockItem}
use Rattle.c_grammar.specs.Names.{Names, nothing}
use Rattle.c_grammar.specs.Owns.{Own}
use Rattle.c_grammar.specs.Types.{Typed}
use Rattle.c_grammar.specs.Grammar as g
use Rattle.c_grammar.specs.Grammar.{Part, AreQualifiers, ArePointers, IsExpr, AreLinks, AreOthers, ArePostfix, AreArguments, IsTypeNamed, IsAbstract, AreSizes, IsSize, AreSpecs, AreSpecifiers, IsStruct, AreMembers, IsMember, AreDeclarators, IsEnum, AreEnumerators, IsEnumerator, IsDeclarator, IsDirect, AreSuffixes, AreParams, IsParam, IsInit, AreInits, IsInitDeclarator, AreInitDeclarators, IsDecl, IsOptional, IsForStart, IsTest, IsStmt, AreItems, IsExternal, AreExternals}
use Rattle.c_grammar.specs.Nesting.{Bounds, qualifiers_stand, pointers_stand, expr_stands, links_stand, others_stand, postfix_stand, arguments_stand, listed_stand, type_stands, abstract_stands, sizes_stand, size_stands, specs_stand, specifiers_stand, struct_stands, members_stand, member_stands, declarators_stand, enum_stands, enumerators_stand, enumerator_stands, declarator_stands, direct_stands, suffixes_stand, params_stand, param_stands, init_stands, inits_stand, init_declarator_stands, init_declarators_stand, decl_stands, optional_stands, for_start_stands, test_stands, stmt_stands, items_stand, external_stands, externals_stand}
use Rattle.c_grammar.proofs.Extends.{qualifiers_take, pointers_take, expr_extends, arguments_extend, type_named_extends, size_extends, specs_extend, struct_extends, members_extend, member_extends, declarators_extend, enum_extends, enumerators_extend, enumerator_extends, declarator_extends, direct_extends, params_extend, param_extends}
use Rattle.c_grammar_laws.proofs.StmtExtends.{init_extends, inits_extend, init_declarator_extends, init_declarators_extend, decl_extends, optional_extends, start_extends, test_extends, stmt_extends, items_extend}

pub qualifiers_late : (b : Bounds) {room : ℕ} {ts : List Token} {rest : List Token} {tree : List Qualifier}
    → (there : AreQualifiers room ts rest tree) → length ts ≤ b.later → qualifiers_stand b there
qualifiers_late b g.no_qualifiers enough = tt
qualifiers_late b (g.more_qualifiers q is qs) enough =
    (λ _. omega (arith, enough), qualifiers_late b qs (omega (arith, enough)))

pub pointers_late : (b : Bounds) {room : ℕ} {ts : List Token} {rest : List Token} {tree : List (List Qualifier)}
    → (there : ArePointers room ts rest tree) → length ts ≤ b.later → pointers_stand b there
pointers_late b g.no_pointers enough = tt
pointers_late b (g.more_pointers is qs ps) enough =
    let e0 = (qualifiers_take {names = nothing} qs).shrinks in (λ _. omega (arith, enough), qualifiers_late b qs (omega (arith, enough)), pointers_late b ps (omega (arith, enough, e0)))

mutual
  pub expr_late : (b : Bounds) {total most : ℕ} {p : Part} {room : ℕ} {names : Names} {ts : List Token} {rest : List Token} {after : Names} {tree : Expr}
      → (there : IsExpr total most p room names ts rest after tree) → length ts ≤ b.later → expr_stands b there
  expr_late b (g.name is) enough = λ _. omega (arith, enough)
  expr_late b (g.number type is) enough = λ _. omega (arith, enough)
  expr_late b (g.character is) enough = λ _. omega (arith, enough)
  expr_late b (g.text is) enough = λ _. omega (arith, enough)
  expr_late b (g.paren opens d closes) enough =
      let e0 = (expr_extends d).shrinks in (λ _. omega (arith, enough), expr_late b d (omega (arith, enough)), λ _. omega (arith, enough, e0))
  expr_late b (g.postfix d os few) enough =
      let e0 = (expr_extends d).shrinks in (expr_late b d (omega (arith, enough)), postfix_late b 0 os (omega (arith, enough, e0)))
  expr_late b (g.operand d) enough = expr_late b d (omega (arith, enough))
  expr_late b (g.prefixed op is d) enough =
      (λ _. omega (arith, enough), expr_late b d (omega (arith, enough)))
  expr_late b (g.sizeof_expr is no_type d) enough =
      (λ _. omega (arith, enough), expr_late b d (omega (arith, enough)))
  expr_late b (g.sizeof_type is opens d closes) enough =
      let e0 = (type_named_extends d).shrinks in (λ _. omega (arith, enough), λ _. omega (arith, enough), type_late b d (omega (arith, enough)), λ _. omega (arith, enough, e0))
  expr_late b (g.cast opens d closes e) enough =
      let e0 = (type_named_extends d).shrinks in (λ _. omega (arith, enough), type_late b d (omega (arith, enough)), λ _. omega (arith, enough, e0), expr_late b e (omega (arith, enough, e0)))
  expr_late b (g.lowest d) enough = expr_late b d (omega (arith, enough))
  expr_late b (g.chained d ls few) enough =
      let e0 = (expr_extends d).shrinks in (expr_late b d (omega (arith, enough)), links_late b 0 ls (omega (arith, enough, e0)))
  expr_late b (g.binary d) enough = expr_late b d (omega (arith, enough))
  expr_late b (g.conditional d is e colon f) enough =
      let e0 = (expr_extends d).shrinks in let e1 = (expr_extends e).shrinks in (expr_late b d (omega (arith, enough)), λ _. omega (arith, enough, e0), expr_late b e (omega (arith, enough, e0)), λ _. omega (arith, enough, e0, e1), expr_late b f (omega (arith, enough, e0, e1)))
  expr_late b (g.value d) enough = expr_late b d (omega (arith, enough))
  expr_late b (g.assigned op d is e) enough =
      let e0 = (expr_extends d).shrinks in (expr_late b d (omega (arith, enough)), λ _. omega (arith, enough, e0), expr_late b e (omega (arith, enough, e0)))
  expr_late b (g.comma d es few) enough =
      let e0 = (expr_extends d).shrinks in (expr_late b d (omega (arith, enough)), others_late b 0 es (omega (arith, enough, e0)))

  pub links_late : (b : Bounds) (before : ℕ) {total most : ℕ} {level : ℕ} {room : ℕ} {names : Names} {ts : List Token} {rest : List Token} {after : Names} {tree : List (Link Expr)}
      → (there : AreLinks total most level room names ts rest after tree) → length ts ≤ b.later → links_stand b before there
  links_late b before g.no_links enough = tt
  links_late b before (g.more_links op is d ls) enough =
      let e0 = (expr_extends d).shrinks in (λ _. omega (arith, enough), λ _. omega (arith, enough), expr_late b d (omega (arith, enough)), links_late b (suc before) ls (omega (arith, enough, e0)))

  pub others_late : (b : Bounds) (before : ℕ) {total most : ℕ} {room : ℕ} {names : Names} {ts : List Token} {rest : List Token} {after : Names} {tree : List Expr}
      → (there : AreOthers total most room names ts rest after tree) → length ts ≤ b.later → others_stand b before there
  others_late b before g.no_others enough = tt
  others_late b before (g.more_others is d es) enough =
      let e0 = (expr_extends d).shrinks in (λ _. omega (arith, enough), λ _. omega (arith, enough), expr_late b d (omega (arith, enough)), others_late b (suc before) es (omega (arith, enough, e0)))

  pub listed_late : (b : Bounds) {total most : ℕ} {room : ℕ} {names : Names} {ts : List Token} {rest : List Token} {after : Names} {tree : List Expr}
      → (there : AreOthers total most room names ts rest after tree) → length ts ≤ b.later → listed_stand b there
  listed_late b g.no_others enough = tt
  listed_late b (g.more_others is d es) enough =
      let e0 = (expr_extends d).shrinks in (λ _. omega (arith, enough), expr_late b d (omega (arith, enough)), listed_late b es (omega (arith, enough, e0)))

  pub postfix_late : (b : Bounds) (before : ℕ) {total most : ℕ} {room : ℕ} {names : Names} {ts : List Token} {rest : List Token} {after : Names} {tree : List (PostfixOp Expr)}
      → (there : ArePostfix total most room names ts rest after tree) → length ts ≤ b.later → postfix_stand b before there
  postfix_late b before g.no_postfix enough = tt
  postfix_late b before (g.index opens d closes os) enough =
      let e0 = (expr_extends d).shrinks in (λ _. omega (arith, enough), λ _. omega (arith, enough), expr_late b d (omega (arith, enough)), λ _. omega (arith, enough, e0), postfix_late b (suc before) os (omega (arith, enough, e0)))
  postfix_late b before (g.call opens d closes os) enough =
      let e0 = (arguments_extend d).shrinks in (λ _. omega (arith, enough), λ _. omega (arith, enough), arguments_late b d (omega (arith, enough)), λ _. omega (arith, enough, e0), postfix_late b (suc before) os (omega (arith, enough, e0)))
  postfix_late b before (g.dot is name os) enough =
      (λ _. omega (arith, enough), λ _. omega (arith, enough), λ _. omega (arith, enough), postfix_late b (suc before) os (omega (arith, enough)))
  postfix_late b before (g.arrow is name os) enough =
      (λ _. omega (arith, enough), λ _. omega (arith, enough), λ _. omega (arith, enough), postfix_late b (suc before) os (omega (arith, enough)))
  postfix_late b before (g.increment is os) enough =
      (λ _. omega (arith, enough), λ _. omega (arith, enough), postfix_late b (suc before) os (omega (arith, enough)))
  postfix_late b before (g.decrement is os) enough =
      (λ _. omega (arith, enough), λ _. omega (arith, enough), postfix_late b (suc before) os (omega (arith, enough)))

  pub arguments_late : (b : Bounds) {total most : ℕ} {room : ℕ} {names : Names} {ts : List Token} {rest : List Token} {after : Names} {tree : List Expr}
      → (there : AreArguments total most room names ts rest after tree) → length ts ≤ b.later → arguments_stand b there
  arguments_late b g.no_arguments enough = tt
  arguments_late b (g.arguments d es) enough =
      let e0 = (expr_extends d).shrinks in (expr_late b d (omega (arith, enough)), listed_late b es (omega (arith, enough, e0)))

  pub type_late : (b : Bounds) {total most : ℕ} {room : ℕ} {names : Names} {ts : List Token} {rest : List Token} {after : Names} {tree : TypeName}
      → (there : IsTypeNamed total most room names ts rest after tree) → length ts ≤ b.later → type_stands b there
  type_late b (g.type_named ss d) enough =
      let e0 = (specs_extend ss).shrinks in (specs_late b ss (omega (arith, enough)), abstract_late b d (omega (arith, enough, e0)))

  pub abstract_late : (b : Bounds) {total most : ℕ} {room : ℕ} {names : Names} {ts : List Token} {rest : List Token} {after : Names} {tree : Abstract Expr}
      → (there : IsAbstract total most room names ts rest after tree) → length ts ≤ b.later → abstract_stands b there
  abstract_late b (g.arrays d) enough = sizes_late b d (omega (arith, enough))
  abstract_late b (g.pointer is d) enough =
      (λ _. omega (arith, enough), abstract_late b d (omega (arith, enough)))

  pub sizes_late : (b : Bounds) {total most : ℕ} {room : ℕ} {names : Names} {ts : List Token} {rest : List Token} {after : Names} {tree : List (Option Expr)}
      → (there : AreSizes total most room names ts rest after tree) → length ts ≤ b.later → sizes_stand b there
  sizes_late b g.no_sizes enough = tt
  sizes_late b (g.more_sizes d ds) enough =
      let e0 = (size_extends d).shrinks in (size_late b d (omega (arith, enough)), sizes_late b ds (omega (arith, enough, e0)))

  pub size_late : (b : Bounds) {total most : ℕ} {room : ℕ} {names : Names} {ts : List Token} {rest : List Token} {after : Names} {tree : Option Expr}
      → (there : IsSize total most room names ts rest after tree) → length ts ≤ b.later → size_stands b there
  size_late b (g.unsized opens closes) enough =
      (λ _. omega (arith, enough), λ _. omega (arith, enough))
  size_late b (g.sized opens d closes) enough =
      let e0 = (expr_extends d).shrinks in (λ _. omega (arith, enough), expr_late b d (omega (arith, enough)), λ _. omega (arith, enough, e0))

  pub specs_late : (b : Bounds) {total most : ℕ} {room : ℕ} {names : Names} {ts : List Token} {rest : List Token} {after : Names} {flag : Bool} {tree : Specs Specifier}
      → (there : AreSpecs total most room names ts rest after flag tree) → length ts ≤ b.later → specs_stand b there
  specs_late b (g.specs ss one) enough = specifiers_late b ss (omega (arith, enough))

  pub specifiers_late : (b : Bounds) {total most : ℕ} {room : ℕ} {names : Names} {typed : Typed} {ts : List Token} {rest : List Token} {after : Names} {typed' : Typed} {flag : Bool} {tree : List Specifier}
      → (there : AreSpecifiers total most room names typed ts rest after typed' flag tree) → length ts ≤ b.later → specifiers_stand b there
  specifiers_late b g.no_specifiers enough = tt
  specifiers_late b (g.storage s is ss) enough =
      (λ _. omega (arith, enough), specifiers_late b ss (omega (arith, enough)))
  specifiers_late b (g.qualifier q is ss) enough =
      (λ _. omega (arith, enough), specifiers_late b ss (omega (arith, enough)))
  specifiers_late b (g.word w is with_it ss) enough =
      (λ _. omega (arith, enough), specifiers_late b ss (omega (arith, enough)))
  specifiers_late b (g.struct_specifier s ss) enough =
      let e0 = (struct_extends s).shrinks in (struct_late b s (omega (arith, enough)), specifiers_late b ss (omega (arith, enough, e0)))
  specifiers_late b (g.enum_specifier e ss) enough =
      let e0 = (enum_extends e).shrinks in (enum_late b e (omega (arith, enough)), specifiers_late b ss (omega (arith, enough, e0)))
  specifiers_late b (g.typedef_name is ss) enough =
      (λ _. omega (arith, enough), specifiers_late b ss (omega (arith, enough)))

  pub struct_late : (b : Bounds) {total most : ℕ} {room : ℕ} {names : Names} {ts : List Token} {rest : List Token} {after : Names} {tree : StructSpec Member}
      → (there : IsStruct total most room names ts rest after tree) → length ts ≤ b.later → struct_stands b there
  struct_late b (g.struct_reference is name) enough =
      (λ _. omega (arith, enough), λ _. omega (arith, enough))
  struct_late b (g.struct_tagged is name opens ms closes) enough =
      let e0 = (members_extend ms).shrinks in (λ _. omega (arith, enough), λ _. omega (arith, enough), λ _. omega (arith, enough), members_late b ms (omega (arith, enough)), λ _. omega (arith, enough, e0))
  struct_late b (g.struct_untagged is opens ms closes) enough =
      let e0 = (members_extend ms).shrinks in (λ _. omega (arith, enough), λ _. omega (arith, enough), members_late b ms (omega (arith, enough)), λ _. omega (arith, enough, e0))

  pub members_late : (b : Bounds) {total most : ℕ} {room : ℕ} {names : Names} {ts : List Token} {rest : List Token} {after : Names} {tree : List Member}
      → (there : AreMembers total most room names ts rest after tree) → length ts ≤ b.later → members_stand b there
  members_late b (g.one_member d) enough = member_late b d (omega (arith, enough))
  members_late b (g.more_members d ms) enough =
      let e0 = (member_extends d).shrinks in (member_late b d (omega (arith, enough)), members_late b ms (omega (arith, enough, e0)))

  pub member_late : (b : Bounds) {total most : ℕ} {room : ℕ} {names : Names} {ts : List Token} {rest : List Token} {after : Names} {tree : Member}
      → (there : IsMember total most room names ts rest after tree) → length ts ≤ b.later → member_stands b there
  member_late b (g.member ss ds is) enough =
      let e0 = (specs_extend ss).shrinks in let e1 = (declarators_extend ds).shrinks in (specs_late b ss (omega (arith, enough)), declarators_late b ds (omega (arith, enough, e0)), λ _. omega (arith, enough, e0, e1))

  pub declarators_late : (b : Bounds) {total most : ℕ} {room : ℕ} {names : Names} {ts : List Token} {rest : List Token} {after : Names} {tree : List Declarator}
      → (there : AreDeclarators total most room names ts rest after tree) → length ts ≤ b.later → declarators_stand b there
  declarators_late b (g.one_declarator d) enough = declarator_late b d (omega (arith, enough))
  declarators_late b (g.more_declarators d is ds) enough =
      let e0 = (declarator_extends d).shrinks in (declarator_late b d (omega (arith, enough)), λ _. omega (arith, enough, e0), declarators_late b ds (omega (arith, enough, e0)))

  pub enum_late : (b : Bounds) {total most : ℕ} {room : ℕ} {names : Names} {ts : List Token} {rest : List Token} {after : Names} {tree : EnumSpec Expr}
      → (there : IsEnum total most room names ts rest after tree) → length ts ≤ b.later → enum_stands b there
  enum_late b (g.enum_reference is name) enough =
      (λ _. omega (arith, enough), λ _. omega (arith, enough))
  enum_late b (g.enum_tagged is name opens es closes) enough =
      let e0 = (enumerators_extend es).shrinks in (λ _. omega (arith, enough), λ _. omega (arith, enough), λ _. omega (arith, enough), enumerators_late b es (omega (arith, enough)), λ _. omega (arith, enough, e0))
  enum_late b (g.enum_untagged is opens es closes) enough =
      let e0 = (enumerators_extend es).shrinks in (λ _. omega (arith, enough), λ _. omega (arith, enough), enumerators_late b es (omega (arith, enough)), λ _. omega (arith, enough, e0))

  pub enumerators_late : (b : Bounds) {total most : ℕ} {room : ℕ} {names : Names} {ts : List Token} {rest : List Token} {after : Names} {tree : List (Enumerator Expr)}
      → (there : AreEnumerators total most room names ts rest after tree) → length ts ≤ b.later → enumerators_stand b there
  enumerators_late b (g.one_enumerator e) enough = enumerator_late b e (omega (arith, enough))
  enumerators_late b (g.last_enumerator e is) enough =
      let e0 = (enumerator_extends e).shrinks in (enumerator_late b e (omega (arith, enough)), λ _. omega (arith, enough, e0))
  enumerators_late b (g.more_enumerators e is es) enough =
      let e0 = (enumerator_extends e).shrinks in (enumerator_late b e (omega (arith, enough)), λ _. omega (arith, enough, e0), enumerators_late b es (omega (arith, enough, e0)))

  pub enumerator_late : (b : Bounds) {total most : ℕ} {room : ℕ} {names : Names} {ts : List Token} {rest : List Token} {after : Names} {tree : Enumerator Expr}
      → (there : IsEnumerator total most room names ts rest after tree) → length ts ≤ b.later → enumerator_stands b there
  enumerator_late b (g.enumerator is) enough = λ _. omega (arith, enough)
  enumerator_late b (g.valued is assign d) enough =
      (λ _. omega (arith, enough), λ _. omega (arith, enough), expr_late b d (omega (arith, enough)))

  pub declarator_late : (b : Bounds) {total most : ℕ} {room : ℕ} {names : Names} {ts : List Token} {rest : List Token} {after : Names} {bytes : List ℕ} {own : Own} {tree : Declarator}
      → (there : IsDeclarator total most room names ts rest after bytes own tree) → length ts ≤ b.later → declarator_stands b there
  declarator_late b (g.declarator ps d ss) enough =
      let e0 = (pointers_take {names = nothing} ps).shrinks in let e1 = (direct_extends d).shrinks in (pointers_late b ps (omega (arith, enough)), direct_late b d (omega (arith, enough, e0)), suffixes_late b ss (omega (arith, enough, e0, e1)))

  pub direct_late : (b : Bounds) {total most : ℕ} {room : ℕ} {names : Names} {ts : List Token} {rest : List Token} {after : Names} {bytes : List ℕ} {own : Own} {tree : Direct Declarator}
      → (there : IsDirect total most room names ts rest after bytes own tree) → length ts ≤ b.later → direct_stands b there
  direct_late b (g.direct_name is) enough = λ _. omega (arith, enough)
  direct_late b (g.nested opens d closes) enough =
      let e0 = (declarator_extends d).shrinks in (λ _. omega (arith, enough), declarator_late b d (omega (arith, enough)), λ _. omega (arith, enough, e0))

  pub suffixes_late : (b : Bounds) {total most : ℕ} {room : ℕ} {names : Names} {own : Own} {ts : List Token} {rest : List Token} {after : Names} {own' : Own} {tree : List DirectSuffix}
      → (there : AreSuffixes total most room names own ts rest after own' tree) → length ts ≤ b.later → suffixes_stand b there
  suffixes_late b g.no_suffixes enough = tt
  suffixes_late b (g.array d ss) enough =
      let e0 = (size_extends d).shrinks in (size_late b d (omega (arith, enough)), suffixes_late b ss (omega (arith, enough, e0)))
  suffixes_late b (g.empty opens closes ss) enough =
      (λ _. omega (arith, enough), λ _. omega (arith, enough), suffixes_late b ss (omega (arith, enough)))
  suffixes_late b (g.void opens is closes ss) enough =
      (λ _. omega (arith, enough), λ _. omega (arith, enough), λ _. omega (arith, enough), suffixes_late b ss (omega (arith, enough)))
  suffixes_late b (g.params added opens no_void ps closes ss) enough =
      let e0 = (params_extend ps).shrinks in (λ _. omega (arith, enough), params_late b ps (omega (arith, enough)), λ _. omega (arith, enough, e0), suffixes_late b ss (omega (arith, enough, e0)))

  pub params_late : (b : Bounds) {total most : ℕ} {room : ℕ} {names : Names} {ts : List Token} {rest : List Token} {after : Names} {tree : List Param}
      → (there : AreParams total most room names ts rest after tree) → length ts ≤ b.later → params_stand b there
  params_late b (g.one_param p) enough = param_late b p (omega (arith, enough))
  params_late b (g.more_params p is ps) enough =
      let e0 = (param_extends p).shrinks in (param_late b p (omega (arith, enough)), λ _. omega (arith, enough, e0), params_late b ps (omega (arith, enough, e0)))

  pub param_late : (b : Bounds) {total most : ℕ} {room : ℕ} {names : Names} {ts : List Token} {rest : List Token} {after : Names} {tree : Param}
      → (there : IsParam total most room names ts rest after tree) → length ts ≤ b.later → param_stands b there
  param_late b (g.named_param ss d) enough =
      let e0 = (specs_extend ss).shrinks in (specs_late b ss (omega (arith, enough)), declarator_late b d (omega (arith, enough, e0)))
  param_late b (g.unnamed_param ss d) enough =
      let e0 = (specs_extend ss).shrinks in (specs_late b ss (omega (arith, enough)), abstract_late b d (omega (arith, enough, e0)))

mutual
  pub init_late : (b : Bounds) {total most : ℕ} {room : ℕ} {names : Names} {ts : List Token} {rest : List Token} {after : Names} {tree : Init}
      → (there : IsInit total most room names ts rest after tree) → length ts ≤ b.later → init_stands b there
  init_late b (g.init_value d) enough = expr_late b d (omega (arith, enough))
  init_late b (g.list opens is closes) enough =
      let e0 = (inits_extend is).shrinks in (λ _. omega (arith, enough), inits_late b is (omega (arith, enough)), λ _. omega (arith, enough, e0))

  pub inits_late : (b : Bounds) {total most : ℕ} {room : ℕ} {names : Names} {ts : List Token} {rest : List Token} {after : Names} {tree : List Init}
      → (there : AreInits total most room names ts rest after tree) → length ts ≤ b.later → inits_stand b there
  inits_late b (g.one_init i) enough = init_late b i (omega (arith, enough))
  inits_late b (g.last_init i is) enough =
      let e0 = (init_extends i).shrinks in (init_late b i (omega (arith, enough)), λ _. omega (arith, enough, e0))
  inits_late b (g.more_inits i is more) enough =
      let e0 = (init_extends i).shrinks in (init_late b i (omega (arith, enough)), λ _. omega (arith, enough, e0), inits_late b more (omega (arith, enough, e0)))

pub init_declarator_late : (b : Bounds) {total most : ℕ} {is_typedef : Bool} {room : ℕ} {names : Names} {ts : List Token} {rest : List Token} {after : Names} {tree : InitDeclarator}
    → (there : IsInitDeclarator total most is_typedef room names ts rest after tree) → length ts ≤ b.later → init_declarator_stands b there
init_declarator_late b (g.plain d) enough = declarator_late b d (omega (arith, enough))
init_declarator_late b (g.initialised d is i) enough =
    let e0 = (declarator_extends d).shrinks in (declarator_late b d (omega (arith, enough)), λ _. omega (arith, enough, e0), init_late b i (omega (arith, enough, e0)))

pub init_declarators_late : (b : Bounds) {total most : ℕ} {is_typedef : Bool} {room : ℕ} {names : Names} {ts : List Token} {rest : List Token} {after : Names} {tree : List InitDeclarator}
    → (there : AreInitDeclarators total most is_typedef room names ts rest after tree) → length ts ≤ b.later → init_declarators_stand b there
init_declarators_late b (g.AreInitDeclarators.one d) enough =
    init_declarator_late b d (omega (arith, enough))
init_declarators_late b (g.AreInitDeclarators.more d is ds) enough =
    let e0 = (init_declarator_extends d).shrinks in (init_declarator_late b d (omega (arith, enough)), λ _. omega (arith, enough, e0), init_declarators_late b ds (omega (arith, enough, e0)))

pub decl_late : (b : Bounds) {total most : ℕ} {room : ℕ} {names : Names} {ts : List Token} {rest : List Token} {after : Names} {tree : Decl}
    → (there : IsDecl total most room names ts rest after tree) → length ts ≤ b.later → decl_stands b there
decl_late b (g.bare ss is) enough =
    let e0 = (specs_extend ss).shrinks in (specs_late b ss (omega (arith, enough)), λ _. omega (arith, enough, e0))
decl_late b (g.IsDecl.some ss ds is) enough =
    let e0 = (specs_extend ss).shrinks in let e1 = (init_declarators_extend ds).shrinks in (specs_late b ss (omega (arith, enough)), init_declarators_late b ds (omega (arith, enough, e0)), λ _. omega (arith, enough, e0, e1))

pub optional_late : (b : Bounds) {total most : ℕ} {room : ℕ} {names : Names} {ts : List Token} {rest : List Token} {after : Names} {tree : Option Expr}
    → (there : IsOptional total most room names ts rest after tree) → length ts ≤ b.later → optional_stands b there
optional_late b g.IsOptional.none enough = tt
optional_late b (g.IsOptional.some d) enough = expr_late b d (omega (arith, enough))

pub for_start_late : (b : Bounds) {total most : ℕ} {room : ℕ} {names : Names} {ts : List Token} {rest : List Token} {after : Names} {tree : ForStart}
    → (there : IsForStart total most room names ts rest after tree) → length ts ≤ b.later → for_start_stands b there
for_start_late b (g.IsForStart.declaration d) enough = decl_late b d (omega (arith, enough))
for_start_late b (g.expression d is) enough =
    let e0 = (optional_extends d).shrinks in (optional_late b d (omega (arith, enough)), λ _. omega (arith, enough, e0))

pub test_late : (b : Bounds) {total most : ℕ} {room : ℕ} {names : Names} {ts : List Token} {rest : List Token} {after : Names} {tree : Expr}
    → (there : IsTest total most room names ts rest after tree) → length ts ≤ b.later → test_stands b there
test_late b (g.test opens d closes) enough =
    let e0 = (expr_extends d).shrinks in (λ _. omega (arith, enough), expr_late b d (omega (arith, enough)), λ _. omega (arith, enough, e0))

mutual
  pub stmt_late : (b : Bounds) {total most : ℕ} {ends : Bool} {room : ℕ} {names : Names} {ts : List Token} {rest : List Token} {after : Names} {tree : Stmt}
      → (there : IsStmt total most ends room names ts rest after tree) → length ts ≤ b.later → stmt_stands b there
  stmt_late b (g.block opens is closes) enough =
      let e0 = (items_extend is).shrinks in (λ _. omega (arith, enough), items_late b is (omega (arith, enough)), λ _. omega (arith, enough, e0))
  stmt_late b (g.express d is) enough =
      let e0 = (optional_extends d).shrinks in (optional_late b d (omega (arith, enough)), λ _. omega (arith, enough, e0))
  stmt_late b (g.if_then is d s) enough =
      let e0 = (test_extends d).shrinks in (λ _. omega (arith, enough), test_late b d (omega (arith, enough)), stmt_late b s (omega (arith, enough, e0)))
  stmt_late b (g.if_else is d s other s') enough =
      let e0 = (test_extends d).shrinks in let e1 = (stmt_extends s).shrinks in (λ _. omega (arith, enough), test_late b d (omega (arith, enough)), stmt_late b s (omega (arith, enough, e0)), λ _. omega (arith, enough, e0, e1), stmt_late b s' (omega (arith, enough, e0, e1)))
  stmt_late b (g.while_do is d s) enough =
      let e0 = (test_extends d).shrinks in (λ _. omega (arith, enough), test_late b d (omega (arith, enough)), stmt_late b s (omega (arith, enough, e0)))
  stmt_late b (g.do_while is d while d' closes) enough =
      let e0 = (stmt_extends d).shrinks in let e1 = (test_extends d').shrinks in (λ _. omega (arith, enough), stmt_late b d (omega (arith, enough)), λ _. omega (arith, enough, e0), test_late b d' (omega (arith, enough, e0)), λ _. omega (arith, enough, e0, e1))
  stmt_late b (g.for_do is opens d e semicolon f closes body) enough =
      let e0 = (start_extends d).shrinks in let e1 = (optional_extends e).shrinks in let e2 = (optional_extends f).shrinks in (λ _. omega (arith, enough), λ _. omega (arith, enough), for_start_late b d (omega (arith, enough)), optional_late b e (omega (arith, enough, e0)), λ _. omega (arith, enough, e0, e1), optional_late b f (omega (arith, enough, e0, e1)), λ _. omega (arith, enough, e0, e1, e2), stmt_late b body (omega (arith, enough, e0, e1, e2)))
  stmt_late b (g.switch is d s) enough =
      let e0 = (test_extends d).shrinks in (λ _. omega (arith, enough), test_late b d (omega (arith, enough)), stmt_late b s (omega (arith, enough, e0)))
  stmt_late b (g.case is d colon s) enough =
      let e0 = (expr_extends d).shrinks in (λ _. omega (arith, enough), expr_late b d (omega (arith, enough)), λ _. omega (arith, enough, e0), stmt_late b s (omega (arith, enough, e0)))
  stmt_late b (g.default is colon s) enough =
      (λ _. omega (arith, enough), λ _. omega (arith, enough), stmt_late b s (omega (arith, enough)))
  stmt_late b (g.break is closes) enough =
      (λ _. omega (arith, enough), λ _. omega (arith, enough))
  stmt_late b (g.continue is closes) enough =
      (λ _. omega (arith, enough), λ _. omega (arith, enough))
  stmt_late b (g.return is d closes) enough =
      let e0 = (optional_extends d).shrinks in (λ _. omega (arith, enough), optional_late b d (omega (arith, enough)), λ _. omega (arith, enough, e0))

  pub items_late : (b : Bounds) {total most : ℕ} {room : ℕ} {names : Names} {ts : List Token} {rest : List Token} {after : Names} {tree : List (BlockItem Stmt)}
      → (there : AreItems total most room names ts rest after tree) → length ts ≤ b.later → items_stand b there
  items_late b g.no_items enough = tt
  items_late b (g.declaration_item d is) enough =
      let e0 = (decl_extends d).shrinks in (decl_late b d (omega (arith, enough)), items_late b is (omega (arith, enough, e0)))
  items_late b (g.statement_item d is) enough =
      let e0 = (stmt_extends d).shrinks in (stmt_late b d (omega (arith, enough)), items_late b is (omega (arith, enough, e0)))

pub external_late : (b : Bounds) {total most : ℕ} {room : ℕ} {names : Names} {ts : List Token} {rest : List Token} {after : Names} {tree : External}
    → (there : IsExternal total most room names ts rest after tree) → length ts ≤ b.later → external_stands b there
external_late b (g.IsExternal.declaration d) enough = decl_late b d (omega (arith, enough))
external_late b (g.function ss d opens is closes) enough =
    let e0 = (specs_extend ss).shrinks in let e1 = (declarator_extends d).shrinks in let e2 = (items_extend is).shrinks in (specs_late b ss (omega (arith, enough)), declarator_late b d (omega (arith, enough, e0)), λ _. omega (arith, enough, e0, e1), items_late b is (omega (arith, enough, e0, e1)), λ _. omega (arith, enough, e0, e1, e2))

-- an external declaration leaves no more tokens than there were
external_shrinks : {total most room : ℕ} {names after : Names} {ts rest : List Token} {e : External} → IsExternal total most room names ts rest after e → length rest ≤ length ts
external_shrinks (g.IsExternal.declaration d) = (decl_extends d).shrinks
external_shrinks (g.function ss d opens is closes) =
    let e0 = (specs_extend ss).shrinks in let e1 = (declarator_extends d).shrinks in let e2 = (items_extend is).shrinks in omega (arith, e0, e1, e2)

pub externals_late : (b : Bounds) {total most : ℕ} {room : ℕ} {names : Names} {ts : List Token} {rest : List Token} {after : Names} {tree : List External}
    → (there : AreExternals total most room names ts rest after tree) → length ts ≤ b.later → externals_stand b there
externals_late b g.AreExternals.none enough = tt
externals_late b (g.AreExternals.more e es) enough =
    let e0 = external_shrinks e in (external_late b e (omega (arith, enough)), externals_late b es (omega (arith, enough, e0)))
