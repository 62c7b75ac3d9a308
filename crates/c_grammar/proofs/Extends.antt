-- Each part of an expression or a declaration only adds names to those in scope, and only takes tokens.
use Rattle.std.proofs.Common.{◌≡◌, ℕ, ◌≤◌, Bool, Option, List, [], ◌∷◌, ◌++◌, length, refl, sym, ap, ◌∙◌, append_assoc, arith}
use Rattle.c_lex.specs.declared.token.Token.{Token}
use Rattle.c_ast.specs.declared.words.Qualifier.{Qualifier}
use Rattle.c_ast.specs.declared.expression.Expr.{Expr}
use Rattle.c_ast.specs.declared.expression.Link.{Link}
use Rattle.c_ast.specs.declared.expression.PostfixOp.{PostfixOp}
use Rattle.c_ast.specs.declared.declaration.Specifier.{Specifier}
use Rattle.c_ast.specs.declared.declaration.Specs.{Specs}
use Rattle.c_ast.specs.declared.declaration.StructSpec.{StructSpec}
use Rattle.c_ast.specs.declared.declaration.Member.{Member}
use Rattle.c_ast.specs.declared.declaration.EnumSpec.{EnumSpec}
use Rattle.c_ast.specs.declared.declaration.Enumerator.{Enumerator}
use Rattle.c_ast.specs.declared.declaration.Declarator.{Declarator}
use Rattle.c_ast.specs.declared.declaration.Direct.{Direct}
use Rattle.c_ast.specs.declared.declaration.DirectSuffix.{DirectSuffix}
use Rattle.c_ast.specs.declared.declaration.Param.{Param}
use Rattle.c_ast.specs.declared.declaration.Abstract.{Abstract}
use Rattle.c_ast.specs.declared.declaration.TypeName.{TypeName}
use Rattle.c_grammar.specs.Names.{Names, declared}
use Rattle.c_grammar.specs.Owns.{Own}
use Rattle.c_grammar.specs.Types.{Typed}
use Rattle.c_grammar.specs.Grammar.{Part, AreQualifiers, no_qualifiers, more_qualifiers, ArePointers, no_pointers, more_pointers, IsExpr, name, number, character, text, paren, postfix, operand, prefixed, sizeof_expr, sizeof_type, cast, lowest, chained, binary, conditional, value, assigned, comma, AreLinks, no_links, more_links, AreOthers, no_others, more_others, ArePostfix, no_postfix, index, call, dot, arrow, increment, decrement, AreArguments, no_arguments, arguments, IsTypeNamed, type_named, IsAbstract, arrays, pointer, AreSizes, no_sizes, more_sizes, IsSize, unsized, sized, AreSpecs, specs, AreSpecifiers, no_specifiers, storage, qualifier, word, struct_specifier, enum_specifier, typedef_name, IsStruct, struct_reference, struct_tagged, struct_untagged, AreMembers, one_member, more_members, IsMember, member, AreDeclarators, one_declarator, more_declarators, IsEnum, enum_reference, enum_tagged, enum_untagged, AreEnumerators, one_enumerator, last_enumerator, more_enumerators, IsEnumerator, enumerator, valued, IsDeclarator, declarator, IsDirect, direct_name, nested, AreSuffixes, no_suffixes, array, empty, void, params, AreParams, one_param, more_params, IsParam, named_param, unnamed_param}

-- the names behind a part are those before it with some more, and the tokens behind it are no more than those before it
pub record Extends (names after : Names) (ts rest : List Token) : Type 0 where
  pub added : Names
  pub grows : after ≡ added ++ names
  pub shrinks : length rest ≤ length ts

pub nothing_taken : {names : Names} {rest : List Token} → Extends names names rest rest
nothing_taken = record { added = []; grows = refl; shrinks = omega arith }

-- a part, and one behind it
pub joined : {names between after : Names} {ts mid rest : List Token} → Extends names between ts mid → Extends between after mid rest
    → Extends names after ts rest
joined {names = names} d e = record {
  added = e.added ++ d.added;
  grows = e.grows ∙ ap (λ ns. e.added ++ ns) d.grows ∙ sym (append_assoc e.added d.added names);
  shrinks = omega (arith, d.shrinks, e.shrinks);
}

-- a token before a part, or behind it
pub led : {names after : Names} {t : Token} {ts rest : List Token} → Extends names after ts rest → Extends names after (t ∷ ts) rest
led d = record { added = d.added; grows = d.grows; shrinks = omega (arith, d.shrinks) }

pub closed : {names after : Names} {t : Token} {ts rest : List Token} → Extends names after ts (t ∷ rest) → Extends names after ts rest
closed d = record { added = d.added; grows = d.grows; shrinks = omega (arith, d.shrinks) }

pub with_name : {names after : Names} {bytes : List ℕ} {is_type : Bool} {ts rest : List Token} → Extends names after ts rest
    → Extends names (declared after bytes is_type) ts rest
with_name {bytes = bytes} {is_type = is_type} d = record {
  added = declared d.added bytes is_type;
  grows = ap (λ ns. declared ns bytes is_type) d.grows;
  shrinks = d.shrinks;
}

-- what is behind a part whose names are gone again
pub skipped : {names after inner outer : Names} {ts mid rest : List Token} → Extends inner outer ts mid → Extends names after mid rest
    → Extends names after ts rest
skipped d e = record { added = e.added; grows = e.grows; shrinks = omega (arith, d.shrinks, e.shrinks) }

pub qualifiers_take : {names : Names} {room : ℕ} {ts rest : List Token} {qs : List Qualifier} → AreQualifiers room ts rest qs → Extends names names ts rest
qualifiers_take no_qualifiers = nothing_taken
qualifiers_take (more_qualifiers q is ds) = led (qualifiers_take ds)

pub pointers_take : {names : Names} {room : ℕ} {ts rest : List Token} {ps : List (List Qualifier)} → ArePointers room ts rest ps → Extends names names ts rest
pointers_take no_pointers = nothing_taken
pointers_take (more_pointers is qs ds) = led (joined (qualifiers_take qs) (pointers_take ds))

mutual
  pub expr_extends : {total most room : ℕ} {part : Part} {names after : Names} {ts rest : List Token} {e : Expr}
      → IsExpr total most part room names ts rest after e → Extends names after ts rest
  expr_extends (name is) = led nothing_taken
  expr_extends (number type is) = led nothing_taken
  expr_extends (character is) = led nothing_taken
  expr_extends (text is) = led nothing_taken
  expr_extends (paren opens d closes) = led (closed (expr_extends d))
  expr_extends (postfix d os few) = joined (expr_extends d) (postfix_extends os)
  expr_extends (operand d) = expr_extends d
  expr_extends (prefixed op is d) = led (expr_extends d)
  expr_extends (sizeof_expr is other d) = led (expr_extends d)
  expr_extends (sizeof_type is opens d closes) = led (led (closed (type_named_extends d)))
  expr_extends (cast opens d closes e) = led (joined (closed (type_named_extends d)) (expr_extends e))
  expr_extends (lowest d) = expr_extends d
  expr_extends (chained d ls few) = joined (expr_extends d) (links_extend ls)
  expr_extends (binary d) = expr_extends d
  expr_extends (conditional d asks e colon f) = joined (closed (expr_extends d)) (joined (closed (expr_extends e)) (expr_extends f))
  expr_extends (value d) = expr_extends d
  expr_extends (assigned op d is e) = joined (closed (expr_extends d)) (expr_extends e)
  expr_extends (comma d es few) = joined (expr_extends d) (others_extend es)

  pub links_extend : {total most level room : ℕ} {names after : Names} {ts rest : List Token} {ls : List (Link Expr)}
      → AreLinks total most level room names ts rest after ls → Extends names after ts rest
  links_extend no_links = nothing_taken
  links_extend (more_links op is d ls) = led (joined (expr_extends d) (links_extend ls))

  pub others_extend : {total most room : ℕ} {names after : Names} {ts rest : List Token} {es : List Expr}
      → AreOthers total most room names ts rest after es → Extends names after ts rest
  others_extend no_others = nothing_taken
  others_extend (more_others is d es) = led (joined (expr_extends d) (others_extend es))

  pub postfix_extends : {total most room : ℕ} {names after : Names} {ts rest : List Token} {os : List (PostfixOp Expr)}
      → ArePostfix total most room names ts rest after os → Extends names after ts rest
  postfix_extends no_postfix = nothing_taken
  postfix_extends (index opens d closes os) = led (joined (closed (expr_extends d)) (postfix_extends os))
  postfix_extends (call opens es closes os) = led (joined (closed (arguments_extend es)) (postfix_extends os))
  postfix_extends (dot is names os) = led (led (postfix_extends os))
  postfix_extends (arrow is names os) = led (led (postfix_extends os))
  postfix_extends (increment is os) = led (postfix_extends os)
  postfix_extends (decrement is os) = led (postfix_extends os)

  pub arguments_extend : {total most room : ℕ} {names after : Names} {ts rest : List Token} {es : List Expr}
      → AreArguments total most room names ts rest after es → Extends names after ts rest
  arguments_extend no_arguments = nothing_taken
  arguments_extend (arguments d es) = joined (expr_extends d) (others_extend es)

  pub type_named_extends : {total most room : ℕ} {names after : Names} {ts rest : List Token} {t : TypeName}
      → IsTypeNamed total most room names ts rest after t → Extends names after ts rest
  type_named_extends (type_named ss d) = joined (specs_extend ss) (abstract_extends d)

  pub abstract_extends : {total most room : ℕ} {names after : Names} {ts rest : List Token} {a : Abstract Expr}
      → IsAbstract total most room names ts rest after a → Extends names after ts rest
  abstract_extends (arrays ss) = sizes_extend ss
  abstract_extends (pointer is d) = led (abstract_extends d)

  pub sizes_extend : {total most room : ℕ} {names after : Names} {ts rest : List Token} {ss : List (Option Expr)}
      → AreSizes total most room names ts rest after ss → Extends names after ts rest
  sizes_extend no_sizes = nothing_taken
  sizes_extend (more_sizes d ss) = joined (size_extends d) (sizes_extend ss)

  pub size_extends : {total most room : ℕ} {names after : Names} {ts rest : List Token} {size : Option Expr}
      → IsSize total most room names ts rest after size → Extends names after ts rest
  size_extends (unsized opens closes) = led (led nothing_taken)
  size_extends (sized opens d closes) = led (closed (expr_extends d))

  pub specs_extend : {total most room : ℕ} {names after : Names} {ts rest : List Token} {is_typedef : Bool} {ss : Specs Specifier}
      → AreSpecs total most room names ts rest after is_typedef ss → Extends names after ts rest
  specs_extend (specs ss one) = specifiers_extend ss

  pub specifiers_extend : {total most room : ℕ} {names after : Names} {typed typed' : Typed} {ts rest : List Token} {is_typedef : Bool} {ss : List Specifier}
      → AreSpecifiers total most room names typed ts rest after typed' is_typedef ss → Extends names after ts rest
  specifiers_extend no_specifiers = nothing_taken
  specifiers_extend (storage s is ss) = led (specifiers_extend ss)
  specifiers_extend (qualifier q is ss) = led (specifiers_extend ss)
  specifiers_extend (word w is takes ss) = led (specifiers_extend ss)
  specifiers_extend (struct_specifier d ss) = joined (struct_extends d) (specifiers_extend ss)
  specifiers_extend (enum_specifier d ss) = joined (enum_extends d) (specifiers_extend ss)
  specifiers_extend (typedef_name is ss) = led (specifiers_extend ss)

  pub struct_extends : {total most room : ℕ} {names after : Names} {ts rest : List Token} {s : StructSpec Member}
      → IsStruct total most room names ts rest after s → Extends names after ts rest
  struct_extends (struct_reference is named) = led (led nothing_taken)
  struct_extends (struct_tagged is named opens ms closes) = led (led (led (closed (members_extend ms))))
  struct_extends (struct_untagged is opens ms closes) = led (led (closed (members_extend ms)))

  pub members_extend : {total most room : ℕ} {names after : Names} {ts rest : List Token} {ms : List Member}
      → AreMembers total most room names ts rest after ms → Extends names after ts rest
  members_extend (one_member d) = member_extends d
  members_extend (more_members d ms) = joined (member_extends d) (members_extend ms)

  pub member_extends : {total most room : ℕ} {names after : Names} {ts rest : List Token} {m : Member}
      → IsMember total most room names ts rest after m → Extends names after ts rest
  member_extends (member ss ds ends) = joined (specs_extend ss) (closed (declarators_extend ds))

  pub declarators_extend : {total most room : ℕ} {names after : Names} {ts rest : List Token} {ds : List Declarator}
      → AreDeclarators total most room names ts rest after ds → Extends names after ts rest
  declarators_extend (one_declarator d) = declarator_extends d
  declarators_extend (more_declarators d is ds) = joined (closed (declarator_extends d)) (declarators_extend ds)

  pub enum_extends : {total most room : ℕ} {names after : Names} {ts rest : List Token} {e : EnumSpec Expr}
      → IsEnum total most room names ts rest after e → Extends names after ts rest
  enum_extends (enum_reference is named) = led (led nothing_taken)
  enum_extends (enum_tagged is named opens es closes) = led (led (led (closed (enumerators_extend es))))
  enum_extends (enum_untagged is opens es closes) = led (led (closed (enumerators_extend es)))

  pub enumerators_extend : {total most room : ℕ} {names after : Names} {ts rest : List Token} {es : List (Enumerator Expr)}
      → AreEnumerators total most room names ts rest after es → Extends names after ts rest
  enumerators_extend (one_enumerator d) = enumerator_extends d
  enumerators_extend (last_enumerator d is) = closed (enumerator_extends d)
  enumerators_extend (more_enumerators d is es) = joined (closed (enumerator_extends d)) (enumerators_extend es)

  pub enumerator_extends : {total most room : ℕ} {names after : Names} {ts rest : List Token} {e : Enumerator Expr}
      → IsEnumerator total most room names ts rest after e → Extends names after ts rest
  enumerator_extends (enumerator named) = with_name (led nothing_taken)
  enumerator_extends (valued named is d) = with_name (led (led (expr_extends d)))

  pub declarator_extends : {total most room : ℕ} {names after : Names} {ts rest : List Token} {bytes : List ℕ} {own : Own} {d : Declarator}
      → IsDeclarator total most room names ts rest after bytes own d → Extends names after ts rest
  declarator_extends (declarator ps d ss) = joined (pointers_take ps) (joined (direct_extends d) (suffixes_extend ss))

  pub direct_extends : {total most room : ℕ} {names after : Names} {ts rest : List Token} {bytes : List ℕ} {own : Own} {d : Direct Declarator}
      → IsDirect total most room names ts rest after bytes own d → Extends names after ts rest
  direct_extends (direct_name is) = led nothing_taken
  direct_extends (nested opens d closes) = led (closed (declarator_extends d))

  pub suffixes_extend : {total most room : ℕ} {names after : Names} {own own' : Own} {ts rest : List Token} {ss : List DirectSuffix}
      → AreSuffixes total most room names own ts rest after own' ss → Extends names after ts rest
  suffixes_extend no_suffixes = nothing_taken
  suffixes_extend (array d ss) = joined (size_extends d) (suffixes_extend ss)
  suffixes_extend (empty opens closes ss) = led (led (suffixes_extend ss))
  suffixes_extend (void opens is closes ss) = led (led (led (suffixes_extend ss)))
  suffixes_extend (params added opens other ps closes ss) = led (skipped (closed (params_extend ps)) (suffixes_extend ss))

  pub params_extend : {total most room : ℕ} {names after : Names} {ts rest : List Token} {ps : List Param}
      → AreParams total most room names ts rest after ps → Extends names after ts rest
  params_extend (one_param d) = param_extends d
  params_extend (more_params d is ps) = joined (closed (param_extends d)) (params_extend ps)

  pub param_extends : {total most room : ℕ} {names after : Names} {ts rest : List Token} {p : Param}
      → IsParam total most room names ts rest after p → Extends names after ts rest
  param_extends (named_param ss d) = with_name (joined (specs_extend ss) (declarator_extends d))
  param_extends (unnamed_param ss d) = joined (specs_extend ss) (abstract_extends d)
