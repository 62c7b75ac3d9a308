-- What parts of declarations begin with, and what comes behind them.
use Rattle.std.proofs.Common.{◌≡◌, ℕ, ◌||◌, Bool, true, false, Some, None, Option, List, ◌∷◌, refl, ap, ◌∙◌, subst}
use Rattle.c_lex.specs.declared.token.Token.{Token}
use Rattle.c_lex.specs.declared.token.TokenKind.{TokenKind}
use Rattle.c_lex.specs.declared.token.TokenKind.TheVariants as kind
use Rattle.c_lex.specs.declared.token.Mark.{Mark}
use Rattle.c_lex.specs.declared.token.Mark.TheVariants as mark
use Rattle.c_ast.specs.declared.words.Storage.{Storage}
use Rattle.c_ast.specs.declared.words.Qualifier.{Qualifier}
use Rattle.c_ast.specs.declared.words.TypeWord.{TypeWord}
use Rattle.c_ast.specs.declared.words.PrefixOp.{PrefixOp}
use Rattle.c_ast.specs.declared.expression.Expr.{Expr}
use Rattle.c_ast.specs.declared.declaration.Specifier.{Specifier}
use Rattle.c_ast.specs.declared.declaration.Specs.{Specs}
use Rattle.c_ast.specs.declared.declaration.StructSpec.{StructSpec}
use Rattle.c_ast.specs.declared.declaration.Member.{Member}
use Rattle.c_ast.specs.declared.declaration.EnumSpec.{EnumSpec}
use Rattle.c_ast.specs.declared.declaration.Declarator.{Declarator}
use Rattle.c_ast.specs.declared.declaration.Direct.{Direct}
use Rattle.c_ast.specs.declared.declaration.Param.{Param}
use Rattle.c_ast.specs.declared.declaration.Abstract.{Abstract}
use Rattle.c_grammar.specs.Names.{Names}
use Rattle.c_grammar.specs.Words.{IsMark, storage_of, qualifier_of, word_of, prefix_of}
use Rattle.c_grammar.specs.Owns.{Own}
use Rattle.c_grammar.specs.Types.{Typed, Untyped, IsOneType}
use Rattle.c_grammar.specs.Grammar.{Part, ArePointers, no_pointers, more_pointers, IsExpr, name, number, character, text, paren, postfix, operand, prefixed, sizeof_expr, sizeof_type, cast, lowest, chained, binary, conditional, value, assigned, comma, IsAbstract, arrays, pointer, AreSizes, no_sizes, more_sizes, IsSize, unsized, sized, AreSpecs, specs, AreSpecifiers, no_specifiers, storage, qualifier, word, struct_specifier, enum_specifier, typedef_name, IsStruct, struct_reference, struct_tagged, struct_untagged, IsEnum, enum_reference, enum_tagged, enum_untagged, IsDeclarator, declarator, IsDirect, direct_name, nested, AreParams, one_param, more_params, IsParam, named_param, unnamed_param}
use Rattle.c_grammar.specs.Reading.{is_mark, is_name, sees_mark}
use Rattle.c_grammar.specs.ReadingDecl.{starts_direct, qualifier_at}
use Rattle.c_grammar.proofs.Laws.{is_keyword_at}

-- ---- expressions

prefix_no_bracket : (k : TokenKind) (op : PrefixOp) → prefix_of k ≡ Some op → is_mark mark.CloseBracket k ≡ false
prefix_no_bracket (kind.Mark mark.CloseBracket) op h = absurd cc
prefix_no_bracket _ op h = refl

-- an expression doesn't begin with the bracket behind it
pub expr_no_bracket : {total most room : ℕ} {part : Part} {names after : Names} {ts rest : List Token} {e : Expr}
    → IsExpr total most part room names ts rest after e → sees_mark mark.CloseBracket ts ≡ false
expr_no_bracket (name is) = ap (is_mark mark.CloseBracket) is.0
expr_no_bracket (number type is) = ap (is_mark mark.CloseBracket) is
expr_no_bracket (character is) = ap (is_mark mark.CloseBracket) is
expr_no_bracket (text is) = ap (is_mark mark.CloseBracket) is
expr_no_bracket (paren opens d closes) = ap (is_mark mark.CloseBracket) opens
expr_no_bracket (postfix d os few) = expr_no_bracket d
expr_no_bracket (operand d) = expr_no_bracket d
expr_no_bracket (prefixed {t = t} op is d) = prefix_no_bracket t.kind op is
expr_no_bracket (sizeof_expr is other d) = ap (is_mark mark.CloseBracket) is
expr_no_bracket (sizeof_type is opens d closes) = ap (is_mark mark.CloseBracket) is
expr_no_bracket (cast opens d closes e) = ap (is_mark mark.CloseBracket) opens
expr_no_bracket (lowest d) = expr_no_bracket d
expr_no_bracket (chained d ls few) = expr_no_bracket d
expr_no_bracket (binary d) = expr_no_bracket d
expr_no_bracket (conditional d asks e colon f) = expr_no_bracket d
expr_no_bracket (value d) = expr_no_bracket d
expr_no_bracket (assigned op d is e) = expr_no_bracket d
expr_no_bracket (comma d es few) = expr_no_bracket d

-- ---- specifiers

storage_no_paren : (k : TokenKind) (s : Storage) → storage_of k ≡ Some s → is_mark mark.CloseParen k ≡ false
storage_no_paren (kind.Mark m) s h = absurd cc
storage_no_paren _ s h = refl

qualifier_no_paren : (k : TokenKind) (q : Qualifier) → qualifier_of k ≡ Some q → is_mark mark.CloseParen k ≡ false
qualifier_no_paren (kind.Mark m) q h = absurd cc
qualifier_no_paren _ q h = refl

word_no_paren : (k : TokenKind) (w : TypeWord) → word_of k ≡ Some w → is_mark mark.CloseParen k ≡ false
word_no_paren (kind.Mark m) w h = absurd cc
word_no_paren _ w h = refl

struct_no_paren : {total most room : ℕ} {names after : Names} {ts rest : List Token} {s : StructSpec Member}
    → IsStruct total most room names ts rest after s → sees_mark mark.CloseParen ts ≡ false
struct_no_paren (struct_reference is named) = ap (is_mark mark.CloseParen) is
struct_no_paren (struct_tagged is named opens ms closes) = ap (is_mark mark.CloseParen) is
struct_no_paren (struct_untagged is opens ms closes) = ap (is_mark mark.CloseParen) is

enum_no_paren : {total most room : ℕ} {names after : Names} {ts rest : List Token} {e : EnumSpec Expr}
    → IsEnum total most room names ts rest after e → sees_mark mark.CloseParen ts ≡ false
enum_no_paren (enum_reference is named) = ap (is_mark mark.CloseParen) is
enum_no_paren (enum_tagged is named opens es closes) = ap (is_mark mark.CloseParen) is
enum_no_paren (enum_untagged is opens es closes) = ap (is_mark mark.CloseParen) is

specifiers_no_paren : {total most room : ℕ} {names after : Names} {typed typed' : Typed} {ts rest : List Token} {is_typedef : Bool} {ss : List Specifier}
    → AreSpecifiers total most room names typed ts rest after typed' is_typedef ss → typed ≡ Untyped → IsOneType typed'
    → sees_mark mark.CloseParen ts ≡ false
specifiers_no_paren no_specifiers same one = absurd (subst IsOneType same one)
specifiers_no_paren (storage {t = t} s is ss) same one = storage_no_paren t.kind s is
specifiers_no_paren (qualifier {t = t} q is ss) same one = qualifier_no_paren t.kind q is
specifiers_no_paren (word {t = t} w is takes ss) same one = word_no_paren t.kind w is
specifiers_no_paren (struct_specifier d ss) same one = struct_no_paren d
specifiers_no_paren (enum_specifier d ss) same one = enum_no_paren d
specifiers_no_paren (typedef_name is ss) same one = ap (is_mark mark.CloseParen) is.0

-- parameters don't begin with the bracket behind them
specs_no_paren : {total most room : ℕ} {names after : Names} {ts rest : List Token} {is_typedef : Bool} {ss : Specs Specifier}
    → AreSpecs total most room names ts rest after is_typedef ss → sees_mark mark.CloseParen ts ≡ false
specs_no_paren (specs ss one) = specifiers_no_paren ss refl one

param_no_paren : {total most room : ℕ} {names after : Names} {ts rest : List Token} {p : Param}
    → IsParam total most room names ts rest after p → sees_mark mark.CloseParen ts ≡ false
param_no_paren (named_param ss d) = specs_no_paren ss
param_no_paren (unnamed_param ss d) = specs_no_paren ss

pub params_no_paren : {total most room : ℕ} {names after : Names} {ts rest : List Token} {ps : List Param}
    → AreParams total most room names ts rest after ps → sees_mark mark.CloseParen ts ≡ false
params_no_paren (one_param d) = param_no_paren d
params_no_paren (more_params d is ps) = param_no_paren d

-- ---- declarators

-- what is behind specifiers doesn't go on with them
pub record EndsSpecs (ts : List Token) : Type 0 where
  pub no_keyword : is_keyword_at ts ≡ false
  pub no_brace : sees_mark mark.OpenBrace ts ≡ false

ends_at_mark : (m : Mark) (t : Token) (ts : List Token) → IsMark m t → is_mark mark.OpenBrace (kind.Mark m) ≡ false → EndsSpecs (t ∷ ts)
ends_at_mark m t ts is other = record { no_keyword = rw is; no_brace = ap (is_mark mark.OpenBrace) is ∙ other }

ends_at_name : (t : Token) (ts : List Token) → t.kind ≡ kind.Name → EndsSpecs (t ∷ ts)
ends_at_name t ts is = record { no_keyword = rw is; no_brace = ap (is_mark mark.OpenBrace) is }

pub direct_ends_specs : {total most room : ℕ} {names after : Names} {ts rest : List Token} {bytes : List ℕ} {own : Own} {d : Direct Declarator}
    → IsDirect total most room names ts rest after bytes own d → EndsSpecs ts
direct_ends_specs (direct_name {t = t} {rest = rest} is) = ends_at_name t rest is
direct_ends_specs (nested {o = o} {ts = ts} opens d closes) = ends_at_mark mark.OpenParen o ts opens refl

pointers_end_specs : {room : ℕ} {ts rest : List Token} {ps : List (List Qualifier)} → ArePointers room ts rest ps → EndsSpecs rest → EndsSpecs ts
pointers_end_specs no_pointers ends = ends
pointers_end_specs (more_pointers {t = t} {ts = ts} is qs ps) ends = ends_at_mark mark.Star t ts is refl

pub declarator_ends_specs : {total most room : ℕ} {names after : Names} {ts rest : List Token} {bytes : List ℕ} {own : Own} {d : Declarator}
    → IsDeclarator total most room names ts rest after bytes own d → EndsSpecs ts
declarator_ends_specs (declarator ps d ss) = pointers_end_specs ps (direct_ends_specs d)

size_ends_specs : {total most room : ℕ} {names after : Names} {ts rest : List Token} {size : Option Expr}
    → IsSize total most room names ts rest after size → EndsSpecs ts
size_ends_specs (unsized {o = o} {c = c} {rest = rest} opens closes) = ends_at_mark mark.OpenBracket o (c ∷ rest) opens refl
size_ends_specs (sized {o = o} {ts = ts} opens d closes) = ends_at_mark mark.OpenBracket o ts opens refl

sizes_end_specs : {total most room : ℕ} {names after : Names} {ts rest : List Token} {ss : List (Option Expr)}
    → AreSizes total most room names ts rest after ss → EndsSpecs rest → EndsSpecs ts
sizes_end_specs no_sizes ends = ends
sizes_end_specs (more_sizes d ss) ends = size_ends_specs d

pub abstract_ends_specs : {total most room : ℕ} {names after : Names} {ts rest : List Token} {a : Abstract Expr}
    → IsAbstract total most room names ts rest after a → EndsSpecs rest → EndsSpecs ts
abstract_ends_specs (arrays ss) ends = sizes_end_specs ss ends
abstract_ends_specs (pointer {t = t} {ts = ts} is d) ends = ends_at_mark mark.Star t ts is refl

-- neither a star nor a qualifier comes next
pub record EndsPointers (ts : List Token) : Type 0 where
  pub no_pointer : sees_mark mark.Star ts ≡ false
  pub no_qualifier : qualifier_at ts ≡ None

pub direct_ends_pointers : {total most room : ℕ} {names after : Names} {ts rest : List Token} {bytes : List ℕ} {own : Own} {d : Direct Declarator}
    → IsDirect total most room names ts rest after bytes own d → EndsPointers ts
direct_ends_pointers (direct_name is) = record { no_pointer = ap (is_mark mark.Star) is; no_qualifier = ap qualifier_of is }
direct_ends_pointers (nested opens d closes) = record { no_pointer = ap (is_mark mark.Star) opens; no_qualifier = ap qualifier_of opens }

size_ends_pointers : {total most room : ℕ} {names after : Names} {ts rest : List Token} {size : Option Expr}
    → IsSize total most room names ts rest after size → EndsPointers ts
size_ends_pointers (unsized opens closes) = record { no_pointer = ap (is_mark mark.Star) opens; no_qualifier = ap qualifier_of opens }
size_ends_pointers (sized opens d closes) = record { no_pointer = ap (is_mark mark.Star) opens; no_qualifier = ap qualifier_of opens }

pub sizes_end_pointers : {total most room : ℕ} {names after : Names} {ts rest : List Token} {ss : List (Option Expr)}
    → AreSizes total most room names ts rest after ss → EndsPointers rest → EndsPointers ts
sizes_end_pointers no_sizes ends = ends
sizes_end_pointers (more_sizes d ss) ends = size_ends_pointers d

pub sizes_no_star : {total most room : ℕ} {names after : Names} {ts rest : List Token} {ss : List (Option Expr)}
    → AreSizes total most room names ts rest after ss → sees_mark mark.Star rest ≡ false → sees_mark mark.Star ts ≡ false
sizes_no_star no_sizes ends = ends
sizes_no_star (more_sizes d ss) ends = (size_ends_pointers d).no_pointer

-- between pointers there is no qualifier that isn't theirs
pub pointers_no_qualifier : {room : ℕ} {ts rest : List Token} {ps : List (List Qualifier)} → ArePointers room ts rest ps
    → qualifier_at rest ≡ None → qualifier_at ts ≡ None
pointers_no_qualifier no_pointers ends = ends
pointers_no_qualifier (more_pointers is qs ps) ends = ap qualifier_of is

pub direct_starts : {total most room : ℕ} {names after : Names} {ts rest : List Token} {bytes : List ℕ} {own : Own} {d : Direct Declarator}
    → IsDirect total most room names ts rest after bytes own d → starts_direct ts ≡ true
direct_starts (direct_name is) = ap (λ k. is_name k || is_mark mark.OpenParen k) is
direct_starts (nested opens d closes) = ap (λ k. is_name k || is_mark mark.OpenParen k) opens

size_no_direct : {total most room : ℕ} {names after : Names} {ts rest : List Token} {size : Option Expr}
    → IsSize total most room names ts rest after size → starts_direct ts ≡ false
size_no_direct (unsized opens closes) = ap (λ k. is_name k || is_mark mark.OpenParen k) opens
size_no_direct (sized opens d closes) = ap (λ k. is_name k || is_mark mark.OpenParen k) opens

pub sizes_no_direct : {total most room : ℕ} {names after : Names} {ts rest : List Token} {ss : List (Option Expr)}
    → AreSizes total most room names ts rest after ss → starts_direct rest ≡ false → starts_direct ts ≡ false
sizes_no_direct no_sizes ends = ends
sizes_no_direct (more_sizes d ss) ends = size_no_direct d

pub size_opens : {total most room : ℕ} {names after : Names} {ts rest : List Token} {size : Option Expr}
    → IsSize total most room names ts rest after size → sees_mark mark.OpenBracket ts ≡ true
size_opens (unsized opens closes) = ap (is_mark mark.OpenBracket) opens
size_opens (sized opens d closes) = ap (is_mark mark.OpenBracket) opens

-- what is behind a parameter goes on with none of its parts
pub record EndsParameter (ts : List Token) : Type 0 where
  pub no_array : sees_mark mark.OpenBracket ts ≡ false
  pub no_function : sees_mark mark.OpenParen ts ≡ false
  pub no_direct : starts_direct ts ≡ false
  pub pointers_end : EndsPointers ts
  pub specs_end : EndsSpecs ts

pub ends_at_comma : (t : Token) (ts : List Token) → IsMark mark.Comma t → EndsParameter (t ∷ ts)
ends_at_comma t ts is = record {
  no_array = ap (is_mark mark.OpenBracket) is;
  no_function = ap (is_mark mark.OpenParen) is;
  no_direct = ap (λ k. is_name k || is_mark mark.OpenParen k) is;
  pointers_end = record { no_pointer = ap (is_mark mark.Star) is; no_qualifier = ap qualifier_of is };
  specs_end = ends_at_mark mark.Comma t ts is refl;
}

pub ends_at_paren : (t : Token) (ts : List Token) → IsMark mark.CloseParen t → EndsParameter (t ∷ ts)
ends_at_paren t ts is = record {
  no_array = ap (is_mark mark.OpenBracket) is;
  no_function = ap (is_mark mark.OpenParen) is;
  no_direct = ap (λ k. is_name k || is_mark mark.OpenParen k) is;
  pointers_end = record { no_pointer = ap (is_mark mark.Star) is; no_qualifier = ap qualifier_of is };
  specs_end = ends_at_mark mark.CloseParen t ts is refl;
}
