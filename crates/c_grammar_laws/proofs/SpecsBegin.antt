-- What specifiers and declarators begin with, and that each part takes tokens.
use Rattle.std.proofs.Common.{◌≡◌, ℕ, ◌<◌, Bool, true, false, Some, Ok, List, ◌∷◌, length, refl, ap, ◌∙◌, arith}
use denote.Enum.Bare.{true_same}
use Rattle.c_lex.specs.declared.token.Token.{Token}
use Rattle.c_lex.specs.declared.token.TokenKind.{TokenKind}
use Rattle.c_lex.specs.declared.token.TokenKind.TheVariants as kind
use Rattle.c_lex.specs.declared.token.Keyword.{Keyword}
use Rattle.c_lex.specs.declared.token.Keyword.TheVariants as keyword
use Rattle.c_lex.specs.declared.token.Mark.{Mark}
use Rattle.c_lex.specs.declared.token.Mark.TheVariants as mark
use Rattle.c_lex.specs.contracts.token.Mark as mark_contract
use Rattle.c_ast.specs.declared.words.Storage.{Storage}
use Rattle.c_ast.specs.declared.words.Qualifier.{Qualifier}
use Rattle.c_ast.specs.declared.words.TypeWord.{TypeWord}
use Rattle.c_ast.specs.declared.expression.Expr.{Expr}
use Rattle.c_ast.specs.declared.declaration.Specifier.{Specifier}
use Rattle.c_ast.specs.declared.declaration.Specs.{Specs}
use Rattle.c_ast.specs.declared.declaration.StructSpec.{StructSpec}
use Rattle.c_ast.specs.declared.declaration.Member.{Member}
use Rattle.c_ast.specs.declared.declaration.EnumSpec.{EnumSpec}
use Rattle.c_ast.specs.declared.declaration.Enumerator.{Enumerator}
use Rattle.c_ast.specs.declared.declaration.Declarator.{Declarator}
use Rattle.c_ast.specs.declared.declaration.Direct.{Direct}
use Rattle.c_grammar.specs.Names.{Names}
use Rattle.c_grammar.specs.Owns.{Own}
use Rattle.c_grammar.specs.Words.{IsKeyword, storage_of, qualifier_of, word_of}
use Rattle.c_grammar.specs.Types.{Typed, IsOneType}
use Rattle.c_grammar.specs.Grammar.{ArePointers, no_pointers, more_pointers, AreSpecs, specs, AreSpecifiers, no_specifiers, storage, qualifier, word, struct_specifier, enum_specifier, typedef_name, IsStruct, struct_reference, struct_tagged, struct_untagged, AreMembers, one_member, more_members, IsMember, member, AreDeclarators, one_declarator, more_declarators, IsEnum, enum_reference, enum_tagged, enum_untagged, AreEnumerators, one_enumerator, last_enumerator, more_enumerators, IsEnumerator, enumerator, valued, IsDeclarator, declarator, IsDirect, direct_name, nested}
use Rattle.c_grammar.specs.Reading.{expect_mark, is_mark, same_mark, sees_mark, tail}
use Rattle.c_grammar.proofs.Laws.{at_state, is_keyword_at}
use Rattle.c_grammar.proofs.Extends.{expr_extends, specifiers_extend, members_extend, declarators_extend, enumerators_extend}
use Rattle.c_grammar_laws.proofs.SpecsFound.{Stands}

-- ---- tokens

-- a token of another kind
abbrev pub with_kind : Token → TokenKind → Token
with_kind t k = record { kind = k; line = t.line; value = t.value; text = t.text; headers = t.headers }

pub of_kind : {A : Type 0} (f : Token → A) (t : Token) (k : TokenKind) → t.kind ≡ k → f t ≡ f (with_kind t k)
of_kind f t k h = ap (λ l. f (with_kind t l)) h

pub stands_sees : (m n : Mark) {ts rest : List Token} → Stands m ts rest → sees_mark n ts ≡ same_mark m n
stands_sees m n s = ap (sees_mark n) s.are ∙ ap (is_mark n) s.is

pub stands_here : (m : Mark) {ts rest : List Token} → Stands m ts rest → sees_mark m ts ≡ true
stands_here m s = stands_sees m m s ∙ true_same mark_contract.the_type m m refl

pub expect_there : (total : ℕ) (m : Mark) (names : Names) (ts rest : List Token) → Stands m ts rest
    → expect_mark total m (at_state names ts) ≡ Ok (at_state names rest)
unfolding expect_mark
expect_there total m names ts rest s = rw (stands_here m s) (ap (λ us. Ok (at_state names (tail us))) s.are)

-- ---- what begins with no punctuator

-- no punctuator comes next
abbrev pub NoMark : List Token → Type 0
NoMark ts = (m : Mark) → sees_mark m ts ≡ false

storage_no_mark : (m : Mark) (k : TokenKind) (s : Storage) → storage_of k ≡ Some s → is_mark m k ≡ false
storage_no_mark m (kind.Mark n) s h = absurd cc
storage_no_mark m _ s h = refl

qualifier_no_mark : (m : Mark) (k : TokenKind) (q : Qualifier) → qualifier_of k ≡ Some q → is_mark m k ≡ false
qualifier_no_mark m (kind.Mark n) q h = absurd cc
qualifier_no_mark m _ q h = refl

word_no_mark : (m : Mark) (k : TokenKind) (w : TypeWord) → word_of k ≡ Some w → is_mark m k ≡ false
word_no_mark m (kind.Mark n) w h = absurd cc
word_no_mark m _ w h = refl

keyword_no_mark : (m : Mark) (t : Token) (k : Keyword) → IsKeyword k t → is_mark m t.kind ≡ false
keyword_no_mark m t k h = ap (is_mark m) h

pub name_no_mark : (m : Mark) (t : Token) → t.kind ≡ kind.Name → is_mark m t.kind ≡ false
name_no_mark m t h = ap (is_mark m) h

struct_no_mark : {total most room : ℕ} {names after : Names} {ts rest : List Token} {s : StructSpec Member} → IsStruct total most room names ts rest after s → NoMark ts
struct_no_mark (struct_reference {s = s} is named) m = keyword_no_mark m s keyword.Struct is
struct_no_mark (struct_tagged {s = s} is named opens ms closes) m = keyword_no_mark m s keyword.Struct is
struct_no_mark (struct_untagged {s = s} is opens ms closes) m = keyword_no_mark m s keyword.Struct is

enum_no_mark : {total most room : ℕ} {names after : Names} {ts rest : List Token} {e : EnumSpec Expr} → IsEnum total most room names ts rest after e → NoMark ts
enum_no_mark (enum_reference {e = e} is named) m = keyword_no_mark m e keyword.Enum is
enum_no_mark (enum_tagged {e = e} is named opens es closes) m = keyword_no_mark m e keyword.Enum is
enum_no_mark (enum_untagged {e = e} is opens es closes) m = keyword_no_mark m e keyword.Enum is

-- where this punctuator doesn't come behind specifiers, it doesn't come before them
pub specifiers_no_mark : {total most room : ℕ} {names after : Names} {ts rest : List Token} {typed typed' : Typed} {flag : Bool} {ss : List Specifier} (m : Mark)
    → AreSpecifiers total most room names typed ts rest after typed' flag ss
    → sees_mark m rest ≡ false → sees_mark m ts ≡ false
specifiers_no_mark m no_specifiers h = h
specifiers_no_mark m (storage {t = t} s is ss) h = storage_no_mark m t.kind s is
specifiers_no_mark m (qualifier {t = t} q is ss) h = qualifier_no_mark m t.kind q is
specifiers_no_mark m (word {t = t} w is takes ss) h = word_no_mark m t.kind w is
specifiers_no_mark m (struct_specifier d ss) h = struct_no_mark d m
specifiers_no_mark m (enum_specifier d ss) h = enum_no_mark d m
specifiers_no_mark m (typedef_name {t = t} is ss) h = name_no_mark m t is.0

-- ---- what takes tokens

pub struct_takes : {total most room : ℕ} {names after : Names} {ts rest : List Token} {s : StructSpec Member}
    → IsStruct total most room names ts rest after s → length rest < length ts
struct_takes (struct_reference is named) = omega arith
struct_takes (struct_tagged is named opens ms closes) = omega (arith, (members_extend ms).shrinks)
struct_takes (struct_untagged is opens ms closes) = omega (arith, (members_extend ms).shrinks)

pub enum_takes : {total most room : ℕ} {names after : Names} {ts rest : List Token} {e : EnumSpec Expr}
    → IsEnum total most room names ts rest after e → length rest < length ts
enum_takes (enum_reference is named) = omega arith
enum_takes (enum_tagged is named opens es closes) = omega (arith, (enumerators_extend es).shrinks)
enum_takes (enum_untagged is opens es closes) = omega (arith, (enumerators_extend es).shrinks)

-- some token is taken, and the first of all is no punctuator
pub record BeginsSpecs (ts rest : List Token) : Type 0 where
  pub no_mark : NoMark ts
  pub takes : length rest < length ts

begins_typed : {total most room : ℕ} {names after : Names} {typed typed' : Typed} {ts rest : List Token} {flag : Bool} {ss : List Specifier}
    → AreSpecifiers total most room names typed ts rest after typed' flag ss → (IsOneType typed' → IsOneType typed → ⊥) → IsOneType typed' → BeginsSpecs ts rest
begins_typed no_specifiers other one = absurd (other one one)
begins_typed (storage {t = t} s is ss) other one = record { no_mark = λ m. storage_no_mark m t.kind s is; takes = omega (arith, (specifiers_extend ss).shrinks) }
begins_typed (qualifier {t = t} q is ss) other one = record { no_mark = λ m. qualifier_no_mark m t.kind q is; takes = omega (arith, (specifiers_extend ss).shrinks) }
begins_typed (word {t = t} w is takes ss) other one = record { no_mark = λ m. word_no_mark m t.kind w is; takes = omega (arith, (specifiers_extend ss).shrinks) }
begins_typed (struct_specifier d ss) other one = record { no_mark = struct_no_mark d; takes = omega (arith, struct_takes d, (specifiers_extend ss).shrinks) }
begins_typed (enum_specifier d ss) other one = record { no_mark = enum_no_mark d; takes = omega (arith, enum_takes d, (specifiers_extend ss).shrinks) }
begins_typed (typedef_name {t = t} is ss) other one = record { no_mark = λ m. name_no_mark m t is.0; takes = omega (arith, (specifiers_extend ss).shrinks) }

pub specs_begin : {total most room : ℕ} {names after : Names} {ts rest : List Token} {flag : Bool} {ss : Specs Specifier}
    → AreSpecs total most room names ts rest after flag ss → BeginsSpecs ts rest
specs_begin (specs ss one) = begins_typed ss (λ a b. b) one

-- ---- members, declarators and enumerators

pub member_begins : {total most room : ℕ} {names after : Names} {ts rest : List Token} {m : Member}
    → IsMember total most room names ts rest after m → BeginsSpecs ts rest
member_begins (member ss ds ends) =
    let b = specs_begin ss in
    record { no_mark = b.no_mark; takes = omega (arith, b.takes, (declarators_extend ds).shrinks) }

pub members_begin : {total most room : ℕ} {names after : Names} {ts rest : List Token} {ms : List Member}
    → AreMembers total most room names ts rest after ms → NoMark ts
members_begin (one_member d) = (member_begins d).no_mark
members_begin (more_members d ms) = (member_begins d).no_mark

-- a declarator begins with no keyword, and not with a brace
pub record BeginsDeclarator (ts : List Token) : Type 0 where
  pub no_keyword : is_keyword_at ts ≡ false
  pub no_brace : sees_mark mark.OpenBrace ts ≡ false

begins_by : (t : Token) (ts : List Token) (k : TokenKind) → t.kind ≡ k → BeginsDeclarator (with_kind t k ∷ ts) → BeginsDeclarator (t ∷ ts)
begins_by t ts k h b = record {
  no_keyword = of_kind (λ u. is_keyword_at (u ∷ ts)) t k h ∙ b.no_keyword;
  no_brace = of_kind (λ u. sees_mark mark.OpenBrace (u ∷ ts)) t k h ∙ b.no_brace;
}

direct_begins : {total most room : ℕ} {names after : Names} {ts rest : List Token} {bytes : List ℕ} {own : Own} {d : Direct Declarator}
    → IsDirect total most room names ts rest after bytes own d → BeginsDeclarator ts
direct_begins (direct_name {t = t} {rest = rest} is) = begins_by t rest kind.Name is (record { no_keyword = refl; no_brace = refl })
direct_begins (nested {o = o} {ts = ts} opens d closes) = begins_by o ts (kind.Mark mark.OpenParen) opens (record { no_keyword = refl; no_brace = refl })

pointers_begin : {room : ℕ} {ts start : List Token} {ps : List _} → ArePointers room ts start ps → BeginsDeclarator start → BeginsDeclarator ts
pointers_begin no_pointers b = b
pointers_begin (more_pointers {t = t} {ts = ts} is qs ps) b = begins_by t ts (kind.Mark mark.Star) is (record { no_keyword = refl; no_brace = refl })

pub declarator_begins : {total most room : ℕ} {names after : Names} {ts rest : List Token} {bytes : List ℕ} {own : Own} {d : Declarator}
    → IsDeclarator total most room names ts rest after bytes own d → BeginsDeclarator ts
declarator_begins (declarator ps d ss) = pointers_begin ps (direct_begins d)

pub declarators_begin : {total most room : ℕ} {names after : Names} {ts rest : List Token} {ds : List Declarator}
    → AreDeclarators total most room names ts rest after ds → BeginsDeclarator ts
declarators_begin (one_declarator d) = declarator_begins d
declarators_begin (more_declarators d is ds) = declarator_begins d

-- an enumerator takes its name
pub record BeginsEnumerator (room : ℕ) (ts rest : List Token) : Type 0 where
  pub no_mark : NoMark ts
  pub takes : length rest < length ts
  pub some_room : 0 < room

pub enumerator_begins : {total most room : ℕ} {names after : Names} {ts rest : List Token} {e : Enumerator Expr}
    → IsEnumerator total most room names ts rest after e → BeginsEnumerator room ts rest
enumerator_begins (enumerator {t = t} named) = record { no_mark = λ m. name_no_mark m t named; takes = omega arith; some_room = omega arith }
enumerator_begins (valued {t = t} named is d) =
    record { no_mark = λ m. name_no_mark m t named; takes = omega (arith, (expr_extends d).shrinks); some_room = omega arith }

pub enumerators_begin : {total most room : ℕ} {names after : Names} {ts rest : List Token} {es : List (Enumerator Expr)}
    → AreEnumerators total most room names ts rest after es → (NoMark ts) × (0 < room)
enumerators_begin (one_enumerator d) = let b = enumerator_begins d in (b.no_mark, b.some_room)
enumerators_begin (last_enumerator d is) = let b = enumerator_begins d in (b.no_mark, b.some_room)
enumerators_begin (more_enumerators d is es) = let b = enumerator_begins d in (b.no_mark, b.some_room)
