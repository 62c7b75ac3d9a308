-- Each declaration is read, or a late token stands too deep.
use Rattle.std.proofs.Common.{◌≡◌, ℕ, ◌+◌, Bool, true, false, cond, Ok, List, [], ◌∷◌, length, refl, sym, ap, ◌∙◌, subst, inl, inr, arith}
use Rattle.c_lex.specs.declared.token.Token.{Token}
use Rattle.c_lex.specs.declared.token.TokenKind.TheVariants as kind
use Rattle.c_lex.specs.declared.token.Keyword.TheVariants as keyword
use Rattle.c_lex.specs.declared.token.Mark.TheVariants as mark
use Rattle.c_ast.specs.declared.words.Qualifier.{Qualifier}
use Rattle.c_ast.specs.declared.declaration.Specifier.{Specifier}
use Rattle.c_ast.specs.declared.declaration.Specs.{Specs}
use Rattle.c_ast.specs.declared.declaration.StructSpec.{StructSpec}
use Rattle.c_ast.specs.declared.declaration.Member.{Member}
use Rattle.c_ast.specs.declared.declaration.EnumSpec.{EnumSpec}
use Rattle.c_ast.specs.declared.expression.Expr.{Expr}
use Rattle.c_ast.specs.declared.declaration.Declarator.{Declarator}
use Rattle.c_ast.specs.declared.declaration.Direct.{Direct}
use Rattle.c_ast.specs.declared.declaration.InitDeclarator.{InitDeclarator}
use Rattle.c_ast.specs.declared.declaration.Decl.{Decl}
use Rattle.c_grammar.specs.declared.phrases.ReadSpecs.{ReadSpecs}
use Rattle.c_grammar.specs.declared.phrases.ReadDeclarator.{ReadDeclarator}
use Rattle.c_grammar.specs.Names.{Names}
use Rattle.c_grammar.specs.Owns.{Own}
use Rattle.c_grammar.specs.Types.{Typed, Untyped, IsOneType}
use Rattle.c_grammar.specs.Words.{IsMark, number_of}
use Rattle.c_grammar.specs.Grammar.{ArePointers, no_pointers, more_pointers, IsDirect, direct_name, nested, IsDeclarator, declarator, AreSpecs, specs, AreSpecifiers, no_specifiers, storage, qualifier, word, struct_specifier, enum_specifier, typedef_name, IsStruct, struct_reference, struct_tagged, struct_untagged, IsEnum, enum_reference, enum_tagged, enum_untagged, IsInitDeclarator, plain, initialised, AreInitDeclarators, one, more, IsDecl, bare, some}
use Rattle.c_grammar.specs.Nesting.{Bounds, specs_stand, init_declarators_stand, decl_stands}
use Rattle.c_grammar.specs.Reading.{State, Outcome, ◌>>=◌, is_mark, is_keyword, sees_mark, sees_keyword, behind}
use Rattle.c_grammar.specs.ReadingExpr.{sees_type, starts_type}
use Rattle.c_grammar.specs.Levels.{readers}
use Rattle.c_grammar.specs.ReadingStmt as reading
use Rattle.c_grammar.proofs.Late.{Meets, same, on, ◌▸◌}
use Rattle.c_grammar.proofs.Laws.{Complete, at_state, is_keyword_at}
use Rattle.c_grammar_laws.proofs.ExprFound.{keyword_is}
use Rattle.c_grammar_laws.proofs.ExprStarts.{starts_type_of}
use Rattle.c_grammar_laws.proofs.ExprComplete.{sees_it}
use Rattle.c_grammar_laws.proofs.SpecsBegin.{of_kind, specs_begin, BeginsSpecs, declarator_begins, BeginsDeclarator}
use Rattle.c_grammar_laws.proofs.StmtExtends.{init_declarators_extend}
use Rattle.c_grammar_laws.proofs.StmtDeclComplete.{EndsInit, FirstRead, first_of}
use Rattle.c_grammar_laws.proofs.StmtListComplete.{semicolon_ends, comma_ends, declared_few, ended, goes_on, declarators_read}

-- ---- what begins a declarator, and a declaration

pointers_no_semicolon : {room : ℕ} {ts start : List Token} {ps : List (List Qualifier)} → ArePointers room ts start ps
    → sees_mark mark.Semicolon start ≡ false → sees_mark mark.Semicolon ts ≡ false
pointers_no_semicolon no_pointers h = h
pointers_no_semicolon (more_pointers is qs ps) h = ap (is_mark mark.Semicolon) is

direct_no_semicolon : {total most room : ℕ} {names after : Names} {ts rest : List Token} {bytes : List ℕ} {own : Own} {d : Direct Declarator}
    → IsDirect total most room names ts rest after bytes own d → sees_mark mark.Semicolon ts ≡ false
direct_no_semicolon (direct_name is) = ap (is_mark mark.Semicolon) is
direct_no_semicolon (nested opens d closes) = ap (is_mark mark.Semicolon) opens

pub declarator_no_semicolon : {total most room : ℕ} {names after : Names} {ts rest : List Token} {bytes : List ℕ} {own : Own} {d : Declarator}
    → IsDeclarator total most room names ts rest after bytes own d → sees_mark mark.Semicolon ts ≡ false
declarator_no_semicolon (declarator ps d ss) = pointers_no_semicolon ps (direct_no_semicolon d)

-- what declarators with commas between them begin with
pub record BeginsList (ts : List Token) : Type 0 where
  pub begins : BeginsDeclarator ts
  pub no_semicolon : sees_mark mark.Semicolon ts ≡ false

init_begins : {total most : ℕ} {is_typedef : Bool} {room : ℕ} {names after : Names} {ts rest : List Token} {d : InitDeclarator}
    → IsInitDeclarator total most is_typedef room names ts rest after d → BeginsList ts
init_begins (plain d) = record { begins = declarator_begins d; no_semicolon = declarator_no_semicolon d }
init_begins (initialised d is i) = record { begins = declarator_begins d; no_semicolon = declarator_no_semicolon d }

pub list_begins : {total most : ℕ} {is_typedef : Bool} {room : ℕ} {names after : Names} {ts rest : List Token} {ds : List InitDeclarator}
    → AreInitDeclarators total most is_typedef room names ts rest after ds → BeginsList ts
list_begins (one d) = init_begins d
list_begins (more d is ds) = init_begins d

struct_starts : {total most room : ℕ} {names after : Names} {ts rest : List Token} {s : StructSpec Member}
    → IsStruct total most room names ts rest after s → (others : Names) → sees_type others ts ≡ true
struct_starts (struct_reference {s = s} is named) others = starts_type_of others s (inr (inr (inr (inl is))))
struct_starts (struct_tagged {s = s} is named opens ms closes) others = starts_type_of others s (inr (inr (inr (inl is))))
struct_starts (struct_untagged {s = s} is opens ms closes) others = starts_type_of others s (inr (inr (inr (inl is))))

enum_starts : {total most room : ℕ} {names after : Names} {ts rest : List Token} {e : EnumSpec Expr}
    → IsEnum total most room names ts rest after e → (others : Names) → sees_type others ts ≡ true
enum_starts (enum_reference {e = e} is named) others = starts_type_of others e (inr (inr (inr (inr (inl is)))))
enum_starts (enum_tagged {e = e} is named opens es closes) others = starts_type_of others e (inr (inr (inr (inr (inl is)))))
enum_starts (enum_untagged {e = e} is opens es closes) others = starts_type_of others e (inr (inr (inr (inr (inl is)))))

specifiers_start : {total most room : ℕ} {names after : Names} {typed typed' : Typed} {ts rest : List Token} {is_typedef : Bool} {ss : List Specifier}
    → AreSpecifiers total most room names typed ts rest after typed' is_typedef ss → typed ≡ Untyped → IsOneType typed' → sees_type names ts ≡ true
specifiers_start no_specifiers same typed_once = absurd (subst IsOneType same typed_once)
specifiers_start (storage {names = names} {t = t} s is ss) same typed_once = starts_type_of names t (inl (s, is))
specifiers_start (qualifier {names = names} {t = t} q is ss) same typed_once = starts_type_of names t (inr (inl (q, is)))
specifiers_start (word {names = names} {t = t} w is takes ss) same typed_once = starts_type_of names t (inr (inr (inl (w, is))))
specifiers_start (struct_specifier {names = names} d ss) same typed_once = struct_starts d names
specifiers_start (enum_specifier {names = names} d ss) same typed_once = enum_starts d names
specifiers_start (typedef_name {names = names} {t = t} is ss) same typed_once = starts_type_of names t (inr (inr (inr (inr (inr is)))))

specs_start : {total most room : ℕ} {names after : Names} {ts rest : List Token} {is_typedef : Bool} {ss : Specs Specifier}
    → AreSpecs total most room names ts rest after is_typedef ss → sees_type names ts ≡ true
specs_start (specs ss typed_once) = specifiers_start ss refl typed_once

pub decl_starts : {total most room : ℕ} {names after : Names} {ts rest : List Token} {d : Decl}
    → IsDecl total most room names ts rest after d → sees_type names ts ≡ true
decl_starts (bare ss is) = specs_start ss
decl_starts (some ss ds is) = specs_start ss

-- no type name begins with `else`
pub type_no_else : (names : Names) (ts : List Token) → sees_type names ts ≡ true → sees_keyword keyword.Else ts ≡ false
type_no_else names [] h = refl
type_no_else names (t ∷ ts) h =
    elim (is_keyword keyword.Else t.kind) as (λ b. (b ≡ true → t.kind ≡ kind.Keyword keyword.Else) → b ≡ false) [
      | true ↦ λ f. absurd (let e : starts_type names t ≡ false = of_kind (starts_type names) t (kind.Keyword keyword.Else) (f refl) in cc)
      | false ↦ λ f. refl
    ] (keyword_is keyword.Else t.kind)

-- a declaration begins with no punctuator, and takes tokens
pub decl_begins : {total most room : ℕ} {names after : Names} {ts rest : List Token} {d : Decl}
    → IsDecl total most room names ts rest after d → BeginsSpecs ts rest
decl_begins (bare ss is) = let b = specs_begin ss in record { no_mark = b.no_mark; takes = omega (arith, b.takes) }
decl_begins (some ss ds is) = let b = specs_begin ss in record { no_mark = b.no_mark; takes = omega (arith, b.takes, (init_declarators_extend ds).shrinks) }

-- ---- declarations

module _ (total wide : ℕ) (b : Bounds) (complete : (room place : ℕ) → place ≡ room + b.spare → Complete total wide b place (readers total b.chain room)) where
  -- the first declarator is read, and then all behind it
  pub record ListRead (room : ℕ) (is_typedef : Bool) (s : State) (ds : List InitDeclarator) (s' : State) : Type 0 where
    pub first : ReadDeclarator
    pub between : State
    pub read : Meets total b.later ((readers total b.chain room).declarator s) (Ok (first, between))
    pub all : Meets total b.later (reading.all_declared total b.chain room is_typedef first between) (Ok (ds, s'))
    pub no_brace : sees_mark mark.OpenBrace between.rest ≡ false

  behind_first : (room : ℕ) (is_typedef : Bool) (s mid s' : State) (d : InitDeclarator) (ds : List InitDeclarator)
      → FirstRead total wide b complete room is_typedef s d mid → sees_mark mark.OpenBrace mid.rest ≡ false
      → Meets total b.later (reading.more_declared total b.chain room is_typedef (length mid.rest) (d ∷ []) mid) (Ok (ds, s')) → ListRead room is_typedef s ds s'
  unfolding reading.all_declared
  behind_first room is_typedef s mid s' d ds f no_brace h = record {
    first = f.first;
    between = f.between;
    read = f.read;
    all = on (λ x. reading.more_declared total b.chain room is_typedef (length x.1.rest) (x.0 ∷ []) x.1) f.then ▸ h;
    no_brace = f.no_brace no_brace;
  }

  pub list_read : {is_typedef : Bool} {place : ℕ} {names after : Names} {ts last : List Token} {ds : List InitDeclarator}
      → (are : AreInitDeclarators total wide is_typedef place names ts last after ds) → init_declarators_stand b are → (room : ℕ) → place ≡ room + b.spare
      → (c : Token) (rest : List Token) → last ≡ c ∷ rest → IsMark mark.Semicolon c → ListRead room is_typedef (at_state names ts) ds (at_state after rest)
  list_read {is_typedef = is_typedef} (one {names = names} {after = after} {ts = ts} {rest = last} {d = d} is) stands room at c rest h ends =
      behind_first room is_typedef (at_state names ts) (at_state after last) (at_state after rest) d (d ∷ [])
      (first_of total wide b complete is stands room at (subst (λ us. EndsInit us) (sym h) (semicolon_ends c rest ends)))
      (ap (sees_mark mark.OpenBrace) h ∙ ap (is_mark mark.OpenBrace) ends)
      (same (ap (λ us. reading.more_declared total b.chain room is_typedef (length us) (d ∷ []) (at_state after us)) h
      ∙ ended total wide b complete room is_typedef (length rest) (d ∷ []) after c rest ends))
  list_read {is_typedef = is_typedef} (more {names = names} {between = between} {after = after} {t = t} {ts = ts} {mid = mid} {rest = last} {d = d} {ds = ds} is comma others) stands room at c rest h ends =
      behind_first room is_typedef (at_state names ts) (at_state between (t ∷ mid)) (at_state after rest) d (d ∷ ds)
      (first_of total wide b complete is stands.0 room at (comma_ends t mid comma)) (ap (is_mark mark.OpenBrace) comma)
      (same (goes_on total wide b complete room is_typedef (length mid) (d ∷ []) between t mid comma)
      ▸ declarators_read total wide b complete others stands.2 room at c rest h ends (length mid) (d ∷ []) (declared_few others c rest h))

  pub from_read : (room token : ℕ) (ss : ReadSpecs) (d : ReadDeclarator) (s s' : State) (ds : List InitDeclarator)
      → Meets total b.later (reading.all_declared total b.chain room ss.is_typedef d s) (Ok (ds, s'))
      → Meets total b.later (reading.decl_from total b.chain room token ss d s) (Ok (record { token = token; specs = ss.specs; declared = ds }, s'))
  unfolding reading.decl_from
  from_read room token ss d s s' ds h = on (λ x. Ok (record { token = token; specs = ss.specs; declared = x.0 }, x.1)) h

  bare_read : (room token : ℕ) (ss : ReadSpecs) (names : Names) (c : Token) (rest : List Token) → IsMark mark.Semicolon c
      → reading.decl_behind total b.chain room token ss (at_state names (c ∷ rest)) ≡ Ok (record { token = token; specs = ss.specs; declared = [] }, at_state names rest)
  unfolding reading.decl_behind
  bare_read room token ss names c rest is =
      ap (λ z. cond z (Ok (record { token = token; specs = ss.specs; declared = [] }, at_state names rest))
      ((readers total b.chain room).declarator (at_state names (c ∷ rest)) >>= λ x. reading.decl_from total b.chain room token ss x.0 x.1)) (sees_it mark.Semicolon c is)

  some_read : (room token : ℕ) (ss : ReadSpecs) (s s' : State) (ds : List InitDeclarator) → sees_mark mark.Semicolon s.rest ≡ false
      → ListRead room ss.is_typedef s ds s'
      → Meets total b.later (reading.decl_behind total b.chain room token ss s) (Ok (record { token = token; specs = ss.specs; declared = ds }, s'))
  unfolding reading.decl_behind
  some_read room token ss s s' ds other l =
      same (ap (λ z. cond z (Ok (record { token = token; specs = ss.specs; declared = [] }, behind s))
      ((readers total b.chain room).declarator s >>= λ x. reading.decl_from total b.chain room token ss x.0 x.1)) other)
      ▸ on (λ x. reading.decl_from total b.chain room token ss x.0 x.1) l.read
      ▸ from_read room token ss l.first l.between s' ds l.all

  specs_then : (room place : ℕ) → place ≡ room + b.spare → (ss : ReadSpecs) (names between : Names) (ts mid : List Token) (o : Outcome (Decl × State))
      → (are : AreSpecs total wide place names ts mid between ss.is_typedef ss.specs) → specs_stand b are → is_keyword_at mid ≡ false
      → sees_mark mark.OpenBrace mid ≡ false
      → Meets total b.later (reading.decl_behind total b.chain room (number_of total ts) ss (at_state between mid)) o
      → Meets total b.later (reading.decl total b.chain room (at_state names ts)) o
  unfolding reading.decl
  specs_then room place at ss names between ts mid o are stands no_keyword no_brace h =
      on (λ x. reading.decl_behind total b.chain room (number_of total ts) x.0 x.1) ((complete room place at).specs names between ts mid ss are stands no_keyword no_brace) ▸ h

  no_keyword_there : (c : Token) (rest : List Token) → IsMark mark.Semicolon c → is_keyword_at (c ∷ rest) ≡ false
  no_keyword_there c rest is = rw is refl

  pub decl_read : {place : ℕ} {names after : Names} {ts rest : List Token} {d : Decl} → (is : IsDecl total wide place names ts rest after d)
      → decl_stands b is → (room : ℕ) → place ≡ room + b.spare
      → Meets total b.later (reading.decl total b.chain room (at_state names ts)) (Ok (d, at_state after rest))
  decl_read (bare {room = place} {names = names} {after = after} {s = c} {ts = ts} {rest = rest} {is_typedef = is_typedef} {ss = ss} are is) stands room at =
      let read : ReadSpecs = record { specs = ss; is_typedef = is_typedef } in
      specs_then room place at read names after ts (c ∷ rest) _ are stands.0 (no_keyword_there c rest is) (ap (is_mark mark.OpenBrace) is)
      (same (bare_read room (number_of total ts) read after c rest is))
  decl_read (some {room = place} {names = names} {between = between} {after = after} {s = c} {ts = ts} {mid = mid} {rest = rest} {is_typedef = is_typedef} {ss = ss} {ds = ds} are others is) stands room at =
      let read : ReadSpecs = record { specs = ss; is_typedef = is_typedef } in
      let begin = list_begins others in
      specs_then room place at read names between ts mid _ are stands.0 begin.begins.no_keyword begin.begins.no_brace
      (some_read room (number_of total ts) read (at_state between mid) (at_state after rest) ds begin.no_semicolon
      (list_read others stands.1 room at c rest refl is))
