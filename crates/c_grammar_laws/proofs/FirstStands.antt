-- Where a part has no more room than stands beyond the limit, its first token is one of the last ones.
use Rattle.std.proofs.Common.{◌≡◌, ℕ, suc, ◌≤◌, Bool, true, false, Option, List, ◌∷◌, length, Err, refl, ap, ◌∙◌, subst, arith}
use denote.Enum.Bare.{true_same}
use Rattle.c_lex.specs.declared.token.Token.{Token}
use Rattle.c_lex.specs.declared.token.Mark.TheVariants as mark
use Rattle.c_lex.specs.contracts.token.Mark as mark_contract
use Rattle.c_ast.specs.declared.words.Qualifier.{Qualifier}
use Rattle.c_ast.specs.declared.expression.Expr.{Expr}
use Rattle.c_ast.specs.declared.declaration.Specifier.{Specifier}
use Rattle.c_ast.specs.declared.declaration.Specs.{Specs}
use Rattle.c_ast.specs.declared.declaration.StructSpec.{StructSpec}
use Rattle.c_ast.specs.declared.declaration.Member.{Member}
use Rattle.c_ast.specs.declared.declaration.EnumSpec.{EnumSpec}
use Rattle.c_ast.specs.declared.declaration.Enumerator.{Enumerator}
use Rattle.c_ast.specs.declared.declaration.Declarator.{Declarator}
use Rattle.c_ast.specs.declared.declaration.Direct.{Direct}
use Rattle.c_ast.specs.declared.declaration.Param.{Param}
use Rattle.c_ast.specs.declared.declaration.TypeName.{TypeName}
use Rattle.c_ast.specs.declared.declaration.Init.{Init}
use Rattle.c_ast.specs.declared.declaration.InitDeclarator.{InitDeclarator}
use Rattle.c_ast.specs.declared.declaration.Decl.{Decl}
use Rattle.c_ast.specs.declared.statement.Stmt.{Stmt}
use Rattle.c_ast.specs.declared.statement.ForStart.{ForStart}
use Rattle.c_grammar.specs.Names.{Names}
use Rattle.c_grammar.specs.Owns.{Own}
use Rattle.c_grammar.specs.Types.{Typed, Untyped, IsOneType}
use Rattle.c_grammar.specs.Words.{IsMark, number_of}
use Rattle.c_grammar.specs.Grammar as g
use Rattle.c_grammar.specs.Grammar.{Part, ArePointers, IsExpr, IsTypeNamed, AreSpecs, AreSpecifiers, IsStruct, AreMembers, IsMember, AreDeclarators, IsEnum, AreEnumerators, IsEnumerator, IsDeclarator, IsDirect, AreParams, IsParam, IsSize, IsInit, AreInits, IsInitDeclarator, AreInitDeclarators, IsDecl, IsOptional, IsForStart, IsStmt}
use Rattle.c_grammar.specs.Nesting.{Bounds, Stands, pointers_stand, expr_stands, type_stands, specs_stand, specifiers_stand, struct_stands, members_stand, member_stands, declarators_stand, enum_stands, enumerators_stand, enumerator_stands, declarator_stands, direct_stands, params_stand, param_stands, size_stands, init_stands, inits_stand, init_declarator_stands, init_declarators_stand, decl_stands, optional_stands, for_start_stands, stmt_stands}
use Rattle.c_grammar.specs.Reading.{TooNested, Outcome, is_mark, sees_mark}
use Rattle.c_grammar.specs.ReadingDecl.{too_deep}
use Rattle.c_grammar.proofs.Late.{Meets, stopped}
use Rattle.c_grammar.proofs.Laws.{at_state, IsTypeInParens, in_parens_stands}

-- A token comes first, and it is one of the last ones.
pub record LateFirst (later : ℕ) (ts : List Token) : Type 0 where
  pub token : Token
  pub behind : List Token
  pub ts_are : ts ≡ token ∷ behind
  pub late : length (token ∷ behind) ≤ later

late_first : {later : ℕ} (t : Token) (ts : List Token) → length (t ∷ ts) ≤ later → LateFirst later (t ∷ ts)
late_first t ts late = record { token = t; behind = ts; ts_are = refl; late = late }

-- a reader stops there
pub stops_first : (total later : ℕ) {A : Type 0} (names : Names) (ts : List Token) → LateFirst later ts → (p : Outcome A)
    → Meets total later (Err (too_deep total (at_state names ts))) p
unfolding too_deep
stops_first total later {A = A} names ts first p =
    let stops : ◌≡◌ {A = Outcome A} (Err (TooNested (number_of total ts))) (Err (TooNested (number_of total (first.token ∷ first.behind)))) =
    ap (λ us. Err (TooNested (number_of total us))) first.ts_are in
    stopped total later (Err (TooNested (number_of total ts))) first.token first.behind first.late stops p

-- ---- expressions and declarations

pub expr_first : {total wide : ℕ} (b : Bounds) {p : Part} {room : ℕ} {names after : Names} {ts rest : List Token} {e : Expr}
    → (d : IsExpr total wide p room names ts rest after e) → expr_stands b d → room ≤ b.spare → LateFirst b.later ts
expr_first b (g.name {t = t} {rest = rest} is) stands deep = late_first t rest (stands deep)
expr_first b (g.number {t = t} {rest = rest} type is) stands deep = late_first t rest (stands deep)
expr_first b (g.character {t = t} {rest = rest} is) stands deep = late_first t rest (stands deep)
expr_first b (g.text {t = t} {rest = rest} is) stands deep = late_first t rest (stands deep)
expr_first b (g.paren {t = t} {ts = ts} opens d closes) stands deep = late_first t ts (stands.0 deep)
expr_first b (g.postfix d os few) stands deep = expr_first b d stands.0 deep
expr_first b (g.operand d) stands deep = expr_first b d stands deep
expr_first b (g.prefixed {t = t} {ts = ts} op is d) stands deep = late_first t ts (stands.0 deep)
expr_first b (g.sizeof_expr {t = t} {ts = ts} is other d) stands deep = late_first t ts (stands.0 deep)
expr_first b (g.sizeof_type {t = t} {o = o} {ts = ts} is opens d closes) stands deep = late_first t (o ∷ ts) (stands.0 deep)
expr_first b (g.cast {o = o} {ts = ts} opens d closes e) stands deep = late_first o ts (stands.0 deep)
expr_first b (g.lowest d) stands deep = expr_first b d stands deep
expr_first b (g.chained d ls few) stands deep = expr_first b d stands.0 deep
expr_first b (g.binary d) stands deep = expr_first b d stands deep
expr_first b (g.conditional d is e colon f) stands deep = expr_first b d stands.0 deep
expr_first b (g.value d) stands deep = expr_first b d stands deep
expr_first b (g.assigned op d is e) stands deep = expr_first b d stands.0 deep
expr_first b (g.comma d es few) stands deep = expr_first b d stands.0 deep

struct_first : {total wide : ℕ} (b : Bounds) {room : ℕ} {names after : Names} {ts rest : List Token} {s : StructSpec Member}
    → (d : IsStruct total wide room names ts rest after s) → struct_stands b d → room ≤ b.spare → LateFirst b.later ts
struct_first b (g.struct_reference {s = s} {t = t} {rest = rest} is name) stands deep = late_first s (t ∷ rest) (stands.0 deep)
struct_first b (g.struct_tagged {s = s} {t = t} {o = o} {ts = ts} is name opens ms closes) stands deep = late_first s (t ∷ o ∷ ts) (stands.0 deep)
struct_first b (g.struct_untagged {s = s} {o = o} {ts = ts} is opens ms closes) stands deep = late_first s (o ∷ ts) (stands.0 deep)

enum_first : {total wide : ℕ} (b : Bounds) {room : ℕ} {names after : Names} {ts rest : List Token} {e : EnumSpec Expr}
    → (d : IsEnum total wide room names ts rest after e) → enum_stands b d → room ≤ b.spare → LateFirst b.later ts
enum_first b (g.enum_reference {e = e} {t = t} {rest = rest} is name) stands deep = late_first e (t ∷ rest) (stands.0 deep)
enum_first b (g.enum_tagged {e = e} {t = t} {o = o} {ts = ts} is name opens es closes) stands deep = late_first e (t ∷ o ∷ ts) (stands.0 deep)
enum_first b (g.enum_untagged {e = e} {o = o} {ts = ts} is opens es closes) stands deep = late_first e (o ∷ ts) (stands.0 deep)

specifiers_first : {total wide : ℕ} (b : Bounds) {room : ℕ} {names after : Names} {typed typed' : Typed} {ts rest : List Token} {is_typedef : Bool}
    {ss : List Specifier} → (d : AreSpecifiers total wide room names typed ts rest after typed' is_typedef ss) → typed ≡ Untyped → IsOneType typed'
    → specifiers_stand b d → room ≤ b.spare → LateFirst b.later ts
specifiers_first b g.no_specifiers e one stands deep = absurd (subst IsOneType e one)
specifiers_first b (g.storage {t = t} {ts = ts} s is ss) e one stands deep = late_first t ts (stands.0 deep)
specifiers_first b (g.qualifier {t = t} {ts = ts} q is ss) e one stands deep = late_first t ts (stands.0 deep)
specifiers_first b (g.word {t = t} {ts = ts} w is with_it ss) e one stands deep = late_first t ts (stands.0 deep)
specifiers_first b (g.struct_specifier s ss) e one stands deep = struct_first b s stands.0 deep
specifiers_first b (g.enum_specifier s ss) e one stands deep = enum_first b s stands.0 deep
specifiers_first b (g.typedef_name {t = t} {ts = ts} is ss) e one stands deep = late_first t ts (stands.0 deep)

pub specs_first : {total wide : ℕ} (b : Bounds) {room : ℕ} {names after : Names} {ts rest : List Token} {is_typedef : Bool} {ss : Specs Specifier}
    → (d : AreSpecs total wide room names ts rest after is_typedef ss) → specs_stand b d → room ≤ b.spare → LateFirst b.later ts
specs_first b (g.specs d one) stands deep = specifiers_first b d refl one stands deep

pub direct_first : {total wide : ℕ} (b : Bounds) {room : ℕ} {names after : Names} {ts rest : List Token} {bytes : List ℕ} {own : Own}
    {d : Direct Declarator} → (is : IsDirect total wide room names ts rest after bytes own d) → direct_stands b is → room ≤ b.spare → LateFirst b.later ts
direct_first b (g.direct_name {t = t} {rest = rest} is) stands deep = late_first t rest (stands deep)
direct_first b (g.nested {o = o} {ts = ts} opens d closes) stands deep = late_first o ts (stands.0 deep)

-- pointers, and what is behind them
pointers_first : (b : Bounds) {room : ℕ} {ts rest : List Token} {ps : List (List Qualifier)} → (d : ArePointers room ts rest ps)
    → pointers_stand b d → room ≤ b.spare → LateFirst b.later rest → LateFirst b.later ts
pointers_first b g.no_pointers stands deep first = first
pointers_first b (g.more_pointers {t = t} {ts = ts} is qs ps) stands deep first = late_first t ts (stands.0 deep)

pub declarator_first : {total wide : ℕ} (b : Bounds) {room : ℕ} {names after : Names} {ts rest : List Token} {bytes : List ℕ} {own : Own} {d : Declarator}
    → (is : IsDeclarator total wide room names ts rest after bytes own d) → declarator_stands b is → room ≤ b.spare → LateFirst b.later ts
declarator_first b (g.declarator ps d ss) stands deep = pointers_first b ps stands.0 deep (direct_first b d stands.1 deep)

pub type_first : {total wide : ℕ} (b : Bounds) {room : ℕ} {names after : Names} {ts rest : List Token} {n : TypeName}
    → (d : IsTypeNamed total wide room names ts rest after n) → type_stands b d → room ≤ b.spare → LateFirst b.later ts
type_first b (g.type_named ss d) stands deep = specs_first b ss stands.0 deep

pub parens_first : {total wide : ℕ} (b : Bounds) {room : ℕ} {names after : Names} {ts rest : List Token} {n : TypeName}
    → (d : IsTypeInParens total wide room names ts rest after n) → in_parens_stands b d → room ≤ b.spare → LateFirst b.later ts
parens_first b d stands deep =
    let deeper : suc d.inner ≤ b.spare = omega (arith, d.room_is, deep) in
    record { token = d.open_token; behind = d.start; ts_are = d.ts_are; late = stands.0 deeper }

pub size_first : {total wide : ℕ} (b : Bounds) {room : ℕ} {names after : Names} {ts rest : List Token} {size : Option Expr}
    → (d : IsSize total wide room names ts rest after size) → size_stands b d → room ≤ b.spare → LateFirst b.later ts
size_first b (g.unsized {o = o} {c = c} {rest = rest} opens closes) stands deep = late_first o (c ∷ rest) (stands.0 deep)
size_first b (g.sized {o = o} {ts = ts} opens d closes) stands deep = late_first o ts (stands.0 deep)

pub param_first : {total wide : ℕ} (b : Bounds) {room : ℕ} {names after : Names} {ts rest : List Token} {p : Param}
    → (d : IsParam total wide room names ts rest after p) → param_stands b d → room ≤ b.spare → LateFirst b.later ts
param_first b (g.named_param ss d) stands deep = specs_first b ss stands.0 deep
param_first b (g.unnamed_param ss d) stands deep = specs_first b ss stands.0 deep

pub params_first : {total wide : ℕ} (b : Bounds) {room : ℕ} {names after : Names} {ts rest : List Token} {ps : List Param}
    → (d : AreParams total wide room names ts rest after ps) → params_stand b d → room ≤ b.spare → LateFirst b.later ts
params_first b (g.one_param p) stands deep = param_first b p stands deep
params_first b (g.more_params p is ps) stands deep = param_first b p stands.0 deep

pub declarators_first : {total wide : ℕ} (b : Bounds) {room : ℕ} {names after : Names} {ts rest : List Token} {ds : List Declarator}
    → (d : AreDeclarators total wide room names ts rest after ds) → declarators_stand b d → room ≤ b.spare → LateFirst b.later ts
declarators_first b (g.one_declarator d) stands deep = declarator_first b d stands deep
declarators_first b (g.more_declarators d is ds) stands deep = declarator_first b d stands.0 deep

pub member_first : {total wide : ℕ} (b : Bounds) {room : ℕ} {names after : Names} {ts rest : List Token} {m : Member}
    → (d : IsMember total wide room names ts rest after m) → member_stands b d → room ≤ b.spare → LateFirst b.later ts
member_first b (g.member ss ds is) stands deep = specs_first b ss stands.0 deep

pub members_first : {total wide : ℕ} (b : Bounds) {room : ℕ} {names after : Names} {ts rest : List Token} {ms : List Member}
    → (d : AreMembers total wide room names ts rest after ms) → members_stand b d → room ≤ b.spare → LateFirst b.later ts
members_first b (g.one_member m) stands deep = member_first b m stands deep
members_first b (g.more_members m ms) stands deep = member_first b m stands.0 deep

pub enumerator_first : {total wide : ℕ} (b : Bounds) {room : ℕ} {names after : Names} {ts rest : List Token} {e : Enumerator Expr}
    → (d : IsEnumerator total wide room names ts rest after e) → enumerator_stands b d → room ≤ b.spare → LateFirst b.later ts
enumerator_first b (g.enumerator {t = t} {rest = rest} is) stands deep = late_first t rest (stands deep)
enumerator_first b (g.valued {t = t} {e = e} {ts = ts} is assign d) stands deep = late_first t (e ∷ ts) (stands.0 deep)

pub enumerators_first : {total wide : ℕ} (b : Bounds) {room : ℕ} {names after : Names} {ts rest : List Token} {es : List (Enumerator Expr)}
    → (d : AreEnumerators total wide room names ts rest after es) → enumerators_stand b d → room ≤ b.spare → LateFirst b.later ts
enumerators_first b (g.one_enumerator e) stands deep = enumerator_first b e stands deep
enumerators_first b (g.last_enumerator e is) stands deep = enumerator_first b e stands.0 deep
enumerators_first b (g.more_enumerators e is es) stands deep = enumerator_first b e stands.0 deep

pub init_first : {total wide : ℕ} (b : Bounds) {room : ℕ} {names after : Names} {ts rest : List Token} {i : Init}
    → (d : IsInit total wide room names ts rest after i) → init_stands b d → room ≤ b.spare → LateFirst b.later ts
init_first b (g.init_value d) stands deep = expr_first b d stands deep
init_first b (g.list {o = o} {ts = ts} opens is closes) stands deep = late_first o ts (stands.0 deep)

pub inits_first : {total wide : ℕ} (b : Bounds) {room : ℕ} {names after : Names} {ts rest : List Token} {is : List Init}
    → (d : AreInits total wide room names ts rest after is) → inits_stand b d → room ≤ b.spare → LateFirst b.later ts
inits_first b (g.one_init i) stands deep = init_first b i stands deep
inits_first b (g.last_init i is) stands deep = init_first b i stands.0 deep
inits_first b (g.more_inits i is more) stands deep = init_first b i stands.0 deep

pub init_declarator_first : {total wide : ℕ} (b : Bounds) {is_typedef : Bool} {room : ℕ} {names after : Names} {ts rest : List Token} {i : InitDeclarator}
    → (d : IsInitDeclarator total wide is_typedef room names ts rest after i) → init_declarator_stands b d → room ≤ b.spare → LateFirst b.later ts
init_declarator_first b (g.plain d) stands deep = declarator_first b d stands deep
init_declarator_first b (g.initialised d is i) stands deep = declarator_first b d stands.0 deep

pub init_declarators_first : {total wide : ℕ} (b : Bounds) {is_typedef : Bool} {room : ℕ} {names after : Names} {ts rest : List Token} {is : List InitDeclarator}
    → (d : AreInitDeclarators total wide is_typedef room names ts rest after is) → init_declarators_stand b d → room ≤ b.spare → LateFirst b.later ts
init_declarators_first b (g.one d) stands deep = init_declarator_first b d stands deep
init_declarators_first b (g.AreInitDeclarators.more d is ds) stands deep = init_declarator_first b d stands.0 deep

pub decl_first : {total wide : ℕ} (b : Bounds) {room : ℕ} {names after : Names} {ts rest : List Token} {a : Decl}
    → (d : IsDecl total wide room names ts rest after a) → decl_stands b d → room ≤ b.spare → LateFirst b.later ts
decl_first b (g.bare ss is) stands deep = specs_first b ss stands.0 deep
decl_first b (g.IsDecl.some ss ds is) stands deep = specs_first b ss stands.0 deep

-- ---- statements

-- an expression or none, and a token behind it with the same room
pub optional_first : {total wide : ℕ} (b : Bounds) {room : ℕ} {names after : Names} {s : Token} {ts rest : List Token} {a : Option Expr}
    → (d : IsOptional total wide room names ts (s ∷ rest) after a) → optional_stands b d → Stands b room (s ∷ rest) → room ≤ b.spare
    → LateFirst b.later ts
optional_first b {s = s} {rest = rest} g.IsOptional.none stands behind deep = late_first s rest (behind deep)
optional_first b (g.IsOptional.some d) stands behind deep = expr_first b d stands deep

pub for_start_first : {total wide : ℕ} (b : Bounds) {room : ℕ} {names after : Names} {ts rest : List Token} {a : ForStart}
    → (d : IsForStart total wide room names ts rest after a) → for_start_stands b d → room ≤ b.spare → LateFirst b.later ts
for_start_first b (g.IsForStart.declaration d) stands deep = decl_first b d stands deep
for_start_first b (g.expression d is) stands deep = optional_first b d stands.0 stands.1 deep

no_brace : {P : Type 0} (t : Token) → IsMark mark.OpenBrace t → is_mark mark.OpenBrace t.kind ≡ false → P
no_brace t is other =
    let there : is_mark mark.OpenBrace t.kind ≡ true = ap (is_mark mark.OpenBrace) is ∙ true_same mark_contract.the_type mark.OpenBrace mark.OpenBrace refl in
    absurd cc

-- The first token of a statement that is no block has one room less than the statement.
pub simple_first : {total wide : ℕ} (b : Bounds) {ends : Bool} {room : ℕ} {names after : Names} {ts rest : List Token} {a : Stmt}
    → (d : IsStmt total wide ends room names ts rest after a) → stmt_stands b d → sees_mark mark.OpenBrace ts ≡ false → room ≤ suc b.spare
    → LateFirst b.later ts
simple_first b (g.block {o = o} opens is closes) stands other deep = no_brace o opens other
simple_first b (g.express d is) stands other deep = optional_first b d stands.0 stands.1 (omega arith)
simple_first b (g.if_then {t = t} {ts = ts} is d s) stands other deep = late_first t ts (stands.0 (omega arith))
simple_first b (g.if_else {t = t} {ts = ts} is d s e s') stands other deep = late_first t ts (stands.0 (omega arith))
simple_first b (g.while_do {t = t} {ts = ts} is d s) stands other deep = late_first t ts (stands.0 (omega arith))
simple_first b (g.do_while {t = t} {ts = ts} is d while d' closes) stands other deep = late_first t ts (stands.0 (omega arith))
simple_first b (g.for_do {t = t} {o = o} {ts = ts} is opens d e semicolon f closes body) stands other deep = late_first t (o ∷ ts) (stands.0 (omega arith))
simple_first b (g.switch {t = t} {ts = ts} is d s) stands other deep = late_first t ts (stands.0 (omega arith))
simple_first b (g.case {t = t} {ts = ts} is d colon s) stands other deep = late_first t ts (stands.0 (omega arith))
simple_first b (g.default {t = t} {c = c} {mid = mid} is colon s) stands other deep = late_first t (c ∷ mid) (stands.0 (omega arith))
simple_first b (g.break {t = t} {s = s} {rest = rest} is closes) stands other deep = late_first t (s ∷ rest) (stands.0 (omega arith))
simple_first b (g.continue {t = t} {s = s} {rest = rest} is closes) stands other deep = late_first t (s ∷ rest) (stands.0 (omega arith))
simple_first b (g.return {t = t} {ts = ts} is d closes) stands other deep = late_first t ts (stands.0 (omega arith))

pub stmt_first : {total wide : ℕ} (b : Bounds) {ends : Bool} {room : ℕ} {names after : Names} {ts rest : List Token} {a : Stmt}
    → (d : IsStmt total wide ends room names ts rest after a) → stmt_stands b d → room ≤ b.spare → LateFirst b.later ts
stmt_first b (g.block {o = o} {ts = ts} opens is closes) stands deep = late_first o ts (stands.0 deep)
stmt_first b (g.express d is) stands deep = optional_first b d stands.0 stands.1 (omega arith)
stmt_first b (g.if_then {t = t} {ts = ts} is d s) stands deep = late_first t ts (stands.0 (omega arith))
stmt_first b (g.if_else {t = t} {ts = ts} is d s e s') stands deep = late_first t ts (stands.0 (omega arith))
stmt_first b (g.while_do {t = t} {ts = ts} is d s) stands deep = late_first t ts (stands.0 (omega arith))
stmt_first b (g.do_while {t = t} {ts = ts} is d while d' closes) stands deep = late_first t ts (stands.0 (omega arith))
stmt_first b (g.for_do {t = t} {o = o} {ts = ts} is opens d e semicolon f closes body) stands deep = late_first t (o ∷ ts) (stands.0 (omega arith))
stmt_first b (g.switch {t = t} {ts = ts} is d s) stands deep = late_first t ts (stands.0 (omega arith))
stmt_first b (g.case {t = t} {ts = ts} is d colon s) stands deep = late_first t ts (stands.0 (omega arith))
stmt_first b (g.default {t = t} {c = c} {mid = mid} is colon s) stands deep = late_first t (c ∷ mid) (stands.0 (omega arith))
stmt_first b (g.break {t = t} {s = s} {rest = rest} is closes) stands deep = late_first t (s ∷ rest) (stands.0 (omega arith))
stmt_first b (g.continue {t = t} {s = s} {rest = rest} is closes) stands deep = late_first t (s ∷ rest) (stands.0 (omega arith))
stmt_first b (g.return {t = t} {ts = ts} is d closes) stands deep = late_first t ts (stands.0 (omega arith))
