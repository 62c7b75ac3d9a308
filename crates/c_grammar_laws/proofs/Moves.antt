-- What is read within the limits is there with another tail too, where more room is allowed, and all of it stands within the limits.
use Rattle.std.proofs.Common.{◌≡◌, ◌≢◌, ℕ, suc, ◌+◌, ◌<◌, ◌≤◌, Bool, Option, List, [], ◌∷◌, length, sym, ◌∙◌, ap, arith}
use Rattle.c_lex.specs.declared.token.TokenKind.{TokenKind}
use Rattle.c_lex.specs.declared.token.TokenKind.TheVariants as kind
use Rattle.c_lex.specs.declared.token.Mark.TheVariants as mark
use Rattle.c_lex.specs.declared.token.Keyword.TheVariants as keyword
use Rattle.c_lex.specs.declared.token.Token.{Token}
use Rattle.c_ast.specs.declared.words.Qualifier.{Qualifier}
use Rattle.c_ast.specs.declared.expression.Expr.{Expr}
use Rattle.c_ast.specs.declared.expression.Link.{Link}
use Rattle.c_ast.specs.declared.expression.PostfixOp.{PostfixOp}
use Rattle.c_ast.specs.declared.declaration.Specifier.{Specifier}
use Rattle.c_ast.specs.declared.declaration.Specs.{Specs}
use Rattle.c_ast.specs.declared.declaration.StructSpec.{StructSpec}
use Rattle.c_ast.specs.declared.declaration.Member.{Member}
use Rattle.c_ast.specs.declared.declaration.EnumSpec.{EnumSpec}
use Rattle.c_ast.specs.declared.declaration.Enumerator.{Enumerator}
use Rattle.c_ast.specs.declared.declaration.Declarator.{Declarator}
use Rattle.c_ast.specs.declared.declaration.Direct.{Direct}
use Rattle.c_ast.specs.declared.declaration.DirectSuffix.{DirectSuffix}
use Rattle.c_ast.specs.declared.declaration.Param.{Param}
use Rattle.c_ast.specs.declared.declaration.Abstract.{Abstract}
use Rattle.c_ast.specs.declared.declaration.TypeName.{TypeName}
use Rattle.c_ast.specs.declared.declaration.Init.{Init}
use Rattle.c_ast.specs.declared.declaration.InitDeclarator.{InitDeclarator}
use Rattle.c_ast.specs.declared.declaration.Decl.{Decl}
use Rattle.c_ast.specs.declared.declaration.External.{External}
use Rattle.c_ast.specs.declared.statement.Stmt.{Stmt}
use Rattle.c_ast.specs.declared.statement.ForStart.{ForStart}
use Rattle.c_ast.specs.declared.statement.BlockItem.{BlockItem}
use Rattle.c_grammar.specs.Names.{Names, nothing}
use Rattle.c_grammar.specs.Owns.{Own}
use Rattle.c_grammar.specs.Types.{Typed}
use Rattle.c_grammar.specs.Grammar as g
use Rattle.c_grammar.specs.Grammar.{Part, Primary, Postfix, Unary, Level, Cond, Assign, Comma, AreQualifiers, ArePointers, IsExpr, AreLinks, AreOthers, ArePostfix, AreArguments, IsTypeNamed, IsAbstract, AreSizes, IsSize, AreSpecs, AreSpecifiers, IsStruct, AreMembers, IsMember, AreDeclarators, IsEnum, AreEnumerators, IsEnumerator, IsDeclarator, IsDirect, AreSuffixes, AreParams, IsParam, IsInit, AreInits, IsInitDeclarator, AreInitDeclarators, IsDecl, IsOptional, IsForStart, IsTest, IsStmt, AreItems, IsExternal, AreExternals, StartsTypeInParens, IsVoidAlone}
use Rattle.c_grammar_laws.proofs.Deep.{Deeper, Swapped, at_tail, more_swapped, joined, Moved, deep, none_left, early, fits, more_fits, empty_fits, QualifiersAt, PointersAt, ExprAt, LinksAt, OthersAt, ListedAt, PostfixAt, ArgumentsAt, TypeAt, AbstractAt, SizesAt, SizeAt, SpecsAt, SpecifiersAt, StructAt, MembersAt, MemberAt, DeclaratorsAt, EnumAt, EnumeratorsAt, EnumeratorAt, DeclaratorAt, DirectAt, SuffixesAt, ParamsAt, ParamAt, InitAt, InitsAt, InitDeclaratorAt, InitDeclaratorsAt, DeclAt, OptionalAt, ForStartAt, TestAt, StmtAt, ItemsAt, ExternalAt, ExternalsAt}
use Rattle.c_grammar.specs.Words.{IsMark, prefix_of}
use Rattle.c_grammar.proofs.Extends.{expr_extends, links_extend, others_extend, postfix_extends, type_named_extends, declarator_extends, abstract_extends, param_extends, params_extend}
use Rattle.c_grammar_laws.proofs.SpecsBegin.{specs_begin}

-- ---- a part that takes a token has room

pub expr_room : {total most : ℕ} {p : Part} {room : ℕ} {names after : Names} {ts rest : List Token} {e : Expr}
    → IsExpr total most p room names ts rest after e → 1 ≤ room
expr_room (g.name is) = omega arith
expr_room (g.number type is) = omega arith
expr_room (g.character is) = omega arith
expr_room (g.text is) = omega arith
expr_room (g.paren opens d closes) = omega arith
expr_room (g.postfix d os few) = expr_room d
expr_room (g.operand d) = expr_room d
expr_room (g.prefixed op is d) = omega arith
expr_room (g.sizeof_expr is no_type d) = omega arith
expr_room (g.sizeof_type is opens d closes) = omega arith
expr_room (g.cast opens d closes e) = omega arith
expr_room (g.lowest d) = expr_room d
expr_room (g.chained d ls few) = expr_room d
expr_room (g.binary d) = expr_room d
expr_room (g.conditional d is e colon f) = omega arith
expr_room (g.value d) = expr_room d
expr_room (g.assigned op d is e) = omega arith
expr_room (g.comma d es few) = expr_room d

pub specs_room : {total most room : ℕ} {names after : Names} {ts rest : List Token} {flag : Bool} {ss : Specs Specifier}
    → AreSpecs total most room names ts rest after flag ss → 1 ≤ room
specs_room (g.specs g.no_specifiers one) = absurd one
specs_room (g.specs (g.storage s is d) one) = omega arith
specs_room (g.specs (g.qualifier q is d) one) = omega arith
specs_room (g.specs (g.word w is with_it d) one) = omega arith
specs_room (g.specs (g.struct_specifier (g.struct_reference is name) d) one) = omega arith
specs_room (g.specs (g.struct_specifier (g.struct_tagged is name opens ms closes) d) one) = omega arith
specs_room (g.specs (g.struct_specifier (g.struct_untagged is opens ms closes) d) one) = omega arith
specs_room (g.specs (g.enum_specifier (g.enum_reference is name) d) one) = omega arith
specs_room (g.specs (g.enum_specifier (g.enum_tagged is name opens es closes) d) one) = omega arith
specs_room (g.specs (g.enum_specifier (g.enum_untagged is opens es closes) d) one) = omega arith
specs_room (g.specs (g.typedef_name is d) one) = omega arith

pub declarator_room : {total most room : ℕ} {names after : Names} {ts rest : List Token} {bytes : List ℕ} {own : Own} {d : Declarator}
    → IsDeclarator total most room names ts rest after bytes own d → 1 ≤ room
declarator_room (g.declarator ps (g.direct_name is) ss) = omega arith
declarator_room (g.declarator ps (g.nested opens d closes) ss) = omega arith

pub enumerator_room : {total most room : ℕ} {names after : Names} {ts rest : List Token} {e : Enumerator Expr}
    → IsEnumerator total most room names ts rest after e → 1 ≤ room
enumerator_room (g.enumerator is) = omega arith
enumerator_room (g.valued is assign d) = omega arith

pub param_room : {total most room : ℕ} {names after : Names} {ts rest : List Token} {p : Param}
    → IsParam total most room names ts rest after p → 1 ≤ room
param_room (g.named_param ss d) = specs_room ss
param_room (g.unnamed_param ss d) = specs_room ss

pub init_room : {total most room : ℕ} {names after : Names} {ts rest : List Token} {i : Init} → IsInit total most room names ts rest after i → 1 ≤ room
init_room (g.init_value d) = expr_room d
init_room (g.list opens is closes) = omega arith

pub init_declarator_room : {total most : ℕ} {flag : Bool} {room : ℕ} {names after : Names} {ts rest : List Token} {d : InitDeclarator}
    → IsInitDeclarator total most flag room names ts rest after d → 1 ≤ room
init_declarator_room (g.plain d) = declarator_room d
init_declarator_room (g.initialised d is i) = declarator_room d

pub decl_room : {total most room : ℕ} {names after : Names} {ts rest : List Token} {d : Decl} → IsDecl total most room names ts rest after d → 1 ≤ room
decl_room (g.bare ss is) = specs_room ss
decl_room (g.IsDecl.some ss ds is) = specs_room ss

pub for_start_room : {total most room : ℕ} {names after : Names} {ts rest : List Token} {a : ForStart}
    → IsForStart total most room names ts rest after a → 1 ≤ room
for_start_room (g.IsForStart.declaration d) = decl_room d
for_start_room (g.expression d is) = omega arith

-- ---- what is no type in parentheses, and no `void` alone, is none with another tail

other_kind : {P : Type 0} {k : TokenKind} (j : TokenKind) → k ≡ j → k ≡ kind.Mark mark.OpenParen → j ≢ kind.Mark mark.OpenParen → P
other_kind j a b other = absurd (other (sym a ∙ b))

-- an expression takes a token, and another one where it begins with `(`
pub expr_takes : {total most : ℕ} {p : Part} {room : ℕ} {names after : Names} {ts rest : List Token} {e : Expr}
    → IsExpr total most p room names ts rest after e → length rest < length ts
expr_takes (g.name is) = omega arith
expr_takes (g.number type is) = omega arith
expr_takes (g.character is) = omega arith
expr_takes (g.text is) = omega arith
expr_takes (g.paren opens d closes) = let x = (expr_extends d).shrinks in omega arith
expr_takes (g.postfix d os few) = let x = expr_takes d in let y = (postfix_extends os).shrinks in omega arith
expr_takes (g.operand d) = expr_takes d
expr_takes (g.prefixed op is d) = let x = (expr_extends d).shrinks in omega arith
expr_takes (g.sizeof_expr is no_type d) = let x = (expr_extends d).shrinks in omega arith
expr_takes (g.sizeof_type is opens d closes) = let x = (type_named_extends d).shrinks in omega arith
expr_takes (g.cast opens d closes e) = let x = (type_named_extends d).shrinks in let y = (expr_extends e).shrinks in omega arith
expr_takes (g.lowest d) = expr_takes d
expr_takes (g.chained d ls few) = let x = expr_takes d in let y = (links_extend ls).shrinks in omega arith
expr_takes (g.binary d) = expr_takes d
expr_takes (g.conditional d is e colon f) =
    let x = expr_takes d in let y = (expr_extends e).shrinks in let z = (expr_extends f).shrinks in omega arith
expr_takes (g.value d) = expr_takes d
expr_takes (g.assigned op d is e) = let x = expr_takes d in let y = (expr_extends e).shrinks in omega arith
expr_takes (g.comma d es few) = let x = expr_takes d in let y = (others_extend es).shrinks in omega arith

pub paren_takes : {total most : ℕ} {p : Part} {room : ℕ} {names after : Names} {o : Token} {us rest : List Token} {e : Expr}
    → IsExpr total most p room names (o ∷ us) rest after e → IsMark mark.OpenParen o → length rest < length us
paren_takes (g.name is) opens = other_kind kind.Name is.0 opens (λ e. absurd cc)
paren_takes (g.number type is) opens = other_kind (kind.Number type) is opens (λ e. absurd cc)
paren_takes (g.character is) opens = other_kind kind.Character is opens (λ e. absurd cc)
paren_takes (g.text is) opens = other_kind kind.Text is opens (λ e. absurd cc)
paren_takes (g.paren o d closes) opens = let x = (expr_extends d).shrinks in omega arith
paren_takes (g.postfix d os few) opens = let x = paren_takes d opens in let y = (postfix_extends os).shrinks in omega arith
paren_takes (g.operand d) opens = paren_takes d opens
paren_takes (g.prefixed op is d) opens = absurd (let x = sym (ap prefix_of opens) ∙ is in cc)
paren_takes (g.sizeof_expr is no_type d) opens = other_kind (kind.Keyword keyword.Sizeof) is opens (λ e. absurd cc)
paren_takes (g.sizeof_type is o d closes) opens = other_kind (kind.Keyword keyword.Sizeof) is opens (λ e. absurd cc)
paren_takes (g.cast o d closes e) opens = let x = (type_named_extends d).shrinks in let y = (expr_extends e).shrinks in omega arith
paren_takes (g.lowest d) opens = paren_takes d opens
paren_takes (g.chained d ls few) opens = let x = paren_takes d opens in let y = (links_extend ls).shrinks in omega arith
paren_takes (g.binary d) opens = paren_takes d opens
paren_takes (g.conditional d is e colon f) opens =
    let x = paren_takes d opens in let y = (expr_extends e).shrinks in let z = (expr_extends f).shrinks in omega arith
paren_takes (g.value d) opens = paren_takes d opens
paren_takes (g.assigned op d is e) opens = let x = paren_takes d opens in let y = (expr_extends e).shrinks in omega arith
paren_takes (g.comma d es few) opens = let x = paren_takes d opens in let y = (others_extend es).shrinks in omega arith

pub opens_there : (names : Names) (x : Token) (ts : List Token) → StartsTypeInParens names (x ∷ ts) → IsMark mark.OpenParen x
opens_there names x [] h = absurd h
opens_there names x (t ∷ ts) h = h.0

pub no_type_moves : {total most : ℕ} {p : Part} {room : ℕ} {names after : Names} {ts rest rest' all : List Token} {e : Expr} → IsExpr total most p room names ts rest after e
    → (StartsTypeInParens names ts → ⊥) → Swapped rest rest' ts all → StartsTypeInParens names all → ⊥
no_type_moves d no_type at_tail h = let x = expr_takes d in absurd (omega (arith, x))
no_type_moves {names = names} {rest' = rest'} d no_type (more_swapped {t = x} at_tail) h = let x = paren_takes d (opens_there names x rest' h) in absurd (omega (arith, x))
no_type_moves d no_type (more_swapped (more_swapped s)) h = no_type h

params_take : {total most room : ℕ} {names after : Names} {ts rest : List Token} {ps : List Param} → AreParams total most room names ts rest after ps
    → length rest < length ts
params_take (g.one_param (g.named_param ss d)) = let x = (specs_begin ss).takes in let y = (declarator_extends d).shrinks in omega arith
params_take (g.one_param (g.unnamed_param ss d)) = let x = (specs_begin ss).takes in let y = (abstract_extends d).shrinks in omega arith
params_take (g.more_params p is ps) = let x = (param_extends p).shrinks in let y = (params_extend ps).shrinks in omega arith

void_moves : {c : Token} {mid mid' ts all : List Token} → Swapped (c ∷ mid) (c ∷ mid') ts all → length (c ∷ mid) < length ts
    → IsVoidAlone all → IsVoidAlone ts
void_moves at_tail less h = absurd (omega (arith, less))
void_moves (more_swapped at_tail) less h = h
void_moves (more_swapped (more_swapped s)) less h = h

no_void_moves : {total most room : ℕ} {names after : Names} {c : Token} {ts mid mid' all : List Token} {ps : List Param}
    → AreParams total most room names ts (c ∷ mid) after ps
    → (IsVoidAlone ts → ⊥) → Swapped (c ∷ mid) (c ∷ mid') ts all → IsVoidAlone all → ⊥
no_void_moves ps no_void s h = no_void (void_moves s (params_take ps) h)

module _ (to : Deeper) where
  pub moved_qualifiers : {room : ℕ} {ts : List Token} {rest : List Token} {tree : List Qualifier} → AreQualifiers room ts rest tree → (rest' : List Token) → Moved (QualifiersAt to room tree) ts rest rest' nothing
  moved_qualifiers g.no_qualifiers rest' =
      record { all = rest'; swapped = at_tail; is = λ total' later. (g.no_qualifiers, tt) }
  moved_qualifiers (g.more_qualifiers {room = room} {t = t} q is qs) rest' =
      let x0 = moved_qualifiers qs rest' in
      record { all = t ∷ x0.all; swapped = more_swapped x0.swapped; is = λ total' later. let y0 = x0.is total' later in (g.more_qualifiers q is y0.0, (deep room to.spare, y0.1)) }

  pub moved_pointers : {room : ℕ} {ts : List Token} {rest : List Token} {tree : List (List Qualifier)} → ArePointers room ts rest tree → (rest' : List Token) → Moved (PointersAt to room tree) ts rest rest' nothing
  moved_pointers g.no_pointers rest' =
      record { all = rest'; swapped = at_tail; is = λ total' later. (g.no_pointers, tt) }
  moved_pointers (g.more_pointers {room = room} {t = t} is qs ps) rest' =
      let x1 = moved_pointers ps rest' in
      let x0 = moved_qualifiers qs x1.all in
      record { all = t ∷ x0.all; swapped = more_swapped (joined x0.swapped (x1.swapped)); is = λ total' later. let y0 = x0.is total' later in let y1 = x1.is total' later in (g.more_pointers is y0.0 y1.0, (deep room to.spare, y0.1, y1.1)) }

  mutual
    pub moved_expr : {total : ℕ} {p : Part} {room : ℕ} {names : Names} {ts : List Token} {rest : List Token} {after : Names} {tree : Expr}
        → IsExpr total to.chain p room names ts rest after tree → (rest' : List Token)
        → Moved (ExprAt to p room names) ts rest rest' after
    moved_expr (g.name {room = room} {t = t} is) rest' =
        record { all = t ∷ rest'; swapped = more_swapped at_tail; is = λ total' later. (_, g.name is, deep room to.spare) }
    moved_expr (g.number {room = room} {t = t} type is) rest' =
        record { all = t ∷ rest'; swapped = more_swapped at_tail; is = λ total' later. (_, g.number type is, deep room to.spare) }
    moved_expr (g.character {room = room} {t = t} is) rest' =
        record { all = t ∷ rest'; swapped = more_swapped at_tail; is = λ total' later. (_, g.character is, deep room to.spare) }
    moved_expr (g.text {room = room} {t = t} is) rest' =
        record { all = t ∷ rest'; swapped = more_swapped at_tail; is = λ total' later. (_, g.text is, deep room to.spare) }
    moved_expr (g.paren {room = room} {t = t} {c = c} opens d closes) rest' =
        let x0 = moved_expr d (c ∷ rest') in
        record { all = t ∷ x0.all; swapped = more_swapped (joined x0.swapped (more_swapped at_tail)); is = λ total' later. let y0 = x0.is total' later in (_, g.paren opens y0.1 closes, (deep room to.spare, y0.2, deep room to.spare)) }
    moved_expr (g.postfix d os few) rest' =
        let x1 = moved_postfix os 0 (omega (arith, few)) rest' in
        let x0 = moved_expr d x1.all in
        record { all = x0.all; swapped = joined x0.swapped (x1.swapped); is = λ total' later. let y0 = x0.is total' later in let y1 = x1.is total' later in (_, g.postfix y0.1 y1.1 (fits to y1.2 few), (y0.2, y1.3)) }
    moved_expr (g.operand d) rest' =
        let x0 = moved_expr d rest' in
        record { all = x0.all; swapped = x0.swapped; is = λ total' later. let y0 = x0.is total' later in (_, g.operand y0.1, y0.2) }
    moved_expr (g.prefixed {room = room} {t = t} op is d) rest' =
        let x0 = moved_expr d rest' in
        record { all = t ∷ x0.all; swapped = more_swapped x0.swapped; is = λ total' later. let y0 = x0.is total' later in (_, g.prefixed op is y0.1, (deep room to.spare, y0.2)) }
    moved_expr (g.sizeof_expr {room = room} {t = t} is no_type d) rest' =
        let x0 = moved_expr d rest' in
        record { all = t ∷ x0.all; swapped = more_swapped x0.swapped; is = λ total' later. let y0 = x0.is total' later in (_, g.sizeof_expr is (no_type_moves d no_type x0.swapped) y0.1, (deep room to.spare, y0.2)) }
    moved_expr (g.sizeof_type {room = room} {t = t} {o = o} {c = c} is opens d closes) rest' =
        let x0 = moved_type d (c ∷ rest') in
        record { all = t ∷ o ∷ x0.all; swapped = more_swapped (more_swapped (joined x0.swapped (more_swapped at_tail))); is = λ total' later. let y0 = x0.is total' later in (_, g.sizeof_type is opens y0.1 closes, (deep (suc room) to.spare, deep room to.spare, y0.2, deep room to.spare)) }
    moved_expr (g.cast {room = room} {o = o} {c = c} opens d closes e) rest' =
        let x1 = moved_expr e rest' in
        let x0 = moved_type d (c ∷ x1.all) in
        record { all = o ∷ x0.all; swapped = more_swapped (joined x0.swapped (more_swapped x1.swapped)); is = λ total' later. let y0 = x0.is total' later in let y1 = x1.is total' later in (_, g.cast opens y0.1 closes y1.1, (deep room to.spare, y0.2, deep room to.spare, y1.2)) }
    moved_expr (g.lowest d) rest' =
        let x0 = moved_expr d rest' in
        record { all = x0.all; swapped = x0.swapped; is = λ total' later. let y0 = x0.is total' later in (_, g.lowest y0.1, y0.2) }
    moved_expr (g.chained d ls few) rest' =
        let x1 = moved_links ls 0 (omega (arith, few)) rest' in
        let x0 = moved_expr d x1.all in
        record { all = x0.all; swapped = joined x0.swapped (x1.swapped); is = λ total' later. let y0 = x0.is total' later in let y1 = x1.is total' later in (_, g.chained y0.1 y1.1 (fits to y1.2 few), (y0.2, y1.3)) }
    moved_expr (g.binary d) rest' =
        let x0 = moved_expr d rest' in
        record { all = x0.all; swapped = x0.swapped; is = λ total' later. let y0 = x0.is total' later in (_, g.binary y0.1, y0.2) }
    moved_expr (g.conditional {room = room} {q = q} {c = c} d is e colon f) rest' =
        let x2 = moved_expr f rest' in
        let x1 = moved_expr e (c ∷ x2.all) in
        let x0 = moved_expr d (q ∷ x1.all) in
        record { all = x0.all; swapped = joined x0.swapped (more_swapped (joined x1.swapped (more_swapped x2.swapped))); is = λ total' later. let y0 = x0.is total' later in let y1 = x1.is total' later in let y2 = x2.is total' later in (_, g.conditional y0.1 is y1.1 colon y2.1, (y0.2, deep room to.spare, y1.2, none_left _ to.spare (expr_room e), y2.2)) }
    moved_expr (g.value d) rest' =
        let x0 = moved_expr d rest' in
        record { all = x0.all; swapped = x0.swapped; is = λ total' later. let y0 = x0.is total' later in (_, g.value y0.1, y0.2) }
    moved_expr (g.assigned {room = room} {t = t} op d is e) rest' =
        let x1 = moved_expr e rest' in
        let x0 = moved_expr d (t ∷ x1.all) in
        record { all = x0.all; swapped = joined x0.swapped (more_swapped x1.swapped); is = λ total' later. let y0 = x0.is total' later in let y1 = x1.is total' later in (_, g.assigned op y0.1 is y1.1, (y0.2, deep room to.spare, y1.2)) }
    moved_expr (g.comma d es few) rest' =
        let x1 = moved_others es 0 (omega (arith, few)) rest' in
        let x0 = moved_expr d x1.all in
        record { all = x0.all; swapped = joined x0.swapped (x1.swapped); is = λ total' later. let y0 = x0.is total' later in let y1 = x1.is total' later in (_, g.comma y0.1 y1.1 (fits to y1.2 few), (y0.2, y1.3)) }

    pub moved_links : {total : ℕ} {level : ℕ} {room : ℕ} {names : Names} {ts : List Token} {rest : List Token} {after : Names} {tree : List (Link Expr)}
        → AreLinks total to.chain level room names ts rest after tree → (before : ℕ) → before + length tree ≤ to.chain → (rest' : List Token)
        → Moved (LinksAt to level room names before (length tree)) ts rest rest' after
    moved_links g.no_links before enough rest' =
        record { all = rest'; swapped = at_tail; is = λ total' later. (_, g.no_links, empty_fits, tt) }
    moved_links (g.more_links {t = t} op is d ls) before enough rest' =
        let x1 = moved_links ls (suc before) (omega (arith, enough)) rest' in
        let x0 = moved_expr d x1.all in
        record { all = t ∷ x0.all; swapped = more_swapped (joined x0.swapped (x1.swapped)); is = λ total' later. let y0 = x0.is total' later in let y1 = x1.is total' later in (_, g.more_links op is y0.1 y1.1, more_fits y1.2, (none_left _ to.spare (expr_room d), early before to.chain (omega (arith, enough)), y0.2, y1.3)) }

    pub moved_others : {total : ℕ} {room : ℕ} {names : Names} {ts : List Token} {rest : List Token} {after : Names} {tree : List Expr}
        → AreOthers total to.chain room names ts rest after tree → (before : ℕ) → before + length tree ≤ to.chain → (rest' : List Token)
        → Moved (OthersAt to room names before (length tree)) ts rest rest' after
    moved_others g.no_others before enough rest' =
        record { all = rest'; swapped = at_tail; is = λ total' later. (_, g.no_others, empty_fits, tt) }
    moved_others (g.more_others {t = t} is d es) before enough rest' =
        let x1 = moved_others es (suc before) (omega (arith, enough)) rest' in
        let x0 = moved_expr d x1.all in
        record { all = t ∷ x0.all; swapped = more_swapped (joined x0.swapped (x1.swapped)); is = λ total' later. let y0 = x0.is total' later in let y1 = x1.is total' later in (_, g.more_others is y0.1 y1.1, more_fits y1.2, (none_left _ to.spare (expr_room d), early before to.chain (omega (arith, enough)), y0.2, y1.3)) }

    pub moved_listed : {total : ℕ} {room : ℕ} {names : Names} {ts : List Token} {rest : List Token} {after : Names} {tree : List Expr}
        → AreOthers total to.chain room names ts rest after tree → (rest' : List Token)
        → Moved (ListedAt to room names) ts rest rest' after
    moved_listed g.no_others rest' =
        record { all = rest'; swapped = at_tail; is = λ total' later. (_, g.no_others, tt) }
    moved_listed (g.more_others {t = t} is d es) rest' =
        let x1 = moved_listed es rest' in
        let x0 = moved_expr d x1.all in
        record { all = t ∷ x0.all; swapped = more_swapped (joined x0.swapped (x1.swapped)); is = λ total' later. let y0 = x0.is total' later in let y1 = x1.is total' later in (_, g.more_others is y0.1 y1.1, (none_left _ to.spare (expr_room d), y0.2, y1.2)) }

    pub moved_postfix : {total : ℕ} {room : ℕ} {names : Names} {ts : List Token} {rest : List Token} {after : Names} {tree : List (PostfixOp Expr)}
        → ArePostfix total to.chain room names ts rest after tree → (before : ℕ) → before + length tree ≤ to.chain → (rest' : List Token)
        → Moved (PostfixAt to room names before (length tree)) ts rest rest' after
    moved_postfix g.no_postfix before enough rest' =
        record { all = rest'; swapped = at_tail; is = λ total' later. (_, g.no_postfix, empty_fits, tt) }
    moved_postfix (g.index {room = room} {t = t} {c = c} opens d closes os) before enough rest' =
        let x1 = moved_postfix os (suc before) (omega (arith, enough)) rest' in
        let x0 = moved_expr d (c ∷ x1.all) in
        record { all = t ∷ x0.all; swapped = more_swapped (joined x0.swapped (more_swapped x1.swapped)); is = λ total' later. let y0 = x0.is total' later in let y1 = x1.is total' later in (_, g.index opens y0.1 closes y1.1, more_fits y1.2, (deep room to.spare, early before to.chain (omega (arith, enough)), y0.2, deep room to.spare, y1.3)) }
    moved_postfix (g.call {room = room} {t = t} {c = c} opens d closes os) before enough rest' =
        let x1 = moved_postfix os (suc before) (omega (arith, enough)) rest' in
        let x0 = moved_arguments d (c ∷ x1.all) in
        record { all = t ∷ x0.all; swapped = more_swapped (joined x0.swapped (more_swapped x1.swapped)); is = λ total' later. let y0 = x0.is total' later in let y1 = x1.is total' later in (_, g.call opens y0.1 closes y1.1, more_fits y1.2, (deep room to.spare, early before to.chain (omega (arith, enough)), y0.2, deep room to.spare, y1.3)) }
    moved_postfix (g.dot {room = room} {d = d} {t = t} is name os) before enough rest' =
        let x0 = moved_postfix os (suc before) (omega (arith, enough)) rest' in
        record { all = d ∷ t ∷ x0.all; swapped = more_swapped (more_swapped x0.swapped); is = λ total' later. let y0 = x0.is total' later in (_, g.dot is name y0.1, more_fits y0.2, (deep room to.spare, early before to.chain (omega (arith, enough)), deep room to.spare, y0.3)) }
    moved_postfix (g.arrow {room = room} {d = d} {t = t} is name os) before enough rest' =
        let x0 = moved_postfix os (suc before) (omega (arith, enough)) rest' in
        record { all = d ∷ t ∷ x0.all; swapped = more_swapped (more_swapped x0.swapped); is = λ total' later. let y0 = x0.is total' later in (_, g.arrow is name y0.1, more_fits y0.2, (deep room to.spare, early before to.chain (omega (arith, enough)), deep room to.spare, y0.3)) }
    moved_postfix (g.increment {room = room} {t = t} is os) before enough rest' =
        let x0 = moved_postfix os (suc before) (omega (arith, enough)) rest' in
        record { all = t ∷ x0.all; swapped = more_swapped x0.swapped; is = λ total' later. let y0 = x0.is total' later in (_, g.increment is y0.1, more_fits y0.2, (deep room to.spare, early before to.chain (omega (arith, enough)), y0.3)) }
    moved_postfix (g.decrement {room = room} {t = t} is os) before enough rest' =
        let x0 = moved_postfix os (suc before) (omega (arith, enough)) rest' in
        record { all = t ∷ x0.all; swapped = more_swapped x0.swapped; is = λ total' later. let y0 = x0.is total' later in (_, g.decrement is y0.1, more_fits y0.2, (deep room to.spare, early before to.chain (omega (arith, enough)), y0.3)) }

    pub moved_arguments : {total : ℕ} {room : ℕ} {names : Names} {ts : List Token} {rest : List Token} {after : Names} {tree : List Expr}
        → AreArguments total to.chain room names ts rest after tree → (rest' : List Token)
        → Moved (ArgumentsAt to room names) ts rest rest' after
    moved_arguments g.no_arguments rest' =
        record { all = rest'; swapped = at_tail; is = λ total' later. (_, g.no_arguments, tt) }
    moved_arguments (g.arguments d es) rest' =
        let x1 = moved_listed es rest' in
        let x0 = moved_expr d x1.all in
        record { all = x0.all; swapped = joined x0.swapped (x1.swapped); is = λ total' later. let y0 = x0.is total' later in let y1 = x1.is total' later in (_, g.arguments y0.1 y1.1, (y0.2, y1.2)) }

    pub moved_type : {total : ℕ} {room : ℕ} {names : Names} {ts : List Token} {rest : List Token} {after : Names} {tree : TypeName}
        → IsTypeNamed total to.chain room names ts rest after tree → (rest' : List Token)
        → Moved (TypeAt to room names) ts rest rest' after
    moved_type (g.type_named ss d) rest' =
        let x1 = moved_abstract d rest' in
        let x0 = moved_specs ss x1.all in
        record { all = x0.all; swapped = joined x0.swapped (x1.swapped); is = λ total' later. let y0 = x0.is total' later in let y1 = x1.is total' later in (_, g.type_named y0.1 y1.1, (y0.2, y1.2)) }

    pub moved_abstract : {total : ℕ} {room : ℕ} {names : Names} {ts : List Token} {rest : List Token} {after : Names} {tree : Abstract Expr}
        → IsAbstract total to.chain room names ts rest after tree → (rest' : List Token)
        → Moved (AbstractAt to room names) ts rest rest' after
    moved_abstract (g.arrays d) rest' =
        let x0 = moved_sizes d rest' in
        record { all = x0.all; swapped = x0.swapped; is = λ total' later. let y0 = x0.is total' later in (_, g.arrays y0.1, y0.2) }
    moved_abstract (g.pointer {room = room} {t = t} is d) rest' =
        let x0 = moved_abstract d rest' in
        record { all = t ∷ x0.all; swapped = more_swapped x0.swapped; is = λ total' later. let y0 = x0.is total' later in (_, g.pointer is y0.1, (deep room to.spare, y0.2)) }

    pub moved_sizes : {total : ℕ} {room : ℕ} {names : Names} {ts : List Token} {rest : List Token} {after : Names} {tree : List (Option Expr)}
        → AreSizes total to.chain room names ts rest after tree → (rest' : List Token)
        → Moved (SizesAt to room names) ts rest rest' after
    moved_sizes g.no_sizes rest' =
        record { all = rest'; swapped = at_tail; is = λ total' later. (_, g.no_sizes, tt) }
    moved_sizes (g.more_sizes d ds) rest' =
        let x1 = moved_sizes ds rest' in
        let x0 = moved_size d x1.all in
        record { all = x0.all; swapped = joined x0.swapped (x1.swapped); is = λ total' later. let y0 = x0.is total' later in let y1 = x1.is total' later in (_, g.more_sizes y0.1 y1.1, (y0.2, y1.2)) }

    pub moved_size : {total : ℕ} {room : ℕ} {names : Names} {ts : List Token} {rest : List Token} {after : Names} {tree : Option Expr}
        → IsSize total to.chain room names ts rest after tree → (rest' : List Token)
        → Moved (SizeAt to room names) ts rest rest' after
    moved_size (g.unsized {room = room} {o = o} {c = c} opens closes) rest' =
        record { all = o ∷ c ∷ rest'; swapped = more_swapped (more_swapped at_tail); is = λ total' later. (_, g.unsized opens closes, (deep room to.spare, deep room to.spare)) }
    moved_size (g.sized {room = room} {o = o} {c = c} opens d closes) rest' =
        let x0 = moved_expr d (c ∷ rest') in
        record { all = o ∷ x0.all; swapped = more_swapped (joined x0.swapped (more_swapped at_tail)); is = λ total' later. let y0 = x0.is total' later in (_, g.sized opens y0.1 closes, (deep room to.spare, y0.2, deep room to.spare)) }

    pub moved_specs : {total : ℕ} {room : ℕ} {names : Names} {ts : List Token} {rest : List Token} {after : Names} {flag : Bool} {tree : Specs Specifier}
        → AreSpecs total to.chain room names ts rest after flag tree → (rest' : List Token)
        → Moved (SpecsAt to room names flag) ts rest rest' after
    moved_specs (g.specs ss one) rest' =
        let x0 = moved_specifiers ss rest' in
        record { all = x0.all; swapped = x0.swapped; is = λ total' later. let y0 = x0.is total' later in (_, g.specs y0.1 one, y0.2) }

    pub moved_specifiers : {total : ℕ} {room : ℕ} {names : Names} {typed : Typed} {ts : List Token} {rest : List Token} {after : Names} {typed' : Typed} {flag : Bool} {tree : List Specifier}
        → AreSpecifiers total to.chain room names typed ts rest after typed' flag tree → (rest' : List Token)
        → Moved (SpecifiersAt to room names typed typed' flag) ts rest rest' after
    moved_specifiers g.no_specifiers rest' =
        record { all = rest'; swapped = at_tail; is = λ total' later. (_, g.no_specifiers, tt) }
    moved_specifiers (g.storage {room = room} {t = t} s is ss) rest' =
        let x0 = moved_specifiers ss rest' in
        record { all = t ∷ x0.all; swapped = more_swapped x0.swapped; is = λ total' later. let y0 = x0.is total' later in (_, g.storage s is y0.1, (deep room to.spare, y0.2)) }
    moved_specifiers (g.qualifier {room = room} {t = t} q is ss) rest' =
        let x0 = moved_specifiers ss rest' in
        record { all = t ∷ x0.all; swapped = more_swapped x0.swapped; is = λ total' later. let y0 = x0.is total' later in (_, g.qualifier q is y0.1, (deep room to.spare, y0.2)) }
    moved_specifiers (g.word {room = room} {t = t} w is with_it ss) rest' =
        let x0 = moved_specifiers ss rest' in
        record { all = t ∷ x0.all; swapped = more_swapped x0.swapped; is = λ total' later. let y0 = x0.is total' later in (_, g.word w is with_it y0.1, (deep room to.spare, y0.2)) }
    moved_specifiers (g.struct_specifier s ss) rest' =
        let x1 = moved_specifiers ss rest' in
        let x0 = moved_struct s x1.all in
        record { all = x0.all; swapped = joined x0.swapped (x1.swapped); is = λ total' later. let y0 = x0.is total' later in let y1 = x1.is total' later in (_, g.struct_specifier y0.1 y1.1, (y0.2, y1.2)) }
    moved_specifiers (g.enum_specifier e ss) rest' =
        let x1 = moved_specifiers ss rest' in
        let x0 = moved_enum e x1.all in
        record { all = x0.all; swapped = joined x0.swapped (x1.swapped); is = λ total' later. let y0 = x0.is total' later in let y1 = x1.is total' later in (_, g.enum_specifier y0.1 y1.1, (y0.2, y1.2)) }
    moved_specifiers (g.typedef_name {room = room} {t = t} is ss) rest' =
        let x0 = moved_specifiers ss rest' in
        record { all = t ∷ x0.all; swapped = more_swapped x0.swapped; is = λ total' later. let y0 = x0.is total' later in (_, g.typedef_name is y0.1, (deep room to.spare, y0.2)) }

    pub moved_struct : {total : ℕ} {room : ℕ} {names : Names} {ts : List Token} {rest : List Token} {after : Names} {tree : StructSpec Member}
        → IsStruct total to.chain room names ts rest after tree → (rest' : List Token)
        → Moved (StructAt to room names) ts rest rest' after
    moved_struct (g.struct_reference {room = room} {s = s} {t = t} is name) rest' =
        record { all = s ∷ t ∷ rest'; swapped = more_swapped (more_swapped at_tail); is = λ total' later. (_, g.struct_reference is name, (deep room to.spare, deep room to.spare)) }
    moved_struct (g.struct_tagged {room = room} {s = s} {t = t} {o = o} {c = c} is name opens ms closes) rest' =
        let x0 = moved_members ms (c ∷ rest') in
        record { all = s ∷ t ∷ o ∷ x0.all; swapped = more_swapped (more_swapped (more_swapped (joined x0.swapped (more_swapped at_tail)))); is = λ total' later. let y0 = x0.is total' later in (_, g.struct_tagged is name opens y0.1 closes, (deep room to.spare, deep room to.spare, deep room to.spare, y0.2, deep room to.spare)) }
    moved_struct (g.struct_untagged {room = room} {s = s} {o = o} {c = c} is opens ms closes) rest' =
        let x0 = moved_members ms (c ∷ rest') in
        record { all = s ∷ o ∷ x0.all; swapped = more_swapped (more_swapped (joined x0.swapped (more_swapped at_tail))); is = λ total' later. let y0 = x0.is total' later in (_, g.struct_untagged is opens y0.1 closes, (deep room to.spare, deep room to.spare, y0.2, deep room to.spare)) }

    pub moved_members : {total : ℕ} {room : ℕ} {names : Names} {ts : List Token} {rest : List Token} {after : Names} {tree : List Member}
        → AreMembers total to.chain room names ts rest after tree → (rest' : List Token)
        → Moved (MembersAt to room names) ts rest rest' after
    moved_members (g.one_member d) rest' =
        let x0 = moved_member d rest' in
        record { all = x0.all; swapped = x0.swapped; is = λ total' later. let y0 = x0.is total' later in (_, g.one_member y0.1, y0.2) }
    moved_members (g.more_members d ms) rest' =
        let x1 = moved_members ms rest' in
        let x0 = moved_member d x1.all in
        record { all = x0.all; swapped = joined x0.swapped (x1.swapped); is = λ total' later. let y0 = x0.is total' later in let y1 = x1.is total' later in (_, g.more_members y0.1 y1.1, (y0.2, y1.2)) }

    pub moved_member : {total : ℕ} {room : ℕ} {names : Names} {ts : List Token} {rest : List Token} {after : Names} {tree : Member}
        → IsMember total to.chain room names ts rest after tree → (rest' : List Token)
        → Moved (MemberAt to room names) ts rest rest' after
    moved_member (g.member {s = s} ss ds is) rest' =
        let x1 = moved_declarators ds (s ∷ rest') in
        let x0 = moved_specs ss x1.all in
        record { all = x0.all; swapped = joined x0.swapped (joined x1.swapped (more_swapped at_tail)); is = λ total' later. let y0 = x0.is total' later in let y1 = x1.is total' later in (_, g.member y0.1 y1.1 is, (y0.2, y1.2, none_left _ to.spare (specs_room ss))) }

    pub moved_declarators : {total : ℕ} {room : ℕ} {names : Names} {ts : List Token} {rest : List Token} {after : Names} {tree : List Declarator}
        → AreDeclarators total to.chain room names ts rest after tree → (rest' : List Token)
        → Moved (DeclaratorsAt to room names) ts rest rest' after
    moved_declarators (g.one_declarator d) rest' =
        let x0 = moved_declarator d rest' in
        record { all = x0.all; swapped = x0.swapped; is = λ total' later. let y0 = x0.is total' later in (_, g.one_declarator y0.1, y0.2) }
    moved_declarators (g.more_declarators {t = t} d is ds) rest' =
        let x1 = moved_declarators ds rest' in
        let x0 = moved_declarator d (t ∷ x1.all) in
        record { all = x0.all; swapped = joined x0.swapped (more_swapped x1.swapped); is = λ total' later. let y0 = x0.is total' later in let y1 = x1.is total' later in (_, g.more_declarators y0.1 is y1.1, (y0.2, none_left _ to.spare (declarator_room d), y1.2)) }

    pub moved_enum : {total : ℕ} {room : ℕ} {names : Names} {ts : List Token} {rest : List Token} {after : Names} {tree : EnumSpec Expr}
        → IsEnum total to.chain room names ts rest after tree → (rest' : List Token)
        → Moved (EnumAt to room names) ts rest rest' after
    moved_enum (g.enum_reference {room = room} {e = e} {t = t} is name) rest' =
        record { all = e ∷ t ∷ rest'; swapped = more_swapped (more_swapped at_tail); is = λ total' later. (_, g.enum_reference is name, (deep room to.spare, deep room to.spare)) }
    moved_enum (g.enum_tagged {room = room} {e = e} {t = t} {o = o} {c = c} is name opens es closes) rest' =
        let x0 = moved_enumerators es (c ∷ rest') in
        record { all = e ∷ t ∷ o ∷ x0.all; swapped = more_swapped (more_swapped (more_swapped (joined x0.swapped (more_swapped at_tail)))); is = λ total' later. let y0 = x0.is total' later in (_, g.enum_tagged is name opens y0.1 closes, (deep room to.spare, deep room to.spare, deep room to.spare, y0.2, deep room to.spare)) }
    moved_enum (g.enum_untagged {room = room} {e = e} {o = o} {c = c} is opens es closes) rest' =
        let x0 = moved_enumerators es (c ∷ rest') in
        record { all = e ∷ o ∷ x0.all; swapped = more_swapped (more_swapped (joined x0.swapped (more_swapped at_tail))); is = λ total' later. let y0 = x0.is total' later in (_, g.enum_untagged is opens y0.1 closes, (deep room to.spare, deep room to.spare, y0.2, deep room to.spare)) }

    pub moved_enumerators : {total : ℕ} {room : ℕ} {names : Names} {ts : List Token} {rest : List Token} {after : Names} {tree : List (Enumerator Expr)}
        → AreEnumerators total to.chain room names ts rest after tree → (rest' : List Token)
        → Moved (EnumeratorsAt to room names) ts rest rest' after
    moved_enumerators (g.one_enumerator e) rest' =
        let x0 = moved_enumerator e rest' in
        record { all = x0.all; swapped = x0.swapped; is = λ total' later. let y0 = x0.is total' later in (_, g.one_enumerator y0.1, y0.2) }
    moved_enumerators (g.last_enumerator {t = t} e is) rest' =
        let x0 = moved_enumerator e (t ∷ rest') in
        record { all = x0.all; swapped = joined x0.swapped (more_swapped at_tail); is = λ total' later. let y0 = x0.is total' later in (_, g.last_enumerator y0.1 is, (y0.2, none_left _ to.spare (enumerator_room e))) }
    moved_enumerators (g.more_enumerators {t = t} e is es) rest' =
        let x1 = moved_enumerators es rest' in
        let x0 = moved_enumerator e (t ∷ x1.all) in
        record { all = x0.all; swapped = joined x0.swapped (more_swapped x1.swapped); is = λ total' later. let y0 = x0.is total' later in let y1 = x1.is total' later in (_, g.more_enumerators y0.1 is y1.1, (y0.2, none_left _ to.spare (enumerator_room e), y1.2)) }

    pub moved_enumerator : {total : ℕ} {room : ℕ} {names : Names} {ts : List Token} {rest : List Token} {after : Names} {tree : Enumerator Expr}
        → IsEnumerator total to.chain room names ts rest after tree → (rest' : List Token)
        → Moved (EnumeratorAt to room names) ts rest rest' after
    moved_enumerator (g.enumerator {room = room} {t = t} is) rest' =
        record { all = t ∷ rest'; swapped = more_swapped at_tail; is = λ total' later. (_, g.enumerator is, deep room to.spare) }
    moved_enumerator (g.valued {room = room} {t = t} {e = e} is assign d) rest' =
        let x0 = moved_expr d rest' in
        record { all = t ∷ e ∷ x0.all; swapped = more_swapped (more_swapped x0.swapped); is = λ total' later. let y0 = x0.is total' later in (_, g.valued is assign y0.1, (deep room to.spare, deep room to.spare, y0.2)) }

    pub moved_declarator : {total : ℕ} {room : ℕ} {names : Names} {ts : List Token} {rest : List Token} {after : Names} {bytes : List ℕ} {own : Own} {tree : Declarator}
        → IsDeclarator total to.chain room names ts rest after bytes own tree → (rest' : List Token)
        → Moved (DeclaratorAt to room names bytes own) ts rest rest' after
    moved_declarator (g.declarator ps d ss) rest' =
        let x2 = moved_suffixes ss rest' in
        let x1 = moved_direct d x2.all in
        let x0 = moved_pointers ps x1.all in
        record { all = x0.all; swapped = joined x0.swapped (joined x1.swapped (x2.swapped)); is = λ total' later. let y0 = x0.is total' later in let y1 = x1.is total' later in let y2 = x2.is total' later in (_, g.declarator y0.0 y1.1 y2.1, (y0.1, y1.2, y2.2)) }

    pub moved_direct : {total : ℕ} {room : ℕ} {names : Names} {ts : List Token} {rest : List Token} {after : Names} {bytes : List ℕ} {own : Own} {tree : Direct Declarator}
        → IsDirect total to.chain room names ts rest after bytes own tree → (rest' : List Token)
        → Moved (DirectAt to room names bytes own) ts rest rest' after
    moved_direct (g.direct_name {room = room} {t = t} is) rest' =
        record { all = t ∷ rest'; swapped = more_swapped at_tail; is = λ total' later. (_, g.direct_name is, deep room to.spare) }
    moved_direct (g.nested {room = room} {o = o} {c = c} opens d closes) rest' =
        let x0 = moved_declarator d (c ∷ rest') in
        record { all = o ∷ x0.all; swapped = more_swapped (joined x0.swapped (more_swapped at_tail)); is = λ total' later. let y0 = x0.is total' later in (_, g.nested opens y0.1 closes, (deep room to.spare, y0.2, deep room to.spare)) }

    pub moved_suffixes : {total : ℕ} {room : ℕ} {names : Names} {own : Own} {ts : List Token} {rest : List Token} {after : Names} {own' : Own} {tree : List DirectSuffix}
        → AreSuffixes total to.chain room names own ts rest after own' tree → (rest' : List Token)
        → Moved (SuffixesAt to room names own own') ts rest rest' after
    moved_suffixes g.no_suffixes rest' =
        record { all = rest'; swapped = at_tail; is = λ total' later. (_, g.no_suffixes, tt) }
    moved_suffixes (g.array d ss) rest' =
        let x1 = moved_suffixes ss rest' in
        let x0 = moved_size d x1.all in
        record { all = x0.all; swapped = joined x0.swapped (x1.swapped); is = λ total' later. let y0 = x0.is total' later in let y1 = x1.is total' later in (_, g.array y0.1 y1.1, (y0.2, y1.2)) }
    moved_suffixes (g.empty {room = room} {o = o} {c = c} opens closes ss) rest' =
        let x0 = moved_suffixes ss rest' in
        record { all = o ∷ c ∷ x0.all; swapped = more_swapped (more_swapped x0.swapped); is = λ total' later. let y0 = x0.is total' later in (_, g.empty opens closes y0.1, (deep room to.spare, deep room to.spare, y0.2)) }
    moved_suffixes (g.void {room = room} {o = o} {v = v} {c = c} opens is closes ss) rest' =
        let x0 = moved_suffixes ss rest' in
        record { all = o ∷ v ∷ c ∷ x0.all; swapped = more_swapped (more_swapped (more_swapped x0.swapped)); is = λ total' later. let y0 = x0.is total' later in (_, g.void opens is closes y0.1, (deep (suc room) to.spare, deep room to.spare, deep (suc room) to.spare, y0.2)) }
    moved_suffixes (g.params {room = room} added {o = o} {c = c} opens no_void ps closes ss) rest' =
        let x1 = moved_suffixes ss rest' in
        let x0 = moved_params ps (c ∷ x1.all) in
        record { all = o ∷ x0.all; swapped = more_swapped (joined x0.swapped (more_swapped x1.swapped)); is = λ total' later. let y0 = x0.is total' later in let y1 = x1.is total' later in (_, g.params added opens (no_void_moves ps no_void x0.swapped) y0.1 closes y1.1, (deep room to.spare, y0.2, deep room to.spare, y1.2)) }

    pub moved_params : {total : ℕ} {room : ℕ} {names : Names} {ts : List Token} {rest : List Token} {after : Names} {tree : List Param}
        → AreParams total to.chain room names ts rest after tree → (rest' : List Token)
        → Moved (ParamsAt to room names) ts rest rest' after
    moved_params (g.one_param p) rest' =
        let x0 = moved_param p rest' in
        record { all = x0.all; swapped = x0.swapped; is = λ total' later. let y0 = x0.is total' later in (_, g.one_param y0.1, y0.2) }
    moved_params (g.more_params {t = t} p is ps) rest' =
        let x1 = moved_params ps rest' in
        let x0 = moved_param p (t ∷ x1.all) in
        record { all = x0.all; swapped = joined x0.swapped (more_swapped x1.swapped); is = λ total' later. let y0 = x0.is total' later in let y1 = x1.is total' later in (_, g.more_params y0.1 is y1.1, (y0.2, none_left _ to.spare (param_room p), y1.2)) }

    pub moved_param : {total : ℕ} {room : ℕ} {names : Names} {ts : List Token} {rest : List Token} {after : Names} {tree : Param}
        → IsParam total to.chain room names ts rest after tree → (rest' : List Token)
        → Moved (ParamAt to room names) ts rest rest' after
    moved_param (g.named_param ss d) rest' =
        let x1 = moved_declarator d rest' in
        let x0 = moved_specs ss x1.all in
        record { all = x0.all; swapped = joined x0.swapped (x1.swapped); is = λ total' later. let y0 = x0.is total' later in let y1 = x1.is total' later in (_, g.named_param y0.1 y1.1, (y0.2, y1.2)) }
    moved_param (g.unnamed_param ss d) rest' =
        let x1 = moved_abstract d rest' in
        let x0 = moved_specs ss x1.all in
        record { all = x0.all; swapped = joined x0.swapped (x1.swapped); is = λ total' later. let y0 = x0.is total' later in let y1 = x1.is total' later in (_, g.unnamed_param y0.1 y1.1, (y0.2, y1.2)) }

  mutual
    pub moved_init : {total : ℕ} {room : ℕ} {names : Names} {ts : List Token} {rest : List Token} {after : Names} {tree : Init}
        → IsInit total to.chain room names ts rest after tree → (rest' : List Token)
        → Moved (InitAt to room names) ts rest rest' after
    moved_init (g.init_value d) rest' =
        let x0 = moved_expr d rest' in
        record { all = x0.all; swapped = x0.swapped; is = λ total' later. let y0 = x0.is total' later in (_, g.init_value y0.1, y0.2) }
    moved_init (g.list {room = room} {o = o} {c = c} opens is closes) rest' =
        let x0 = moved_inits is (c ∷ rest') in
        record { all = o ∷ x0.all; swapped = more_swapped (joined x0.swapped (more_swapped at_tail)); is = λ total' later. let y0 = x0.is total' later in (_, g.list opens y0.1 closes, (deep room to.spare, y0.2, deep room to.spare)) }

    pub moved_inits : {total : ℕ} {room : ℕ} {names : Names} {ts : List Token} {rest : List Token} {after : Names} {tree : List Init}
        → AreInits total to.chain room names ts rest after tree → (rest' : List Token)
        → Moved (InitsAt to room names) ts rest rest' after
    moved_inits (g.one_init i) rest' =
        let x0 = moved_init i rest' in
        record { all = x0.all; swapped = x0.swapped; is = λ total' later. let y0 = x0.is total' later in (_, g.one_init y0.1, y0.2) }
    moved_inits (g.last_init {t = t} i is) rest' =
        let x0 = moved_init i (t ∷ rest') in
        record { all = x0.all; swapped = joined x0.swapped (more_swapped at_tail); is = λ total' later. let y0 = x0.is total' later in (_, g.last_init y0.1 is, (y0.2, none_left _ to.spare (init_room i))) }
    moved_inits (g.more_inits {t = t} i is more) rest' =
        let x1 = moved_inits more rest' in
        let x0 = moved_init i (t ∷ x1.all) in
        record { all = x0.all; swapped = joined x0.swapped (more_swapped x1.swapped); is = λ total' later. let y0 = x0.is total' later in let y1 = x1.is total' later in (_, g.more_inits y0.1 is y1.1, (y0.2, none_left _ to.spare (init_room i), y1.2)) }

  pub moved_init_declarator : {total : ℕ} {is_typedef : Bool} {room : ℕ} {names : Names} {ts : List Token} {rest : List Token} {after : Names} {tree : InitDeclarator}
      → IsInitDeclarator total to.chain is_typedef room names ts rest after tree → (rest' : List Token)
      → Moved (InitDeclaratorAt to is_typedef room names) ts rest rest' after
  moved_init_declarator (g.plain d) rest' =
      let x0 = moved_declarator d rest' in
      record { all = x0.all; swapped = x0.swapped; is = λ total' later. let y0 = x0.is total' later in (_, g.plain y0.1, y0.2) }
  moved_init_declarator (g.initialised {t = t} d is i) rest' =
      let x1 = moved_init i rest' in
      let x0 = moved_declarator d (t ∷ x1.all) in
      record { all = x0.all; swapped = joined x0.swapped (more_swapped x1.swapped); is = λ total' later. let y0 = x0.is total' later in let y1 = x1.is total' later in (_, g.initialised y0.1 is y1.1, (y0.2, none_left _ to.spare (declarator_room d), y1.2)) }

  pub moved_init_declarators : {total : ℕ} {is_typedef : Bool} {room : ℕ} {names : Names} {ts : List Token} {rest : List Token} {after : Names} {tree : List InitDeclarator}
      → AreInitDeclarators total to.chain is_typedef room names ts rest after tree → (rest' : List Token)
      → Moved (InitDeclaratorsAt to is_typedef room names) ts rest rest' after
  moved_init_declarators (g.AreInitDeclarators.one d) rest' =
      let x0 = moved_init_declarator d rest' in
      record { all = x0.all; swapped = x0.swapped; is = λ total' later. let y0 = x0.is total' later in (_, g.AreInitDeclarators.one y0.1, y0.2) }
  moved_init_declarators (g.AreInitDeclarators.more {t = t} d is ds) rest' =
      let x1 = moved_init_declarators ds rest' in
      let x0 = moved_init_declarator d (t ∷ x1.all) in
      record { all = x0.all; swapped = joined x0.swapped (more_swapped x1.swapped); is = λ total' later. let y0 = x0.is total' later in let y1 = x1.is total' later in (_, g.AreInitDeclarators.more y0.1 is y1.1, (y0.2, none_left _ to.spare (init_declarator_room d), y1.2)) }

  pub moved_decl : {total : ℕ} {room : ℕ} {names : Names} {ts : List Token} {rest : List Token} {after : Names} {tree : Decl}
      → IsDecl total to.chain room names ts rest after tree → (rest' : List Token)
      → Moved (DeclAt to room names) ts rest rest' after
  moved_decl (g.bare {s = s} ss is) rest' =
      let x0 = moved_specs ss (s ∷ rest') in
      record { all = x0.all; swapped = joined x0.swapped (more_swapped at_tail); is = λ total' later. let y0 = x0.is total' later in (_, g.bare y0.1 is, (y0.2, none_left _ to.spare (specs_room ss))) }
  moved_decl (g.IsDecl.some {s = s} ss ds is) rest' =
      let x1 = moved_init_declarators ds (s ∷ rest') in
      let x0 = moved_specs ss x1.all in
      record { all = x0.all; swapped = joined x0.swapped (joined x1.swapped (more_swapped at_tail)); is = λ total' later. let y0 = x0.is total' later in let y1 = x1.is total' later in (_, g.IsDecl.some y0.1 y1.1 is, (y0.2, y1.2, none_left _ to.spare (specs_room ss))) }

  pub moved_optional : {total : ℕ} {room : ℕ} {names : Names} {ts : List Token} {rest : List Token} {after : Names} {tree : Option Expr}
      → IsOptional total to.chain room names ts rest after tree → (rest' : List Token)
      → Moved (OptionalAt to room names) ts rest rest' after
  moved_optional g.IsOptional.none rest' =
      record { all = rest'; swapped = at_tail; is = λ total' later. (_, g.IsOptional.none, tt) }
  moved_optional (g.IsOptional.some d) rest' =
      let x0 = moved_expr d rest' in
      record { all = x0.all; swapped = x0.swapped; is = λ total' later. let y0 = x0.is total' later in (_, g.IsOptional.some y0.1, y0.2) }

  pub moved_for_start : {total : ℕ} {room : ℕ} {names : Names} {ts : List Token} {rest : List Token} {after : Names} {tree : ForStart}
      → IsForStart total to.chain room names ts rest after tree → (rest' : List Token)
      → Moved (ForStartAt to room names) ts rest rest' after
  moved_for_start (g.IsForStart.declaration d) rest' =
      let x0 = moved_decl d rest' in
      record { all = x0.all; swapped = x0.swapped; is = λ total' later. let y0 = x0.is total' later in (_, g.IsForStart.declaration y0.1, y0.2) }
  moved_for_start (g.expression {room = room} {s = s} d is) rest' =
      let x0 = moved_optional d (s ∷ rest') in
      record { all = x0.all; swapped = joined x0.swapped (more_swapped at_tail); is = λ total' later. let y0 = x0.is total' later in (_, g.expression y0.1 is, (y0.2, deep room to.spare)) }

  pub moved_test : {total : ℕ} {room : ℕ} {names : Names} {ts : List Token} {rest : List Token} {after : Names} {tree : Expr}
      → IsTest total to.chain room names ts rest after tree → (rest' : List Token)
      → Moved (TestAt to room names) ts rest rest' after
  moved_test (g.test {room = room} {o = o} {c = c} opens d closes) rest' =
      let x0 = moved_expr d (c ∷ rest') in
      record { all = o ∷ x0.all; swapped = more_swapped (joined x0.swapped (more_swapped at_tail)); is = λ total' later. let y0 = x0.is total' later in (_, g.test opens y0.1 closes, (deep room to.spare, y0.2, deep room to.spare)) }

  mutual
    pub moved_stmt : {total : ℕ} {ends : Bool} {room : ℕ} {names : Names} {ts : List Token} {rest : List Token} {after : Names} {tree : Stmt}
        → IsStmt total to.chain ends room names ts rest after tree → (rest' : List Token)
        → Moved (StmtAt to ends room names) ts rest rest' after
    moved_stmt (g.block {room = room} {o = o} {c = c} opens is closes) rest' =
        let x0 = moved_items is (c ∷ rest') in
        record { all = o ∷ x0.all; swapped = more_swapped (joined x0.swapped (more_swapped at_tail)); is = λ total' later. let y0 = x0.is total' later in (_, g.block opens y0.1 closes, (deep room to.spare, y0.2, deep room to.spare)) }
    moved_stmt (g.express {room = room} {s = s} d is) rest' =
        let x0 = moved_optional d (s ∷ rest') in
        record { all = x0.all; swapped = joined x0.swapped (more_swapped at_tail); is = λ total' later. let y0 = x0.is total' later in (_, g.express y0.1 is, (y0.2, deep room to.spare)) }
    moved_stmt (g.if_then {room = room} {t = t} is d s) rest' =
        let x1 = moved_stmt s rest' in
        let x0 = moved_test d x1.all in
        record { all = t ∷ x0.all; swapped = more_swapped (joined x0.swapped (x1.swapped)); is = λ total' later. let y0 = x0.is total' later in let y1 = x1.is total' later in (_, g.if_then is y0.1 y1.1, (deep room to.spare, y0.2, y1.2)) }
    moved_stmt (g.if_else {room = room} {t = t} {e = e} is d s other s') rest' =
        let x2 = moved_stmt s' rest' in
        let x1 = moved_stmt s (e ∷ x2.all) in
        let x0 = moved_test d x1.all in
        record { all = t ∷ x0.all; swapped = more_swapped (joined x0.swapped (joined x1.swapped (more_swapped x2.swapped))); is = λ total' later. let y0 = x0.is total' later in let y1 = x1.is total' later in let y2 = x2.is total' later in (_, g.if_else is y0.1 y1.1 other y2.1, (deep room to.spare, y0.2, y1.2, deep room to.spare, y2.2)) }
    moved_stmt (g.while_do {room = room} {t = t} is d s) rest' =
        let x1 = moved_stmt s rest' in
        let x0 = moved_test d x1.all in
        record { all = t ∷ x0.all; swapped = more_swapped (joined x0.swapped (x1.swapped)); is = λ total' later. let y0 = x0.is total' later in let y1 = x1.is total' later in (_, g.while_do is y0.1 y1.1, (deep room to.spare, y0.2, y1.2)) }
    moved_stmt (g.do_while {room = room} {t = t} {w = w} {s = s} is d while d' closes) rest' =
        let x1 = moved_test d' (s ∷ rest') in
        let x0 = moved_stmt d (w ∷ x1.all) in
        record { all = t ∷ x0.all; swapped = more_swapped (joined x0.swapped (more_swapped (joined x1.swapped (more_swapped at_tail)))); is = λ total' later. let y0 = x0.is total' later in let y1 = x1.is total' later in (_, g.do_while is y0.1 while y1.1 closes, (deep room to.spare, y0.2, deep room to.spare, y1.2, deep room to.spare)) }
    moved_stmt (g.for_do {room = room} {t = t} {o = o} {s = s} {c = c} is opens d e semicolon f closes body) rest' =
        let x3 = moved_stmt body rest' in
        let x2 = moved_optional f (c ∷ x3.all) in
        let x1 = moved_optional e (s ∷ x2.all) in
        let x0 = moved_for_start d x1.all in
        record { all = t ∷ o ∷ x0.all; swapped = more_swapped (more_swapped (joined x0.swapped (joined x1.swapped (more_swapped (joined x2.swapped (more_swapped x3.swapped)))))); is = λ total' later. let y0 = x0.is total' later in let y1 = x1.is total' later in let y2 = x2.is total' later in let y3 = x3.is total' later in (_, g.for_do is opens y0.1 y1.1 semicolon y2.1 closes y3.1, (deep room to.spare, deep room to.spare, y0.2, y1.2, none_left _ to.spare (for_start_room d), y2.2, deep room to.spare, y3.2)) }
    moved_stmt (g.switch {room = room} {t = t} is d s) rest' =
        let x1 = moved_stmt s rest' in
        let x0 = moved_test d x1.all in
        record { all = t ∷ x0.all; swapped = more_swapped (joined x0.swapped (x1.swapped)); is = λ total' later. let y0 = x0.is total' later in let y1 = x1.is total' later in (_, g.switch is y0.1 y1.1, (deep room to.spare, y0.2, y1.2)) }
    moved_stmt (g.case {room = room} {t = t} {c = c} is d colon s) rest' =
        let x1 = moved_stmt s rest' in
        let x0 = moved_expr d (c ∷ x1.all) in
        record { all = t ∷ x0.all; swapped = more_swapped (joined x0.swapped (more_swapped x1.swapped)); is = λ total' later. let y0 = x0.is total' later in let y1 = x1.is total' later in (_, g.case is y0.1 colon y1.1, (deep room to.spare, y0.2, deep room to.spare, y1.2)) }
    moved_stmt (g.default {room = room} {t = t} {c = c} is colon s) rest' =
        let x0 = moved_stmt s rest' in
        record { all = t ∷ c ∷ x0.all; swapped = more_swapped (more_swapped x0.swapped); is = λ total' later. let y0 = x0.is total' later in (_, g.default is colon y0.1, (deep room to.spare, deep room to.spare, y0.2)) }
    moved_stmt (g.break {room = room} {t = t} {s = s} is closes) rest' =
        record { all = t ∷ s ∷ rest'; swapped = more_swapped (more_swapped at_tail); is = λ total' later. (_, g.break is closes, (deep room to.spare, deep room to.spare)) }
    moved_stmt (g.continue {room = room} {t = t} {s = s} is closes) rest' =
        record { all = t ∷ s ∷ rest'; swapped = more_swapped (more_swapped at_tail); is = λ total' later. (_, g.continue is closes, (deep room to.spare, deep room to.spare)) }
    moved_stmt (g.return {room = room} {t = t} {s = s} is d closes) rest' =
        let x0 = moved_optional d (s ∷ rest') in
        record { all = t ∷ x0.all; swapped = more_swapped (joined x0.swapped (more_swapped at_tail)); is = λ total' later. let y0 = x0.is total' later in (_, g.return is y0.1 closes, (deep room to.spare, y0.2, deep room to.spare)) }

    pub moved_items : {total : ℕ} {room : ℕ} {names : Names} {ts : List Token} {rest : List Token} {after : Names} {tree : List (BlockItem Stmt)}
        → AreItems total to.chain room names ts rest after tree → (rest' : List Token)
        → Moved (ItemsAt to room names) ts rest rest' after
    moved_items g.no_items rest' =
        record { all = rest'; swapped = at_tail; is = λ total' later. (_, g.no_items, tt) }
    moved_items (g.declaration_item d is) rest' =
        let x1 = moved_items is rest' in
        let x0 = moved_decl d x1.all in
        record { all = x0.all; swapped = joined x0.swapped (x1.swapped); is = λ total' later. let y0 = x0.is total' later in let y1 = x1.is total' later in (_, g.declaration_item y0.1 y1.1, (y0.2, y1.2)) }
    moved_items (g.statement_item d is) rest' =
        let x1 = moved_items is rest' in
        let x0 = moved_stmt d x1.all in
        record { all = x0.all; swapped = joined x0.swapped (x1.swapped); is = λ total' later. let y0 = x0.is total' later in let y1 = x1.is total' later in (_, g.statement_item y0.1 y1.1, (y0.2, y1.2)) }

  pub moved_external : {total : ℕ} {room : ℕ} {names : Names} {ts : List Token} {rest : List Token} {after : Names} {tree : External}
      → IsExternal total to.chain room names ts rest after tree → (rest' : List Token)
      → Moved (ExternalAt to room names) ts rest rest' after
  moved_external (g.IsExternal.declaration d) rest' =
      let x0 = moved_decl d rest' in
      record { all = x0.all; swapped = x0.swapped; is = λ total' later. let y0 = x0.is total' later in (_, g.IsExternal.declaration y0.1, y0.2) }
  moved_external (g.function {room = room} {o = o} {c = c} ss d opens is closes) rest' =
      let x2 = moved_items is (c ∷ rest') in
      let x1 = moved_declarator d (o ∷ x2.all) in
      let x0 = moved_specs ss x1.all in
      record { all = x0.all; swapped = joined x0.swapped (joined x1.swapped (more_swapped (joined x2.swapped (more_swapped at_tail)))); is = λ total' later. let y0 = x0.is total' later in let y1 = x1.is total' later in let y2 = x2.is total' later in (_, g.function y0.1 y1.1 opens y2.1 closes, (y0.2, y1.2, deep room to.spare, y2.2, deep room to.spare)) }

  pub moved_externals : {total : ℕ} {room : ℕ} {names : Names} {ts : List Token} {rest : List Token} {after : Names} {tree : List External}
      → AreExternals total to.chain room names ts rest after tree → (rest' : List Token)
      → Moved (ExternalsAt to room names) ts rest rest' after
  moved_externals g.AreExternals.none rest' =
      record { all = rest'; swapped = at_tail; is = λ total' later. (_, g.AreExternals.none, tt) }
  moved_externals (g.AreExternals.more e es) rest' =
      let x1 = moved_externals es rest' in
      let x0 = moved_external e x1.all in
      record { all = x0.all; swapped = joined x0.swapped (x1.swapped); is = λ total' later. let y0 = x0.is total' later in let y1 = x1.is total' later in (_, g.AreExternals.more y0.1 y1.1, (y0.2, y1.2)) }
