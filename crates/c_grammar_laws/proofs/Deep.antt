-- What a list of tokens is where more room is allowed and chains may be longer: by its tree, whatever the number of all tokens.
use Rattle.std.proofs.Common.{◌≡◌, ℕ, suc, ◌<◌, ◌≤◌, Bool, Option, List, ◌∷◌, length, refl, arith}
use Rattle.c_lex.specs.declared.token.Token.{Token}
use Rattle.c_ast.specs.declared.words.Qualifier.{Qualifier}
use Rattle.c_ast.specs.declared.expression.Expr.{Expr}
use Rattle.c_ast.specs.declared.expression.Link.{Link}
use Rattle.c_ast.specs.declared.expression.PostfixOp.{PostfixOp}
use Rattle.c_ast.specs.declared.declaration.Specifier.{Specifier}
use Rattle.c_ast.specs.declared.declaration.Specs.{Specs}
use Rattle.c_ast.specs.declared.declaration.StructSpec.{StructSpec}
use Rattle.c_ast.specs.declared.declaration.Member.{Member}
use Rattle.c_ast.specs.declared.declaration.EnumSpec.{EnumSpec}
use Rattle.c_ast.specs.declared.declaration.Enumerator.{Enumerator}
use Rattle.c_ast.specs.declared.declaration.Declarator.{Declarator}
use Rattle.c_ast.specs.declared.declaration.Direct.{Direct}
use Rattle.c_ast.specs.declared.declaration.DirectSuffix.{DirectSuffix}
use Rattle.c_ast.specs.declared.declaration.Param.{Param}
use Rattle.c_ast.specs.declared.declaration.Abstract.{Abstract}
use Rattle.c_ast.specs.declared.declaration.TypeName.{TypeName}
use Rattle.c_ast.specs.declared.declaration.Init.{Init}
use Rattle.c_ast.specs.declared.declaration.InitDeclarator.{InitDeclarator}
use Rattle.c_ast.specs.declared.declaration.Decl.{Decl}
use Rattle.c_ast.specs.declared.declaration.External.{External}
use Rattle.c_ast.specs.declared.statement.Stmt.{Stmt}
use Rattle.c_ast.specs.declared.statement.ForStart.{ForStart}
use Rattle.c_ast.specs.declared.statement.BlockItem.{BlockItem}
use Rattle.c_grammar.specs.Names.{Names}
use Rattle.c_grammar.specs.Owns.{Own}
use Rattle.c_grammar.specs.Types.{Typed}
use Rattle.c_grammar.specs.Grammar.{Part, AreQualifiers, ArePointers, IsExpr, AreLinks, AreOthers, ArePostfix, AreArguments, IsTypeNamed, IsAbstract, AreSizes, IsSize, AreSpecs, AreSpecifiers, IsStruct, AreMembers, IsMember, AreDeclarators, IsEnum, AreEnumerators, IsEnumerator, IsDeclarator, IsDirect, AreSuffixes, AreParams, IsParam, IsInit, AreInits, IsInitDeclarator, AreInitDeclarators, IsDecl, IsOptional, IsForStart, IsTest, IsStmt, AreItems, IsExternal, AreExternals}
use Rattle.c_grammar.specs.Nesting.{Bounds, qualifiers_stand, pointers_stand, expr_stands, links_stand, others_stand, listed_stand, postfix_stand, arguments_stand, type_stands, abstract_stands, sizes_stand, size_stands, specs_stand, specifiers_stand, struct_stands, members_stand, member_stands, declarators_stand, enum_stands, enumerators_stand, enumerator_stands, declarator_stands, direct_stands, suffixes_stand, params_stand, param_stands, init_stands, inits_stand, init_declarator_stands, init_declarators_stand, decl_stands, optional_stands, for_start_stands, test_stands, stmt_stands, items_stand, external_stands, externals_stand}
use Rattle.c_grammar.proofs.Late.{raised, raised_is}

-- More room by `spare`, and chains of `wide` operators in place of `chain` ones. What stands beyond the first limits may only be late.
pub record Deeper : Type 0 where
  pub spare : ℕ
  pub wide : ℕ
  pub chain : ℕ
  pub wider : chain < wide
  pub deeper : 4 ≤ spare

abbrev pub bounds : Deeper → ℕ → Bounds
bounds w later = record { spare = w.spare; chain = w.chain; later = later }

-- the second list is the first, with one tail in place of another
pub data Swapped (rest rest' : List Token) : List Token → List Token → Type 0 where
  at_tail : Swapped rest rest' rest rest'
  more_swapped : {t : Token} {ts ts' : List Token} → Swapped rest rest' ts ts' → Swapped rest rest' (t ∷ ts) (t ∷ ts')

pub joined : {rest rest' mid mid' ts ts' : List Token} → Swapped mid mid' ts ts' → Swapped rest rest' mid mid' → Swapped rest rest' ts ts'
joined at_tail s = s
joined (more_swapped r) s = more_swapped (joined r s)

-- what is at the front of a list is there with another tail too
pub record Moved (At : ℕ → ℕ → List Token → List Token → Names → Type 0) (ts rest rest' : List Token) (after : Names) : Type 0 where
  pub all : List Token
  pub swapped : Swapped rest rest' ts all
  pub is : (total later : ℕ) → At total later all rest' after

-- ---- what is allowed

pub deep : {P : Type 0} (room spare : ℕ) → suc (raised spare room) ≤ spare → P
deep room spare h = let x = raised_is spare room in absurd (omega (arith, h, x))

pub none_left : {P : Type 0} (room spare : ℕ) → 1 ≤ room → raised spare room ≤ spare → P
none_left room spare some_room h = let x = raised_is spare room in absurd (omega (arith, some_room, h, x))

pub early : {P : Type 0} (before chain : ℕ) → before < chain → chain ≤ before → P
early before chain less h = absurd (omega (arith, less, h))

pub fits : (w : Deeper) {n m : ℕ} → n ≡ m → m ≤ w.chain → n ≤ w.wide
fits w same few = let x = w.wider in omega (arith, same, few, x)

pub more_fits : {n m : ℕ} → n ≡ m → suc n ≡ suc m
more_fits same = omega (arith, same)

pub empty_fits : ◌≡◌ {A = ℕ} 0 0
empty_fits = refl

-- ---- trees

abbrev pub QualifiersAt : Deeper → ℕ → List Qualifier → ℕ → ℕ → List Token → List Token → Names → Type 0
QualifiersAt w room tree total later ts rest after = (d : AreQualifiers (raised w.spare room) ts rest tree) × qualifiers_stand (bounds w later) d

abbrev pub PointersAt : Deeper → ℕ → List (List Qualifier) → ℕ → ℕ → List Token → List Token → Names → Type 0
PointersAt w room tree total later ts rest after = (d : ArePointers (raised w.spare room) ts rest tree) × pointers_stand (bounds w later) d

abbrev pub ExprAt : Deeper → Part → ℕ → Names → ℕ → ℕ → List Token → List Token → Names → Type 0
ExprAt w p room names total later ts rest after =
    (tree : Expr) × (d : IsExpr total w.wide p (raised w.spare room) names ts rest after tree) × expr_stands (bounds w later) d

abbrev pub LinksAt : Deeper → ℕ → ℕ → Names → ℕ → ℕ → ℕ → ℕ → List Token → List Token → Names → Type 0
LinksAt w level room names before count total later ts rest after =
    (tree : List (Link Expr)) × (d : AreLinks total w.wide level (raised w.spare room) names ts rest after tree) × (length tree ≡ count) × links_stand (bounds w later) before d

abbrev pub OthersAt : Deeper → ℕ → Names → ℕ → ℕ → ℕ → ℕ → List Token → List Token → Names → Type 0
OthersAt w room names before count total later ts rest after =
    (tree : List Expr) × (d : AreOthers total w.wide (raised w.spare room) names ts rest after tree) × (length tree ≡ count) × others_stand (bounds w later) before d

abbrev pub ListedAt : Deeper → ℕ → Names → ℕ → ℕ → List Token → List Token → Names → Type 0
ListedAt w room names total later ts rest after =
    (tree : List Expr) × (d : AreOthers total w.wide (raised w.spare room) names ts rest after tree) × listed_stand (bounds w later) d

abbrev pub PostfixAt : Deeper → ℕ → Names → ℕ → ℕ → ℕ → ℕ → List Token → List Token → Names → Type 0
PostfixAt w room names before count total later ts rest after =
    (tree : List (PostfixOp Expr)) × (d : ArePostfix total w.wide (raised w.spare room) names ts rest after tree) × (length tree ≡ count) × postfix_stand (bounds w later) before d

abbrev pub ArgumentsAt : Deeper → ℕ → Names → ℕ → ℕ → List Token → List Token → Names → Type 0
ArgumentsAt w room names total later ts rest after =
    (tree : List Expr) × (d : AreArguments total w.wide (raised w.spare room) names ts rest after tree) × arguments_stand (bounds w later) d

abbrev pub TypeAt : Deeper → ℕ → Names → ℕ → ℕ → List Token → List Token → Names → Type 0
TypeAt w room names total later ts rest after =
    (tree : TypeName) × (d : IsTypeNamed total w.wide (raised w.spare room) names ts rest after tree) × type_stands (bounds w later) d

abbrev pub AbstractAt : Deeper → ℕ → Names → ℕ → ℕ → List Token → List Token → Names → Type 0
AbstractAt w room names total later ts rest after =
    (tree : Abstract Expr) × (d : IsAbstract total w.wide (raised w.spare room) names ts rest after tree) × abstract_stands (bounds w later) d

abbrev pub SizesAt : Deeper → ℕ → Names → ℕ → ℕ → List Token → List Token → Names → Type 0
SizesAt w room names total later ts rest after =
    (tree : List (Option Expr)) × (d : AreSizes total w.wide (raised w.spare room) names ts rest after tree) × sizes_stand (bounds w later) d

abbrev pub SizeAt : Deeper → ℕ → Names → ℕ → ℕ → List Token → List Token → Names → Type 0
SizeAt w room names total later ts rest after =
    (tree : Option Expr) × (d : IsSize total w.wide (raised w.spare room) names ts rest after tree) × size_stands (bounds w later) d

abbrev pub SpecsAt : Deeper → ℕ → Names → Bool → ℕ → ℕ → List Token → List Token → Names → Type 0
SpecsAt w room names flag total later ts rest after =
    (tree : Specs Specifier) × (d : AreSpecs total w.wide (raised w.spare room) names ts rest after flag tree) × specs_stand (bounds w later) d

abbrev pub SpecifiersAt : Deeper → ℕ → Names → Typed → Typed → Bool → ℕ → ℕ → List Token → List Token → Names → Type 0
SpecifiersAt w room names typed typed' flag total later ts rest after =
    (tree : List Specifier) × (d : AreSpecifiers total w.wide (raised w.spare room) names typed ts rest after typed' flag tree) × specifiers_stand (bounds w later) d

abbrev pub StructAt : Deeper → ℕ → Names → ℕ → ℕ → List Token → List Token → Names → Type 0
StructAt w room names total later ts rest after =
    (tree : StructSpec Member) × (d : IsStruct total w.wide (raised w.spare room) names ts rest after tree) × struct_stands (bounds w later) d

abbrev pub MembersAt : Deeper → ℕ → Names → ℕ → ℕ → List Token → List Token → Names → Type 0
MembersAt w room names total later ts rest after =
    (tree : List Member) × (d : AreMembers total w.wide (raised w.spare room) names ts rest after tree) × members_stand (bounds w later) d

abbrev pub MemberAt : Deeper → ℕ → Names → ℕ → ℕ → List Token → List Token → Names → Type 0
MemberAt w room names total later ts rest after =
    (tree : Member) × (d : IsMember total w.wide (raised w.spare room) names ts rest after tree) × member_stands (bounds w later) d

abbrev pub DeclaratorsAt : Deeper → ℕ → Names → ℕ → ℕ → List Token → List Token → Names → Type 0
DeclaratorsAt w room names total later ts rest after =
    (tree : List Declarator) × (d : AreDeclarators total w.wide (raised w.spare room) names ts rest after tree) × declarators_stand (bounds w later) d

abbrev pub EnumAt : Deeper → ℕ → Names → ℕ → ℕ → List Token → List Token → Names → Type 0
EnumAt w room names total later ts rest after =
    (tree : EnumSpec Expr) × (d : IsEnum total w.wide (raised w.spare room) names ts rest after tree) × enum_stands (bounds w later) d

abbrev pub EnumeratorsAt : Deeper → ℕ → Names → ℕ → ℕ → List Token → List Token → Names → Type 0
EnumeratorsAt w room names total later ts rest after =
    (tree : List (Enumerator Expr)) × (d : AreEnumerators total w.wide (raised w.spare room) names ts rest after tree) × enumerators_stand (bounds w later) d

abbrev pub EnumeratorAt : Deeper → ℕ → Names → ℕ → ℕ → List Token → List Token → Names → Type 0
EnumeratorAt w room names total later ts rest after =
    (tree : Enumerator Expr) × (d : IsEnumerator total w.wide (raised w.spare room) names ts rest after tree) × enumerator_stands (bounds w later) d

abbrev pub DeclaratorAt : Deeper → ℕ → Names → List ℕ → Own → ℕ → ℕ → List Token → List Token → Names → Type 0
DeclaratorAt w room names bytes own total later ts rest after =
    (tree : Declarator) × (d : IsDeclarator total w.wide (raised w.spare room) names ts rest after bytes own tree) × declarator_stands (bounds w later) d

abbrev pub DirectAt : Deeper → ℕ → Names → List ℕ → Own → ℕ → ℕ → List Token → List Token → Names → Type 0
DirectAt w room names bytes own total later ts rest after =
    (tree : Direct Declarator) × (d : IsDirect total w.wide (raised w.spare room) names ts rest after bytes own tree) × direct_stands (bounds w later) d

abbrev pub SuffixesAt : Deeper → ℕ → Names → Own → Own → ℕ → ℕ → List Token → List Token → Names → Type 0
SuffixesAt w room names own own' total later ts rest after =
    (tree : List DirectSuffix) × (d : AreSuffixes total w.wide (raised w.spare room) names own ts rest after own' tree) × suffixes_stand (bounds w later) d

abbrev pub ParamsAt : Deeper → ℕ → Names → ℕ → ℕ → List Token → List Token → Names → Type 0
ParamsAt w room names total later ts rest after =
    (tree : List Param) × (d : AreParams total w.wide (raised w.spare room) names ts rest after tree) × params_stand (bounds w later) d

abbrev pub ParamAt : Deeper → ℕ → Names → ℕ → ℕ → List Token → List Token → Names → Type 0
ParamAt w room names total later ts rest after =
    (tree : Param) × (d : IsParam total w.wide (raised w.spare room) names ts rest after tree) × param_stands (bounds w later) d

abbrev pub InitAt : Deeper → ℕ → Names → ℕ → ℕ → List Token → List Token → Names → Type 0
InitAt w room names total later ts rest after =
    (tree : Init) × (d : IsInit total w.wide (raised w.spare room) names ts rest after tree) × init_stands (bounds w later) d

abbrev pub InitsAt : Deeper → ℕ → Names → ℕ → ℕ → List Token → List Token → Names → Type 0
InitsAt w room names total later ts rest after =
    (tree : List Init) × (d : AreInits total w.wide (raised w.spare room) names ts rest after tree) × inits_stand (bounds w later) d

abbrev pub InitDeclaratorAt : Deeper → Bool → ℕ → Names → ℕ → ℕ → List Token → List Token → Names → Type 0
InitDeclaratorAt w is_typedef room names total later ts rest after =
    (tree : InitDeclarator) × (d : IsInitDeclarator total w.wide is_typedef (raised w.spare room) names ts rest after tree) × init_declarator_stands (bounds w later) d

abbrev pub InitDeclaratorsAt : Deeper → Bool → ℕ → Names → ℕ → ℕ → List Token → List Token → Names → Type 0
InitDeclaratorsAt w is_typedef room names total later ts rest after =
    (tree : List InitDeclarator) × (d : AreInitDeclarators total w.wide is_typedef (raised w.spare room) names ts rest after tree) × init_declarators_stand (bounds w later) d

abbrev pub DeclAt : Deeper → ℕ → Names → ℕ → ℕ → List Token → List Token → Names → Type 0
DeclAt w room names total later ts rest after =
    (tree : Decl) × (d : IsDecl total w.wide (raised w.spare room) names ts rest after tree) × decl_stands (bounds w later) d

abbrev pub OptionalAt : Deeper → ℕ → Names → ℕ → ℕ → List Token → List Token → Names → Type 0
OptionalAt w room names total later ts rest after =
    (tree : Option Expr) × (d : IsOptional total w.wide (raised w.spare room) names ts rest after tree) × optional_stands (bounds w later) d

abbrev pub ForStartAt : Deeper → ℕ → Names → ℕ → ℕ → List Token → List Token → Names → Type 0
ForStartAt w room names total later ts rest after =
    (tree : ForStart) × (d : IsForStart total w.wide (raised w.spare room) names ts rest after tree) × for_start_stands (bounds w later) d

abbrev pub TestAt : Deeper → ℕ → Names → ℕ → ℕ → List Token → List Token → Names → Type 0
TestAt w room names total later ts rest after =
    (tree : Expr) × (d : IsTest total w.wide (raised w.spare room) names ts rest after tree) × test_stands (bounds w later) d

abbrev pub StmtAt : Deeper → Bool → ℕ → Names → ℕ → ℕ → List Token → List Token → Names → Type 0
StmtAt w ends room names total later ts rest after =
    (tree : Stmt) × (d : IsStmt total w.wide ends (raised w.spare room) names ts rest after tree) × stmt_stands (bounds w later) d

abbrev pub ItemsAt : Deeper → ℕ → Names → ℕ → ℕ → List Token → List Token → Names → Type 0
ItemsAt w room names total later ts rest after =
    (tree : List (BlockItem Stmt)) × (d : AreItems total w.wide (raised w.spare room) names ts rest after tree) × items_stand (bounds w later) d

abbrev pub ExternalAt : Deeper → ℕ → Names → ℕ → ℕ → List Token → List Token → Names → Type 0
ExternalAt w room names total later ts rest after =
    (tree : External) × (d : IsExternal total w.wide (raised w.spare room) names ts rest after tree) × external_stands (bounds w later) d

abbrev pub ExternalsAt : Deeper → ℕ → Names → ℕ → ℕ → List Token → List Token → Names → Type 0
ExternalsAt w room names total later ts rest after =
    (tree : List External) × (d : AreExternals total w.wide (raised w.spare room) names ts rest after tree) × externals_stand (bounds w later) d
