-- Each declaration and each statement only adds names to those in scope, and only takes tokens.
use Rattle.std.proofs.Common.{◌≡◌, ℕ, ◌-◌, Bool, Option, List, [], length, drop, refl, ap, ◌∙◌, length-append, arith}
use Rattle.c_lex.specs.declared.token.Token.{Token}
use Rattle.c_ast.specs.declared.expression.Expr.{Expr}
use Rattle.c_ast.specs.declared.declaration.Init.{Init}
use Rattle.c_ast.specs.declared.declaration.InitDeclarator.{InitDeclarator}
use Rattle.c_ast.specs.declared.declaration.Decl.{Decl}
use Rattle.c_ast.specs.declared.statement.Stmt.{Stmt}
use Rattle.c_ast.specs.declared.statement.ForStart.{ForStart}
use Rattle.c_ast.specs.declared.statement.BlockItem.{BlockItem}
use Rattle.c_grammar.specs.Names.{Names}
use Rattle.c_grammar.specs.Reading.{State}
use Rattle.c_grammar.specs.ReadingStmt.{left_to, left}
use Rattle.c_grammar.specs.Grammar.{
  IsInit,
  init_value,
  list,
  AreInits,
  one_init,
  last_init,
  more_inits,
  IsInitDeclarator,
  plain,
  initialised,
  AreInitDeclarators,
  one,
  more,
  IsDecl,
  bare,
  some,
  IsOptional,
  none,
  IsForStart,
  declaration,
  expression,
  IsTest,
  test,
  IsStmt,
  block,
  express,
  if_then,
  if_else,
  while_do,
  do_while,
  for_do,
  switch,
  case,
  default,
  break,
  continue,
  return,
  AreItems,
  no_items,
  declaration_item,
  statement_item,
}
use Rattle.std.proofs.Math.Seq.{drop-append_seam}
use Rattle.c_grammar.proofs.Extends.{Extends, nothing_taken, joined, led, closed, with_name, expr_extends, specs_extend, declarator_extends}

-- what is behind a part whose names are gone
pub alone : {names after : Names} {ts rest : List Token} → Extends names after ts rest → Extends names names ts rest
alone d = record { added = []; grows = refl; shrinks = d.shrinks }

-- the names that were in scope before the part are in scope again
pub left_names : {names after : Names} {ts rest : List Token} → Extends names after ts rest → drop (length after - length names) after ≡ names
left_names {names = names} {after = after} d =
    let long = ap (λ (ns : Names). length ns) d.grows ∙ length-append d.added names in
    let size : length after - length names ≡ length d.added = omega (arith, long) in
    ap (λ k. drop k after) size ∙ ap (λ ns. drop (length d.added) ns) d.grows ∙ drop-append_seam d.added names

pub left_is : {names after : Names} {ts mid rest : List Token} → Extends names after ts mid → left names (record { names = after; rest = rest }) ≡ record { names = names; rest = rest }
unfolding left_to
left_is {rest = rest} d = ap (λ (ns : Names). let s : State = record { names = ns; rest = rest } in s) (left_names d)

mutual
  pub init_extends : {total most room : ℕ} {names after : Names} {ts rest : List Token} {i : Init}
      → IsInit total most room names ts rest after i → Extends names after ts rest
  init_extends (init_value d) = expr_extends d
  init_extends (list opens is closes) = led (closed (inits_extend is))

  pub inits_extend : {total most room : ℕ} {names after : Names} {ts rest : List Token} {is : List Init}
      → AreInits total most room names ts rest after is → Extends names after ts rest
  inits_extend (one_init d) = init_extends d
  inits_extend (last_init d is) = closed (init_extends d)
  inits_extend (more_inits d is ds) = joined (closed (init_extends d)) (inits_extend ds)

pub init_declarator_extends : {total most : ℕ} {is_typedef : Bool} {room : ℕ} {names after : Names} {ts rest : List Token} {d : InitDeclarator}
    → IsInitDeclarator total most is_typedef room names ts rest after d → Extends names after ts rest
init_declarator_extends (plain d) = with_name (declarator_extends d)
init_declarator_extends (initialised d is i) = joined (with_name (closed (declarator_extends d))) (init_extends i)

pub init_declarators_extend : {total most : ℕ} {is_typedef : Bool} {room : ℕ} {names after : Names} {ts rest : List Token} {ds : List InitDeclarator}
    → AreInitDeclarators total most is_typedef room names ts rest after ds → Extends names after ts rest
init_declarators_extend (one d) = init_declarator_extends d
init_declarators_extend (more d is ds) = joined (closed (init_declarator_extends d)) (init_declarators_extend ds)

pub decl_extends : {total most room : ℕ} {names after : Names} {ts rest : List Token} {d : Decl}
    → IsDecl total most room names ts rest after d → Extends names after ts rest
decl_extends (bare ss is) = closed (specs_extend ss)
decl_extends (some ss ds is) = joined (specs_extend ss) (closed (init_declarators_extend ds))

pub optional_extends : {total most room : ℕ} {names after : Names} {ts rest : List Token} {a : Option Expr}
    → IsOptional total most room names ts rest after a → Extends names after ts rest
optional_extends none = nothing_taken
optional_extends (some d) = expr_extends d

pub start_extends : {total most room : ℕ} {names after : Names} {ts rest : List Token} {a : ForStart}
    → IsForStart total most room names ts rest after a → Extends names after ts rest
start_extends (declaration d) = decl_extends d
start_extends (expression d is) = closed (optional_extends d)

pub test_extends : {total most room : ℕ} {names after : Names} {ts rest : List Token} {a : Expr}
    → IsTest total most room names ts rest after a → Extends names after ts rest
test_extends (test opens d closes) = led (closed (expr_extends d))

mutual
  pub stmt_extends : {total most room : ℕ} {ends : Bool} {names after : Names} {ts rest : List Token} {s : Stmt}
      → IsStmt total most ends room names ts rest after s → Extends names after ts rest
  stmt_extends (block opens is closes) = alone (led (closed (items_extend is)))
  stmt_extends (express d is) = closed (optional_extends d)
  stmt_extends (if_then is d s) = alone (led (joined (test_extends d) (stmt_extends s)))
  stmt_extends (if_else is d s other s') = alone (led (joined (test_extends d) (joined (alone (closed (stmt_extends s))) (stmt_extends s'))))
  stmt_extends (while_do is d s) = alone (led (joined (test_extends d) (stmt_extends s)))
  stmt_extends (do_while is s other d ends) = alone (led (joined (alone (closed (stmt_extends s))) (closed (test_extends d))))
  stmt_extends (for_do is opens a b ends d closes s) =
      alone (led (led (joined (start_extends a) (joined (closed (optional_extends b)) (joined (closed (optional_extends d)) (stmt_extends s))))))
  stmt_extends (switch is d s) = alone (led (joined (test_extends d) (stmt_extends s)))
  stmt_extends (case is d colon s) = led (joined (closed (expr_extends d)) (stmt_extends s))
  stmt_extends (default is colon s) = led (led (stmt_extends s))
  stmt_extends (break is ends) = led (led nothing_taken)
  stmt_extends (continue is ends) = led (led nothing_taken)
  stmt_extends (return is d ends) = led (closed (optional_extends d))

  pub items_extend : {total most room : ℕ} {names after : Names} {ts rest : List Token} {is : List (BlockItem Stmt)}
      → AreItems total most room names ts rest after is → Extends names after ts rest
  items_extend no_items = nothing_taken
  items_extend (declaration_item d is) = joined (decl_extends d) (items_extend is)
  items_extend (statement_item s is) = joined (stmt_extends s) (items_extend is)
