-- Typed statements, made from their parts.
use Rattle.std.specs.Prelude.{ℕ, Option}
use Rattle.c_types.specs.declared.expression.FullExpr.{FullExpr}
use Rattle.c_types.specs.declared.statement.Stmt.{Stmt}
use Rattle.c_types.specs.declared.statement.Stmt.TheVariants as stmt
use Rattle.c_check.specs.declared.labels.Labels.{Labels}
use Rattle.c_check.specs.declared.making.Heads.{Heads}

abbrev pub if_stmt : ℕ → FullExpr → Stmt → Option Stmt → Stmt
if_stmt line test then otherwise = stmt.If line test then otherwise

abbrev pub while_stmt : ℕ → FullExpr → Stmt → Stmt
while_stmt line test body = stmt.While line test body

abbrev pub do_stmt : ℕ → Stmt → FullExpr → Stmt
do_stmt line body test = stmt.Do line body test

abbrev pub for_stmt : ℕ → Heads → Stmt → Stmt
for_stmt line h body = stmt.For line h.declared h.start h.test h.step body

abbrev pub switch_stmt : ℕ → FullExpr → Labels → Stmt → Stmt
switch_stmt line value l body = stmt.Switch line value l.cases l.default body

abbrev pub labelled : ℕ → Stmt → Stmt
labelled label body = stmt.Labelled label body
