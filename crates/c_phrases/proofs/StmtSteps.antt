-- How the loops of the parser go on.
use Rattle.std.proofs.Common.{◌≡◌, ◌<◌, ◌-◌, ℕ, zero, suc, Bool, true, false, cond, Ok, List, [], ◌∷◌, ◌++◌, sym, ap, ◌∙◌, subst, arith}
use Rattle.c_lex.specs.declared.token.Mark.TheVariants as mark
use Rattle.c_ast.specs.declared.declaration.InitDeclarator.{InitDeclarator}
use Rattle.c_ast.specs.declared.statement.Stmt.{Stmt}
use Rattle.c_ast.specs.declared.statement.BlockItem.{BlockItem}
use Rattle.c_grammar.specs.Reading.{State, Outcome, ◌>>=◌, sees_mark, behind, expect_mark}
use Rattle.c_grammar.specs.ReadingStmt.{init_declarator, more_declared, statement, item, items}

declared_step : (total most room : ℕ) (is_typedef : Bool) (count : ℕ) (front : List InitDeclarator) (s s' : State) (one : InitDeclarator)
    → sees_mark mark.Comma s.rest ≡ true → init_declarator total most room is_typedef (behind s) ≡ Ok (one, s')
    → more_declared total most room is_typedef (suc count) front s ≡ more_declared total most room is_typedef count (front ++ one ∷ []) s'
unfolding more_declared
declared_step total most room is_typedef count front s s' one sees reads =
    ap (λ b. cond b (init_declarator total most room is_typedef (behind s) >>= λ x. more_declared total most room is_typedef count (front ++ x.0 ∷ []) x.1)
    (expect_mark total mark.Semicolon s >>= λ s'. Ok (front, s'))) sees
    ∙ ap (λ o. o >>= λ x. more_declared total most room is_typedef count (front ++ x.0 ∷ []) x.1) reads

-- behind one more declarator
pub declared_on : (total total' total'' first most room : ℕ) (is_typedef : Bool) (count : ℕ) (front next : List InitDeclarator) (s s' s'' : State)
    (one : InitDeclarator) (all : Outcome (List InitDeclarator × State))
    → 0 < count → sees_mark mark.Comma s.rest ≡ true → total' ≡ total → s' ≡ behind s
    → init_declarator total' most room is_typedef s' ≡ Ok (one, s'') → total'' ≡ total' → next ≡ front ++ one ∷ []
    → (total ≡ first) × (more_declared total most room is_typedef count front s ≡ all)
    → (total'' ≡ first) × (more_declared total'' most room is_typedef (count - 1) next s'' ≡ all)
declared_on total total' total'' first most room is_typedef zero front next s s' s'' one all more sees same is reads then pushed so_far = absurd (omega arith)
declared_on total total' total'' first most room is_typedef (suc count) front next s s' s'' one all more sees same is reads then pushed so_far =
    let step = declared_step total most room is_typedef count front s s'' one sees
    (subst (λ (u : State). init_declarator total most room is_typedef u ≡ Ok (one, s'')) is
    (subst (λ n. init_declarator n most room is_typedef s' ≡ Ok (one, s'')) same reads)) in (
      then ∙ same ∙ so_far.0,
      ap (λ n. more_declared n most room is_typedef (suc count - 1) next s'') (then ∙ same)
          ∙ ap (λ k. more_declared total most room is_typedef k next s'') (let minus : suc count - 1 ≡ count = omega arith in minus)
          ∙ ap (λ xs. more_declared total most room is_typedef count xs s'') pushed ∙ sym step ∙ so_far.1,
    )

item_step : (total most room : ℕ) (count : ℕ) (front : List (BlockItem Stmt)) (s s' : State) (one : BlockItem Stmt)
    → sees_mark mark.CloseBrace s.rest ≡ false → item total most (statement total most room) room s ≡ Ok (one, s')
    → items total most (statement total most room) room (suc count) front s ≡ items total most (statement total most room) room count (front ++ one ∷ []) s'
unfolding items
item_step total most room count front s s' one sees reads =
    ap (λ b. cond b (Ok (front, behind s))
    (item total most (statement total most room) room s >>= λ x. items total most (statement total most room) room count (front ++ x.0 ∷ []) x.1)) sees
    ∙ ap (λ o. o >>= λ x. items total most (statement total most room) room count (front ++ x.0 ∷ []) x.1) reads

-- behind one more part of a block
pub items_on : (total total' first most room : ℕ) (count : ℕ) (front next : List (BlockItem Stmt)) (s s' : State)
    (one : BlockItem Stmt) (all : Outcome (List (BlockItem Stmt) × State))
    → 0 < count → sees_mark mark.CloseBrace s.rest ≡ false → item total most (statement total most room) room s ≡ Ok (one, s')
    → total' ≡ total → next ≡ front ++ one ∷ []
    → (total ≡ first) × (items total most (statement total most room) room count front s ≡ all)
    → (total' ≡ first) × (items total' most (statement total' most room) room (count - 1) next s' ≡ all)
items_on total total' first most room zero front next s s' one all more sees reads same pushed so_far = absurd (omega arith)
items_on total total' first most room (suc count) front next s s' one all more sees reads same pushed so_far =
    let step = item_step total most room count front s s' one sees reads in (
      same ∙ so_far.0,
      ap (λ n. items n most (statement n most room) room (suc count - 1) next s') same
          ∙ ap (λ k. items total most (statement total most room) room k next s') (let minus : suc count - 1 ≡ count = omega arith in minus)
          ∙ ap (λ xs. items total most (statement total most room) room count xs s') pushed ∙ sym step ∙ so_far.1,
    )
