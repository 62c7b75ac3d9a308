use Rattle.std.proofs.Common.{◌≡◌, ◌∷◌, ℕ, List, ap, subst, ◌∙◌, arith}
use Rattle.c_lex.specs.Pieces.{Macro}
use Rattle.c_lex.specs.Faults.{IsDefined}
use Rattle.c_lex.specs.Tokens.{names_of}
use Rattle.c_lex.specs.Table.{macros_in}
use Rattle.c_lex.proofs.KeptLaws.{to_macros, macros_more, still_kept, same_kept, taken_back}
use Rattle.c_lex.proofs.macros.Macros.define.Goals as goal
use Rattle.c_lex.proofs.macros.Macros.define.Goals.{After-into_vec}

is_new : (c : After-into_vec) → IsDefined (names_of (macros_in c.self.inside.table)) c.into_vec.result.items → ⊥
is_new c = λ d.
    let P : List Macro → Type 0 = λ ms. IsDefined (names_of ms) c.args.name in
    let Q : List ℕ → Type 0 = λ w. IsDefined (names_of (macros_in c.self.inside.table)) w in
    c.requires (subst P c.self.view_is (subst Q c.into_vec.ensures d))

pub define-requires : goal.define-requires
define-requires c = λ d.
    is_new (goal.at.define-requires c).After-into_vec (to_macros c.self.inside.table c.into_vec.result.items c.self.invariant.table d)

pub invariant_of-self-in_default : goal.invariant_of-self-in_default
invariant_of-self-in_default c =
    still_kept c.self.inside.table c.define.new.self c.into_vec.result.items c.args.body.items c.self.invariant.table
    c.in_default.ensures.names c.in_default.ensures.bodies (is_new (goal.at.invariant_of-self-in_default c).After-into_vec)
    c.self.inside.marks.items c.push.new.self.items c.self.invariant.sizes c.in_ok-push.ensures.items c.self.invariant.stand

pub returns-in_default-clause-ok : goal.returns-in_default-clause-ok
returns-in_default-clause-ok c =
    let more =
    macros_more c.self.inside.table c.define.new.self c.into_vec.result.items c.args.body.items c.self.invariant.table
    c.in_default.ensures.names c.in_default.ensures.bodies in
    let name : c.into_vec.result.items ≡ c.args.name = c.into_vec.ensures in
    let before : macros_in c.self.inside.table ≡ c.args.self.now = c.self.view_is in
    let m : List ℕ → Macro = λ w. record { name = w; body = c.args.body.items } in
    more ∙ ap (λ (w : List ℕ). m w ∷ macros_in c.self.inside.table) name ∙ ap (λ (ms : List Macro). m c.args.name ∷ ms) before

pub invariant_of-self-2 : goal.invariant_of-self-2
invariant_of-self-2 c =
    same_kept c.self.inside.table c.define.new.self c.self.inside.marks.items c.pop.new.self.items c.in-Err.ensures.err.0
    c.in-Err.ensures.err.1
    (taken_back _ c.self.inside.marks.items c.push.new.self.items c.pop.new.self.items _ c.in_ok-push.ensures.items c.pop.ensures.rest
    (omega (arith, c.in_ok-push.ensures.len)))
    c.self.invariant
