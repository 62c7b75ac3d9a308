-- The initialisers of a list, one behind the other.
use Rattle.std.proofs.Common.{ℕ, ◌≡◌, ◌∙◌, ◌+◌, ◌<◌, sym, ap, List, [], ◌∷◌, length, map, drop, get_or}
use Rattle.std.proofs.lemmas.List.{drop_more}
use Rattle.c_ast.specs.declared.declaration.Init.{Init}
use Rattle.c_types.specs.declared.ctype.CType.{CType}
use Rattle.c_types.specs.declared.statement.Store.{Store}
use Rattle.c_judge.specs.declared.checker.Checker.{Checker}
use Rattle.c_stores.specs.declared.dealing.Target.{Target}
use Rattle.c_stores.specs.declared.dealing.Dealt.{Dealt}
use Rattle.c_stores.specs.declared.dealing.Turn.{Turn}
use Rattle.c_stores.specs.Dealing.{dealt_from, first_turn}
use Rattle.c_stores.specs.Lists.{deal_all, initialising, start}
use Rattle.c_stores.proofs.StateLemmas.{then_is}

pub one_more : (items : List Init) (i : ℕ) (one : Init) (at : Target) (t : CType) (d : Dealt) (s : Checker) (done : Dealt) (new : Checker)
    → i < length items → one ≡ get_or items i one → (initialising one).item at t d s ≡ (done, new)
    → deal_all (map initialising (drop i items)) at t d s ≡ deal_all (map initialising (drop (i + 1) items)) at t done new
one_more items i one at t d s done new within is gives =
    ap (λ xs. deal_all (map initialising xs) at t d s) (drop_more items i one within ∙ ap (λ y. y ∷ drop (i + 1) items) (sym is))
    ∙ then_is _ done new (deal_all (map initialising (drop (i + 1) items)) at t) gives

pub start_is : (stores : List Store) (turn : Turn) (d : Dealt) → stores ≡ [] → turn ≡ first_turn → d ≡ dealt_from stores turn → d ≡ start
start_is stores turn d none first from = from ∙ ap (λ ss. dealt_from ss turn) none ∙ ap (dealt_from []) first
