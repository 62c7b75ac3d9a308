-- The messages to children, and the member that joined.
use Rattle.std.proofs.Common.{ℕ, ◌≡◌, ◌+◌, ◌-◌, ◌<◌, ◌≤◌, List, [], ◌∷◌, ◌++◌, map, true, Option, Some, length, sym, ap, ◌∙◌, append_assoc}
use Rattle.std.specs.Prelude.{nat_eq, ◌&&◌, is_none}
use Rattle.std.proofs.lemmas.Bool.{and_parts}
use Rattle.mpi_types.specs.declared.argument.Joined.{Joined}
use Rattle.mpi_types.specs.declared.argument.TreeMsg.{TreeMsg}
use Rattle.mpi_types.specs.declared.group.Group.{Group}
use Rattle.mpi_types.specs.Accepts.{is_same_ctx}
use Rattle.mpi_types.proofs.AcceptLemmas.{contexts_tell}
use Rattle.collectives.specs.declared.sends.TreeSend.{TreeSend}
use Rattle.collectives.specs.Tree.{children, children_from, end_of}
use Rattle.collectives.specs.Sweeps.{awaits, IsOfCtx, IsMemberOf}
use Rattle.collectives.proofs.TreeLemmas.{children_start, children_step}

pub sends_start : (f : ℕ → TreeSend) (sends : List TreeSend) (n i m e : ℕ) → sends ≡ [] → e ≡ end_of n i → i ≡ m
    → sends ++ map f (children_from (e - (i + 1)) n (i + 1) e) ≡ map f (children n m)
sends_start f sends n i m e none is same =
    ap (λ s. s ++ map f (children_from (e - (i + 1)) n (i + 1) e)) none
    ∙ (ap (map f) (children_start n i e is) ∙ ap (λ k. map f (children n k)) same)

pub sends_step : (f : ℕ → TreeSend) (old new all : List TreeSend) (n c next e : ℕ) → c < e → e ≤ n
    → old ++ map f (children_from (e - c) n c e) ≡ all → new ≡ old ++ f c ∷ [] → next ≡ end_of n c
    → new ++ map f (children_from (e - next) n next e) ≡ all
sends_step f old new all n c next e less cut so_far more is =
    let rest : List TreeSend = map f (children_from (e - end_of n c) n (end_of n c) e) in
    let head : map f (children_from (e - c) n c e) ≡ f c ∷ rest = ap (map f) (children_step n c e less cut) in
    ap (λ k. new ++ map f (children_from (e - k) n k e)) is
    ∙ (ap (λ s. s ++ rest) more ∙ (append_assoc old (f c ∷ []) rest ∙ (ap (λ xs. old ++ xs) (sym head) ∙ so_far)))

pub joined_within : (g : Group) (joined : Option Joined) (t : TreeMsg) (j : Joined) → IsOfCtx g t → IsMemberOf g joined → joined ≡ Some j
    → true ≡ awaits j t → j.arg.member < length g.members
joined_within g joined t j of_ctx member is awaited =
    let first = and_parts (is_same_ctx j.ctx t.ctx && nat_eq j.position t.position) (is_none j.gathered) (sym awaited) in
    let same = and_parts (is_same_ctx j.ctx t.ctx) (nat_eq j.position t.position) first.0 in
    member.member j is ((contexts_tell j.ctx t.ctx).0 same.0 ∙ sym of_ctx.same_ctx)
