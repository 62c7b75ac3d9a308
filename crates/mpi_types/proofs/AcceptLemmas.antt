-- The tests of contexts and of acceptance, and a pair's place, as functions and as relations.
use Rattle.std.proofs.Common.{◌≡◌, ℕ, ℤ, pos, ◌<◌, List, [], ◌∷◌, ◌++◌, ◌&&◌, ◌||◌, eqb, int_eq, refl, sym, ap, ◌∙◌, arith}
use Rattle.std.specs.Prelude.{All}
use Rattle.std.specs.Bool.{Decides}
use Rattle.std.proofs.lemmas.Bool.{lt-ltb, le-ltb}
use Rattle.std.proofs.lemmas.Bool.Decides.{Decides-and, Decides-or, Decides-like, Decides-eqb, Decides-int_eq}
use Rattle.std.proofs.lemmas.List.Elements.{All-head, All-tail}
use Rattle.mpi_types.specs.declared.context.Level.{Level}
use Rattle.mpi_types.specs.declared.message.Message.{Message}
use Rattle.mpi_types.specs.declared.lists.MatchedPair.{MatchedPair}
use Rattle.mpi_types.specs.declared.constants.TheConstants.{ANY_SOURCE, ANY_TAG}
use Rattle.mpi_types.specs.Accepts.{Accepts, is_same_level, is_same_ctx, is_accepted}
use Rattle.mpi_types.specs.Post.{IsInserted, with_pair}

same_level : (a b : Level) → a.position ≡ b.position → a.colour ≡ b.colour → a ≡ b
same_level a b p q =
    let with : ℕ → ℤ → Level = λ n z. record { position = n; colour = z } in
    ap (λ n. with n a.colour) p ∙ ap (λ z. with b.position z) q

-- a test of both fields tells whether two levels are the same
pub levels_tell : (a b : Level) → Decides (is_same_level a b) (a ≡ b)
levels_tell a b =
    Decides-like (is_same_level a b)
    (λ p. same_level a b p.0 p.1) (λ e. (ap (λ l. l.position) e, ap (λ l. l.colour) e))
    (Decides-and (eqb a.position b.position) (int_eq a.colour b.colour) (Decides-eqb a.position b.position) (Decides-int_eq a.colour b.colour))

heads : (x y : Level) (xs ys : List Level) → x ∷ xs ≡ y ∷ ys → x ≡ y
heads x y xs ys e = cc

tails : (x y : Level) (xs ys : List Level) → x ∷ xs ≡ y ∷ ys → xs ≡ ys
tails x y xs ys e = cc

both : (x y : Level) (xs ys : List Level) → x ≡ y → xs ≡ ys → x ∷ xs ≡ y ∷ ys
both x y xs ys p q = cc

pub contexts_tell : (a b : List Level) → Decides (is_same_ctx a b) (a ≡ b)
contexts_tell [] [] = (λ t. refl, λ e. refl)
contexts_tell [] (y ∷ b) = (λ t. cc, λ e. cc)
contexts_tell (x ∷ a) [] = (λ t. cc, λ e. cc)
contexts_tell (x ∷ a) (y ∷ b) =
    Decides-like (is_same_level x y && is_same_ctx a b) (λ p. both x y a b p.0 p.1) (λ e. (heads x y a b e, tails x y a b e))
    (Decides-and (is_same_level x y) (is_same_ctx a b) (levels_tell x y) (contexts_tell a b))

pub acceptance_tells : (ctx : List Level) (source tag : ℤ) (m : Message) → Decides (is_accepted ctx source tag m) (Accepts ctx source tag m)
acceptance_tells ctx source tag m =
    let sender = int_eq source ANY_SOURCE || int_eq source (pos m.member) in
    let same = int_eq tag ANY_TAG || int_eq tag m.tag in
    Decides-like (is_accepted ctx source tag m)
    (λ p. record { context = p.0.0; sender = p.0.1; same_tag = p.1 }) (λ a. ((a.context, a.sender), a.same_tag))
    (Decides-and (is_same_ctx ctx m.ctx && sender) same
    (Decides-and (is_same_ctx ctx m.ctx) sender (contexts_tell ctx m.ctx)
    (Decides-or (int_eq source ANY_SOURCE) (int_eq source (pos m.member)) (Decides-int_eq source ANY_SOURCE) (Decides-int_eq source (pos m.member))))
    (Decides-or (int_eq tag ANY_TAG) (int_eq tag m.tag) (Decides-int_eq tag ANY_TAG) (Decides-int_eq tag m.tag)))

-- a pair stands at its one place
with_pair_between : (lower higher : List MatchedPair) (pair : MatchedPair)
    → All (λ p. p.receive.request < pair.receive.request) lower → All (λ p. pair.receive.request < p.receive.request) higher
    → lower ++ pair ∷ higher ≡ with_pair pair (lower ++ higher)
with_pair_between [] [] pair low high = refl
with_pair_between [] (q ∷ higher) pair low high =
    let t = lt-ltb pair.receive.request q.receive.request (All-head (λ p. pair.receive.request < p.receive.request) q higher high) in
    rw t refl
with_pair_between (q ∷ lower) higher pair low high =
    let less : q.receive.request < pair.receive.request = All-head (λ p. p.receive.request < pair.receive.request) q lower low in
    let f = le-ltb pair.receive.request q.receive.request (omega arith) in
    rw f
    (ap (λ ps. q ∷ ps)
    (with_pair_between lower higher pair (All-tail (λ p. p.receive.request < pair.receive.request) q lower low) high))

pub inserted_is : (old new : List MatchedPair) (pair : MatchedPair) → IsInserted old new pair → new ≡ with_pair pair old
inserted_is old new pair i =
    i.now ∙ with_pair_between i.lower i.higher pair i.all_lower i.all_higher ∙ ap (with_pair pair) (sym i.before)
