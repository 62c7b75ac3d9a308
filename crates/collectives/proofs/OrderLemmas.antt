-- The order of what is held, and one more message in it.
use Rattle.std.proofs.Common.{ℕ, ℤ, ◌≡◌, ◌⊎◌, inl, inr, List, [], ◌∷◌, Bool, true, false, ◌&&◌, ◌||◌, refl, sym, ap, ◌∙◌, arith}
use Rattle.std.specs.Prelude.{nat_eq, nat_lt, int_lt, All, filter}
use Rattle.std.specs.Cmp.{IsTotalOrder}
use Rattle.std.specs.Cmp.Lexicographic.{slice_cmp}
use Rattle.std.specs.Ordering.{int_eq, nat_cmp, int_cmp, ordering_then}
use Rattle.std.specs.declared.cmp.Ordering.{Ordering}
use Rattle.std.specs.declared.cmp.Ordering.TheVariants.{Less, Equal, Greater}
use Rattle.std.proofs.lemmas.Bool.{cases_Bool, cases_order, eq-eqb, ne_eqb, lt-ltb, le-ltb, true≢false, false≢true, or_from, and_right, and_parts, eqb-true}
use Rattle.std.proofs.lemmas.Bool.Decides.{Decides-int_eq}
use Rattle.std.proofs.lemmas.Cmp.{nat_cmp_total, int_cmp_total, on_total, then_total, lists_total}
use Rattle.std.proofs.lemmas.Int.{ints}
use Rattle.std.proofs.lemmas.List.Elements.{All-nil, All-cons, All-head, All-tail, All-filter, All-weaker}
use Rattle.mpi_types.specs.declared.argument.TreeMsg.{TreeMsg}
use Rattle.mpi_types.specs.declared.context.Level.{Level}
use Rattle.mpi_types.specs.Accepts.{is_same_level, is_same_ctx}
use Rattle.mpi_types.specs.Order.{is_level_before, is_ctx_before, direction_number, is_tree_before, IsTreeOrdered}
use Rattle.mpi_types.proofs.ListLemmas.{AllPairs-head, AllPairs-tail}
use Rattle.std.proofs.lemmas.List.Kept.{AllPairs-cons}
use Rattle.std.specs.Ordering.{ordering_reverse}
use Rattle.mpi_types.specs.declared.argument.Direction.{Direction}
use Rattle.mpi_types.specs.declared.argument.Direction.TheVariants.{Up, Down}
use Rattle.mpi_types.proofs.AcceptLemmas.{contexts_tell}
use Rattle.collectives.specs.Held.{put_message}
use Rattle.collectives.specs.Sweeps.{IsSameKey, IsNotHeld}

-- a comparison, with the tests of less and of same
abbrev Tri : Ordering → Bool → Bool → Type 0
Tri o less same = ((o ≡ Less) × (less ≡ true)) ⊎ (((o ≡ Equal) × ((less ≡ false) × (same ≡ true))) ⊎ ((o ≡ Greater) × ((less ≡ false) × (same ≡ false))))

tri_then : (o p : Ordering) (l s m t : Bool) → Tri o l s → Tri p m t → Tri (ordering_then o p) (l || s && m) (s && t)
tri_then o p l s m t (inl a) b = inl (ap (λ x. ordering_then x p) a.0, ap (λ x. x || s && m) a.1)
tri_then o p l s m t (inr (inr a)) b =
    inr (inr (ap (λ x. ordering_then x p) a.0, (rw (a.1.0, a.1.1) refl, ap (λ x. x && t) a.1.1)))
tri_then o p l s m t (inr (inl a)) b = rw (a.0, a.1.0, a.1.1) b

tri_nat : (a b : ℕ) → Tri (nat_cmp a b) (nat_lt a b) (nat_eq a b)
tri_nat a b = elim (cases_order a b) [
  | inl e ↦
      let no_less : nat_lt a b ≡ false = le-ltb a b (omega arith) in
      let same : nat_eq a b ≡ true = eq-eqb a b e in
      inr (inl (rw (no_less, same) refl, (no_less, same)))
  | inr other ↦ elim other [
    | inl less ↦ let y : nat_lt a b ≡ true = lt-ltb a b less in inl (rw y refl, y)
    | inr more ↦
        let no_less : nat_lt a b ≡ false = le-ltb a b (omega arith) in
        let apart : nat_eq a b ≡ false = ne_eqb a b (λ e. absurd (omega arith)) in
        inr (inr (rw (no_less, apart) refl, (no_less, apart)))
  ]
]

meet : (a b : ℤ) → int_lt a b ≡ false → int_lt b a ≡ false → a ≡ b
meet a b p q = grind (arith, ints)

part : (a b : ℤ) → int_lt b a ≡ true → int_eq a b ≡ false
part a b p = elim (cases_Bool (int_eq a b)) [
  | inr f ↦ f
  | inl t ↦ absurd (never a b p ((Decides-int_eq a b).0 t))
]
  where
    never : (a b : ℤ) → int_lt b a ≡ true → a ≡ b → ⊥
    never a b p e = grind (arith, ints)

tri_int : (a b : ℤ) → Tri (int_cmp a b) (int_lt a b) (int_eq a b)
tri_int a b = elim (cases_Bool (int_lt a b)) [
  | inl y ↦ inl (rw y refl, y)
  | inr no_less ↦ elim (cases_Bool (int_lt b a)) [
    | inl more ↦ inr (inr (rw (no_less, more) refl, (no_less, part a b more)))
    | inr no_more ↦ inr (inl (rw (no_less, no_more) refl, (no_less, (Decides-int_eq a b).1 (meet a b no_less no_more))))
  ]
]

abbrev level_cmp : Level → Level → Ordering
level_cmp a b = ordering_then (nat_cmp a.position b.position) (int_cmp a.colour b.colour)

tri_level : (a b : Level) → Tri (level_cmp a b) (is_level_before a b) (is_same_level a b)
tri_level a b =
    tri_then (nat_cmp a.position b.position) (int_cmp a.colour b.colour) (nat_lt a.position b.position) (nat_eq a.position b.position) (int_lt a.colour b.colour) (int_eq a.colour b.colour)
    (tri_nat a.position b.position) (tri_int a.colour b.colour)

tri_ctx : (a b : List Level) → Tri (slice_cmp level_cmp a b) (is_ctx_before a b) (is_same_ctx a b)
tri_ctx [] [] = inr (inl (refl, (refl, refl)))
tri_ctx [] (y ∷ b) = inl (refl, refl)
tri_ctx (x ∷ a) [] = inr (inr (refl, (refl, refl)))
tri_ctx (x ∷ a) (y ∷ b) =
    tri_then (level_cmp x y) (slice_cmp level_cmp a b) (is_level_before x y) (is_same_level x y) (is_ctx_before a b) (is_same_ctx a b) (tri_level x y) (tri_ctx a b)

abbrev member_cmp : TreeMsg → TreeMsg → Ordering
member_cmp a b = ordering_then (nat_cmp (direction_number a.direction) (direction_number b.direction)) (nat_cmp a.member b.member)

abbrev place_cmp : TreeMsg → TreeMsg → Ordering
place_cmp a b = ordering_then (nat_cmp a.position b.position) (member_cmp a b)

abbrev tree_cmp : TreeMsg → TreeMsg → Ordering
tree_cmp a b = ordering_then (slice_cmp level_cmp a.ctx b.ctx) (place_cmp a b)

tri_tree : (a b : TreeMsg) → Tri (tree_cmp a b) (is_tree_before a b) (is_same_ctx a.ctx b.ctx && (nat_eq a.position b.position && (nat_eq (direction_number a.direction) (direction_number b.direction) && nat_eq a.member b.member)))
tri_tree a b =
    tri_then (slice_cmp level_cmp a.ctx b.ctx) (place_cmp a b) (is_ctx_before a.ctx b.ctx) (is_same_ctx a.ctx b.ctx) _ _ (tri_ctx a.ctx b.ctx)
    (tri_then (nat_cmp a.position b.position) (member_cmp a b) (nat_lt a.position b.position) (nat_eq a.position b.position) _ _ (tri_nat a.position b.position)
    (tri_then (nat_cmp (direction_number a.direction) (direction_number b.direction)) (nat_cmp a.member b.member) _ _ _ _
    (tri_nat (direction_number a.direction) (direction_number b.direction)) (tri_nat a.member b.member)))

level_total : IsTotalOrder level_cmp
level_total = then_total {R = λ a b. nat_cmp a.position b.position} {S = λ a b. int_cmp a.colour b.colour}
    (on_total {K = Level} (λ l. l.position) nat_cmp_total) (on_total {K = Level} (λ l. l.colour) int_cmp_total)

tree_total : IsTotalOrder tree_cmp
tree_total = then_total {R = λ a b. slice_cmp level_cmp a.ctx b.ctx} {S = place_cmp}
    (on_total {K = TreeMsg} (λ m. m.ctx) (lists_total level_total))
    (then_total {R = λ a b. nat_cmp a.position b.position} {S = member_cmp} (on_total {K = TreeMsg} (λ m. m.position) nat_cmp_total)
    (then_total {R = λ a b. nat_cmp (direction_number a.direction) (direction_number b.direction)} {S = λ a b. nat_cmp a.member b.member}
    (on_total {K = TreeMsg} (λ m. direction_number m.direction) nat_cmp_total) (on_total {K = TreeMsg} (λ m. m.member) nat_cmp_total)))

tri_less : (o : Ordering) (l s : Bool) → Tri o l s → l ≡ true → o ≡ Less
tri_less o l s (inl a) y = a.0
tri_less o l s (inr (inl a)) y = absurd (true≢false (sym y ∙ a.1.0))
tri_less o l s (inr (inr a)) y = absurd (true≢false (sym y ∙ a.1.0))

less_tri : (o : Ordering) (l s : Bool) → Tri o l s → o ≡ Less → l ≡ true
less_tri o l s (inl a) y = a.1
less_tri o l s (inr (inl a)) y = cc
less_tri o l s (inr (inr a)) y = cc

pub before_trans : (a b c : TreeMsg) → is_tree_before a b ≡ true → is_tree_before b c ≡ true → is_tree_before a c ≡ true
before_trans a b c p q =
    less_tri (tree_cmp a c) (is_tree_before a c) _ (tri_tree a c)
    (tree_total.trans a b c (tri_less (tree_cmp a b) (is_tree_before a b) _ (tri_tree a b) p) (tri_less (tree_cmp b c) (is_tree_before b c) _ (tri_tree b c) q))

pub ctx_not_before : (ctx : List Level) → is_ctx_before ctx ctx ≡ false
ctx_not_before [] = refl
ctx_not_before (x ∷ ctx) =
    let p : nat_lt x.position x.position ≡ false = le-ltb x.position x.position (omega arith) in
    let c : int_lt x.colour x.colour ≡ false = not_less x.colour in
    let parts : is_level_before x x ≡ false = or_from (nat_lt x.position x.position) (nat_eq x.position x.position && int_lt x.colour x.colour) p (and_right (nat_eq x.position x.position) (int_lt x.colour x.colour) c) in
    or_from (is_level_before x x) (is_same_level x x && is_ctx_before ctx ctx) parts (and_right (is_same_level x x) (is_ctx_before ctx ctx) (ctx_not_before ctx))
  where
    not_less : (a : ℤ) → int_lt a a ≡ false
    not_less a = grind (arith, ints)

-- a message before all others is put in front
put_front : (t : TreeMsg) (list : List TreeMsg) → All (λ m. is_tree_before t m ≡ true) list → put_message t list ≡ t ∷ list
put_front t [] h = refl
put_front t (m ∷ list) h = rw (All-head (λ x. is_tree_before t x ≡ true) m list h) refl

-- of ordered messages, those that pass a test, with one more of them
pub put_filter : (p : TreeMsg → Bool) (t : TreeMsg) (tree : List TreeMsg) → p t ≡ true → IsTreeOrdered tree
    → filter p (put_message t tree) ≡ put_message t (filter p tree)
put_filter p t [] y order = rw y refl
put_filter p t (m ∷ tree) y order =
    let later : All (λ x. is_tree_before m x ≡ true) tree = AllPairs-head (λ a b. is_tree_before a b ≡ true) m tree order in
    let rest : IsTreeOrdered tree = AllPairs-tail (λ a b. is_tree_before a b ≡ true) m tree order in
    elim (cases_Bool (is_tree_before t m)) [
      | inl before ↦
          let all : All (λ x. is_tree_before t x ≡ true) tree = All-weaker (λ x. is_tree_before m x ≡ true) (λ x. is_tree_before t x ≡ true) (λ x q. before_trans t m x before q) tree later in
          elim (cases_Bool (p m)) [
            | inl passes ↦ rw (before, y, passes, before) refl
            | inr fails ↦ rw (before, y, fails) (sym (put_front t (filter p tree) (All-filter p (λ x. is_tree_before t x ≡ true) tree all)))
          ]
      | inr behind ↦ elim (cases_Bool (p m)) [
        | inl passes ↦ rw (behind, passes, behind) (ap (λ xs. m ∷ xs) (put_filter p t tree y rest))
        | inr fails ↦ rw (behind, fails) (put_filter p t tree y rest)
      ]
    ]

pub put_filter_other : (p : TreeMsg → Bool) (t : TreeMsg) (tree : List TreeMsg) → p t ≡ false → filter p (put_message t tree) ≡ filter p tree
put_filter_other p t [] y = rw y refl
put_filter_other p t (m ∷ tree) y = elim (cases_Bool (is_tree_before t m)) [
  | inl before ↦ rw (before, y) refl
  | inr behind ↦ elim (cases_Bool (p m)) [
    | inl passes ↦ rw (behind, passes) (ap (λ xs. m ∷ xs) (put_filter_other p t tree y))
    | inr fails ↦ rw (behind, fails) (put_filter_other p t tree y)
  ]
]

-- a message that comes neither before nor behind has the same key
direction_same : (a b : Direction) → nat_eq (direction_number a) (direction_number b) ≡ true → a ≡ b
direction_same Up Up e = refl
direction_same Down Down e = refl
direction_same Up Down e = absurd (false≢true e)
direction_same Down Up e = absurd (false≢true e)

pub before_or_same : (a b : TreeMsg) → is_tree_before a b ≡ false → (is_tree_before b a ≡ true) ⊎ IsSameKey a b
before_or_same a b no_less = elim (cases_Bool (is_tree_before b a)) [
  | inl t ↦ inl t
  | inr no_more ↦ inr (same_key a b (both (tree_cmp a b) (tree_cmp b a) (is_tree_before a b) _ (is_tree_before b a) _ (tri_tree a b) (tri_tree b a) (tree_total.antisymm a b) no_less no_more))
]
  where
    both : (o p : Ordering) (l s m t : Bool) → Tri o l s → Tri p m t → o ≡ ordering_reverse p → l ≡ false → m ≡ false → s ≡ true
    both o p l s m t (inl x) y back nl nm = absurd (true≢false (sym x.1 ∙ nl))
    both o p l s m t (inr (inl x)) y back nl nm = x.1.1
    both o p l s m t (inr (inr x)) (inl y) back nl nm = absurd (true≢false (sym y.1 ∙ nm))
    both o p l s m t (inr (inr x)) (inr (inl y)) back nl nm = absurd (never (sym x.0 ∙ (back ∙ ap ordering_reverse y.0)))
      where
        never : Greater ≡ Equal → ⊥
        never q = cc
    both o p l s m t (inr (inr x)) (inr (inr y)) back nl nm = absurd (never (sym x.0 ∙ (back ∙ ap ordering_reverse y.0)))
      where
        never : Greater ≡ Less → ⊥
        never q = cc

    same_key : (a b : TreeMsg) → (is_same_ctx a.ctx b.ctx && (nat_eq a.position b.position && (nat_eq (direction_number a.direction) (direction_number b.direction) && nat_eq a.member b.member))) ≡ true → IsSameKey a b
    same_key a b e =
        let one = and_parts (is_same_ctx a.ctx b.ctx) (nat_eq a.position b.position && (nat_eq (direction_number a.direction) (direction_number b.direction) && nat_eq a.member b.member)) e in
        let two = and_parts (nat_eq a.position b.position) (nat_eq (direction_number a.direction) (direction_number b.direction) && nat_eq a.member b.member) one.1 in
        let three = and_parts (nat_eq (direction_number a.direction) (direction_number b.direction)) (nat_eq a.member b.member) two.1 in
        record {
          ctx = (contexts_tell a.ctx b.ctx).0 one.0;
          position = eqb-true a.position b.position two.0;
          direction = direction_same a.direction b.direction three.0;
          member = eqb-true a.member b.member three.1;
        }

pub all_put : (P : TreeMsg → Type 0) (t : TreeMsg) (tree : List TreeMsg) → P t → All P tree → All P (put_message t tree)
all_put P t [] p h = All-cons P t [] p h
all_put P t (m ∷ tree) p h = elim (cases_Bool (is_tree_before t m)) [
  | inl y ↦ rw y (All-cons P t (m ∷ tree) p h)
  | inr n ↦ rw n (All-cons P m (put_message t tree) (All-head P m tree h) (all_put P t tree p (All-tail P m tree h)))
]

pub put_ordered : (t : TreeMsg) (tree : List TreeMsg) → IsTreeOrdered tree → IsNotHeld t tree → IsTreeOrdered (put_message t tree)
put_ordered t [] order none = AllPairs-cons (λ a b. is_tree_before a b ≡ true) t [] (All-nil (λ b. is_tree_before t b ≡ true)) order
put_ordered t (m ∷ tree) order none =
    let R : TreeMsg → TreeMsg → Type 0 = λ a b. is_tree_before a b ≡ true in
    let later : All (R m) tree = AllPairs-head R m tree order in
    let rest : IsTreeOrdered tree = AllPairs-tail R m tree order in
    elim (cases_Bool (is_tree_before t m)) [
      | inl before ↦
          rw before (AllPairs-cons R t (m ∷ tree)
          (All-cons (R t) m tree before (All-weaker (R m) (R t) (λ x q. before_trans t m x before q) tree later)) order)
      | inr behind ↦
          let after : is_tree_before m t ≡ true = elim (before_or_same t m behind) [
            | inl y ↦ y
            | inr same ↦ absurd (All-head (λ x. IsSameKey t x → ⊥) m tree none same)
          ] in
          rw behind (AllPairs-cons R m (put_message t tree) (all_put (R m) t tree after later)
          (put_ordered t tree rest (All-tail (λ x. IsSameKey t x → ⊥) m tree none)))
    ]
