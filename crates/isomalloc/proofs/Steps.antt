-- What filling and splitting a hole, opening a block and joining two holes do to the chains of nodes.
use Rattle.std.proofs.Common.{◌≡◌, ℕ, ◌+◌, ◌-◌, ◌<◌, ◌≤◌, ◌⊎◌, inl, inr, List, [], ◌∷◌, ◌++◌, ◌∙◌, refl, sym, ap, subst, arith}
use Rattle.std.proofs.lemmas.Bool.{cases_eq}
use Rattle.rank_range.specs.Nodes.{Node, node_count, no_node, heap_units, times_in}
use Rattle.isomalloc.specs.Entries.{with_node, with_previous, with_kind, repointed, split_nodes, joined_nodes}
use Rattle.isomalloc.proofs.Bytes.{with_node-here, with_node-other}
use Rattle.isomalloc.proofs.Shape.{first_or, last_or, IsLink, Segment, IsSpare, IsHeapOf, Alike, alike_same, single, single_here, times-around, first_in, segment_below, SameIn, segment_same, spare_same, segment_parts, segment_whole, AlikeIn}

-- what holds of the node that is put and of the one that was there holds of the node that is there now
with_node_all : (P : Node → Type 0) (number : ℕ) (node : Node) (nodes : ℕ → Node) (k : ℕ) → P node → P (nodes k) → P (with_node number node nodes k)
with_node_all P number node nodes k put kept =
    elim (cases_eq k number) [
      | inl same ↦ subst P (sym (with_node-here number node nodes k same)) put
      | inr other ↦ subst P (sym (with_node-other number node nodes k other)) kept
    ]

-- The node stands nowhere else.
pub record Alone (n : ℕ) (left right unused : List ℕ) : Type 0 where
  pub in_left : times_in n left ≡ 0
  pub in_right : times_in n right ≡ 0
  pub in_unused : times_in n unused ≡ 0

pub alone_at : (n : ℕ) (left right unused : List ℕ) → times_in n ((left ++ n ∷ right) ++ unused) ≡ 1 → Alone n left right unused
alone_at n left right unused once =
    let sum = times-around n left n right unused in
    let here = single_here n n refl in
    record { in_left = omega (arith, once, sum, here); in_right = omega (arith, once, sum, here); in_unused = omega (arith, once, sum, here) }

absent : (k n : ℕ) (xs : List ℕ) → times_in n xs ≡ 0 → 1 ≤ times_in k xs → k ≡ n → ⊥
absent k n xs none some same =
    let e : times_in k xs ≡ times_in n xs = ap (λ (i : ℕ). times_in i xs) same in
    omega (arith, none, some, e)

pub with_same : (nodes : ℕ → Node) (n : ℕ) (node : Node) (xs : List ℕ) → times_in n xs ≡ 0 → SameIn nodes (with_node n node nodes) xs
with_same nodes n node xs none k below some = with_node-other n node nodes k (absent k n xs none some)

abbrev pub rekinded : ℕ → ℕ → (ℕ → Node) → ℕ → Node
rekinded kind n nodes = with_node n (with_kind kind (nodes n)) nodes

-- What stands beside a node.
pub record Beside (nodes : ℕ → Node) (left : List ℕ) (n : ℕ) (right : List ℕ) : Type 0 where
  pub mid : ℕ
  pub front : Segment nodes no_node 0 n mid left
  pub link : IsLink (nodes n) (last_or no_node left) mid (first_or no_node right) n
  pub back : Segment nodes n (mid + (nodes n).units) no_node heap_units right

pub beside : (nodes : ℕ → Node) (left : List ℕ) (n : ℕ) (right : List ℕ)
    → Segment nodes no_node 0 no_node heap_units (left ++ n ∷ right) → Beside nodes left n right
beside nodes left n right chain =
    let parts = segment_parts nodes no_node 0 no_node heap_units left (n ∷ right) chain in
    record { mid = parts.mid; front = parts.front; link = parts.back.0; back = parts.back.1 }

chained : (nodes : ℕ → Node) (left : List ℕ) (n : ℕ) (right : List ℕ) → Beside nodes left n right
    → Segment nodes no_node 0 no_node heap_units (left ++ n ∷ right)
chained nodes left n right b = segment_whole nodes no_node 0 no_node heap_units left (n ∷ right) b.mid b.front (b.link, b.back)

pub rekind_heap : (nodes : ℕ → Node) (kind n : ℕ) (left right unused : List ℕ) → (kind ≡ 1) ⊎ (kind ≡ 2)
    → IsHeapOf nodes (left ++ n ∷ right) unused → IsHeapOf (rekinded kind n nodes) (left ++ n ∷ right) unused
rekind_heap nodes kind n left right unused known heap =
    let b = beside nodes left n right heap.chain in
    let node = with_kind kind (nodes n) in
    let new = rekinded kind n nodes in
    let alone = alone_at n left right unused (heap.once n b.link.below) in
    let link : IsLink node (last_or no_node left) b.mid (first_or no_node right) n = record {
      below = b.link.below;
      start = b.link.start;
      some = b.link.some;
      previous = b.link.previous;
      next = b.link.next;
      kind = known;
    } in
    let here = with_node-here n node nodes n refl in
    let front = segment_same nodes new no_node 0 n b.mid left (with_same nodes n node left alone.in_left) b.front in
    let back = segment_same nodes new n (b.mid + (nodes n).units) no_node heap_units right (with_same nodes n node right alone.in_right) b.back in
    let P : Node → Type 0 = λ x. IsLink x (last_or no_node left) b.mid (first_or no_node right) n in
    let Q : Node → Type 0 = λ x. Segment new n (b.mid + x.units) no_node heap_units right in
    record {
      chain = chained new left n right (record { mid = b.mid; front = front; link = subst P (sym here) link; back = subst Q (sym here) back });
      spare = spare_same nodes new unused (with_same nodes n node unused alone.in_unused) heap.spare;
      once = heap.once;
      rest = λ k below. with_node_all (λ x. x.rest ≡ 0) n node nodes k (heap.rest n b.link.below) (heap.rest k below);
    }

-- Around a change, the nodes before it are as they were, and those behind it but for what the first of them names before it.
pub record Around (old new : ℕ → Node) (left : List ℕ) (before : ℕ) (right : List ℕ) : Type 0 where
  pub in_left : SameIn old new left
  pub in_right : (k : ℕ) → k < node_count → 1 ≤ times_in k right → (k ≡ first_or no_node right → ⊥) → new k ≡ old k
  pub first : (k : ℕ) → k < node_count → k ≡ first_or no_node right → new k ≡ with_previous before (old k)

pub around_left : (old new : ℕ → Node) (left : List ℕ) (before : ℕ) (right : List ℕ) (b f a t : ℕ) → Around old new left before right
    → Segment old b f a t left → AlikeIn old new left
around_left old new left before right b f a t around chain k some =
    alike_same (new k) (old k) (around.in_left k (segment_below old b f a t left k chain some) some)

pub around_right : (old new : ℕ → Node) (left : List ℕ) (before : ℕ) (right : List ℕ) (b f a t : ℕ) → Around old new left before right
    → Segment old b f a t right → AlikeIn old new right
around_right old new left before right b f a t around chain k some =
    let below = segment_below old b f a t right k chain some in
    let P : Node → Type 0 = λ x. Alike x (old k) in
    elim (cases_eq k (first_or no_node right)) [
      | inl same ↦ subst P (sym (around.first k below same)) (record { start = refl; units = refl; kind = refl })
      | inr other ↦ alike_same (new k) (old k) (around.in_right k below some other)
    ]

-- the nodes behind a change name another node before them
re_previous : (old new : ℕ → Node) (left : List ℕ) (before other : ℕ) (right : List ℕ) (from after to : ℕ) → Around old new left before right
    → ((k : ℕ) → k < node_count → times_in k right ≤ 1)
    → Segment old other from after to right → Segment new before from after to right
re_previous old new left before other [] from after to around once chain = chain
re_previous old new left before other (x ∷ xs) from after to around once chain =
    let here = around.first x chain.0.below refl in
    let Q : Node → Type 0 = λ node. IsLink node before from (first_or after xs) x × Segment new x (from + node.units) after to xs in
    let same : SameIn old new xs =
    λ k below some. around.in_right k below (omega (arith, some))
    (λ e. let one = single_here k x e in let most = once k below in omega (arith, one, most, some)) in
    let link : IsLink (with_previous before (old x)) before from (first_or after xs) x = record {
      below = chain.0.below;
      start = chain.0.start;
      some = chain.0.some;
      previous = refl;
      next = chain.0.next;
      kind = chain.0.kind;
    } in
    subst Q (sym here) (link, segment_same old new x (from + (old x).units) after to xs same chain.1)

-- two nodes are put, and then a third one is repointed
abbrev pub two_put : ℕ → ℕ → ℕ → Node → ℕ → Node → (ℕ → Node) → ℕ → Node
two_put third previous outer x inner y nodes = repointed third previous (with_node outer x (with_node inner y nodes))

two_other : (third previous outer : ℕ) (x : Node) (inner : ℕ) (y : Node) (nodes : ℕ → Node) (k : ℕ)
    → (k ≡ third → ⊥) → (k ≡ outer → ⊥) → (k ≡ inner → ⊥) → two_put third previous outer x inner y nodes k ≡ nodes k
unfolding repointed
two_other third previous outer x inner y nodes k not_third not_outer not_inner =
    with_node-other third (with_previous previous (with_node outer x (with_node inner y nodes) third)) (with_node outer x (with_node inner y nodes)) k not_third
    ∙ with_node-other outer x (with_node inner y nodes) k not_outer ∙ with_node-other inner y nodes k not_inner

two_third : (third previous outer : ℕ) (x : Node) (inner : ℕ) (y : Node) (nodes : ℕ → Node) (k : ℕ)
    → k ≡ third → (k ≡ outer → ⊥) → (k ≡ inner → ⊥) → two_put third previous outer x inner y nodes k ≡ with_previous previous (nodes k)
unfolding repointed
two_third third previous outer x inner y nodes k is_third not_outer not_inner =
    let before = with_node outer x (with_node inner y nodes) in
    with_node-here third (with_previous previous (before third)) before k is_third
    ∙ ap (λ (i : ℕ). with_previous previous (before i)) (sym is_third)
    ∙ ap (with_previous previous) (with_node-other outer x (with_node inner y nodes) k not_outer ∙ with_node-other inner y nodes k not_inner)

two_outer : (third previous outer : ℕ) (x : Node) (inner : ℕ) (y : Node) (nodes : ℕ → Node)
    → (outer ≡ third → ⊥) → two_put third previous outer x inner y nodes outer ≡ x
unfolding repointed
two_outer third previous outer x inner y nodes not_third =
    with_node-other third (with_previous previous (with_node outer x (with_node inner y nodes) third)) (with_node outer x (with_node inner y nodes)) outer not_third
    ∙ with_node-here outer x (with_node inner y nodes) outer refl

two_inner : (third previous outer : ℕ) (x : Node) (inner : ℕ) (y : Node) (nodes : ℕ → Node)
    → (inner ≡ third → ⊥) → (inner ≡ outer → ⊥) → two_put third previous outer x inner y nodes inner ≡ y
unfolding repointed
two_inner third previous outer x inner y nodes not_third not_outer =
    with_node-other third (with_previous previous (with_node outer x (with_node inner y nodes) third)) (with_node outer x (with_node inner y nodes)) inner not_third
    ∙ with_node-other outer x (with_node inner y nodes) inner not_outer ∙ with_node-here inner y nodes inner refl

two_rest : (third previous outer : ℕ) (x : Node) (inner : ℕ) (y : Node) (nodes : ℕ → Node)
    → x.rest ≡ 0 → y.rest ≡ 0 → ((k : ℕ) → k < node_count → (nodes k).rest ≡ 0)
    → (k : ℕ) → k < node_count → (two_put third previous outer x inner y nodes k).rest ≡ 0
unfolding repointed
two_rest third previous outer x inner y nodes zero_x zero_y zeros k below =
    let inner_zero : (i : ℕ) → i < node_count → (with_node inner y nodes i).rest ≡ 0 =
    λ i small. with_node_all (λ n. n.rest ≡ 0) inner y nodes i zero_y (zeros i small) in
    let outer_zero : (i : ℕ) → i < node_count → (with_node outer x (with_node inner y nodes) i).rest ≡ 0 =
    λ i small. with_node_all (λ n. n.rest ≡ 0) outer x (with_node inner y nodes) i zero_x (inner_zero i small) in
    let before = with_node outer x (with_node inner y nodes) in
    elim (cases_eq k third) [
      | inl same ↦ ap (λ (n : Node). n.rest) (with_node-here third (with_previous previous (before third)) before k same)
          ∙ ap (λ (i : ℕ). (before i).rest) (sym same) ∙ outer_zero k below
      | inr other ↦ ap (λ (n : Node). n.rest) (with_node-other third (with_previous previous (before third)) before k other) ∙ outer_zero k below
    ]

-- What two new nodes in place of one, or one in place of two, leave around them. `third` is the first node behind.
two_around : (third previous outer : ℕ) (x : Node) (inner : ℕ) (y : Node) (nodes : ℕ → Node) (left right rest : List ℕ)
    → third ≡ first_or no_node right
    → ((k : ℕ) → k < node_count → times_in k left + single k outer + single k inner + times_in k right + times_in k rest ≡ 1)
    → Around nodes (two_put third previous outer x inner y nodes) left previous right
two_around third previous outer x inner y nodes left right rest is_first once =
    let not_outer : (k : ℕ) → k < node_count → 1 ≤ times_in k left + times_in k right + times_in k rest → k ≡ outer → ⊥ =
    λ k below some e. let one = single_here k outer e in let sum = once k below in omega (arith, one, sum, some) in
    let not_inner : (k : ℕ) → k < node_count → 1 ≤ times_in k left + times_in k right + times_in k rest → k ≡ inner → ⊥ =
    λ k below some e. let one = single_here k inner e in let sum = once k below in omega (arith, one, sum, some) in
    record {
      in_left = λ k below some.
          two_other third previous outer x inner y nodes k
          (λ e. let more = first_in k right below (e ∙ is_first) in let sum = once k below in omega (arith, more, sum, some))
          (not_outer k below (omega (arith, some))) (not_inner k below (omega (arith, some)));
      in_right = λ k below some not_first.
          two_other third previous outer x inner y nodes k (λ e. not_first (e ∙ is_first))
          (not_outer k below (omega (arith, some))) (not_inner k below (omega (arith, some)));
      first = λ k below e.
          let more = first_in k right below e in
          two_third third previous outer x inner y nodes k (e ∙ sym is_first)
          (not_outer k below (omega (arith, more))) (not_inner k below (omega (arith, more)));
    }

-- the nodes of a third list are as they were
two_same : (third previous outer : ℕ) (x : Node) (inner : ℕ) (y : Node) (nodes : ℕ → Node) (left right rest : List ℕ)
    → third ≡ first_or no_node right
    → ((k : ℕ) → k < node_count → times_in k left + single k outer + single k inner + times_in k right + times_in k rest ≡ 1)
    → SameIn nodes (two_put third previous outer x inner y nodes) rest
two_same third previous outer x inner y nodes left right rest is_first once k below some =
    let sum = once k below in
    two_other third previous outer x inner y nodes k
    (λ e. let more = first_in k right below (e ∙ is_first) in omega (arith, more, sum, some))
    (λ e. let one = single_here k outer e in omega (arith, one, sum, some))
    (λ e. let one = single_here k inner e in omega (arith, one, sum, some))

abbrev pub block_part : ℕ → ℕ → ℕ → (ℕ → Node) → Node
block_part n units u nodes =
    record {
      start = (nodes n).start;
      units = units;
      previous = (nodes n).previous;
      next = u;
      kind = 2;
      rest = (nodes n).rest;
    }

abbrev pub hole_part : ℕ → ℕ → ℕ → (ℕ → Node) → Node
hole_part n units u nodes =
    record {
      start = (nodes n).start + units;
      units = (nodes n).units - units;
      previous = n;
      next = (nodes n).next;
      kind = 1;
      rest = (nodes u).rest;
    }

-- What splitting a hole does.
pub record Split (old new : ℕ → Node) (left : List ℕ) (n units u : ℕ) (right spare : List ℕ) : Type 0 where
  pub heap : IsHeapOf new (left ++ n ∷ u ∷ right) spare
  pub around : Around old new left u right
  pub block : new n ≡ block_part n units u old
  pub hole : new u ≡ hole_part n units u old

pub split_heap : (nodes : ℕ → Node) (n units u : ℕ) (left right spare : List ℕ) → 1 ≤ units → units < (nodes n).units
    → IsHeapOf nodes (left ++ n ∷ right) (u ∷ spare) → Split nodes (split_nodes n units u nodes) left n units u right spare
unfolding split_nodes
split_heap nodes n units u left right spare some room heap =
    let b = beside nodes left n right heap.chain in
    let x = block_part n units u nodes in
    let y = hole_part n units u nodes in
    let third = (nodes n).next in
    let new = two_put third u n x u y nodes in
    let is_first = b.link.next in
    let u_below = heap.spare.0.below in
    let once : (k : ℕ) → k < node_count → times_in k left + single k n + single k u + times_in k right + times_in k spare ≡ 1 =
    λ k below. let sum = times-around k left n right (u ∷ spare) in let all = heap.once k below in omega (arith, sum, all) in
    let around = two_around third u n x u y nodes left right spare is_first once in
    let n_not_third : n ≡ third → ⊥ =
    λ e. let more = first_in n right b.link.below (e ∙ is_first) in let sum = once n b.link.below in
    let one = single_here n n refl in omega (arith, more, sum, one) in
    let u_not_third : u ≡ third → ⊥ =
    λ e. let more = first_in u right u_below (e ∙ is_first) in let sum = once u u_below in
    let one = single_here u u refl in omega (arith, more, sum, one) in
    let u_not_n : u ≡ n → ⊥ =
    λ e. let sum = once u u_below in let one = single_here u u refl in let two = single_here u n e in omega (arith, sum, one, two) in
    let block : new n ≡ x = two_outer third u n x u y nodes n_not_third in
    let hole : new u ≡ y = two_inner third u n x u y nodes u_not_third u_not_n in
    let right_once : (k : ℕ) → k < node_count → times_in k right ≤ 1 =
    λ k below. let sum = once k below in omega (arith, sum) in
    let front = segment_same nodes new no_node 0 n b.mid left around.in_left b.front in
    let back = re_previous nodes new left u n right (b.mid + (nodes n).units) no_node heap_units around right_once b.back in
    let n_link : IsLink x (last_or no_node left) b.mid u n = record {
      below = b.link.below;
      start = b.link.start;
      some = some;
      previous = b.link.previous;
      next = refl;
      kind = inr refl;
    } in
    let u_link : IsLink y n (b.mid + units) (first_or no_node right) u = record {
      below = u_below;
      start = ap (λ (i : ℕ). i + units) b.link.start;
      some = omega (arith, room);
      previous = refl;
      next = b.link.next;
      kind = inl refl;
    } in
    let sum : b.mid + (nodes n).units ≡ b.mid + units + ((nodes n).units - units) = omega (arith, room) in
    let P : ℕ → Type 0 = λ i. Segment new u i no_node heap_units right in
    let U : Node → Type 0 = λ node. IsLink node n (b.mid + units) (first_or no_node right) u
    × Segment new u (b.mid + units + node.units) no_node heap_units right in
    let from_u = subst U (sym hole) (u_link, subst P sum back) in
    let N : Node → Type 0 = λ node. IsLink node (last_or no_node left) b.mid u n
    × Segment new n (b.mid + node.units) no_node heap_units (u ∷ right) in
    let from_n = subst N (sym block) (n_link, from_u) in
    record {
      heap = record {
        chain = segment_whole new no_node 0 no_node heap_units left (n ∷ u ∷ right) b.mid front from_n;
        spare = spare_same nodes new spare (two_same third u n x u y nodes left right spare is_first once) heap.spare.1;
        once = λ k below.
            let all = times-around k left n (u ∷ right) spare in let sum = once k below in omega (arith, all, sum);
        rest = two_rest third u n x u y nodes (heap.rest n b.link.below) (heap.rest u u_below) heap.rest;
      };
      around = around;
      block = block;
      hole = hole;
    }

abbrev pub joined_part : ℕ → ℕ → (ℕ → Node) → Node
joined_part n m nodes =
    record {
      start = (nodes n).start;
      units = (nodes n).units + (nodes m).units;
      previous = (nodes n).previous;
      next = (nodes m).next;
      kind = (nodes n).kind;
      rest = (nodes n).rest;
    }

abbrev pub unused_part : ℕ → ℕ → (ℕ → Node) → Node
unused_part m unused nodes =
    record {
      start = 0;
      units = 0;
      previous = 0;
      next = unused;
      kind = 0;
      rest = (nodes m).rest;
    }

-- What joining two holes does.
pub record Join (old new : ℕ → Node) (left : List ℕ) (n m : ℕ) (right unused : List ℕ) : Type 0 where
  pub heap : IsHeapOf new (left ++ n ∷ right) (m ∷ unused)
  pub around : Around old new left n right
  pub whole : new n ≡ joined_part n m old

pub join_heap : (nodes : ℕ → Node) (n m : ℕ) (left right unused : List ℕ)
    → IsHeapOf nodes (left ++ n ∷ m ∷ right) unused
    → Join nodes (joined_nodes n m (first_or no_node unused) nodes) left n m right unused
unfolding joined_nodes
join_heap nodes n m left right unused heap =
    let b = beside nodes left n (m ∷ right) heap.chain in
    let first = first_or no_node unused in
    let x = unused_part m first nodes in
    let y = joined_part n m nodes in
    let third = (nodes m).next in
    let new = two_put third n m x n y nodes in
    let is_first = b.back.0.next in
    let m_below = b.back.0.below in
    let once : (k : ℕ) → k < node_count → times_in k left + single k m + single k n + times_in k right + times_in k unused ≡ 1 =
    λ k below. let sum = times-around k left n (m ∷ right) unused in let all = heap.once k below in omega (arith, sum, all) in
    let around = two_around third n m x n y nodes left right unused is_first once in
    let n_not_third : n ≡ third → ⊥ =
    λ e. let more = first_in n right b.link.below (e ∙ is_first) in let sum = once n b.link.below in
    let one = single_here n n refl in omega (arith, more, sum, one) in
    let m_not_third : m ≡ third → ⊥ =
    λ e. let more = first_in m right m_below (e ∙ is_first) in let sum = once m m_below in
    let one = single_here m m refl in omega (arith, more, sum, one) in
    let n_not_m : n ≡ m → ⊥ =
    λ e. let sum = once n b.link.below in let one = single_here n n refl in let two = single_here n m e in omega (arith, sum, one, two) in
    let gone : new m ≡ x = two_outer third n m x n y nodes m_not_third in
    let whole : new n ≡ y = two_inner third n m x n y nodes n_not_third n_not_m in
    let right_once : (k : ℕ) → k < node_count → times_in k right ≤ 1 =
    λ k below. let sum = once k below in omega (arith, sum) in
    let front = segment_same nodes new no_node 0 n b.mid left around.in_left b.front in
    let back = re_previous nodes new left n m right (b.mid + (nodes n).units + (nodes m).units) no_node heap_units around right_once b.back.1 in
    let link : IsLink y (last_or no_node left) b.mid (first_or no_node right) n = record {
      below = b.link.below;
      start = b.link.start;
      some = omega (arith, b.link.some);
      previous = b.link.previous;
      next = b.back.0.next;
      kind = b.link.kind;
    } in
    let sum : b.mid + (nodes n).units + (nodes m).units ≡ b.mid + ((nodes n).units + (nodes m).units) = omega arith in
    let P : ℕ → Type 0 = λ i. Segment new n i no_node heap_units right in
    let N : Node → Type 0 = λ node. IsLink node (last_or no_node left) b.mid (first_or no_node right) n
    × Segment new n (b.mid + node.units) no_node heap_units right in
    let from_n = subst N (sym whole) (link, subst P sum back) in
    let S : Node → Type 0 = λ node. IsSpare node first m in
    let spare : IsSpare x first m = record { below = m_below; kind = refl; next = refl } in
    record {
      heap = record {
        chain = segment_whole new no_node 0 no_node heap_units left (n ∷ right) b.mid front from_n;
        spare = (
          subst S (sym gone) spare,
          spare_same nodes new unused (two_same third n m x n y nodes left right unused is_first once) heap.spare,
        );
        once = λ k below.
            let all = times-around k left n right (m ∷ unused) in let sum = once k below in omega (arith, all, sum);
        rest = two_rest third n m x n y nodes (heap.rest m m_below) (heap.rest n b.link.below) heap.rest;
      };
      around = around;
      whole = whole;
    }
