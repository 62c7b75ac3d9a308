-- What a call answers, and what it leaves, is settled by the lists before it.
use Rattle.std.proofs.Common.{◌≡◌, ◌≢◌, ◌⊎◌, inl, inr, ℕ, ◌<◌, List, [], ◌∷◌, ◌++◌, length, get_or, Option, None, Some, refl, subst, sym, ap, ◌∙◌, arith}
use Rattle.std.specs.Prelude.{All, AllPairs, Any, Contains}
use Rattle.std.proofs.lemmas.List.{get_or_default}
use Rattle.std.proofs.lemmas.List.Elements.{All-head, All-tail, All-weaker}
use Rattle.mpi_types.specs.declared.message.Message.{Message}
use Rattle.mpi_types.specs.declared.message.Posted.{Posted}
use Rattle.mpi_types.specs.declared.message.Hit.{Hit}
use Rattle.mpi_types.specs.declared.lists.MatchedPair.{MatchedPair}
use Rattle.mpi_types.specs.declared.lists.BookLists.{BookLists}
use Rattle.mpi_types.specs.declared.book.Completion.{Completion}
use Rattle.mpi_types.specs.declared.book.Completion.TheVariants.{Done, NotYet}
use Rattle.mpi_types.specs.Accepts.{IsAcceptedBy}
use Rattle.mpi_types.specs.First.{NoneOf, IsFirst}
use Rattle.mpi_types.specs.Book.{IsWaiting, IsMatched, IsReceiveOf, IsMessageOf, IsOrderly}
use Rattle.mpi_types.specs.Post.{IsInserted, Posts, Arrives, Ends, Completes}
use Rattle.mpi_types.proofs.ListLemmas.{All-middle, AllPairs-before}
use Rattle.mpi_types.proofs.BookLemmas.{Lower}

-- the parts of two splits of one list
pub record AreSame {X : Type 0} (before before' : List X) (x x' : X) (behind behind' : List X) : Type 0 where
  pub before_same : before ≡ before'
  pub same : x ≡ x'
  pub behind_same : behind ≡ behind'

heads : {X : Type 0} (x y : X) (xs ys : List X) → x ∷ xs ≡ y ∷ ys → x ≡ y
heads x y xs ys e = cc

tails : {X : Type 0} (x y : X) (xs ys : List X) → x ∷ xs ≡ y ∷ ys → xs ≡ ys
tails x y xs ys e = cc

-- a list has one first element that meets a condition
first_once : {X : Type 0} (P : X → Type 0) (b b' : List X) (x x' : X) (h h' : List X) → b ++ x ∷ h ≡ b' ++ x' ∷ h'
    → P x → NoneOf P b → P x' → NoneOf P b' → AreSame b b' x x' h h'
first_once P [] [] x x' h h' e p n p' n' = record { before_same = refl; same = heads x x' h h' e; behind_same = tails x x' h h' e }
first_once P [] (c ∷ b') x x' h h' e p n p' n' =
    absurd (All-head (λ y. P y → ⊥) c b' n' (subst P (heads x c h (b' ++ x' ∷ h') e) p))
first_once P (c ∷ b) [] x x' h h' e p n p' n' =
    absurd (All-head (λ y. P y → ⊥) c b n (subst P (sym (heads c x' (b ++ x ∷ h) h' e)) p'))
first_once P (c ∷ b) (c' ∷ b') x x' h h' e p n p' n' =
    let rest = first_once P b b' x x' h h' (tails c c' (b ++ x ∷ h) (b' ++ x' ∷ h') e) p
    (All-tail (λ y. P y → ⊥) c b n) p' (All-tail (λ y. P y → ⊥) c' b' n') in
    let front : c ∷ b ≡ c' ∷ b' = cc (heads c c' (b ++ x ∷ h) (b' ++ x' ∷ h') e, rest.before_same) in
    record { before_same = front; same = rest.same; behind_same = rest.behind_same }

-- none meets it, and one does
pub none_and_first : {X : Type 0} (P : X → Type 0) (xs before : List X) (x : X) (behind : List X)
    → NoneOf P xs → IsFirst P xs before x behind → ⊥
none_and_first {X = X} P xs before x behind none first =
    let Q : List X → Type 0 = λ ys. NoneOf P ys in
    All-middle (λ y. P y → ⊥) before x behind (subst Q first.parts none) first.meets

pub firsts_same : {X : Type 0} (P : X → Type 0) (xs b b' : List X) (x x' : X) (h h' : List X)
    → IsFirst P xs b x h → IsFirst P xs b' x' h' → AreSame b b' x x' h h'
firsts_same P xs b b' x x' h h' f g =
    first_once P b b' x x' h h' (sym f.parts ∙ g.parts) f.meets f.none_before g.meets g.none_before

-- a pair has one place by request
record ArePlaces (l l' h h' : List MatchedPair) : Type 0 where
  lower_same : l ≡ l'
  higher_same : h ≡ h'

place_once : (n : ℕ) (l l' h h' : List MatchedPair) → l ++ h ≡ l' ++ h'
    → All (λ p. p.receive.request < n) l → All (λ p. n < p.receive.request) h
    → All (λ p. p.receive.request < n) l' → All (λ p. n < p.receive.request) h' → ArePlaces l l' h h'
place_once n [] [] h h' e a b a' b' = record { lower_same = refl; higher_same = e }
place_once n [] (c ∷ l') h h' e a b a' b' =
    let Q : List MatchedPair → Type 0 = All (λ p. n < p.receive.request) in
    let above : n < c.receive.request = All-head (λ p. n < p.receive.request) c (l' ++ h') (subst Q e b) in
    let below : c.receive.request < n = All-head (λ p. p.receive.request < n) c l' a' in absurd (omega arith)
place_once n (c ∷ l) [] h h' e a b a' b' =
    let Q : List MatchedPair → Type 0 = All (λ p. n < p.receive.request) in
    let above : n < c.receive.request = All-head (λ p. n < p.receive.request) c (l ++ h) (subst Q (sym e) b') in
    let below : c.receive.request < n = All-head (λ p. p.receive.request < n) c l a in absurd (omega arith)
place_once n (c ∷ l) (c' ∷ l') h h' e a b a' b' =
    let rest = place_once n l l' h h' (tails c c' (l ++ h) (l' ++ h') e) (All-tail (λ p. p.receive.request < n) c l a) b
    (All-tail (λ p. p.receive.request < n) c' l' a') b' in
    let front : c ∷ l ≡ c' ∷ l' = cc (heads c c' (l ++ h) (l' ++ h') e, rest.lower_same) in
    record { lower_same = front; higher_same = rest.higher_same }

inserted_once : (old new new' : List MatchedPair) (pair : MatchedPair)
    → IsInserted old new pair → IsInserted old new' pair → new ≡ new'
inserted_once old new new' pair i j =
    let places = place_once pair.receive.request i.lower j.lower i.higher j.higher (sym i.before ∙ j.before)
    i.all_lower i.all_higher j.all_lower j.all_higher in
    let middle : i.lower ++ pair ∷ i.higher ≡ j.lower ++ pair ∷ j.higher =
    ap (λ l. l ++ pair ∷ i.higher) places.lower_same ∙ ap (λ h. j.lower ++ pair ∷ h) places.higher_same in
    i.now ∙ middle ∙ sym j.now

inserted_same : (old new new' : List MatchedPair) (pair pair' : MatchedPair) → pair ≡ pair'
    → IsInserted old new pair → IsInserted old new' pair' → new ≡ new'
inserted_same old new new' pair pair' e i j =
    let P : MatchedPair → Type 0 = λ p. IsInserted old new' p in inserted_once old new new' pair i (subst P (sym e) j)

lists_same : (a b : BookLists) → a.posted ≡ b.posted → a.matched ≡ b.matched → a.arrived ≡ b.arrived → a ≡ b
lists_same a b p m r =
    let with : List Posted → List MatchedPair → List Message → BookLists = λ x y z. record { posted = x; matched = y; arrived = z } in
    ap (λ x. with x a.matched a.arrived) p ∙ ap (λ y. with b.posted y a.arrived) m ∙ ap (λ z. with b.posted b.matched z) r

pub Posts-once : (old : BookLists) (receive : Posted) (x y : Option Hit) (new new' : BookLists)
    → Posts old receive x new → Posts old receive y new' → (x ≡ y) × (new ≡ new')
Posts-once old receive None None new new' p q = (refl, p.1 ∙ sym q.1)
Posts-once old receive None (Some y) new new' p q =
    absurd (none_and_first (IsAcceptedBy receive) old.arrived q.before q.message q.behind p.0 q.first)
Posts-once old receive (Some x) None new new' p q =
    absurd (none_and_first (IsAcceptedBy receive) old.arrived p.before p.message p.behind q.0 p.first)
Posts-once old receive (Some x) (Some y) new new' p q =
    let same = firsts_same (IsAcceptedBy receive) old.arrived p.before q.before p.message q.message p.behind q.behind p.first q.first in
    let with : Message → MatchedPair = λ m. record { receive = receive; message = m } in
    let hit : Message → Hit = λ m. record { request = receive.request; sender = m.sender } in (
      ap Some (p.told ∙ ap hit same.same ∙ sym q.told),
      lists_same new new' (p.posted ∙ sym q.posted)
          (inserted_same old.matched new.matched new'.matched (with p.message) (with q.message) (ap with same.same) p.matched q.matched)
          (p.arrived ∙ ap (λ l. l ++ p.behind) same.before_same ∙ ap (λ l. q.before ++ l) same.behind_same ∙ sym q.arrived),
    )

pub Arrives-once : (old : BookLists) (message : Message) (x y : Option Hit) (new new' : BookLists)
    → Arrives old message x new → Arrives old message y new' → (x ≡ y) × (new ≡ new')
Arrives-once old message None None new new' p q = (refl, p.1 ∙ sym q.1)
Arrives-once old message None (Some y) new new' p q =
    absurd (none_and_first (λ r. IsAcceptedBy r message) old.posted q.before q.receive q.behind p.0 q.first)
Arrives-once old message (Some x) None new new' p q =
    absurd (none_and_first (λ r. IsAcceptedBy r message) old.posted p.before p.receive p.behind q.0 p.first)
Arrives-once old message (Some x) (Some y) new new' p q =
    let same = firsts_same (λ r. IsAcceptedBy r message) old.posted p.before q.before p.receive q.receive p.behind q.behind p.first q.first in
    let with : Posted → MatchedPair = λ r. record { receive = r; message = message } in
    let hit : Posted → Hit = λ r. record { request = r.request; sender = message.sender } in (
      ap Some (p.told ∙ ap hit same.same ∙ sym q.told),
      lists_same new new'
          (p.posted ∙ ap (λ l. l ++ p.behind) same.before_same ∙ ap (λ l. q.before ++ l) same.behind_same ∙ sym q.posted)
          (inserted_same old.matched new.matched new'.matched (with p.receive) (with q.receive) (ap with same.same) p.matched q.matched)
          (p.arrived ∙ sym q.arrived),
    )

-- no waiting request is matched
pub waiting_and_pair : (l : BookLists) (n : ℕ) (lower : List MatchedPair) (pair : MatchedPair) (higher : List MatchedPair)
    → IsOrderly l → IsWaiting l n → l.matched ≡ lower ++ pair ∷ higher → pair.receive.request ≡ n → ⊥
waiting_and_pair l n lower pair higher orderly waiting parts number =
    let receive = waiting.1 in
    let P : Posted → Type 0 = λ r. All (λ p. r.request ≢ p.receive.request) l.matched in
    let apart : P receive = subst P waiting.3 (orderly.apart waiting.0 receive waiting.2) in
    let Q : List MatchedPair → Type 0 = All (λ p. receive.request ≢ p.receive.request) in
    All-middle (λ p. receive.request ≢ p.receive.request) lower pair higher (subst Q parts apart) (waiting.4 ∙ sym number)

pub waiting_and_matched : (l : BookLists) (n : ℕ) → IsOrderly l → IsWaiting l n → IsMatched l n → ⊥
waiting_and_matched l n orderly waiting matched =
    let receive = waiting.1 in
    let P : Posted → Type 0 = λ r. All (λ p. r.request ≢ p.receive.request) l.matched in
    let apart : P receive = subst P waiting.3 (orderly.apart waiting.0 receive waiting.2) in
    let Q : MatchedPair → Type 0 = λ p. receive.request ≢ p.receive.request in
    subst Q matched.3 (apart matched.0 matched.1 matched.2) (waiting.4 ∙ sym matched.4)

ends_same : (old : BookLists) (n : ℕ) (m m' : Message) (new new' : BookLists) → IsOrderly old
    → Ends old n m new → Ends old n m' new' → (m ≡ m') × (new ≡ new')
ends_same old n m m' new new' orderly p q =
    let pair : MatchedPair = record { receive = p.receive; message = m } in
    let pair' : MatchedPair = record { receive = q.receive; message = m' } in
    let Q : List MatchedPair → Type 0 = AllPairs Lower in
    let none : NoneOf (λ x. x.receive.request ≡ n) p.lower =
    All-weaker (λ x. Lower x pair) (λ x. x.receive.request ≡ n → ⊥) (λ x lt e. let num = p.number in omega arith) p.lower
    (AllPairs-before Lower p.lower pair p.higher (subst Q p.before orderly.matched_ascend)) in
    let none' : NoneOf (λ x. x.receive.request ≡ n) q.lower =
    All-weaker (λ x. Lower x pair') (λ x. x.receive.request ≡ n → ⊥) (λ x lt e. let num = q.number in omega arith) q.lower
    (AllPairs-before Lower q.lower pair' q.higher (subst Q q.before orderly.matched_ascend)) in
    let same = first_once (λ x. x.receive.request ≡ n) p.lower q.lower pair pair' p.higher q.higher (sym p.before ∙ q.before)
    p.number none q.number none' in
    let left : List MatchedPair → BookLists = λ l. record { posted = old.posted; matched = l; arrived = old.arrived } in (
      ap (λ x. x.message) same.same,
      p.now ∙ ap left (ap (λ l. l ++ p.higher) same.before_same ∙ ap (λ l. q.lower ++ l) same.behind_same) ∙ sym q.now,
    )

pub Completes-once : (old : BookLists) (n : ℕ) (x y : Completion) (new new' : BookLists) → IsOrderly old
    → Completes old n x new → Completes old n y new' → (x ≡ y) × (new ≡ new')
Completes-once old n NotYet NotYet new new' orderly p q = (refl, p.1 ∙ sym q.1)
Completes-once old n NotYet (Done m) new new' orderly p q =
    absurd (waiting_and_pair old n q.lower (record { receive = q.receive; message = m }) q.higher orderly p.0 q.before q.number)
Completes-once old n (Done m) NotYet new new' orderly p q =
    absurd (waiting_and_pair old n p.lower (record { receive = p.receive; message = m }) p.higher orderly q.0 p.before p.number)
Completes-once old n (Done m) (Done m') new new' orderly p q =
    let same = ends_same old n m m' new new' orderly p q in (ap Done same.0, same.1)

order_of : (i j : ℕ) → (i ≡ j) ⊎ ((i < j) ⊎ (j < i))
order_of i j = grind arith

-- elements of a list by whose number each is below all later ones
number_once : {X : Type 0} (number : X → ℕ) (xs : List X) (i j : ℕ) (a b : X)
    → AllPairs (λ x y. number x < number y) xs → i < length xs → j < length xs
    → get_or xs i a ≡ a → get_or xs j b ≡ b → number a ≡ number b → a ≡ b
number_once {X = X} number xs i j a b ascend in_i in_j is_a is_b e = elim (order_of i j) [
  | inl same ↦ sym is_a ∙ ap (λ k. get_or xs k a) same ∙ get_or_default xs j a b in_j ∙ is_b
  | inr (inl below) ↦
      let lt : number (get_or xs i a) < number (get_or xs j a) = ascend i j a below in_j in
      let at_a : number (get_or xs i a) ≡ number a = ap number is_a in
      let at_b : number (get_or xs j a) ≡ number b = ap number (get_or_default xs j a b in_j ∙ is_b) in
      absurd (omega arith)
  | inr (inr above) ↦
      let lt : number (get_or xs j b) < number (get_or xs i b) = ascend j i b above in_i in
      let at_b : number (get_or xs j b) ≡ number b = ap number is_b in
      let at_a : number (get_or xs i b) ≡ number a = ap number (get_or_default xs i b a in_i ∙ is_a) in
      absurd (omega arith)
]

pair_of_receive : (l : BookLists) (n : ℕ) (receive : Posted) → receive.request ≡ n
    → Any (λ pair. pair.receive ≡ receive) l.matched → IsMatched l n
pair_of_receive l n receive number found =
    (found.0, found.1, found.2, found.3, ap (λ r. r.request) found.4 ∙ number)

receive_waits : (l : BookLists) (n : ℕ) (receive : Posted) → receive.request ≡ n → Contains l.posted receive → IsWaiting l n
receive_waits l n receive number found = (found.0, receive, found.1, found.2, number)

receives_same : (l : BookLists) (n : ℕ) (r s : Posted) → IsOrderly l → r.request ≡ n → s.request ≡ n
    → Contains l.posted r ⊎ Any (λ pair. pair.receive ≡ r) l.matched
    → Contains l.posted s ⊎ Any (λ pair. pair.receive ≡ s) l.matched → r ≡ s
receives_same l n r s orderly a b (inl p) (inl q) =
    number_once (λ (x : Posted). x.request) l.posted p.0 q.0 r s orderly.posted_ascend p.1 q.1 p.2 q.2 (a ∙ sym b)
receives_same l n r s orderly a b (inl p) (inr q) =
    absurd (waiting_and_matched l n orderly (receive_waits l n r a p) (pair_of_receive l n s b q))
receives_same l n r s orderly a b (inr p) (inl q) =
    absurd (waiting_and_matched l n orderly (receive_waits l n s b q) (pair_of_receive l n r a p))
receives_same l n r s orderly a b (inr p) (inr q) =
    let same = number_once (λ (x : MatchedPair). x.receive.request) l.matched p.0 q.0 p.1 q.1 orderly.matched_ascend p.2 q.2 p.3 q.3
    (ap (λ x. x.request) p.4 ∙ a ∙ sym b ∙ sym (ap (λ x. x.request) q.4)) in
    sym p.4 ∙ ap (λ x. x.receive) same ∙ q.4

pub receive_once : (l : BookLists) (n : ℕ) (r s : Posted) → IsOrderly l → IsReceiveOf l n r → IsReceiveOf l n s → r ≡ s
receive_once l n r s orderly p q =
    receives_same l n r s orderly p.number q.number p.live q.live

pub message_once : (l : BookLists) (n : ℕ) (m o : Message) → IsOrderly l → IsMessageOf l n m → IsMessageOf l n o → m ≡ o
message_once l n m o orderly p q =
    let same = number_once (λ (x : MatchedPair). x.receive.request) l.matched p.0 q.0 p.1 q.1 orderly.matched_ascend p.2 q.2 p.3 q.3
    (p.4.0 ∙ sym q.4.0) in
    sym p.4.1 ∙ ap (λ x. x.message) same ∙ q.4.1
