-- What a member holds of its children is whole just where the messages of all of them are there.
use Rattle.std.proofs.Common.{ℕ, zero, suc, ◌≡◌, ◌+◌, ◌-◌, ◌<◌, ◌≤◌, inl, inr, List, [], ◌∷◌, ◌++◌, map, Bool, true, false, ◌&&◌, Option, Some, None, refl, sym, subst, ap, ◌∙◌, arith, append_assoc}
use Rattle.std.specs.Prelude.{nat_eq, nat_lt, is_some, filter}
use Rattle.std.specs.Option.{option_to_list}
use Rattle.std.specs.List.{list_all}
use Rattle.std.proofs.lemmas.Bool.{cases_Bool, and_parts, eq-eqb, ne_eqb, ltb-true, ltb-false, true≢false, cond-true, cond-false}
use Rattle.mpi_types.specs.declared.argument.Arg.{Arg}
use Rattle.mpi_types.specs.declared.argument.TreeMsg.{TreeMsg}
use Rattle.mpi_types.specs.declared.argument.Joined.{Joined}
use Rattle.mpi_types.specs.declared.context.Level.{Level}
use Rattle.collectives.specs.Tree.{end_of, parent_of, children, children_from}
use Rattle.collectives.specs.Held.{following, ends_at, are_from, is_up_of, up_args, here_of}
use Rattle.collectives.specs.Slices.{Given, slice, subtree_of, HaveJoined, AreNumbered, up_of}
use Rattle.collectives.proofs.HeldLemmas.{follows_on, following-append, own_first}
use Rattle.collectives.proofs.TreeLemmas.{end_behind, end_within, end_nested, parent_first, parent_next}

-- a member that has joined has an argument
pub has_some : (o : Option Arg) → is_some o ≡ true → (a : Arg) × (o ≡ Some a)
has_some None e = absurd (true≢false (sym e))
has_some (Some a) e = (a, refl)

pub slice_more : (given : Given) (i k : ℕ) (a : Arg) → given i ≡ Some a → slice given i (suc k) ≡ a ∷ slice given (i + 1) k
slice_more given i k a e = ap (λ o. option_to_list o ++ slice given (i + 1) k) e

pub slice_append : (given : Given) (i k l : ℕ) → slice given i (k + l) ≡ slice given i k ++ slice given (i + k) l
slice_append given i zero l = let e : 0 + l ≡ l = omega arith in let f : i + 0 ≡ i = omega arith in rw (e, f) refl
slice_append given i (suc k) l =
    let e : suc k + l ≡ suc (k + l) = omega arith in
    let f : (i + 1) + k ≡ i + suc k = omega arith in
    rw e (ap (λ xs. option_to_list (given i) ++ xs) (slice_append given (i + 1) k l ∙ ap (λ m. slice given (i + 1) k ++ slice given m l) f)
    ∙ sym (append_assoc (option_to_list (given i)) (slice given (i + 1) k) (slice given (i + suc k) l)))

pub following_slice : (given : Given) (i k : ℕ) → AreNumbered given → HaveJoined given i (i + k) → following i (slice given i k) ≡ Some (i + k)
following_slice given i zero own joined = let e : i + 0 ≡ i = omega arith in rw e refl
following_slice given i (suc k) own joined =
    let one = has_some (given i) (joined i (omega arith) (omega arith)) in
    let number : one.0.member ≡ i = own i one.0 one.1 in
    let f : (i + 1) + k ≡ i + suc k = omega arith in
    let rest : following (i + 1) (slice given (i + 1) k) ≡ Some ((i + 1) + k) = following_slice given (i + 1) k own (λ x low high. joined x (omega arith) (omega arith)) in
    ap (following i) (slice_more given i k one.0 one.1)
    ∙ (cond-true (nat_eq one.0.member i) (following (i + 1) (slice given (i + 1) k)) None (eq-eqb one.0.member i number) ∙ (rest ∙ ap Some f))

pub following_subtree : (n : ℕ) (given : Given) (c : ℕ) → c < n → AreNumbered given → HaveJoined given c (end_of n c) → following c (subtree_of n given c) ≡ Some (end_of n c)
following_subtree n given c within own joined =
    let more : c < end_of n c = end_behind n c within in
    let e : c + (end_of n c - c) ≡ end_of n c = omega arith in
    let P : ℕ → Type 0 = λ x. HaveJoined given c x in
    following_slice given c (end_of n c - c) own (subst P (sym e) joined) ∙ ap Some e

-- the arguments that messages of these members bring
abbrev pub brought : ℕ → Given → List ℕ → List Arg
brought n given [] = []
brought n given (c ∷ cs) = subtree_of n given c ++ brought n given cs

-- the arguments of messages
abbrev args_of_all : List TreeMsg → List Arg
args_of_all [] = []
args_of_all (m ∷ list) = m.args ++ args_of_all list

up_args_are : (ctx : List Level) (position : ℕ) (tree : List TreeMsg) → up_args ctx position tree ≡ args_of_all (filter (is_up_of ctx position) tree)
up_args_are ctx position [] = refl
up_args_are ctx position (m ∷ tree) = elim (cases_Bool (is_up_of ctx position m)) [
  | inl t ↦ rw t (ap (λ xs. m.args ++ xs) (up_args_are ctx position tree))
  | inr f ↦ rw f (up_args_are ctx position tree)
]

args_brought : (ctx : List Level) (position n : ℕ) (given : Given) (cs : List ℕ) → args_of_all (map (up_of ctx position n given) cs) ≡ brought n given cs
args_brought ctx position n given [] = refl
args_brought ctx position n given (c ∷ cs) = ap (λ xs. subtree_of n given c ++ xs) (args_brought ctx position n given cs)

pub up_args_brought : (ctx : List Level) (position n : ℕ) (given : Given) (tree : List TreeMsg) (cs : List ℕ)
    → filter (is_up_of ctx position) tree ≡ map (up_of ctx position n given) cs → up_args ctx position tree ≡ brought n given cs
up_args_brought ctx position n given tree cs is =
    up_args_are ctx position tree ∙ (ap args_of_all is ∙ args_brought ctx position n given cs)

-- the arguments from a child on, where all are there
chain_whole : (k n i c : ℕ) (given : Given) (held : ℕ → Bool) → i < n → n ≤ 65536 → i < c → c ≤ end_of n i → end_of n i - c ≤ k → (c < end_of n i → parent_of c ≡ i)
    → list_all held (children_from k n c (end_of n i)) ≡ true
    → brought n given (filter held (children_from k n c (end_of n i))) ≡ slice given c (end_of n i - c)
chain_whole zero n i c given held within room behind low fuel is all =
    let e : end_of n i - c ≡ 0 = omega arith in sym (ap (slice given c) e)
chain_whole (suc k) n i c given held within room behind low fuel is all = elim (cases_Bool (nat_lt c (end_of n i))) [
  | inr f ↦
      let e : end_of n i - c ≡ 0 = let h : end_of n i ≤ c = ltb-false c (end_of n i) f in omega arith in
      rw f (sym (ap (slice given c) e))
  | inl t ↦
      let e : ℕ = end_of n i in
      let less : c < e = ltb-true c e t in
      let inside : c < n = omega (arith, end_within n i) in
      let more : c < end_of n c = end_behind n c inside in
      let P : ℕ → Type 0 = λ x. end_of n c ≤ end_of n x in
      let nest : end_of n c ≤ e = subst P (is less) (end_nested n c (omega arith) inside room) in
      let Q : ℕ → Type 0 = λ x. end_of n c < end_of n x in
      let next : end_of n c < e → parent_of (end_of n c) ≡ i = λ q. parent_next n c (omega arith) inside room (subst Q (sym (is less)) q) ∙ is less in
      let rest : List ℕ = children_from k n (end_of n c) e in
      let these : children_from (suc k) n c e ≡ c ∷ rest = cond-true (nat_lt c e) (c ∷ rest) [] t in
      let both = and_parts (held c) (list_all held rest) (sym (ap (list_all held) these) ∙ all) in
      let later : brought n given (filter held rest) ≡ slice given (end_of n c) (e - end_of n c) =
      chain_whole k n i (end_of n c) given held within room (omega arith) nest (omega arith) next both.1 in
      let sum_is : (end_of n c - c) + (e - end_of n c) ≡ e - c = omega arith in
      let at : c + (end_of n c - c) ≡ end_of n c = omega arith in
      ap (λ xs. brought n given (filter held xs)) these
      ∙ (ap (brought n given) (cond-true (held c) (c ∷ filter held rest) (filter held rest) both.0)
      ∙ (ap (λ xs. subtree_of n given c ++ xs) later
      ∙ (ap (λ m. subtree_of n given c ++ slice given m (e - end_of n c)) (sym at)
      ∙ (sym (slice_append given c (end_of n c - c) (e - end_of n c)) ∙ ap (slice given c) sum_is))))
]

-- what later children bring doesn't follow on an earlier number
not_following : (k n c d e : ℕ) (given : Given) (held : ℕ → Bool) → c < d → c < e → e ≤ n → AreNumbered given
    → ((x : ℕ) → x < n → held x ≡ true → HaveJoined given x (end_of n x))
    → ends_at e (following c (brought n given (filter held (children_from k n d e)))) ≡ false
not_following zero n c d e given held less under cut own joined = ne_eqb c e (λ q. absurd (omega arith))
not_following (suc k) n c d e given held less under cut own joined = elim (cases_Bool (nat_lt d e)) [
  | inr f ↦ rw f (ne_eqb c e (λ q. absurd (omega arith)))
  | inl t ↦
      let inside : d < n = let h : d < e = ltb-true d e t in omega arith in
      let more : d < end_of n d = end_behind n d inside in
      let rest : List ℕ = children_from k n (end_of n d) e in
      let these : children_from (suc k) n d e ≡ d ∷ rest = cond-true (nat_lt d e) (d ∷ rest) [] t in
      let step : ends_at e (following c (brought n given (filter held (children_from (suc k) n d e)))) ≡ ends_at e (following c (brought n given (filter held (d ∷ rest)))) =
      ap (λ xs. ends_at e (following c (brought n given (filter held xs)))) these in
      step ∙ (elim (cases_Bool (held d)) [
        | inr no_message ↦
            ap (λ xs. ends_at e (following c (brought n given xs))) (cond-false (held d) (d ∷ filter held rest) (filter held rest) no_message)
            ∙ not_following k n c (end_of n d) e given held (omega arith) under cut own joined
        | inl there ↦
            let one = has_some (given d) (joined d inside there d (omega arith) more) in
            let size : ℕ = end_of n d - d - 1 in
            let long : end_of n d - d ≡ suc size = omega arith in
            let first : subtree_of n given d ≡ one.0 ∷ slice given (d + 1) size = ap (slice given d) long ∙ slice_more given d size one.0 one.1 in
            let other : nat_eq one.0.member c ≡ false = ne_eqb one.0.member c (λ q. absurd (omega (arith, own d one.0 one.1))) in
            let tail : List Arg = slice given (d + 1) size ++ brought n given (filter held rest) in
            ap (λ xs. ends_at e (following c (brought n given xs))) (cond-true (held d) (d ∷ filter held rest) (filter held rest) there)
            ∙ (ap (λ xs. ends_at e (following c (xs ++ brought n given (filter held rest)))) first
            ∙ ap (ends_at e) (cond-false (nat_eq one.0.member c) (following (c + 1) tail) None other))
      ])
]

-- where a child's message is wanting, the arguments aren't whole
chain_missing : (k n i c : ℕ) (given : Given) (held : ℕ → Bool) → i < n → n ≤ 65536 → i < c → c ≤ end_of n i → (c < end_of n i → parent_of c ≡ i) → AreNumbered given
    → ((x : ℕ) → x < n → held x ≡ true → HaveJoined given x (end_of n x))
    → list_all held (children_from k n c (end_of n i)) ≡ false
    → ends_at (end_of n i) (following c (brought n given (filter held (children_from k n c (end_of n i))))) ≡ false
chain_missing zero n i c given held within room behind low is own joined some = absurd (true≢false some)
chain_missing (suc k) n i c given held within room behind low is own joined some = elim (cases_Bool (nat_lt c (end_of n i))) [
  | inr f ↦ absurd (true≢false (sym (ap (list_all held) (cond-false (nat_lt c (end_of n i)) (c ∷ children_from k n (end_of n c) (end_of n i)) [] f)) ∙ some))
  | inl t ↦
      let e : ℕ = end_of n i in
      let less : c < e = ltb-true c e t in
      let inside : c < n = omega (arith, end_within n i) in
      let more : c < end_of n c = end_behind n c inside in
      let P : ℕ → Type 0 = λ x. end_of n c ≤ end_of n x in
      let nest : end_of n c ≤ e = subst P (is less) (end_nested n c (omega arith) inside room) in
      let Q : ℕ → Type 0 = λ x. end_of n c < end_of n x in
      let next : end_of n c < e → parent_of (end_of n c) ≡ i = λ q. parent_next n c (omega arith) inside room (subst Q (sym (is less)) q) ∙ is less in
      let rest : List ℕ = children_from k n (end_of n c) e in
      let these : children_from (suc k) n c e ≡ c ∷ rest = cond-true (nat_lt c e) (c ∷ rest) [] t in
      let some_here : (held c && list_all held rest) ≡ false = sym (ap (list_all held) these) ∙ some in
      ap (λ xs. ends_at e (following c (brought n given (filter held xs)))) these
      ∙ (elim (cases_Bool (held c)) [
        | inr no_message ↦
            ap (λ xs. ends_at e (following c (brought n given xs))) (cond-false (held c) (c ∷ filter held rest) (filter held rest) no_message)
            ∙ not_following k n c (end_of n c) e given held more less (end_within n i) own joined
        | inl there ↦
            let later : list_all held rest ≡ false = sym (ap (λ b. b && list_all held rest) there) ∙ some_here in
            let follows : following c (subtree_of n given c) ≡ Some (end_of n c) = following_subtree n given c inside own (joined c inside there) in
            ap (λ xs. ends_at e (following c (brought n given xs))) (cond-true (held c) (c ∷ filter held rest) (filter held rest) there)
            ∙ (ap (ends_at e) (following-append c (subtree_of n given c) (brought n given (filter held rest)) ∙ ap (λ o. follows_on o (brought n given (filter held rest))) follows)
            ∙ chain_missing k n i (end_of n c) given held within room (omega arith) nest next own joined later)
      ])
]

-- A member that has joined, and holds the messages of some of its children, each of which brings a whole subtree.
pub record HoldsOf (n : ℕ) (given : Given) (held : ℕ → Bool) (j : Joined) (tree : List TreeMsg) : Type 0 where
  pub within : j.arg.member < n
  pub room : n ≤ 65536
  pub own : given j.arg.member ≡ Some j.arg
  pub numbered : AreNumbered given
  pub messages : filter (is_up_of j.ctx j.position) tree ≡ map (up_of j.ctx j.position n given) (filter held (children n j.arg.member))
  pub whole : (x : ℕ) → x < n → held x ≡ true → HaveJoined given x (end_of n x)

-- where all are there, it holds the arguments of its subtree
pub holds_whole : (n : ℕ) (given : Given) (held : ℕ → Bool) (j : Joined) (tree : List TreeMsg) → HoldsOf n given held j tree
    → list_all held (children n j.arg.member) ≡ true → here_of j tree ≡ subtree_of n given j.arg.member
holds_whole n given held j tree h all =
    let m : ℕ = j.arg.member in
    let more : m < end_of n m = end_behind n m h.within in
    let size : ℕ = end_of n m - (m + 1) in
    let long : end_of n m - m ≡ suc size = omega arith in
    let rest : up_args j.ctx j.position tree ≡ slice given (m + 1) size =
    up_args_brought j.ctx j.position n given tree (filter held (children n m)) h.messages
    ∙ chain_whole n n m (m + 1) given held h.within h.room (omega arith) (omega arith) (omega (arith, end_within n m)) (λ q. parent_first n m h.within h.room q) all in
    ap (λ xs. j.arg ∷ xs) rest ∙ sym (ap (slice given m) long ∙ slice_more given m size j.arg h.own)

-- where one is wanting, it doesn't
pub holds_part : (n : ℕ) (given : Given) (held : ℕ → Bool) (j : Joined) (tree : List TreeMsg) → HoldsOf n given held j tree
    → list_all held (children n j.arg.member) ≡ false → are_from j.arg.member (end_of n j.arg.member) (here_of j tree) ≡ false
holds_part n given held j tree h some =
    let m : ℕ = j.arg.member in
    let more : m < end_of n m = end_behind n m h.within in
    own_first (end_of n m) j tree
    ∙ (ap (λ xs. ends_at (end_of n m) (following (m + 1) xs)) (up_args_brought j.ctx j.position n given tree (filter held (children n m)) h.messages)
    ∙ chain_missing n n m (m + 1) given held h.within h.room (omega arith) (omega arith) (λ q. parent_first n m h.within h.room q) h.numbered h.whole some)

-- the arguments of a whole subtree are those of its members, one each and in order
pub subtree_whole : (n : ℕ) (given : Given) (i : ℕ) → i < n → AreNumbered given → HaveJoined given i (end_of n i) → are_from i (end_of n i) (subtree_of n given i) ≡ true
subtree_whole n given i within own joined = ap (ends_at (end_of n i)) (following_subtree n given i within own joined) ∙ eq-eqb (end_of n i) (end_of n i) refl
