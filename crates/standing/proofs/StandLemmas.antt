-- Messages by their sender, what a receive accepts, and ranks of which a part is the same.
use Rattle.std.proofs.Common.{ℕ, ◌≡◌, ◌≢◌, ◌+◌, ◌<◌, ◌==◌, ◌&&◌, inl, inr, Bool, true, false, List, [], ◌∷◌, ◌++◌, refl, sym, ap, ◌∙◌, subst, arith, Option, Some}
use Rattle.std.proofs.lemmas.Bool.{eq-eqb, cases_Bool}
use Rattle.std.proofs.lemmas.Bool.Decides.{eqb_tells}
use Rattle.std.proofs.lemmas.List.Elements.{All-weaker, All-filter}
use Rattle.std.specs.Prelude.{All, AllPairs}
use lib.Dec.{eqb}
use Rattle.vm_code.specs.declared.code.Code.{Code}
use Rattle.vm_code.specs.Machine.{Config, Stops, given}
use Rattle.mpi_types.specs.declared.argument.Joined.{Joined}
use Rattle.mpi_types.specs.declared.lists.MatchedPair.{MatchedPair}
use Rattle.mpi_types.specs.declared.message.Message.{Message}
use Rattle.mpi_types.specs.declared.message.Posted.{Posted}
use Rattle.mpi_types.specs.declared.state.OwnData.{OwnData}
use Rattle.mpi_types.specs.Accepts.{accepts, IsAcceptedBy, AcceptanceIsTested}
use Rattle.mpi_types.specs.First.{NoneOf}
use Rattle.mpi_types.proofs.ListLemmas.{AllPairs-before}
use Rattle.mpi_rules.specs.Data.{MpiData}
use Rattle.mpi_rules.specs.declared.given.SendOut.{SendOut}
use Rattle.rank_steps.specs.Steps.{Standing, stop_of}
use Rattle.standing.specs.World.{Setting, RankPart, with_mpi, is_pair, sent_between, has_number}
use Rattle.standing.specs.Stands.{FollowsRun, later_of, from}
use Rattle.standing.proofs.ListLemmas.{filter_parts}

different : (a b : ℕ) → a ≢ b → eqb a b ≡ false
different a b n = elim (eqb_tells a b) [ inl t ↦ absurd (n t.1) | inr t ↦ t.0 ]

-- ---- messages of a sender

-- this message, to this rank
abbrev pub sent_to : ℕ → Message → SendOut
sent_to r message = record { to = record { 0 = r }; message = message }

pub pair_same : (s r : ℕ) → is_pair s r s r ≡ true
pair_same s r = rw (eq-eqb s s refl) (eq-eqb r r refl)

pub pair_other_sender : (a s b r : ℕ) → a ≢ s → is_pair a b s r ≡ false
pair_other_sender a s b r n = rw (different a s n) refl

and_false : (b : Bool) → (b && false) ≡ false
and_false true = refl
and_false false = refl

pub pair_other_receiver : (a s b r : ℕ) → b ≢ r → is_pair a b s r ≡ false
pair_other_receiver a s b r n = rw (different b r n) (and_false (a == s))

pub between_same : (r : ℕ) (m : Message) → sent_between (Some (sent_to r m)) m.sender.0 r ≡ m ∷ []
between_same r m = rw (pair_same m.sender.0 r) refl

pub between_none : (a b : ℕ) (r : ℕ) (m : Message) → is_pair a b m.sender.0 r ≡ false → sent_between (Some (sent_to r m)) a b ≡ []
between_none a b r m other = rw other refl

-- a message is from its sender
pub from_one : (a r : ℕ) (m : Message) → from a (m ∷ []) ≡ sent_between (Some (sent_to r m)) a r
from_one a r m = elim (eqb_tells a m.sender.0) [
  | inl t ↦ rw t.0 (rw (eq-eqb r r refl) refl)
  | inr t ↦ rw t.0 refl
]

pub from_parts : (a : ℕ) (xs ys : List Message) → from a (xs ++ ys) ≡ from a xs ++ from a ys
from_parts a xs ys = filter_parts (λ m. a == m.sender.0) xs ys

pub from_with : (m : Message) (behind : List Message) → from m.sender.0 (m ∷ behind) ≡ m ∷ from m.sender.0 behind
from_with m behind = rw (eq-eqb m.sender.0 m.sender.0 refl) refl

pub from_without : (a : ℕ) (m : Message) (behind : List Message) → a ≢ m.sender.0 → from a (m ∷ behind) ≡ from a behind
from_without a m behind n = rw (different a m.sender.0 n) refl

-- ---- what a receive accepts

pub is_accepted_so : AcceptanceIsTested → (receive : Posted) (m : Message) → IsAcceptedBy receive m → accepts receive m ≡ true
is_accepted_so tested receive m h = (tested receive.ctx receive.source receive.tag m).1 h

pub isn't_accepted_so : AcceptanceIsTested → (receive : Posted) (m : Message) → (IsAcceptedBy receive m → ⊥) → accepts receive m ≡ false
isn't_accepted_so tested receive m n = elim (cases_Bool (accepts receive m)) [
  | inl t ↦ absurd (n ((tested receive.ctx receive.source receive.tag m).0 t))
  | inr f ↦ f
]

pub none_accepted : AcceptanceIsTested → (receive : Posted) (ms : List Message) → NoneOf (IsAcceptedBy receive) ms → All (λ m. accepts receive m ≡ false) ms
none_accepted tested receive ms none = All-weaker (λ m. IsAcceptedBy receive m → ⊥) (λ m. accepts receive m ≡ false) (λ m n. isn't_accepted_so tested receive m n) ms none

pub none_from : (receive : Posted) (a : ℕ) (ms : List Message) → NoneOf (IsAcceptedBy receive) ms → NoneOf (IsAcceptedBy receive) (from a ms)
none_from receive a ms none = All-filter (λ m. a == m.sender.0) (λ m. IsAcceptedBy receive m → ⊥) ms none

-- receives that were posted before have other numbers
pub other_numbers : (earlier : List Posted) (receive : Posted) (later : List Posted)
    → AllPairs (λ (a b : Posted). a.request < b.request) (earlier ++ receive ∷ later) → All (λ p. has_number receive.request p ≡ false) earlier
other_numbers earlier receive later ascend =
    All-weaker (λ p. p.request < receive.request) (λ p. has_number receive.request p ≡ false)
    (λ p lower. different p.request receive.request (λ e. less_than_itself p.request receive.request lower e)) earlier
    (AllPairs-before (λ (a b : Posted). a.request < b.request) earlier receive later ascend)
  where
    less_than_itself : (a b : ℕ) → a < b → a ≡ b → ⊥
    less_than_itself a b lower e = absurd (omega (arith, lower, e))

-- ---- parts that are the same

pub mpi_same : (a b : MpiData) → a.own ≡ b.own → a.posted ≡ b.posted → a.matched ≡ b.matched → a.joined ≡ b.joined → a ≡ b
mpi_same a b own posted matched joined =
    ap (λ (o : OwnData). with_parts o a.posted a.matched a.joined) own ∙ ap (λ (p : List Posted). with_parts b.own p a.matched a.joined) posted
    ∙ ap (λ (m : List MatchedPair). with_parts b.own b.posted m a.joined) matched
    ∙ ap (λ (j : Option Joined). with_parts b.own b.posted b.matched j) joined
  where
    with_parts : OwnData → List Posted → List MatchedPair → Option Joined → MpiData
    with_parts o p m j = record { own = o; posted = p; matched = m; joined = j }

-- a rank follows its run as another one does that has the same machine and ending
pub follows_same : (code : Code) (s : Setting) (r : ℕ) (part : RankPart) (old new : Standing) → new.machine ≡ old.machine → new.ending ≡ old.ending
    → FollowsRun code s r part old → FollowsRun code s r part new
follows_same code s r part old new machine ending follows = record {
  ticks = ap (λ (c : Config). c.done.ticks) machine ∙ follows.ticks;
  goes = λ running left answers.
      let P : Config → Type 0 = λ c. Stops code (given left answers c) (later_of s r part left answers).stop (later_of s r part left answers).done in
      subst P (sym machine) (follows.goes (sym ending ∙ running) left answers);
  over = λ stop is.
      let over = follows.over stop (sym (ap stop_of ending) ∙ is) in
      record { stop_is = over.stop_is; done_is = over.done_is ∙ ap (λ (c : Config). c.done) (sym machine) };
}

-- how a rank follows its run doesn't go by its data of MPI
pub follows_mpi : (code : Code) (s : Setting) (r : ℕ) (part : RankPart) (mpi : MpiData) (rank : Standing) → FollowsRun code s r part rank
    → FollowsRun code s r (with_mpi mpi part) rank
follows_mpi code s r part mpi rank follows = record {
  ticks = follows.ticks;
  goes = follows.goes;
  over = λ stop is. let over = follows.over stop is in record { stop_is = over.stop_is; done_is = over.done_is };
}
