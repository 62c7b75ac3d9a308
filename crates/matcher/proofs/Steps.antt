-- From places in the three lists to what posting and arrival do.
use Rattle.std.proofs.Common.{◌≡◌, ◌≢◌, ℕ, ℤ, zero, suc, ◌<◌, ◌≤◌, List, [], ◌∷◌, ◌++◌, length, get_or, take, drop, None, Some, refl, sym, ◌∙◌, ap, subst, arith, append-nil}
use Rattle.std.specs.Prelude.{All, Any, remove, insert}
use Rattle.std.proofs.lemmas.List.{take-append-drop}
use Rattle.std.proofs.lemmas.List.Edits.{insert_end}
use Rattle.std.proofs.lemmas.List.Elements.{All-get_or, All-drop, All-nil}
use Rattle.mpi_types.specs.declared.context.Level.{Level}
use Rattle.mpi_types.specs.declared.message.Message.{Message}
use Rattle.mpi_types.specs.declared.message.Posted.{Posted}
use Rattle.mpi_types.specs.declared.message.Hit.{Hit}
use Rattle.mpi_types.specs.declared.lists.MatchedPair.{MatchedPair}
use Rattle.mpi_types.specs.declared.lists.BookLists.{BookLists}
use Rattle.mpi_types.specs.Accepts.{Accepts, IsAcceptedBy}
use Rattle.mpi_types.specs.First.{NoneOf, IsFirst, IsFirstOf}
use Rattle.mpi_types.specs.Book.{IsNext, IsOrderly}
use Rattle.mpi_types.specs.Post.{IsInserted, hit_of, Posts, Arrives}
use Rattle.mpi_types.proofs.ListLemmas.{All-both}
use Rattle.matcher.specs.Search.{IsFirstAt, IsAt, IsPlaceOf}

-- a list in three parts: up to a place, the element there, and the rest
pub three_parts : {X : Type 0} (xs : List X) (at : ℕ) (x : X) → at < length xs → x ≡ get_or xs at x
    → xs ≡ take at xs ++ x ∷ drop (suc at) xs
three_parts [] at x within is = absurd (omega arith)
three_parts (y ∷ xs) zero x within is = ap (λ z. z ∷ xs) (sym is)
three_parts (y ∷ xs) (suc at) x within is = ap (λ zs. y ∷ zs) (three_parts xs at x (omega arith) is)

-- the element at a place within
element_at : {X : Type 0} (xs : List X) (at : ℕ) → at < length xs → (x : X) × (get_or xs at x ≡ x)
element_at [] at within = absurd (omega arith)
element_at (y ∷ xs) zero within = (y, refl)
element_at (y ∷ xs) (suc at) within = element_at xs at (omega arith)

-- the element at the first place is the first
pub first_of_place : {X : Type 0} (P : X → Type 0) (xs : List X) (at : ℕ) (x : X) → IsFirstAt P xs at → x ≡ get_or xs at x
    → IsFirst P xs (take at xs) x (drop (suc at) xs)
first_of_place P xs at x first is = record {
  parts = three_parts xs at x first.within is;
  meets = subst P (sym is) (first.meets x);
  none_before = first.none_before;
}

-- a pair above all others stands at the end
inserted_last : (pairs new : List MatchedPair) (pair : MatchedPair) → new ≡ pairs ++ pair ∷ []
    → All (λ p. p.receive.request < pair.receive.request) pairs → IsInserted pairs new pair
inserted_last pairs new pair e lower = record {
  lower = pairs;
  higher = [];
  before = sym (append-nil pairs);
  now = e;
  all_lower = lower;
  all_higher = All-nil (λ p. pair.receive.request < p.receive.request);
}

pub took_message : (old new : BookLists) (receive : Posted) (message : Message) (hit : Hit) (at : ℕ)
    → IsFirstAt (IsAcceptedBy receive) old.arrived at → message ≡ get_or old.arrived at message
    → hit ≡ hit_of receive message → IsNext old receive.request
    → new.arrived ≡ remove old.arrived at
    → new.matched ≡ old.matched ++ record { receive = receive; message = message } ∷ []
    → new.posted ≡ old.posted → Posts old receive (Some hit) new
took_message old new receive message hit at first is told next arrived matched posted = record {
  message = message;
  before = take at old.arrived;
  behind = drop (suc at) old.arrived;
  first = first_of_place (IsAcceptedBy receive) old.arrived at message first is;
  told = told;
  arrived = arrived;
  matched = inserted_last old.matched new.matched (record { receive = receive; message = message }) matched next.above_matched;
  posted = posted;
}

-- a pair at its place, whose request no other has
inserted_at : (pairs new : List MatchedPair) (pair : MatchedPair) (place : ℕ) → new ≡ insert pairs place pair
    → IsPlaceOf pair.receive.request pairs place → All (λ p. pair.receive.request ≢ p.receive.request) pairs
    → IsInserted pairs new pair
inserted_at pairs new pair place e is_place apart = record {
  lower = take place pairs;
  higher = drop place pairs;
  before = sym (take-append-drop place pairs);
  now = e;
  all_lower = is_place.lower;
  all_higher = All-both (λ p. pair.receive.request ≤ p.receive.request) (λ p. pair.receive.request ≢ p.receive.request)
      (λ p. pair.receive.request < p.receive.request) (λ p high other. omega arith) (drop place pairs) is_place.others
      (All-drop (λ p. pair.receive.request ≢ p.receive.request) place pairs apart);
}

pub took_receive : (old new : BookLists) (receive : Posted) (message : Message) (hit : Hit) (at place : ℕ)
    → IsFirstAt (λ r. IsAcceptedBy r message) old.posted at → receive ≡ get_or old.posted at receive
    → hit ≡ hit_of receive message → IsOrderly old → IsPlaceOf receive.request old.matched place
    → new.posted ≡ remove old.posted at
    → new.matched ≡ insert old.matched place (record { receive = receive; message = message })
    → new.arrived ≡ old.arrived → Arrives old message (Some hit) new
took_receive old new receive message hit at place first is told orderly is_place posted matched arrived = record {
  receive = receive;
  before = take at old.posted;
  behind = drop (suc at) old.posted;
  first = first_of_place (λ r. IsAcceptedBy r message) old.posted at receive first is;
  told = told;
  posted = posted;
  matched = inserted_at old.matched new.matched (record { receive = receive; message = message }) place matched is_place
      (let P : Posted → Type 0 = λ r. All (λ p. r.request ≢ p.receive.request) old.matched in
      subst P (sym is) (All-get_or P old.posted at receive first.within orderly.apart));
  arrived = arrived;
}

-- the same from what the calls on the three lists tell
pub posts_by_place : (posted : List Posted) (matched roomy put : List MatchedPair) (arrived rest : List Message)
    (receive : Posted) (message : Message) (at place : ℕ)
    → IsNext (record { posted = posted; matched = matched; arrived = arrived }) receive.request
    → IsFirstAt (IsAcceptedBy receive) arrived at → message ≡ get_or arrived at message → rest ≡ remove arrived at
    → roomy ≡ matched → place ≡ length roomy → put ≡ insert roomy place (record { receive = receive; message = message })
    → Posts (record { posted = posted; matched = matched; arrived = arrived }) receive (Some (hit_of receive message))
    (record { posted = posted; matched = put; arrived = rest })
posts_by_place posted matched roomy put arrived rest receive message at place next first is left same end inserted =
    let pair : MatchedPair = record { receive = receive; message = message } in
    let P : List MatchedPair → Type 0 = λ pairs. put ≡ pairs ++ pair ∷ [] in
    let last : put ≡ roomy ++ pair ∷ [] = inserted ∙ ap (λ n. insert roomy n pair) end ∙ insert_end roomy pair in
    took_message (record { posted = posted; matched = matched; arrived = arrived }) (record { posted = posted; matched = put; arrived = rest })
    receive message (hit_of receive message) at first is refl next left (subst P same last) refl

pub arrives_by_place : (posted left : List Posted) (matched roomy put : List MatchedPair) (arrived : List Message)
    (receive : Posted) (message : Message) (at place : ℕ)
    → IsOrderly (record { posted = posted; matched = matched; arrived = arrived })
    → IsFirstAt (λ r. IsAcceptedBy r message) posted at → receive ≡ get_or posted at receive → left ≡ remove posted at
    → roomy ≡ matched → IsPlaceOf receive.request roomy place → put ≡ insert roomy place (record { receive = receive; message = message })
    → Arrives (record { posted = posted; matched = matched; arrived = arrived }) message (Some (hit_of receive message))
    (record { posted = left; matched = put; arrived = arrived })
arrives_by_place posted left matched roomy put arrived receive message at place orderly first is rest same is_place inserted =
    let pair : MatchedPair = record { receive = receive; message = message } in
    let P : List MatchedPair → Type 0 = λ pairs. put ≡ insert pairs place pair in
    let Q : List MatchedPair → Type 0 = λ pairs. IsPlaceOf receive.request pairs place in
    took_receive (record { posted = posted; matched = matched; arrived = arrived }) (record { posted = left; matched = put; arrived = arrived })
    receive message (hit_of receive message) at place first is refl orderly (subst Q same is_place) rest (subst P same inserted) refl

pub posts_behind : (posted pushed : List Posted) (matched : List MatchedPair) (arrived : List Message) (receive : Posted)
    → NoneOf (IsAcceptedBy receive) arrived → pushed ≡ posted ++ receive ∷ []
    → Posts (record { posted = posted; matched = matched; arrived = arrived }) receive None
    (record { posted = pushed; matched = matched; arrived = arrived })
posts_behind posted pushed matched arrived receive none e =
    let with : List Posted → BookLists = λ p. record { posted = p; matched = matched; arrived = arrived } in (none, ap with e)

pub arrives_behind : (posted : List Posted) (matched : List MatchedPair) (arrived pushed : List Message) (message : Message)
    → NoneOf (λ r. IsAcceptedBy r message) posted → pushed ≡ arrived ++ message ∷ []
    → Arrives (record { posted = posted; matched = matched; arrived = arrived }) message None
    (record { posted = posted; matched = matched; arrived = pushed })
arrives_behind posted matched arrived pushed message none e =
    let with : List Message → BookLists = λ a. record { posted = posted; matched = matched; arrived = a } in (none, ap with e)

-- a place where the condition is met gives an element that meets it
pub any_at : {X : Type 0} (P : X → Type 0) (xs : List X) (at : ℕ) → IsAt P xs at → Any P xs
any_at P xs at is = let found = element_at xs at is.within in (at, found.0, is.within, found.1, subst P found.1 (is.meets found.0))

pub peeked : (ctx : List Level) (source read_source tag read_tag : ℤ) (arrived read : List Message) (at : ℕ) (message : Message)
    → IsFirstAt (Accepts ctx read_source read_tag) read at → read_source ≡ source → read_tag ≡ tag → read ≡ arrived
    → message ≡ get_or arrived at message → IsFirstOf (Accepts ctx source tag) arrived message
peeked ctx source read_source tag read_tag arrived read at message first same_source same_tag same is =
    let P : ℤ → Type 0 = λ s. IsFirstAt (Accepts ctx s read_tag) read at in
    let Q : ℤ → Type 0 = λ t. IsFirstAt (Accepts ctx source t) read at in
    let R : List Message → Type 0 = λ xs. IsFirstAt (Accepts ctx source tag) xs at in
    let here : IsFirstAt (Accepts ctx source tag) arrived at = subst R same (subst Q same_tag (subst P same_source first)) in
    (take at arrived, drop (suc at) arrived, first_of_place (Accepts ctx source tag) arrived at message here is)
