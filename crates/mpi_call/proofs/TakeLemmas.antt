-- A complete request ends: what it gives, and the data then.
use Rattle.std.proofs.Common.{◌≡◌, ℕ, ◌==◌, true, inr, List, [], refl, ap, sym, ◌∙◌, Option, Some, None}
use Rattle.std.specs.Prelude.{IfSome, is_some, option_map}
use Rattle.mpi_types.specs.declared.lists.BookLists.{BookLists}
use Rattle.mpi_types.specs.declared.lists.MatchedPair.{MatchedPair}
use Rattle.mpi_types.specs.declared.state.CompleteKind.{CompleteKind}
use Rattle.mpi_types.specs.declared.state.CompleteKind.TheVariants.{Send, NoProcess}
use Rattle.mpi_types.specs.declared.state.CompleteRequest.{CompleteRequest}
use Rattle.mpi_types.specs.declared.state.OwnData.{OwnData}
use Rattle.mpi_rules.specs.Data.{complete_of, pair_of, without, own_without, without_pair}
use Rattle.mpi_rules.specs.Requests.{Came, came_in, came_of_kind, came_of_pair, completion}
use Rattle.mpi_call.specs.Answers.{Kept, kept, data_in, Took}
use Rattle.mpi_call.specs.Lawful.{AreApart}
use Rattle.mpi_call.proofs.LiveLemmas.{found_any, tested_any}
use Rattle.mpi_call.proofs.PairLemmas.{none_by, none_filter}

pub kind_some : {X Y : Type 0} (f : X → Y) (kind : Option Y) (o : Option X) (y : Y) → kind ≡ option_map f o → kind ≡ Some y → is_some o ≡ true
kind_some f kind None y is some = absurd cc
kind_some f kind (Some x) y is some = refl

pub kind_none : {X Y : Type 0} (f : X → Y) (kind : Option Y) (o : Option X) → kind ≡ option_map f o → kind ≡ None → o ≡ None
kind_none f kind None is none = refl
kind_none f kind (Some x) is none = absurd cc

came_complete : (P : Came → Type 0) (o : Option CompleteRequest) (p : Option MatchedPair) → is_some o ≡ true
    → ((kind : CompleteKind) → P (came_of_kind kind)) → IfSome (came_in o p) P
came_complete P None p some each = absurd cc
came_complete P (Some r) p some each = each r.kind

came_matched : (P : Came → Type 0) (o : Option CompleteRequest) (p : Option MatchedPair) → o ≡ None
    → IfSome p (λ x. P (came_of_pair x)) → IfSome (came_in o p) P
came_matched P None None none each = tt
came_matched P None (Some x) none each = each
came_matched P (Some r) p none each = absurd cc

no_body : (kind : CompleteKind) → (came_of_kind kind).body ≡ []
no_body Send = refl
no_body NoProcess = refl

-- a complete request isn't live in the book
not_in_book : (own : OwnData) (lists : BookLists) (n : ℕ) → AreApart own lists → is_some (complete_of n own.complete) ≡ true
    → pair_of n lists.matched ≡ None
not_in_book own lists n apart some =
    none_by (pair_of n lists.matched) (λ there.
    apart.apart n some (inr (tested_any (λ p. p.receive.request) lists.matched n (sym (found_any (λ p. p.receive.request == n) lists.matched) ∙ there))))

abbrev with_matched : BookLists → List MatchedPair → BookLists
with_matched lists matched = record lists { matched = matched }

abbrev with_requests : OwnData → List CompleteRequest → OwnData
with_requests own requests = record own { complete = requests }

pub took_complete : (k new : Kept) (n : ℕ) (body : List ℕ) → is_some (complete_of n k.own.complete) ≡ true → AreApart k.own k.lists
    → body ≡ [] → new ≡ kept (own_without n k.own) k.sweep k.lists
    → IfSome (completion (data_in k) n) (λ c. Took c (without n (data_in k)) k body new)
unfolding completion without
took_complete k new n body some apart empty changed =
    came_complete (λ c. Took c (without n (data_in k)) k body new) (complete_of n k.own.complete) (pair_of n k.lists.matched) some
    (λ kind. record {
      body_is = empty ∙ sym (no_body kind);
      own_is = ap (λ (x : Kept). x.own) changed;
      lists_are =
          ap (λ (x : Kept). x.lists) changed
          ∙ ap (with_matched k.lists) (sym (none_filter (λ p. p.receive.request == n) k.lists.matched (not_in_book k.own k.lists n apart some)));
      sweep_is = ap (λ (x : Kept). x.sweep) changed;
    })

each_then : (P Q : MatchedPair → Type 0) (o : Option MatchedPair) → ((p : MatchedPair) → P p → Q p) → IfSome o P → IfSome o Q
each_then P Q None f h = tt
each_then P Q (Some p) f h = f p h

pub took_matched : (k new : Kept) (n : ℕ) (body : List ℕ) → complete_of n k.own.complete ≡ None
    → IfSome (pair_of n k.lists.matched) (λ p. body ≡ p.message.body)
    → new ≡ kept k.own k.sweep (with_matched k.lists (without_pair n k.lists.matched))
    → IfSome (completion (data_in k) n) (λ c. Took c (without n (data_in k)) k body new)
unfolding completion without
took_matched k new n body none bodies changed =
    came_matched (λ c. Took c (without n (data_in k)) k body new) (complete_of n k.own.complete) (pair_of n k.lists.matched) none
    (each_then (λ p. body ≡ p.message.body) (λ p. Took (came_of_pair p) (without n (data_in k)) k body new) (pair_of n k.lists.matched)
    (λ p is. record {
      body_is = is;
      own_is = ap (λ (x : Kept). x.own) changed ∙ ap (with_requests k.own) (sym (none_filter (λ r. r.number == n) k.own.complete none));
      lists_are = ap (λ (x : Kept). x.lists) changed;
      sweep_is = ap (λ (x : Kept). x.sweep) changed;
    }) bodies)

-- what is complete and isn't a complete request stands among the matched
came_pair : (o : Option CompleteRequest) (p : Option MatchedPair) → o ≡ None → is_some (came_in o p) ≡ true → is_some p ≡ true
came_pair None None none some = some
came_pair None (Some p) none some = refl
came_pair (Some r) p none some = absurd cc

pub pair_there : (k : Kept) (n : ℕ) → complete_of n k.own.complete ≡ None → is_some (completion (data_in k) n) ≡ true
    → is_some (pair_of n k.lists.matched) ≡ true
unfolding completion
pair_there k n none some = came_pair (complete_of n k.own.complete) (pair_of n k.lists.matched) none some
