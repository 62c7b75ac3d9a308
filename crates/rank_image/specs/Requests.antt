-- How a rank's requests are spelled: those of its book and the complete ones in one list. This profile's own.
use Rattle.std.specs.Prelude.{ℕ, ℤ, ◌^◌, ◌⊎◌, nat_lt, if◌then◌else◌, Bool, List, [], ◌∷◌, ◌++◌, map, Option, Some, None}
use Rattle.std.proofs.Common.{inl, inr}
use Rattle.byte_formats.specs.Formats.{Format, number32, number64, signed32, nothing, both, made, ascending, listed}
use Rattle.byte_formats.specs.Choices.{kind, or_kinds, tagged}
use Rattle.mpi_types.specs.declared.context.Level.{Level}
use Rattle.mpi_types.specs.declared.lists.MatchedPair.{MatchedPair}
use Rattle.mpi_types.specs.declared.message.Message.{Message}
use Rattle.mpi_types.specs.declared.message.Posted.{Posted}
use Rattle.mpi_types.specs.declared.state.CompleteKind.{CompleteKind}
use Rattle.mpi_types.specs.declared.state.CompleteKind.TheVariants.{Send, NoProcess}
use Rattle.mpi_types.specs.declared.state.CompleteRequest.{CompleteRequest}
use Rattle.rank_image.specs.declared.requests.Request.{Request}
use Rattle.rank_image.specs.declared.requests.Request.TheVariants.{Complete, Waiting, Matched}
use Rattle.rank_image.specs.declared.requests.Requests.{Requests}
use Rattle.rank_image.specs.Messages.{at_most, context, message}

-- A receive without its number: the buffer, the room, the context, and the envelope, its source and its tag.
abbrev pub Receive : Type 0
Receive = ℕ × (ℕ × (List Level × (ℤ × ℤ)))

unfoldable pub receive : Format Receive
receive = both number64 (both number32 (both context (both signed32 signed32)))

abbrev pub posted_of : ℕ → Receive → Posted
posted_of n r = record { request = n; ctx = r.1.1.0; source = r.1.1.1.0; tag = r.1.1.1.1; room = r.1.0; buffer = r.0 }

abbrev pub receive_of : Posted → Receive
receive_of p = (p.buffer, (p.room, (p.ctx, (p.source, p.tag))))

-- What a request is, behind its number: a complete send, a receive that waits, one with its message, or a complete
-- receive from no process.
abbrev pub Choice : Type 0
Choice = Unit {0} ⊎ (Receive ⊎ ((Receive × Message) ⊎ Unit {0}))

abbrev pub request_of : ℕ → Choice → Request
request_of n (inl u) = Complete (record { number = n; kind = Send })
request_of n (inr (inl r)) = Waiting (posted_of n r)
request_of n (inr (inr (inl p))) = Matched (record { receive = posted_of n p.0; message = p.1 })
request_of n (inr (inr (inr u))) = Complete (record { number = n; kind = NoProcess })

abbrev pub choice_of_kind : CompleteKind → Choice
choice_of_kind Send = inl tt
choice_of_kind NoProcess = inr (inr (inr tt))

abbrev pub choice_of : Request → Choice
choice_of (Complete c) = choice_of_kind c.kind
choice_of (Waiting p) = inr (inl (receive_of p))
choice_of (Matched m) = inr (inr (inl (receive_of m.receive, m.message)))

abbrev pub number_of : Request → ℕ
number_of (Complete c) = c.number
number_of (Waiting p) = p.request
number_of (Matched m) = m.receive.request

unfoldable pub request : Format Request
request =
    made (both number32 (tagged (or_kinds 0 nothing (or_kinds 1 receive (or_kinds 2 (both receive message) (kind 3 nothing))))))
    (λ p. request_of p.0 p.1) (λ r. (number_of r, choice_of r))

abbrev pub is_before : Request → Request → Bool
is_before a b = nat_lt (number_of a) (number_of b)

-- requests that ascend by number: how many, at most 65,536, and those
unfoldable pub request_list : Format (List Request)
request_list = ascending is_before (listed (at_most 65536 number32) request)

-- the complete ones among requests, those that wait, and those that have their message
abbrev pub as_complete : Request → Option CompleteRequest
as_complete (Complete c) = Some c
as_complete (Waiting p) = None
as_complete (Matched m) = None

abbrev pub as_waiting : Request → Option Posted
as_waiting (Complete c) = None
as_waiting (Waiting p) = Some p
as_waiting (Matched m) = None

abbrev pub as_matched : Request → Option MatchedPair
as_matched (Complete c) = None
as_matched (Waiting p) = None
as_matched (Matched m) = Some m

abbrev pub with_some : {Z : Type 0} → Option Z → List Z → List Z
with_some None zs = zs
with_some (Some z) zs = z ∷ zs

abbrev pub kept : {Z : Type 0} → (Request → Option Z) → List Request → List Z
kept pick [] = []
kept pick (r ∷ rs) = with_some (pick r) (kept pick rs)

-- two lists in one by number, the first list's first where numbers are equal: `rest` puts the requests behind `r` in
abbrev pub merge_with : Request → (List Request → List Request) → List Request → List Request
merge_with r rest [] = r ∷ rest []
merge_with r rest (s ∷ ss) = if is_before s r then s ∷ merge_with r rest ss else r ∷ rest (s ∷ ss)

abbrev pub merge : List Request → List Request → List Request
merge [] ss = ss
merge (r ∷ rs) ss = merge_with r (merge rs) ss

abbrev pub merged : List CompleteRequest → List Posted → List MatchedPair → List Request
merged complete posted matched = merge (map Complete complete) (merge (map Waiting posted) (map Matched matched))

abbrev pub listed_requests : Requests → List Request
listed_requests r = merged r.complete r.posted r.matched

-- the number of the first request, or more than each number where there is none
abbrev pub first_number : List Request → ℕ
first_number [] = 2 ^ 32
first_number (r ∷ rs) = number_of r

-- the requests of a list, each in the list of its kind
abbrev pub sorted : ℕ → List Request → Requests
sorted next rs = record { next = next; complete = kept as_complete rs; posted = kept as_waiting rs; matched = kept as_matched rs }

-- a request behind those of its kind
abbrev pub with_request : Requests → Request → Requests
with_request r q =
    record {
      next = r.next;
      complete = r.complete ++ with_some (as_complete q) [];
      posted = r.posted ++ with_some (as_waiting q) [];
      matched = r.matched ++ with_some (as_matched q) [];
    }

-- the next request's number, and the live requests
unfoldable pub requests : Format Requests
requests = made (both number32 request_list) (λ p. sorted p.0 p.1) (λ r. (r.next, listed_requests r))
