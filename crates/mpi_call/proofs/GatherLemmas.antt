-- What the second tick of a collective gives.
use Rattle.std.proofs.Common.{◌≡◌, ℕ, ◌<◌, ◌==◌, ◌||◌, ◌&&◌, not, Bool, true, false, cond, List, [], ◌∷◌, length, map, refl, sym, ap, subst, arith, ◌∙◌, Option, Some, None, Ok, Err}
use Rattle.std.specs.Prelude.{ℤ, is_some, unwrap_or, slice_get, option_map}
use Rattle.std.proofs.lemmas.Bool.Decides.{Decides-int_eq}
use Rattle.std.proofs.lemmas.Option.{slice_get-map}
use Rattle.std.specs.Ordering.{int_eq}
use Rattle.am_base.specs.declared.traps.TrapCause.TheVariants.{CollectiveMismatch, BadAddress}
use Rattle.rank_range.specs.Areas.{Areas}
use Rattle.mpi_types.specs.declared.argument.Arg.{Arg}
use Rattle.mpi_types.specs.declared.argument.Joined.{Joined}
use Rattle.mpi_types.specs.declared.call.Write.{Write}
use Rattle.mpi_types.specs.declared.collective.Collective.{Collective}
use Rattle.mpi_types.specs.declared.collective.Collective.TheVariants.{Barrier, Bcast, Reduce, Allreduce, Scan, Gather, Scatter, Allgather, Alltoall, CommDup, CommSplit, Migrate}
use Rattle.mpi_types.specs.declared.group.Group.{Group}
use Rattle.mpi_types.specs.declared.group.SplitArg.{SplitArg}
use Rattle.mpi_types.specs.declared.constants.TheConstants.{UNDEFINED}
use Rattle.mpi_types.specs.Collected.{collected, are_alike}
use Rattle.mpi_types.specs.Groups.{child_of, of_colour, rank_of, split_by, split_of, split_args_of}
use Rattle.mpi_rules.specs.declared.arguments.CollectiveArgs.{CollectiveArgs}
use Rattle.mpi_rules.specs.declared.faults.LateFaults.{LateFaults}
use Rattle.mpi_rules.specs.Collectives.{has_own, is_found, is_same_arg, makes_by, share_in, group_made, made_number, made_writes, gathered_data, gathered_faults, gathered_reply, joined, gathered as gathered_of, own_made}
use Rattle.mpi_rules.specs.Data.{MpiData}
use Rattle.mpi_rules.specs.Faults.{late_cause_of}
use Rattle.mpi_rules.specs.Messages.{group_of}
use Rattle.mpi_rules.specs.Places.{is_open, are_open, write_of}
use Rattle.mpi_rules.specs.Reply.{Reply, writing, ended}
use Rattle.mpi_call.specs.declared.done.CallStop.{CallStop}
use Rattle.mpi_call.specs.declared.done.CallStop.TheVariants.{Trap, End, Memory}
use Rattle.mpi_call.specs.declared.done.Done.{Done}
use Rattle.mpi_call.specs.Answers.{Kept, data_in, IsGiven, MayDo}
use Rattle.mpi_types.specs.declared.state.OwnData.{OwnData}
use Rattle.mpi_call.specs.Gathers.{fitting_share, gives_number, MayGather, MayEndBy, MayEnd, HasShare, LacksShare, IsSettled, writes_with}
use Rattle.mpi_call.proofs.DoesLemmas.{only_writes, not_false}
use Rattle.mpi_call.proofs.EndLemmas.{body_open, both_open, late_traps, late_does}

and_true_right : (a : Bool) → (a && true) ≡ a
and_true_right true = refl
and_true_right false = refl

-- ---- what is wrong

fits_none : (b : Bool) (o : Option (List ℕ)) → cond b o None ≡ None → (is_some o && b) ≡ false
fits_none true None h = refl
fits_none true (Some bytes) h = absurd cc
fits_none false None h = refl
fits_none false (Some bytes) h = refl

fits_some : (b : Bool) (o : Option (List ℕ)) (bytes : List ℕ) → cond b o None ≡ Some bytes → (b ≡ true) × (o ≡ Some bytes)
fits_some true o bytes h = (refl, h)
fits_some false o bytes h = absurd cc

abbrev late : Bool → Bool → LateFaults
late mismatched address = record { long = false; mismatched = mismatched; address = address }

mismatched_first : (x a : Bool) → x ≡ false → Some CollectiveMismatch ≡ late_cause_of (late (not x) a)
unfolding late_cause_of
mismatched_first true a h = absurd cc
mismatched_first false a h = refl

address_last : (x a : Bool) → x ≡ true → a ≡ false → Some BadAddress ≡ late_cause_of (late (not x) (not a))
unfolding late_cause_of
address_last false a h g = absurd cc
address_last true true h g = absurd cc
address_last true false h g = refl

none_wrong : (x a : Bool) → x ≡ true → a ≡ true → None ≡ late_cause_of (late (not x) (not a))
unfolding late_cause_of
none_wrong false a h g = absurd cc
none_wrong true false h g = absurd cc
none_wrong true true h g = refl

pub lacks_fit : (areas : Areas) (args : CollectiveArgs) (own : Arg) (list : List Arg) (share : Option (List ℕ)) → share ≡ fitting_share own list → share ≡ None
    → LacksShare areas args own list (Trap CollectiveMismatch)
lacks_fit areas args own list share is none n =
    mismatched_first (is_some (collected list own.member) && has_own own list) (not (are_open areas (writes_with args (share_in own list) n)))
    (fits_none (has_own own list) (collected list own.member) (sym is ∙ none))

number_open : (areas : Areas) (kind : Collective) (made : ℕ) (n : ℤ) → are_open areas (made_writes kind made n) ≡ (not (gives_number kind) || is_open areas made 4)
number_open areas Barrier made n = refl
number_open areas Bcast made n = refl
number_open areas Reduce made n = refl
number_open areas Allreduce made n = refl
number_open areas Scan made n = refl
number_open areas Gather made n = refl
number_open areas Scatter made n = refl
number_open areas Allgather made n = refl
number_open areas Alltoall made n = refl
number_open areas CommDup made n = and_true_right (is_open areas made 4)
number_open areas CommSplit made n = and_true_right (is_open areas made 4)
number_open areas Migrate made n = refl

writes_open : (areas : Areas) (args : CollectiveArgs) (bytes : List ℕ) (n : ℤ)
    → are_open areas (writes_with args bytes n) ≡ (is_open areas args.received.address (length bytes) && (not (gives_number args.kind) || is_open areas args.made 4))
writes_open areas args bytes n =
    both_open areas (write_of args.received.address bytes) (made_writes args.kind args.made n)
    ∙ ap (λ (b : Bool). b && are_open areas (made_writes args.kind args.made n)) (body_open areas args.received.address bytes)
    ∙ ap (λ (b : Bool). is_open areas args.received.address (length bytes) && b) (number_open areas args.kind args.made n)

share_is : (own : Arg) (list : List Arg) (bytes : List ℕ) → collected list own.member ≡ Some bytes → share_in own list ≡ bytes
share_is own list bytes is = ap (λ (o : Option (List ℕ)). unwrap_or o []) is

both_true : (o : Option (List ℕ)) (b : Bool) (bytes : List ℕ) → o ≡ Some bytes → b ≡ true → (is_some o && b) ≡ true
both_true o b bytes some holds = ap (λ (x : Option (List ℕ)). is_some x && b) some ∙ holds

and_false_first : (a b : Bool) → a ≡ false → (a && b) ≡ false
and_false_first true b h = absurd cc
and_false_first false b h = refl

and_false_second : (a b : Bool) → b ≡ false → (a && b) ≡ false
and_false_second true b h = h
and_false_second false b h = refl

and_both : (a b : Bool) → a ≡ true → b ≡ true → (a && b) ≡ true
and_both true b h g = g
and_both false b h g = absurd cc

lacks_address : (areas : Areas) (args : CollectiveArgs) (own : Arg) (list : List Arg) (share : Option (List ℕ)) (bytes : List ℕ) → share ≡ fitting_share own list
    → share ≡ Some bytes → (is_open areas args.received.address (length bytes) && (not (gives_number args.kind) || is_open areas args.made 4)) ≡ false
    → LacksShare areas args own list (Trap BadAddress)
lacks_address areas args own list share bytes is some closed n =
    let fit = fits_some (has_own own list) (collected list own.member) bytes (sym is ∙ some) in
    address_last (is_some (collected list own.member) && has_own own list) (are_open areas (writes_with args (share_in own list) n))
    (both_true (collected list own.member) (has_own own list) bytes fit.1 fit.0)
    (ap (λ (xs : List ℕ). are_open areas (writes_with args xs n)) (share_is own list bytes fit.1) ∙ writes_open areas args bytes n ∙ closed)

pub lacks_room : (areas : Areas) (args : CollectiveArgs) (own : Arg) (list : List Arg) (share : Option (List ℕ)) (bytes : List ℕ) → share ≡ fitting_share own list
    → share ≡ Some bytes → is_open areas args.received.address (length bytes) ≡ false → LacksShare areas args own list (Trap BadAddress)
lacks_room areas args own list share bytes is some closed =
    lacks_address areas args own list share bytes is some
    (and_false_first (is_open areas args.received.address (length bytes)) (not (gives_number args.kind) || is_open areas args.made 4) closed)

pub lacks_place : (areas : Areas) (args : CollectiveArgs) (own : Arg) (list : List Arg) (share : Option (List ℕ)) (bytes : List ℕ) → share ≡ fitting_share own list
    → share ≡ Some bytes → (not (gives_number args.kind) || is_open areas args.made 4) ≡ false → LacksShare areas args own list (Trap BadAddress)
lacks_place areas args own list share bytes is some closed =
    lacks_address areas args own list share bytes is some
    (and_false_second (is_open areas args.received.address (length bytes)) (not (gives_number args.kind) || is_open areas args.made 4) closed)

pub has_share : (areas : Areas) (args : CollectiveArgs) (own : Arg) (list : List Arg) (share : Option (List ℕ)) (bytes : List ℕ) → share ≡ fitting_share own list
    → share ≡ Some bytes → is_open areas args.received.address (length bytes) ≡ true → (not (gives_number args.kind) || is_open areas args.made 4) ≡ true
    → HasShare areas args own list bytes
has_share areas args own list share bytes is some opens place =
    let fit = fits_some (has_own own list) (collected list own.member) bytes (sym is ∙ some) in
    record { fits = fit.0; share_is = fit.1; opens = opens; place = place }

-- ---- what is given

abbrev made_of : MpiData → CollectiveArgs → Joined → List Arg → Option Group
made_of mpi args j list = group_made args.kind (group_of mpi.own args.comm) j.position list j.arg.member

abbrev writes_of : MpiData → CollectiveArgs → Joined → List Arg → List Write
writes_of mpi args j list = writes_with args (share_in j.arg list) (made_number (made_of mpi args j list) mpi.own)

reply_is : (areas : Areas) (mpi : MpiData) (args : CollectiveArgs) (j : Joined) (list : List Arg) → mpi.joined ≡ Some j → j.gathered ≡ Some list
    → gathered_reply areas mpi args
    ≡ ended (gathered_faults areas j.arg list (writes_of mpi args j list)) (writing (gathered_data mpi (made_of mpi args j list)) (writes_of mpi args j list))
unfolding gathered_reply
reply_is areas mpi args j list is all =
    ap (joined areas mpi args) is
    ∙ ap (λ (o : Option (List Arg)). gathered_of areas mpi args j o) all

settled_given : (args : CollectiveArgs) (bytes : List ℕ) (j : Joined) (list : List Arg) (made : Option Group) (old new : Kept) (done : Done)
    → IsSettled args bytes made old done new → made ≡ made_of (data_in old) args j list → share_in j.arg list ≡ bytes
    → IsGiven (writing (gathered_data (data_in old) (made_of (data_in old) args j list)) (writes_of (data_in old) args j list)) done old new
settled_given args bytes j list made old new done settled made_is share =
    let d : done ≡ only_writes (writes_of (data_in old) args j list) =
    settled.done_is ∙ ap (λ (o : Option Group). only_writes (writes_with args bytes (made_number o old.own))) made_is
    ∙ ap (λ (xs : List ℕ). only_writes (writes_with args xs (made_number (made_of (data_in old) args j list) old.own))) (sym share) in
    record {
      answer = ap (λ (x : Done). x.answer) d;
      writes = ap (λ (x : Done). x.writes) d;
      send = ap (λ (x : Done). x.send) d;
      own_is = settled.own_is ∙ ap (λ (o : Option Group). own_made o old.own) made_is;
      book = (ap (λ (x : Done). x.hit) d, settled.lists_are);
      sweep = (ap (λ (x : Done). x.sweep) d, settled.sweep_is);
    }

pub gathered_does : (areas : Areas) (args : CollectiveArgs) (bytes : List ℕ) (j : Joined) (list : List Arg) (made : Option Group) (old new : Kept) (done : Done)
    → old.sweep.joined ≡ Some j → j.gathered ≡ Some list → HasShare areas args j.arg list bytes → made ≡ made_of (data_in old) args j list
    → IsSettled args bytes made old done new → MayDo (gathered_reply areas (data_in old) args) old (Ok (Some done)) new
gathered_does areas args bytes j list made old new done is all has made_is settled =
    let writes = writes_of (data_in old) args j list in
    let f = gathered_faults areas j.arg list writes in
    let share = share_is j.arg list bytes has.share_is in
    let opens : are_open areas writes ≡ true =
    ap (λ (xs : List ℕ). are_open areas (writes_with args xs (made_number (made_of (data_in old) args j list) old.own))) share
    ∙ writes_open areas args bytes (made_number (made_of (data_in old) args j list) old.own)
    ∙ and_both (is_open areas args.received.address (length bytes)) (not (gives_number args.kind) || is_open areas args.made 4) has.opens has.place in
    subst (λ (r : Reply). MayDo r old (Ok (Some done)) new) (sym (reply_is areas (data_in old) args j list is all))
    (late_does f f (writing (gathered_data (data_in old) (made_of (data_in old) args j list)) writes) done old new
    (none_wrong (is_some (collected list j.arg.member) && has_own j.arg list) (are_open areas writes)
    (both_true (collected list j.arg.member) (has_own j.arg list) bytes has.share_is has.fits) opens) refl
    (settled_given args bytes j list made old new done settled made_is share))

pub gathered_stops : (areas : Areas) (args : CollectiveArgs) (j : Joined) (list : List Arg) (k : Kept) (stop : CallStop) → k.sweep.joined ≡ Some j
    → j.gathered ≡ Some list → LacksShare areas args j.arg list stop → MayDo (gathered_reply areas (data_in k) args) k (Err stop) k
gathered_stops areas args j list k (Trap why) is all lacks =
    let writes = writes_of (data_in k) args j list in
    let f = gathered_faults areas j.arg list writes in
    subst (λ (r : Reply). MayDo r k (Err (Trap why)) k) (sym (reply_is areas (data_in k) args j list is all))
    (late_traps f f (writing (gathered_data (data_in k) (made_of (data_in k) args j list)) writes) why k
    (lacks (made_number (made_of (data_in k) args j list) k.own)) refl)
gathered_stops areas args j list k (End status) is all lacks = absurd lacks
gathered_stops areas args j list k Memory is all lacks = tt

pub waits_unjoined : (areas : Areas) (args : CollectiveArgs) (k : Kept) → k.sweep.joined ≡ None → MayDo (gathered_reply areas (data_in k) args) k (Ok None) k
unfolding gathered_reply
waits_unjoined areas args k none = (ap (joined areas (data_in k) args) none, refl)

pub waits_ungathered : (areas : Areas) (args : CollectiveArgs) (j : Joined) (k : Kept) → k.sweep.joined ≡ Some j → j.gathered ≡ None
    → MayDo (gathered_reply areas (data_in k) args) k (Ok None) k
unfolding gathered_reply
waits_ungathered areas args j k is none =
    (ap (joined areas (data_in k) args) is ∙ ap (λ (o : Option (List Arg)). gathered_of areas (data_in k) args j o) none, refl)

-- ---- where no communicator is made

and_left : (a b : Bool) → (a && b) ≡ true → a ≡ true
and_left true b h = refl
and_left false b h = h

and_right : (a b : Bool) → (a && b) ≡ true → b ≡ true
and_right true b h = h
and_right false b h = absurd cc

true_by : (b : Bool) → (b ≡ false → ⊥) → b ≡ true
true_by true h = refl
true_by false h = absurd (h refl)

none_some : {X : Type 0} {o : Option X} → o ≡ None → is_some o ≡ true → ⊥
none_some {X} {o} none some = let e : is_some o ≡ false = ap is_some none in cc

abbrev split_arg : Arg → SplitArg
split_arg a = record { member = a.member; colour = a.colour; key = a.key }

same_number : (x y : ℤ) → int_eq x y ≡ true → x ≡ y
same_number x y h = (Decides-int_eq x y).0 h

same_colour : (own a : Arg) → is_same_arg own a ≡ true → int_eq own.colour a.colour ≡ true
same_colour own a h =
    and_left (int_eq own.colour a.colour) _ (and_right (own.member == a.member) _ (and_right (are_alike own a) _ h))

found_colour : (own : Arg) (o : Option Arg) → is_found own o ≡ true → (a : Arg) × (o ≡ Some a) × (int_eq own.colour a.colour ≡ true)
found_colour own None h = absurd cc
found_colour own (Some a) h = (a, refl, same_colour own a h)

own_found : (own : Arg) (list : List Arg) → has_own own list ≡ true → own.member < length list
    → (a : Arg) × (slice_get list own.member ≡ Some a) × (int_eq own.colour a.colour ≡ true)
own_found own [] h below = absurd (omega (arith, below))
own_found own (b ∷ list) h below = found_colour own (slice_get (b ∷ list) own.member) h

none_split : (g : Group) (p : ℕ) (own : Arg) (list : List Arg) → has_own own list ≡ true → own.member < length list → int_eq own.colour UNDEFINED ≡ true
    → split_of g p (split_args_of list) own.member ≡ None
none_split g p own list h below undefined =
    let found = own_found own list h below in
    let colour : own.colour ≡ found.0.colour = same_number own.colour found.0.colour found.2 in
    let none : int_eq found.0.colour UNDEFINED ≡ true = ap (λ (z : ℤ). int_eq z UNDEFINED) (sym colour) ∙ undefined in
    ap (split_by g p (split_args_of list)) (slice_get-map (λ a. split_arg a) list own.member ∙ ap (option_map (λ a. split_arg a)) found.1)
    ∙ ap (λ (b : Bool). cond b None (Some (record { ctx = child_of g.ctx p found.0.colour; members = map (λ a. rank_of g a.member) (of_colour found.0.colour (split_args_of list)) }))) none

pub none_made : (kind : Collective) (colour : ℤ) (g : Group) (p : ℕ) (own : Arg) (list : List Arg) → makes_by kind colour ≡ false → own.colour ≡ colour
    → has_own own list ≡ true → own.member < length list → group_made kind g p list own.member ≡ None
none_made Barrier colour g p own list fails same h below = refl
none_made Bcast colour g p own list fails same h below = refl
none_made Reduce colour g p own list fails same h below = refl
none_made Allreduce colour g p own list fails same h below = refl
none_made Scan colour g p own list fails same h below = refl
none_made Gather colour g p own list fails same h below = refl
none_made Scatter colour g p own list fails same h below = refl
none_made Allgather colour g p own list fails same h below = refl
none_made Alltoall colour g p own list fails same h below = refl
none_made CommDup colour g p own list fails same h below = absurd cc
none_made CommSplit colour g p own list fails same h below =
    none_split g p own list h below (ap (λ (z : ℤ). int_eq z UNDEFINED) same ∙ not_false (int_eq colour UNDEFINED) fails)
none_made Migrate colour g p own list fails same h below = refl

-- a communicator is made just where there is room
pub some_made : (kind : Collective) (g : Group) (p : ℕ) (own : Arg) (list : List Arg) → has_own own list ≡ true → own.member < length list
    → is_some (group_made kind g p list own.member) ≡ true → makes_by kind own.colour ≡ true
some_made kind g p own list h below some =
    true_by (makes_by kind own.colour) (λ fails. none_some (none_made kind own.colour g p own list fails refl h below) some)

-- ---- what is known of what was joined

pub may_gather : (kind : Collective) (own : OwnData) (comm : ℤ) (o : Option Joined) (j : Joined) (list : List Arg) → o ≡ Some j → j.gathered ≡ Some list
    → MayEnd kind own comm o → MayGather kind own comm j list
may_gather kind own comm o j list is all may = subst (MayEndBy kind own comm j) all (subst (MayEnd kind own comm) is may)

pub room_made : (areas : Areas) (args : CollectiveArgs) (bytes : List ℕ) (own : OwnData) (j : Joined) (list : List Arg) (made : Option Group)
    → MayGather args.kind own args.comm j list → HasShare areas args j.arg list bytes
    → made ≡ group_made args.kind (group_of own args.comm) j.position list j.arg.member → is_some made ≡ true → length own.communicators < 64
room_made areas args bytes own j list made may has is some =
    may.room (some_made args.kind (group_of own args.comm) j.position j.arg list has.fits may.member (sym (ap is_some is) ∙ some))
