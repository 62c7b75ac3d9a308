-- The end of a request: what is looked at, and what is given.
use Rattle.std.proofs.Common.{◌≡◌, ℕ, ◌==◌, Bool, true, false, cond, not, ◌&&◌, ◌||◌, List, [], ◌∷◌, ◌++◌, length, take, refl, ap, sym, subst, ◌∙◌, Option, Some, None, Ok}
use Rattle.std.specs.Prelude.{IfSome, is_some, option_map, nat_lt}
use Rattle.std.proofs.lemmas.List.Folds.{list_all-append}
use Rattle.std.proofs.Math.Dec.{leb-zero}
use Rattle.std.proofs.lemmas.Bool.{ne_eqb}
use Rattle.am_base.specs.declared.traps.TrapCause.{TrapCause}
use Rattle.rank_range.specs.Areas.{Areas, bytes_at, bytes_from}
use Rattle.mpi_types.specs.declared.argument.Joined.{Joined}
use Rattle.mpi_types.specs.declared.argument.Sweep.{Sweep}
use Rattle.mpi_types.specs.declared.call.Write.{Write}
use Rattle.mpi_types.specs.declared.status.Status.{Status}
use Rattle.mpi_rules.specs.declared.faults.LateFaults.{LateFaults}
use Rattle.mpi_rules.specs.Data.{MpiData, is_live, without}
use Rattle.mpi_rules.specs.declared.faults.Faults.{Faults}
use Rattle.mpi_rules.specs.Faults.{cause_of, late_cause_of}
use Rattle.mpi_rules.specs.Places.{is_open, are_open, write_of, write_at, status_bytes, status_writes}
use Rattle.mpi_rules.specs.Reply.{Given, Reply, Gives, Traps, NotYet, unless, checked, ended, writing}
use Rattle.mpi_rules.specs.Requests.{Came, came_writes, came_faults, came_reply, came_of, came_without, empty_status, completion, ending, has_buffer, is_request, received, variable_writes}
use Rattle.mpi_rules.specs.Messages.{request_write}
use Rattle.mpi_call.specs.declared.done.CallStop.{CallStop}
use Rattle.mpi_call.specs.declared.done.CallStop.TheVariants.{Trap}
use Rattle.mpi_call.specs.declared.done.Done.{Done}
use Rattle.mpi_call.specs.declared.requests.Sizes.{Sizes}
use Rattle.mpi_call.specs.Answers.{Kept, data_in, IsGiven, Does, DoesGive, Stops, Took}
use Rattle.mpi_call.specs.Sizes.{sizes_of}
use Rattle.mpi_call.proofs.DoesLemmas.{only_writes}

-- ---- what is looked at

none_open : (areas : Areas) (a : ℕ) → is_open areas a 0 ≡ true
unfolding is_open bytes_at
none_open areas a =
    ap (λ (b : Bool). is_some {T = List ℕ} (cond b (Some (take 0 (bytes_from areas a))) None)) (leb-zero (length (bytes_from areas a)))

and_true : (b : Bool) → (b && true) ≡ b
and_true true = refl
and_true false = refl

pub body_open : (areas : Areas) (a : ℕ) (bytes : List ℕ) → are_open areas (write_of a bytes) ≡ is_open areas a (length bytes)
body_open areas a [] = sym (none_open areas a)
body_open areas a (b ∷ bytes) = and_true (is_open areas a (length (b ∷ bytes)))

status_open : (areas : Areas) (a : ℕ) (s : Status) → are_open areas (status_writes a s) ≡ (a == 0 || is_open areas a 16)
status_open areas a s =
    elim (a == 0) as (λ b. are_open areas (cond b [] (write_at a (status_bytes s) ∷ [])) ≡ (b || is_open areas a 16))
    [ true ↦ refl | false ↦ and_true (is_open areas a 16) ]

pub both_open : (areas : Areas) (xs ys : List Write) → are_open areas (xs ++ ys) ≡ (are_open areas xs && are_open areas ys)
both_open areas xs ys = list_all-append (λ w. is_open areas w.address (length w.bytes)) xs ys

pub came_open : (areas : Areas) (c : Came) (variable more : List Write) (status : ℕ) → are_open areas variable ≡ true
    → are_open areas (came_writes c variable more status)
    ≡ (is_open areas c.buffer (length c.body) && (are_open areas more && (status == 0 || is_open areas status 16)))
came_open areas c variable more status open_is =
    both_open areas (write_of c.buffer c.body) (variable ++ (more ++ status_writes status c.status))
    ∙ ap (λ (b : Bool). b && are_open areas (variable ++ (more ++ status_writes status c.status))) (body_open areas c.buffer c.body)
    ∙ ap (λ (b : Bool). is_open areas c.buffer (length c.body) && b)
    (both_open areas variable (more ++ status_writes status c.status)
    ∙ ap (λ (b : Bool). b && are_open areas (more ++ status_writes status c.status)) open_is
    ∙ both_open areas more (status_writes status c.status)
    ∙ ap (λ (b : Bool). are_open areas more && b) (status_open areas status c.status))

abbrev late : Bool → Bool → LateFaults
late long address = record { long = long; mismatched = false; address = address }

abbrev closed_by : Areas → Sizes → Bool → ℕ → Bool
closed_by areas s others status =
    not (is_open areas s.buffer s.room) || not (is_open areas s.buffer s.length && (others && (status == 0 || is_open areas status 16)))

faults_of_came : (areas : Areas) (c : Came) (variable more : List Write) (status : ℕ) → are_open areas variable ≡ true
    → late (nat_lt c.room (length c.body)) (closed_by areas (sizes_of c) (are_open areas more) status)
    ≡ came_faults areas c (came_writes c variable more status)
faults_of_came areas c variable more status open_is =
    ap (λ (b : Bool). late (nat_lt c.room (length c.body)) (not (has_buffer areas c) || not b)) (sym (came_open areas c variable more status open_is))

pub faults_are : (areas : Areas) (s : Sizes) (c : Came) (variable more : List Write) (others closed : Bool) (status : ℕ) → s ≡ sizes_of c
    → are_open areas variable ≡ true → others ≡ are_open areas more → closed ≡ closed_by areas s others status
    → late (nat_lt s.room s.length) closed ≡ came_faults areas c (came_writes c variable more status)
faults_are areas s c variable more others closed status same open_is others_is closed_is =
    ap (late (nat_lt s.room s.length)) (closed_is ∙ ap (λ (b : Bool). closed_by areas s b status) others_is)
    ∙ ap (λ (x : Sizes). late (nat_lt x.room x.length) (closed_by areas x (are_open areas more) status)) same
    ∙ faults_of_came areas c variable more status open_is

-- ---- what is given

unless_traps : (o : Option TrapCause) (r : Reply) (why : TrapCause) → o ≡ Some why → unless o r ≡ Traps why
unless_traps None r why is = cc
unless_traps (Some c) r why is = cc

pub late_traps : (f g : LateFaults) (given : Given) (why : TrapCause) (k : Kept) → Some why ≡ late_cause_of f → f ≡ g
    → Stops (ended g given) (Trap why) k k
late_traps f g given why k is same = (unless_traps (late_cause_of g) (Gives given) why (ap late_cause_of (sym same) ∙ sym is), refl)

unless_gives : (o : Option TrapCause) (r : Reply) → o ≡ None → unless o r ≡ r
unless_gives None r is = refl
unless_gives (Some c) r is = absurd cc

pub late_does : (f g : LateFaults) (given : Given) (done : Done) (old new : Kept) → None ≡ late_cause_of f → f ≡ g
    → IsGiven given done old new → Does (ended g given) old (Ok done) new
late_does f g given done old new is same h =
    subst (λ (r : Reply). Does r old (Ok done) new)
    (sym (unless_gives (late_cause_of g) (Gives given) (ap late_cause_of (sym same) ∙ sym is))) h

abbrev with_joined : Option Joined → Sweep → Sweep
with_joined j sweep = record sweep { joined = j }

ending_joined : (n : ℕ) (mpi : MpiData) → (ending n mpi).joined ≡ mpi.joined
unfolding without
ending_joined n mpi =
    elim (n == 0) as (λ b. (cond b mpi (without n mpi)).joined ≡ mpi.joined) [ true ↦ refl | false ↦ refl ]

pub took_given : (k new : Kept) (n : ℕ) (c : Came) (body : List ℕ) (done : Done) (writes wanted : List Write)
    → Took c (ending n (data_in k)) k body new → done ≡ only_writes writes → writes ≡ wanted
    → IsGiven (writing (ending n (data_in k)) wanted) done k new
took_given k new n c body done writes wanted took is same =
    let d : done ≡ only_writes wanted = is ∙ ap only_writes same in
    record {
      answer = ap (λ (x : Done). x.answer) d;
      writes = ap (λ (x : Done). x.writes) d;
      send = ap (λ (x : Done). x.send) d;
      own_is = took.own_is;
      book = (ap (λ (x : Done). x.hit) d, took.lists_are);
      sweep = (
        ap (λ (x : Done). x.sweep) d,
        took.sweep_is ∙ ap (λ (j : Option Joined). with_joined j k.sweep) (sym (ending_joined n (data_in k))),
      );
    }

-- what is written, by what is known of what came
pub writes_are : (s : Sizes) (c : Came) (body : List ℕ) (variable more writes : List Write) (status : ℕ) → s ≡ sizes_of c → body ≡ c.body
    → writes ≡ write_of s.buffer body ++ (variable ++ (more ++ status_writes status s.status)) → writes ≡ came_writes c variable more status
writes_are s c body variable more writes status same bytes is =
    is ∙ ap (λ (x : Sizes). write_of x.buffer body ++ (variable ++ (more ++ status_writes status x.status))) same
    ∙ ap (λ (b : List ℕ). write_of c.buffer b ++ (variable ++ (more ++ status_writes status c.status))) bytes

some_sizes : (s t : Sizes) → Some s ≡ Some t → s ≡ t
some_sizes s t h = cc

pub sizes_same : (o : Option Came) (s : Sizes) (c : Came) → Some s ≡ option_map sizes_of o → o ≡ Some c → s ≡ sizes_of c
sizes_same o s c is some = some_sizes s (sizes_of c) (is ∙ ap (option_map sizes_of) some)

pub some_there : (o : Option Came) (s : Sizes) → Some s ≡ option_map sizes_of o → is_some o ≡ true
some_there None s is = absurd cc
some_there (Some c) s is = refl

pub when_some : (P : Came → Type 0) (o : Option Came) (c : Came) → o ≡ Some c → IfSome o P → P c
when_some P o c is h = subst (λ (x : Option Came). IfSome x P) is h

-- ---- the calls

came_nonzero : (mpi : MpiData) (n : ℕ) → (n ≡ 0 → ⊥) → came_of mpi n ≡ completion mpi n
came_nonzero mpi n some =
    ap (λ (b : Bool). cond b (Some (came_without empty_status)) (completion mpi n)) (ne_eqb n 0 some)

ending_nonzero : (mpi : MpiData) (n : ℕ) → (n ≡ 0 → ⊥) → ending n mpi ≡ without n mpi
ending_nonzero mpi n some = ap (λ (b : Bool). cond b mpi (without n mpi)) (ne_eqb n 0 some)

pub sizes_nonzero : (mpi : MpiData) (n : ℕ) (r : Option Sizes) → (n ≡ 0 → ⊥) → r ≡ option_map sizes_of (completion mpi n)
    → r ≡ option_map sizes_of (came_of mpi n)
sizes_nonzero mpi n r some is = is ∙ ap (option_map sizes_of) (sym (came_nonzero mpi n some))

-- something came
pub came_there : (o : Option Came) (s : Sizes) → Some s ≡ option_map sizes_of o → (c : Came) × (o ≡ Some c)
came_there None s is = absurd cc
came_there (Some c) s is = (c, refl)

pub none_came : (o : Option Came) → None ≡ option_map sizes_of o → o ≡ None
none_came None is = refl
none_came (Some c) is = absurd cc

pub received_some : (areas : Areas) (mpi : MpiData) (n status : ℕ) (c : Came) → (n ≡ 0 → ⊥) → came_of mpi n ≡ Some c
    → received areas mpi n status (completion mpi n) ≡ came_reply areas (ending n mpi) c (came_writes c [] [] status)
received_some areas mpi n status c some is =
    ap (received areas mpi n status) (sym (came_nonzero mpi n some) ∙ is)
    ∙ ap (λ (x : MpiData). came_reply areas x c (came_writes c [] [] status)) (sym (ending_nonzero mpi n some))

pub received_none : (areas : Areas) (mpi : MpiData) (n status : ℕ) → None ≡ option_map sizes_of (completion mpi n)
    → received areas mpi n status (completion mpi n) ≡ NotYet
received_none areas mpi n status is = ap (received areas mpi n status) (none_came (completion mpi n) is)

pub gives_same : (r s : Reply) (done : Done) (old new : Kept) → s ≡ r → DoesGive r done old new → DoesGive s done old new
gives_same r s done old new is h = subst (λ (x : Reply). DoesGive x done old new) (sym is) h

pub stops_same : (r s : Reply) (stop : CallStop) (old new : Kept) → s ≡ r → Stops r stop old new → Stops s stop old new
stops_same r s stop old new is h = subst (λ (x : Reply). Stops x stop old new) (sym is) h

pub variable_open : (areas : Areas) (variable n : ℕ) → is_open areas variable 4 ≡ true → are_open areas (variable_writes variable n) ≡ true
variable_open areas variable n h =
    elim (n == 0) as (λ b. are_open areas (cond b [] (request_write variable 0 ∷ [])) ≡ true)
    [ true ↦ refl | false ↦ and_true (is_open areas variable 4) ∙ h ]

-- the reply of a checked call whose checks pass
pub checked_is : (f : Faults) (r : Reply) → None ≡ cause_of f → checked f r ≡ r
checked_is f r h = unless_gives (cause_of f) r (sym h)

pub checked_stop : (f : Faults) (r : Reply) (why : TrapCause) (k : Kept) → Some why ≡ cause_of f → Stops (checked f r) (Trap why) k k
checked_stop f r why k h = (unless_traps (cause_of f) r why (sym h), refl)

live_by : (b c : Bool) → b ≡ false → (b || c) ≡ true → c ≡ true
live_by true c zero h = absurd cc
live_by false c zero h = h

pub request_live : (mpi : MpiData) (n m : ℕ) → n ≡ m → (n ≡ 0 → ⊥) → is_request mpi m ≡ true → is_live mpi n ≡ true
request_live mpi n m same some h =
    live_by (n == 0) (is_live mpi n) (ne_eqb n 0 some) (subst (λ (x : ℕ). is_request mpi x ≡ true) (sym same) h)
