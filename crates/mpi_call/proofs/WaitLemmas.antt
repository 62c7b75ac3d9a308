-- What Waitall gives.
use Rattle.std.proofs.Common.{◌≡◌, ℕ, zero, suc, ◌+◌, ◌*◌, ◌^◌, ◌<◌, ◌≤◌, ◌||◌, inl, inr, not, Bool, true, false, List, [], ◌∷◌, length, map, refl, sym, ap, subst, arith, ◌∙◌, Option, Some, None, Result, Ok, Err}
use Rattle.std.specs.Prelude.{ℤ, pos, int_lt, option_map}
use Rattle.std.specs.List.{list_all, list_any}
use Rattle.std.proofs.lemmas.Bool.{ne_eqb}
use Rattle.std.proofs.lemmas.Bool.Decides.{eqb_tells}
use Rattle.std.proofs.lemmas.List.{length-map}
use Rattle.std.proofs.lemmas.List.Folds.{list_all-map}
use Rattle.am_base.specs.declared.traps.TrapCause.{TrapCause}
use Rattle.rank_range.specs.Layout.{IsRange}
use Rattle.rank_range.specs.Areas.{Areas, areas_of}
use Rattle.mpi_types.specs.declared.argument.Joined.{Joined}
use Rattle.mpi_types.specs.declared.argument.Sweep.{Sweep}
use Rattle.mpi_types.specs.declared.call.Write.{Write}
use Rattle.mpi_types.specs.declared.message.Message.{Message}
use Rattle.mpi_types.specs.Reduce.{elements_of}
use Rattle.mpi_rules.specs.declared.faults.LateFaults.{LateFaults}
use Rattle.mpi_rules.specs.Data.{MpiData, is_running}
use Rattle.mpi_rules.specs.Faults.{cause_of, late_cause_of}
use Rattle.mpi_rules.specs.Places.{count_of, is_open, read_at, are_open}
use Rattle.mpi_rules.specs.Reply.{Reply, checked, writing}
use Rattle.mpi_rules.specs.Requests as words
use Rattle.mpi_rules.specs.Requests.{Came, is_request, all_came, all_ending, all_writes, has_twice, has_statuses, numbers_at, waitall_faults, waitall_reply, waited_all, all_faults}
use Rattle.mpi_call.specs.declared.done.CallStop.{CallStop}
use Rattle.mpi_call.specs.declared.done.CallStop.TheVariants.{Trap, End, Memory}
use Rattle.mpi_call.specs.declared.done.Done.{Done}
use Rattle.mpi_call.specs.declared.requests.Sizes.{Sizes}
use Rattle.mpi_call.specs.Answers.{Kept, data_in, IsGiven, MayDo, Stops}
use Rattle.mpi_call.specs.Arrays.{array_faults, number_faults, AreHeld, Refuses, EndsAll, is_long, has_buffer, has_body, sizes_faults}
use Rattle.mpi_call.specs.Sizes.{sizes_of}
use Rattle.mpi_call.proofs.ArrayLemmas.{or_first, or_second, first_stops, first_passes, all_pass, part_open, array_fits, StatusesOpen, writes_open}
use Rattle.mpi_call.proofs.DoesLemmas.{only_writes, not_false}
use Rattle.mpi_call.proofs.EndLemmas.{checked_is, checked_stop, late_traps, late_does}

-- ---- what is looked at first

abbrev request_fails : MpiData → ℤ → List ℕ → Bool
request_fails mpi count numbers = int_lt count (pos 0) || (not (list_all (is_request mpi) numbers) || has_twice numbers)

pub array_stops : (areas : Areas) (mpi : MpiData) (count : ℤ) (requests : ℕ) (numbers : List ℕ) (why : TrapCause)
    → Some why ≡ cause_of (array_faults areas mpi count requests) → Some why ≡ cause_of (waitall_faults areas mpi count requests numbers)
array_stops areas mpi count requests numbers why h =
    first_stops (not (is_running mpi.own.phase)) (not (is_open areas requests (count_of count * 4))) (request_fails mpi count numbers) why h

pub numbers_tell : (areas : Areas) (mpi : MpiData) (count : ℤ) (requests : ℕ) (numbers : List ℕ) (cause : Option TrapCause)
    → None ≡ cause_of (array_faults areas mpi count requests) → cause ≡ cause_of (number_faults mpi count numbers)
    → cause ≡ cause_of (waitall_faults areas mpi count requests numbers)
numbers_tell areas mpi count requests numbers cause none h =
    first_passes (not (is_running mpi.own.phase)) (not (is_open areas requests (count_of count * 4))) (request_fails mpi count numbers) cause none h

pub array_open : (areas : Areas) (mpi : MpiData) (count : ℤ) (requests : ℕ) → None ≡ cause_of (array_faults areas mpi count requests)
    → is_open areas requests (count_of count * 4) ≡ true
array_open areas mpi count requests none =
    not_false (is_open areas requests (count_of count * 4))
    (all_pass (not (is_running mpi.own.phase)) (not (is_open areas requests (count_of count * 4))) false none).1

pub elements_length : (count : ℕ) (bytes : List ℕ) → length (elements_of 4 count bytes) ≡ count
elements_length zero bytes = refl
elements_length (suc count) bytes = ap suc (elements_length count _)

pub are_held : (areas : Areas) (mpi : MpiData) (count : ℤ) (requests size : ℕ) (numbers : List ℕ) → numbers ≡ numbers_at areas requests size
    → size ≡ count_of count → size < 2 ^ 31 → None ≡ cause_of (array_faults areas mpi count requests)
    → None ≡ cause_of (number_faults mpi count numbers) → AreHeld areas mpi count requests numbers
are_held areas mpi count requests size numbers are same small first second =
    let checks = numbers_tell areas mpi count requests numbers None first second in
    let count_is : length numbers ≡ size = ap length are ∙ elements_length size (read_at areas requests (size * 4)) in
    let wrong =
    (all_pass (not (is_running mpi.own.phase)) (not (is_open areas requests (count_of count * 4))) (request_fails mpi count numbers) checks).2 in
    let known = or_second (int_lt count (pos 0)) (not (list_all (is_request mpi) numbers) || has_twice numbers) wrong in
    record {
      numbers_are = are ∙ ap (numbers_at areas requests) same;
      checks = checks;
      few = omega (arith, count_is, small);
      reached = ap (λ (n : ℕ). is_open areas requests (n * 4)) (count_is ∙ same) ∙ array_open areas mpi count requests first;
      live = not_false (list_all (is_request mpi) numbers) (or_first (not (list_all (is_request mpi) numbers)) (has_twice numbers) known);
      once = or_second (not (list_all (is_request mpi) numbers)) (has_twice numbers) known;
    }

-- ---- what is looked at when they end

any_map : {X Y : Type 0} (p : X → Bool) (f : Y → X) (ys : List Y) → list_any p (map f ys) ≡ list_any (λ y. p (f y)) ys
any_map p f [] = refl
any_map p f (y ∷ ys) = ap (λ (b : Bool). p (f y) || b) (any_map p f ys)

abbrev late : Bool → Bool → LateFaults
late long address = record { long = long; mismatched = false; address = address }

statuses_open : (rank top status count : ℕ) (bytes : List ℕ) → IsRange top bytes → has_statuses (areas_of rank top bytes) status count ≡ true
    → StatusesOpen (areas_of rank top bytes) status count
statuses_open rank top status count bytes range h =
    elim (eqb_tells status 0) [
      | inl t ↦ inl t.1
      | inr t ↦ inr (λ i below.
          part_open rank top status (count * 16) (16 * i) 16 bytes range
          (sym (ap (λ (b : Bool). b || is_open (areas_of rank top bytes) status (count * 16)) t.0) ∙ h) (omega (arith, below)))
    ]

closed_or : (s x y : Bool) → (s ≡ true → x ≡ y) → (not s || not x) ≡ (not s || not y)
closed_or true x y same = ap not (same refl)
closed_or false x y same = refl

pub faults_same : (rank top : ℕ) (bytes : List ℕ) (all : List Sizes) (came : List Came) (numbers : List ℕ) (requests status : ℕ) → IsRange top bytes
    → all ≡ map sizes_of came → length came ≡ length numbers → is_open (areas_of rank top bytes) requests (length numbers * 4) ≡ true
    → sizes_faults (areas_of rank top bytes) all status
    ≡ all_faults (areas_of rank top bytes) came status (all_writes requests status numbers came)
faults_same rank top bytes all came numbers requests status range same count opens =
    let areas = areas_of rank top bytes in
    let bodies = list_all (λ c. is_open areas c.buffer (length c.body)) came in
    let buffers = list_all (words.has_buffer areas) came in
    let statuses = has_statuses areas status (length came) in
    ap (λ (xs : List Sizes). sizes_faults areas xs status) same
    ∙ ap (λ (b : Bool). late b (not (list_all (has_buffer areas) (map sizes_of came)) || (not (has_statuses areas status (length (map sizes_of came))) || not (list_all (has_body areas) (map sizes_of came)))))
    (any_map is_long sizes_of came)
    ∙ ap (λ (b : Bool). late (list_any words.is_long came) (not b || (not (has_statuses areas status (length (map sizes_of came))) || not (list_all (has_body areas) (map sizes_of came)))))
    (list_all-map (has_buffer areas) sizes_of came)
    ∙ ap (λ (n : ℕ). late (list_any words.is_long came) (not buffers || (not (has_statuses areas status n) || not (list_all (has_body areas) (map sizes_of came)))))
    (length-map came sizes_of)
    ∙ ap (λ (b : Bool). late (list_any words.is_long came) (not buffers || (not statuses || not b))) (list_all-map (has_body areas) sizes_of came)
    ∙ ap (λ (b : Bool). late (list_any words.is_long came) (not buffers || b))
    (closed_or statuses bodies (are_open areas (all_writes requests status numbers came)) (λ there.
    sym (writes_open areas numbers came requests status count
    (λ i below. part_open rank top requests (length numbers * 4) (4 * i) 4 bytes range opens (omega (arith, below)))
    (subst (λ (n : ℕ). StatusesOpen areas status n) count (statuses_open rank top status (length came) bytes range there)))))

-- ---- what is given

abbrev with_joined : Option Joined → Sweep → Sweep
with_joined j sweep = record sweep { joined = j }

pub all_given : (numbers : List ℕ) (came : List Came) (requests status : ℕ) (old new : Kept) (done : Done) (writes : List Write)
    → EndsAll numbers came requests status old new writes → done ≡ only_writes writes
    → IsGiven (writing (all_ending numbers (data_in old)) (all_writes requests status numbers came)) done old new
all_given numbers came requests status old new done writes e is =
    let after = all_ending numbers (data_in old) in
    let d : done ≡ only_writes (all_writes requests status numbers came) = is ∙ ap only_writes e.writes_are in
    let joined : old.sweep.joined ≡ after.joined = sym (ap (λ (s : Sweep). s.joined) e.sweep_is) ∙ ap (λ (mpi : MpiData). mpi.joined) e.data_is in
    record {
      answer = ap (λ (x : Done). x.answer) d;
      writes = ap (λ (x : Done). x.writes) d;
      send = ap (λ (x : Done). x.send) d;
      own_is = ap (λ (mpi : MpiData). mpi.own) e.data_is;
      book = (
        ap (λ (x : Done). x.hit) d,
        ap (λ (mpi : MpiData). record { posted = mpi.posted; matched = mpi.matched; arrived = new.lists.arrived }) e.data_is
            ∙ ap (λ (arrived : List Message). record { posted = after.posted; matched = after.matched; arrived = arrived }) e.arrived,
      );
      sweep = (ap (λ (x : Done). x.sweep) d, e.sweep_is ∙ ap (λ (j : Option Joined). with_joined j old.sweep) joined);
    }

pub all_trap : (areas : Areas) (f : LateFaults) (all : List Sizes) (came : List Came) (numbers : List ℕ) (requests status : ℕ) (why : TrapCause) (k : Kept)
    → all_came (data_in k) numbers ≡ Some came → Some why ≡ late_cause_of f
    → f ≡ all_faults areas came status (all_writes requests status numbers came)
    → MayDo (waited_all areas (data_in k) requests status numbers (all_came (data_in k) numbers)) k (Err (Trap why)) k
all_trap areas f all came numbers requests status why k is stops same =
    subst (λ (o : Option (List Came)). MayDo (waited_all areas (data_in k) requests status numbers o) k (Err (Trap why)) k) (sym is)
    (late_traps f (all_faults areas came status (all_writes requests status numbers came))
    (writing (all_ending numbers (data_in k)) (all_writes requests status numbers came)) why k stops same)

pub all_do : (areas : Areas) (f : LateFaults) (came : List Came) (numbers : List ℕ) (requests status : ℕ) (done : Done) (old new : Kept) (writes : List Write)
    → all_came (data_in old) numbers ≡ Some came → None ≡ late_cause_of f → f ≡ all_faults areas came status (all_writes requests status numbers came)
    → EndsAll numbers came requests status old new writes → done ≡ only_writes writes
    → MayDo (waited_all areas (data_in old) requests status numbers (all_came (data_in old) numbers)) old (Ok (Some done)) new
all_do areas f came numbers requests status done old new writes is passes same ends wrote =
    subst (λ (o : Option (List Came)). MayDo (waited_all areas (data_in old) requests status numbers o) old (Ok (Some done)) new) (sym is)
    (late_does f (all_faults areas came status (all_writes requests status numbers came))
    (writing (all_ending numbers (data_in old)) (all_writes requests status numbers came)) done old new passes same
    (all_given numbers came requests status old new done writes ends wrote))

none_of_all : (o : Option (List Came)) → None ≡ option_map (map sizes_of) o → o ≡ None
none_of_all None is = refl
none_of_all (Some came) is = absurd cc

pub all_wait : (areas : Areas) (mpi : MpiData) (numbers : List ℕ) (requests status : ℕ) (k : Kept)
    → None ≡ option_map (map sizes_of) (all_came mpi numbers) → MayDo (waited_all areas mpi requests status numbers (all_came mpi numbers)) k (Ok None) k
all_wait areas mpi numbers requests status k is =
    (ap (waited_all areas mpi requests status numbers) (none_of_all (all_came mpi numbers) is), refl)

-- ---- the call

pub held_does : (areas : Areas) (mpi : MpiData) (count : ℤ) (requests status : ℕ) (numbers : List ℕ) (result : Result (Option Done) CallStop) (old new : Kept)
    → AreHeld areas mpi count requests numbers → MayDo (waited_all areas mpi requests status numbers (all_came mpi numbers)) old result new
    → MayDo (waitall_reply areas mpi count requests status) old result new
unfolding waitall_reply
held_does areas mpi count requests status numbers result old new held does =
    subst (λ (ns : List ℕ). MayDo (checked (waitall_faults areas mpi count requests ns) (waited_all areas mpi requests status ns (all_came mpi ns))) old result new)
    held.numbers_are
    (subst (λ (r : Reply). MayDo r old result new)
    (sym (checked_is (waitall_faults areas mpi count requests numbers) (waited_all areas mpi requests status numbers (all_came mpi numbers)) held.checks)) does)

pub held_stops : (areas : Areas) (mpi : MpiData) (count : ℤ) (requests status : ℕ) (stop : CallStop) (k : Kept)
    → Refuses (waitall_faults areas mpi count requests (numbers_at areas requests (count_of count))) stop
    → Stops (waitall_reply areas mpi count requests status) stop k k
unfolding waitall_reply
held_stops areas mpi count requests status (Trap why) k refused =
    let numbers = numbers_at areas requests (count_of count) in
    checked_stop (waitall_faults areas mpi count requests numbers) (waited_all areas mpi requests status numbers (all_came mpi numbers)) why k refused
held_stops areas mpi count requests status (End status_of) k refused = absurd refused
held_stops areas mpi count requests status Memory k refused = tt

-- ---- addresses of what is written are words

late_passes : (long address : Bool) → None ≡ late_cause_of (late long address) → address ≡ false
unfolding late_cause_of
late_passes true address h = absurd cc
late_passes false true h = absurd cc
late_passes false false h = refl

status_word : (rank top status count : ℕ) (bytes : List ℕ) → rank < 2 ^ 16 → IsRange top bytes → status < 2 ^ 64
    → has_statuses (areas_of rank top bytes) status count ≡ true → (status ≡ 0 → ⊥) → status + 16 * count ≤ 2 ^ 64
status_word rank top status count bytes small range word h some =
    array_fits rank top status count 16 bytes small range word (omega arith)
    (sym (ap (λ (b : Bool). b || is_open (areas_of rank top bytes) status (count * 16)) (ne_eqb status 0 some)) ∙ h)

pub statuses_fit : (rank top status size : ℕ) (bytes : List ℕ) (all : List Sizes) (f : LateFaults) → rank < 2 ^ 16 → IsRange top bytes → status < 2 ^ 64
    → None ≡ late_cause_of f → f ≡ sizes_faults (areas_of rank top bytes) all status → length all ≡ size → (status ≡ 0 → ⊥) → status + 16 * size ≤ 2 ^ 64
statuses_fit rank top status size bytes all f small range word passes is same some =
    let areas = areas_of rank top bytes in
    let closed =
    late_passes (list_any is_long all) (not (list_all (has_buffer areas) all) || (not (has_statuses areas status (length all)) || not (list_all (has_body areas) all)))
    (passes ∙ ap late_cause_of is) in
    let inner = or_second (not (list_all (has_buffer areas) all)) (not (has_statuses areas status (length all)) || not (list_all (has_body areas) all)) closed in
    let there = not_false (has_statuses areas status (length all)) (or_first (not (has_statuses areas status (length all))) (not (list_all (has_body areas) all)) inner) in
    subst (λ (n : ℕ). status + 16 * n ≤ 2 ^ 64) same (status_word rank top status (length all) bytes small range word there some)

pub variables_fit : (rank top requests count : ℕ) (bytes : List ℕ) → rank < 2 ^ 16 → IsRange top bytes → requests < 2 ^ 64
    → is_open (areas_of rank top bytes) requests (count * 4) ≡ true → requests + 4 * count ≤ 2 ^ 64
variables_fit rank top requests count bytes small range word h = array_fits rank top requests count 4 bytes small range word (omega arith) h
