-- Whether a call can be answered now.
use Rattle.std.proofs.Common.{◌≡◌, ℕ, zero, suc, ◌+◌, ◌-◌, ◌*◌, ◌<◌, ◌≤◌, ◌==◌, ◌||◌, ◌&&◌, not, Bool, true, false, List, [], ◌∷◌, length, drop, get_or, refl, sym, ap, arith, ◌∙◌, Option, Some, None}
use Rattle.std.specs.Prelude.{ℤ, pos, int_lt, is_some, option_map, option_and_then, slice_index, unwrap_or}
use Rattle.std.specs.List.{list_all, list_any}
use Rattle.std.proofs.lemmas.List.{drop-drop, at_drop_more, at_drop_all}
use Rattle.am_base.specs.declared.traps.TrapCause.{TrapCause}
use Rattle.byteorder.specs.Endian.{little_number}
use Rattle.rank_range.specs.Areas.{Areas, bytes_at}
use Rattle.rank_range.specs.Numbers.{number_at}
use Rattle.mpi_types.specs.Reduce.{elements_of}
use Rattle.mpi_types.specs.declared.argument.Arg.{Arg}
use Rattle.mpi_types.specs.declared.argument.Joined.{Joined}
use Rattle.mpi_rules.specs.declared.arguments.CollectiveArgs.{CollectiveArgs}
use Rattle.mpi_rules.specs.declared.faults.Faults.{Faults}
use Rattle.mpi_rules.specs.declared.faults.LateFaults.{LateFaults}
use Rattle.am_base.specs.declared.calls.MpiCall.{MpiCall}
use Rattle.am_base.specs.declared.calls.MpiCall.TheVariants as call
use Rattle.mpi_types.specs.declared.collective.Collective.TheVariants as kind
use Rattle.mpi_rules.specs.Calls.{reply_to}
use Rattle.mpi_call.specs.Served.{is_finished, is_second}
use Rattle.mpi_rules.specs.Collectives.{collective_args, gathered_reply, joined, gathered as gathered_of}
use Rattle.mpi_rules.specs.Data.{MpiData, is_running, is_live}
use Rattle.mpi_rules.specs.Faults.{cause_of, late_cause_of}
use Rattle.mpi_rules.specs.Places.{count_of, is_open, read_at, variable_at}
use Rattle.mpi_rules.specs.Reply.{Given, Reply, Gives, unless, checked, ended, no_faults}
use Rattle.mpi_rules.specs.Requests.{Came, completion, came_of, is_request, received, received_reply, variable_faults, waited, wait_reply, tested, test_reply, all_came, has_twice, numbers_at, waitall_faults, waited_all, waitall_reply}
use Rattle.mpi_call.specs.declared.requests.Sizes.{Sizes}
use Rattle.mpi_call.specs.Arrays.{array_faults}
use Rattle.mpi_call.specs.Held.{IsHeld}
use Rattle.mpi_call.specs.Ready.{is_answered, gathered_in}
use Rattle.mpi_call.specs.Sizes.{sizes_of}
use Rattle.mpi_call.proofs.ArrayLemmas.{all_each, read_length}
use Rattle.mpi_call.proofs.EndLemmas.{request_live}
use Rattle.mpi_call.proofs.WaitLemmas.{array_stops, array_open, elements_length}

-- ---- replies

answered_unless : (o : Option TrapCause) (r : Reply) → is_answered r ≡ true → is_answered (unless o r) ≡ true
answered_unless None r h = h
answered_unless (Some why) r h = refl

stopped_unless : (o : Option TrapCause) (r : Reply) (why : TrapCause) → Some why ≡ o → is_answered (unless o r) ≡ true
stopped_unless None r why h = absurd cc
stopped_unless (Some other) r why h = refl

answered_ended : (f : LateFaults) (given : Given) → is_answered (ended f given) ≡ true
answered_ended f given = answered_unless (late_cause_of f) (Gives given) refl

some_map : {X Y : Type 0} (f : X → Y) (o : Option X) → is_some (option_map f o) ≡ is_some o
some_map f None = refl
some_map f (Some x) = refl

received_told : (areas : Areas) (mpi : MpiData) (n status : ℕ) (o : Option Came) → is_some o ≡ is_answered (received areas mpi n status o)
received_told areas mpi n status None = refl
received_told areas mpi n status (Some c) = sym (answered_ended _ _)

waited_told : (areas : Areas) (mpi : MpiData) (variable n status : ℕ) (o : Option Came) → is_some o ≡ is_answered (waited areas mpi variable n status o)
waited_told areas mpi variable n status None = refl
waited_told areas mpi variable n status (Some c) = sym (answered_ended _ _)

tested_told : (areas : Areas) (mpi : MpiData) (variable n flag status : ℕ) (o : Option Came) → is_answered (tested areas mpi variable n flag status o) ≡ true
tested_told areas mpi variable n flag status None = answered_ended _ _
tested_told areas mpi variable n flag status (Some c) = answered_ended _ _

pub received_ready : (areas : Areas) (mpi : MpiData) (status : ℕ) (r : Option Sizes) → r ≡ option_map sizes_of (completion mpi (mpi.own.next - 1))
    → is_some r ≡ is_answered (received_reply areas mpi status)
unfolding received_reply
received_ready areas mpi status r is =
    ap is_some is ∙ some_map sizes_of (completion mpi (mpi.own.next - 1)) ∙ received_told areas mpi (mpi.own.next - 1) status (completion mpi (mpi.own.next - 1))

unless_passes : (o : Option TrapCause) (r : Reply) → None ≡ o → unless o r ≡ r
unless_passes None r h = refl
unless_passes (Some why) r h = absurd cc

pub wait_ready : (areas : Areas) (mpi : MpiData) (variable n status : ℕ) (r : Option Sizes) → IsHeld areas mpi variable n → r ≡ option_map sizes_of (came_of mpi n)
    → is_some r ≡ is_answered (wait_reply areas mpi variable status)
unfolding wait_reply
wait_ready areas mpi variable n status r held is =
    let number = variable_at areas variable in
    ap is_some is ∙ some_map sizes_of (came_of mpi n) ∙ ap (λ (k : ℕ). is_some (came_of mpi k)) held.number
    ∙ waited_told areas mpi variable number status (came_of mpi number)
    ∙ ap is_answered (sym (unless_passes (cause_of (variable_faults areas mpi variable)) (waited areas mpi variable number status (came_of mpi number)) held.checks))

pub wait_stopped : (areas : Areas) (mpi : MpiData) (variable status : ℕ) (why : TrapCause) → Some why ≡ cause_of (variable_faults areas mpi variable)
    → true ≡ is_answered (wait_reply areas mpi variable status)
unfolding wait_reply
wait_stopped areas mpi variable status why stops =
    sym (stopped_unless (cause_of (variable_faults areas mpi variable)) (waited areas mpi variable (variable_at areas variable) status (came_of mpi (variable_at areas variable))) why stops)

pub test_ready : (areas : Areas) (mpi : MpiData) (variable flag status : ℕ) → true ≡ is_answered (test_reply areas mpi variable flag status)
unfolding test_reply
test_ready areas mpi variable flag status =
    sym (answered_unless (cause_of (variable_faults areas mpi variable)) _ (tested_told areas mpi variable (variable_at areas variable) flag status (came_of mpi (variable_at areas variable))))

gathered_told : (areas : Areas) (mpi : MpiData) (args : CollectiveArgs) (j : Joined) (o : Option (List Arg)) → is_some o ≡ is_answered (gathered_of areas mpi args j o)
gathered_told areas mpi args j None = refl
gathered_told areas mpi args j (Some list) = sym (answered_ended _ _)

joined_told : (areas : Areas) (mpi : MpiData) (args : CollectiveArgs) (o : Option Joined) → gathered_in o ≡ is_answered (joined areas mpi args o)
joined_told areas mpi args None = refl
joined_told areas mpi args (Some j) = gathered_told areas mpi args j j.gathered

pub gathered_ready : (areas : Areas) (mpi : MpiData) (args : CollectiveArgs) → gathered_in mpi.joined ≡ is_answered (gathered_reply areas mpi args)
unfolding gathered_reply
gathered_ready areas mpi args = joined_told areas mpi args mpi.joined

-- ---- the numbers of an array

next_element : (count i : ℕ) (bytes : List ℕ) → get_or (elements_of 4 count (drop 4 bytes)) i 0 ≡ number_at (drop 4 bytes) (4 * i) 4
    → get_or (elements_of 4 count (drop 4 bytes)) i 0 ≡ little_number 4 (drop (4 + 4 * i) bytes)
unfolding number_at
next_element count i bytes is = is ∙ ap (little_number 4) (drop-drop (4 * i) 4 bytes)

pub element_at : (count i : ℕ) (bytes : List ℕ) → i < count → get_or (elements_of 4 count bytes) i 0 ≡ number_at bytes (4 * i) 4
unfolding number_at
element_at zero i bytes below = absurd (omega (arith, below))
element_at (suc count) zero bytes below = refl
element_at (suc count) (suc i) bytes below =
    let place : 4 + 4 * i ≡ 4 * suc i = omega arith in
    next_element count i bytes (element_at count i (drop 4 bytes) (omega (arith, below)))
    ∙ ap (λ (k : ℕ). little_number 4 (drop k bytes)) place

abbrev E : ℕ → List ℕ → List ℕ
E count bytes = elements_of 4 count bytes

inside : (count i : ℕ) (bytes : List ℕ) → i < count → i < length (E count bytes)
inside count i bytes below = let size = elements_length count bytes in omega (arith, size, below)

any_at : (p : ℕ → Bool) (count i : ℕ) (bytes : List ℕ) → i < count
    → list_any p (drop i (E count bytes)) ≡ (p (number_at bytes (4 * i) 4) || list_any p (drop (i + 1) (E count bytes)))
any_at p count i bytes below =
    at_drop_more (list_any p) (E count bytes) i 0 (inside count i bytes below)
    ∙ ap (λ (x : ℕ). p x || list_any p (drop (i + 1) (E count bytes))) (element_at count i bytes below)

pub any_more : (p : ℕ → Bool) (count i : ℕ) (bytes : List ℕ) → i < count → p (number_at bytes (4 * i) 4) ≡ false
    → list_any p (drop (i + 1) (E count bytes)) ≡ list_any p (drop i (E count bytes))
any_more p count i bytes below fails = sym (any_at p count i bytes below ∙ ap (λ (b : Bool). b || list_any p (drop (i + 1) (E count bytes))) fails)

pub any_found : (p : ℕ → Bool) (count i : ℕ) (bytes : List ℕ) → i < count → p (number_at bytes (4 * i) 4) ≡ true → list_any p (drop i (E count bytes)) ≡ true
any_found p count i bytes below holds = any_at p count i bytes below ∙ ap (λ (b : Bool). b || list_any p (drop (i + 1) (E count bytes))) holds

past : (count i : ℕ) (bytes : List ℕ) → count ≤ i → length (E count bytes) ≤ i
past count i bytes over = let size = elements_length count bytes in omega (arith, size, over)

pub any_none : (p : ℕ → Bool) (count i : ℕ) (bytes : List ℕ) → count ≤ i → list_any p (drop i (E count bytes)) ≡ false
any_none p count i bytes over = at_drop_all (list_any p) (E count bytes) i (past count i bytes over)

all_at : (p : ℕ → Bool) (count i : ℕ) (bytes : List ℕ) → i < count
    → list_all p (drop i (E count bytes)) ≡ (p (number_at bytes (4 * i) 4) && list_all p (drop (i + 1) (E count bytes)))
all_at p count i bytes below =
    at_drop_more (list_all p) (E count bytes) i 0 (inside count i bytes below)
    ∙ ap (λ (x : ℕ). p x && list_all p (drop (i + 1) (E count bytes))) (element_at count i bytes below)

pub all_more : (p : ℕ → Bool) (count i x : ℕ) (bytes : List ℕ) → i < count → x ≡ number_at bytes (4 * i) 4 → p x ≡ true
    → list_all p (drop (i + 1) (E count bytes)) ≡ list_all p (drop i (E count bytes))
all_more p count i x bytes below is holds =
    sym (all_at p count i bytes below ∙ ap (λ (b : Bool). b && list_all p (drop (i + 1) (E count bytes))) (ap p (sym is) ∙ holds))

pub all_fail : (p : ℕ → Bool) (count i x : ℕ) (bytes : List ℕ) → i < count → x ≡ number_at bytes (4 * i) 4 → p x ≡ false
    → list_all p (drop i (E count bytes)) ≡ false
all_fail p count i x bytes below is fails =
    all_at p count i bytes below ∙ ap (λ (b : Bool). b && list_all p (drop (i + 1) (E count bytes))) (ap p (sym is) ∙ fails)

pub all_past : (p : ℕ → Bool) (count i : ℕ) (bytes : List ℕ) → count ≤ i → list_all p (drop i (E count bytes)) ≡ true
all_past p count i bytes over = at_drop_all (list_all p) (E count bytes) i (past count i bytes over)

twice_at : (count i : ℕ) (bytes : List ℕ) → i < count
    → has_twice (drop i (E count bytes))
    ≡ (not (number_at bytes (4 * i) 4 == 0) && list_any (λ m. m == number_at bytes (4 * i) 4) (drop (i + 1) (E count bytes)) || has_twice (drop (i + 1) (E count bytes)))
twice_at count i bytes below =
    at_drop_more has_twice (E count bytes) i 0 (inside count i bytes below)
    ∙ ap (λ (x : ℕ). not (x == 0) && list_any (λ m. m == x) (drop (i + 1) (E count bytes)) || has_twice (drop (i + 1) (E count bytes))) (element_at count i bytes below)

pub twice_more : (count i x : ℕ) (bytes : List ℕ) → i < count → x ≡ number_at bytes (4 * i) 4
    → (not (x == 0) && list_any (λ m. m == x) (drop (i + 1) (E count bytes))) ≡ false → has_twice (drop (i + 1) (E count bytes)) ≡ has_twice (drop i (E count bytes))
twice_more count i x bytes below is fails =
    sym (twice_at count i bytes below
    ∙ ap (λ (b : Bool). b || has_twice (drop (i + 1) (E count bytes)))
    (ap (λ (y : ℕ). not (y == 0) && list_any (λ m. m == y) (drop (i + 1) (E count bytes))) (sym is) ∙ fails))

pub twice_found : (count i x : ℕ) (bytes : List ℕ) → i < count → x ≡ number_at bytes (4 * i) 4
    → (not (x == 0) && list_any (λ m. m == x) (drop (i + 1) (E count bytes))) ≡ true → has_twice (drop i (E count bytes)) ≡ true
twice_found count i x bytes below is holds =
    twice_at count i bytes below
    ∙ ap (λ (b : Bool). b || has_twice (drop (i + 1) (E count bytes)))
    (ap (λ (y : ℕ). not (y == 0) && list_any (λ m. m == y) (drop (i + 1) (E count bytes))) (sym is) ∙ holds)

pub twice_past : (count i : ℕ) (bytes : List ℕ) → count ≤ i → has_twice (drop i (E count bytes)) ≡ false
twice_past count i bytes over = at_drop_all has_twice (E count bytes) i (past count i bytes over)

some_both : (o : Option Came) (p : Option (List Came)) → is_some (option_and_then (λ c. option_map (λ more. c ∷ more) p) o) ≡ (is_some o && is_some p)
some_both None p = refl
some_both (Some c) None = refl
some_both (Some c) (Some rest) = refl

came_at : (mpi : MpiData) (count i : ℕ) (bytes : List ℕ) → i < count
    → is_some (all_came mpi (drop i (E count bytes))) ≡ (is_some (came_of mpi (number_at bytes (4 * i) 4)) && is_some (all_came mpi (drop (i + 1) (E count bytes))))
came_at mpi count i bytes below =
    at_drop_more (λ (xs : List ℕ). is_some (all_came mpi xs)) (E count bytes) i 0 (inside count i bytes below)
    ∙ some_both (came_of mpi (get_or (E count bytes) i 0)) (all_came mpi (drop (i + 1) (E count bytes)))
    ∙ ap (λ (x : ℕ). is_some (came_of mpi x) && is_some (all_came mpi (drop (i + 1) (E count bytes)))) (element_at count i bytes below)

told_some : (r : Option Sizes) (o : Option Came) (b : Bool) → r ≡ option_map sizes_of o → is_some r ≡ b → is_some o ≡ b
told_some r o b is there = sym (some_map sizes_of o) ∙ ap is_some (sym is) ∙ there

pub came_more : (mpi : MpiData) (count i x : ℕ) (bytes : List ℕ) (r : Option Sizes) → i < count → x ≡ number_at bytes (4 * i) 4
    → r ≡ option_map sizes_of (came_of mpi x) → is_some r ≡ true
    → is_some (all_came mpi (drop (i + 1) (E count bytes))) ≡ is_some (all_came mpi (drop i (E count bytes)))
came_more mpi count i x bytes r below is sizes there =
    sym (came_at mpi count i bytes below
    ∙ ap (λ (b : Bool). b && is_some (all_came mpi (drop (i + 1) (E count bytes))))
    (ap (λ (y : ℕ). is_some (came_of mpi y)) (sym is) ∙ told_some r (came_of mpi x) true sizes there))

pub came_lacks : (mpi : MpiData) (count i x : ℕ) (bytes : List ℕ) (r : Option Sizes) → i < count → x ≡ number_at bytes (4 * i) 4
    → r ≡ option_map sizes_of (came_of mpi x) → is_some r ≡ false → is_some (all_came mpi (drop i (E count bytes))) ≡ false
came_lacks mpi count i x bytes r below is sizes lacks =
    came_at mpi count i bytes below
    ∙ ap (λ (b : Bool). b && is_some (all_came mpi (drop (i + 1) (E count bytes))))
    (ap (λ (y : ℕ). is_some (came_of mpi y)) (sym is) ∙ told_some r (came_of mpi x) false sizes lacks)

pub came_past : (mpi : MpiData) (count i : ℕ) (bytes : List ℕ) → count ≤ i → is_some (all_came mpi (drop i (E count bytes))) ≡ true
came_past mpi count i bytes over = at_drop_all (λ (xs : List ℕ). is_some (all_came mpi xs)) (E count bytes) i (past count i bytes over)

pub each_live : (mpi : MpiData) (count i x : ℕ) (bytes : List ℕ) → list_all (is_request mpi) (E count bytes) ≡ true → i < count
    → x ≡ number_at bytes (4 * i) 4 → (x ≡ 0 → ⊥) → is_live mpi x ≡ true
each_live mpi count i x bytes all below is some =
    request_live mpi x (get_or (E count bytes) i 0) (is ∙ sym (element_at count i bytes below)) some
    (all_each (is_request mpi) (E count bytes) i 0 (inside count i bytes below) all)

-- ---- Waitall

settled_by : (a b t s : Bool) → (a || (b || t)) ≡ false → (a || (b || (t || s))) ≡ s
settled_by true b t s h = absurd cc
settled_by false true t s h = absurd cc
settled_by false false true s h = absurd cc
settled_by false false false s h = refl

wrong_by : (a b t s : Bool) → (a || (b || t)) ≡ true → (a || (b || (t || s))) ≡ true
wrong_by true b t s h = refl
wrong_by false true t s h = refl
wrong_by false false true s h = refl
wrong_by false false false s h = absurd cc

abbrev faults_by : Bool → Bool → Bool → Faults
faults_by other variable request = record no_faults { other = other; variable = variable; request = request }

answered_by : (o v r s : Bool) (reply : Reply) → None ≡ cause_of (faults_by o v false) → is_answered reply ≡ s
    → is_answered (checked (faults_by o v r) reply) ≡ (r || s)
unfolding cause_of
answered_by true v r s reply none is = absurd cc
answered_by false true r s reply none is = absurd cc
answered_by false false true s reply none is = refl
answered_by false false false s reply none is = is

or_inner : (a b t s : Bool) → ((a || (b || t)) || s) ≡ (a || (b || (t || s)))
or_inner true b t s = refl
or_inner false true t s = refl
or_inner false false t s = refl

all_told : (areas : Areas) (mpi : MpiData) (requests status : ℕ) (numbers : List ℕ) (o : Option (List Came))
    → is_answered (waited_all areas mpi requests status numbers o) ≡ is_some o
all_told areas mpi requests status numbers None = refl
all_told areas mpi requests status numbers (Some came) = answered_ended _ _

waitall_told : (areas : Areas) (mpi : MpiData) (count : ℤ) (requests status : ℕ) (numbers : List ℕ) → None ≡ cause_of (array_faults areas mpi count requests)
    → is_answered (checked (waitall_faults areas mpi count requests numbers) (waited_all areas mpi requests status numbers (all_came mpi numbers)))
    ≡ (int_lt count (pos 0) || (not (list_all (is_request mpi) numbers) || (has_twice numbers || is_some (all_came mpi numbers))))
waitall_told areas mpi count requests status numbers none =
    answered_by (not (is_running mpi.own.phase)) (not (is_open areas requests (count_of count * 4)))
    (int_lt count (pos 0) || (not (list_all (is_request mpi) numbers) || has_twice numbers)) (is_some (all_came mpi numbers))
    (waited_all areas mpi requests status numbers (all_came mpi numbers)) none (all_told areas mpi requests status numbers (all_came mpi numbers))
    ∙ or_inner (int_lt count (pos 0)) (not (list_all (is_request mpi) numbers)) (has_twice numbers) (is_some (all_came mpi numbers))

read_is : (areas : Areas) (a n : ℕ) (bytes : List ℕ) → bytes_at areas a n ≡ Some bytes → read_at areas a n ≡ bytes
unfolding read_at
read_is areas a n bytes is = ap (λ (o : Option (List ℕ)). unwrap_or o []) is

pub waitall_ready : (areas : Areas) (mpi : MpiData) (count : ℤ) (requests status size : ℕ) (bytes : List ℕ) → None ≡ cause_of (array_faults areas mpi count requests)
    → size ≡ count_of count → bytes_at areas requests (size * 4) ≡ Some bytes
    → (int_lt count (pos 0) || (not (list_all (is_request mpi) (E size bytes)) || (has_twice (E size bytes) || is_some (all_came mpi (E size bytes)))))
    ≡ is_answered (waitall_reply areas mpi count requests status)
unfolding waitall_reply
waitall_ready areas mpi count requests status size bytes none same found =
    let numbers : E size bytes ≡ numbers_at areas requests (count_of count) =
    ap (elements_of 4 size) (sym (read_is areas requests (size * 4) bytes found)) ∙ ap (numbers_at areas requests) same in
    ap (λ (xs : List ℕ). int_lt count (pos 0) || (not (list_all (is_request mpi) xs) || (has_twice xs || is_some (all_came mpi xs)))) numbers
    ∙ sym (waitall_told areas mpi count requests status (numbers_at areas requests (count_of count)) none)

some_cause : (o : Option TrapCause) → is_some o ≡ true → (why : TrapCause) × (Some why ≡ o)
some_cause None h = absurd cc
some_cause (Some why) h = (why, refl)

pub waitall_stopped : (areas : Areas) (mpi : MpiData) (count : ℤ) (requests status : ℕ) → is_some (cause_of (array_faults areas mpi count requests)) ≡ true
    → true ≡ is_answered (waitall_reply areas mpi count requests status)
unfolding waitall_reply
waitall_stopped areas mpi count requests status h =
    let numbers = numbers_at areas requests (count_of count) in
    let found = some_cause (cause_of (array_faults areas mpi count requests)) h in
    sym (stopped_unless (cause_of (waitall_faults areas mpi count requests numbers)) (waited_all areas mpi requests status numbers (all_came mpi numbers)) found.0
    (array_stops areas mpi count requests numbers found.0 found.1))

pub no_cause : (o : Option TrapCause) → is_some o ≡ false → None ≡ o
no_cause None h = refl
no_cause (Some why) h = absurd cc

none_open : (areas : Areas) (a n : ℕ) → bytes_at areas a n ≡ None → is_open areas a n ≡ true → ⊥
unfolding is_open
none_open areas a n none h = let e : is_some (bytes_at areas a n) ≡ false = ap is_some none in cc

pub waitall_open : (areas : Areas) (mpi : MpiData) (count : ℤ) (requests size : ℕ) → None ≡ cause_of (array_faults areas mpi count requests)
    → size ≡ count_of count → bytes_at areas requests (size * 4) ≡ None → ⊥
waitall_open areas mpi count requests size none same lacks =
    none_open areas requests (size * 4) lacks
    (ap (λ (n : ℕ). is_open areas requests (n * 4)) same ∙ array_open areas mpi count requests none)

found_open : (areas : Areas) (a n : ℕ) (bytes : List ℕ) → bytes_at areas a n ≡ Some bytes → is_open areas a n ≡ true
unfolding is_open
found_open areas a n bytes is = ap is_some is

pub bytes_length : (areas : Areas) (a n : ℕ) (bytes : List ℕ) → bytes_at areas a n ≡ Some bytes → length bytes ≡ n
bytes_length areas a n bytes is = ap length (sym (read_is areas a n bytes is)) ∙ read_length areas a n (found_open areas a n bytes is)

-- ---- all calls

pub tests_ready : (areas : Areas) (mpi : MpiData) (c : MpiCall) (second : Bool) (words : List ℕ) → c ≡ call.Test
    → true ≡ is_answered (reply_to c second words areas mpi)
tests_ready areas mpi c second words is =
    test_ready areas mpi (slice_index words 0) (slice_index words 1) (slice_index words 2)
    ∙ ap (λ (k : MpiCall). is_answered (reply_to k second words areas mpi)) (sym is)

-- what `finish` serves beside these four are the collectives
abbrev IsOther : MpiCall → Type 0
IsOther c = (c ≡ call.Recv → ⊥) × (c ≡ call.Wait → ⊥) × (c ≡ call.Waitall → ⊥) × (c ≡ call.Test → ⊥)

pub others_ready : (areas : Areas) (mpi : MpiData) (c : MpiCall) (words : List ℕ) → is_finished c ≡ true → IsOther c
    → gathered_in mpi.joined ≡ is_answered (reply_to c (is_second c) words areas mpi)
others_ready areas mpi call.Barrier words served other = gathered_ready areas mpi (collective_args kind.Barrier words)
others_ready areas mpi call.Bcast words served other = gathered_ready areas mpi (collective_args kind.Bcast words)
others_ready areas mpi call.Reduce words served other = gathered_ready areas mpi (collective_args kind.Reduce words)
others_ready areas mpi call.Allreduce words served other = gathered_ready areas mpi (collective_args kind.Allreduce words)
others_ready areas mpi call.Scan words served other = gathered_ready areas mpi (collective_args kind.Scan words)
others_ready areas mpi call.Gather words served other = gathered_ready areas mpi (collective_args kind.Gather words)
others_ready areas mpi call.Scatter words served other = gathered_ready areas mpi (collective_args kind.Scatter words)
others_ready areas mpi call.Allgather words served other = gathered_ready areas mpi (collective_args kind.Allgather words)
others_ready areas mpi call.Alltoall words served other = gathered_ready areas mpi (collective_args kind.Alltoall words)
others_ready areas mpi call.CommDup words served other = gathered_ready areas mpi (collective_args kind.CommDup words)
others_ready areas mpi call.CommSplit words served other = gathered_ready areas mpi (collective_args kind.CommSplit words)
others_ready areas mpi call.Migrate words served other = gathered_ready areas mpi (collective_args kind.Migrate words)
others_ready areas mpi call.Init words served other = absurd cc
others_ready areas mpi call.Initialized words served other = absurd cc
others_ready areas mpi call.Finalized words served other = absurd cc
others_ready areas mpi call.Finalize words served other = absurd cc
others_ready areas mpi call.CommRank words served other = absurd cc
others_ready areas mpi call.CommSize words served other = absurd cc
others_ready areas mpi call.CommFree words served other = absurd cc
others_ready areas mpi call.Abort words served other = absurd cc
others_ready areas mpi call.Send words served other = absurd cc
others_ready areas mpi call.Isend words served other = absurd cc
others_ready areas mpi call.Irecv words served other = absurd cc
others_ready areas mpi call.GetCount words served other = absurd cc
others_ready areas mpi call.Recv words served other = absurd (other.0 refl)
others_ready areas mpi call.Wait words served other = absurd (other.1 refl)
others_ready areas mpi call.Waitall words served other = absurd (other.2 refl)
others_ready areas mpi call.Test words served other = absurd (other.3 refl)
