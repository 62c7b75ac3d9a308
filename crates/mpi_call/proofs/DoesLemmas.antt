-- A call does what is said of it: the trap of the first check that fails, or else what comes behind the checks.
use Rattle.std.proofs.Common.{◌≡◌, ℕ, ℤ, pos, Bool, true, false, not, cond, ◌&&◌, List, [], ◌∷◌, length, refl, ap, sym, subst, ◌∙◌, Option, Some, None, Result, Ok}
use Rattle.am_base.specs.declared.traps.TrapCause.{TrapCause}
use Rattle.am_base.specs.declared.traps.TrapCause.TheVariants.{BadAddress}
use Rattle.rank_range.specs.Areas.{Areas}
use Rattle.std.specs.Prelude.{IfSome}
use Rattle.std.specs.Ordering.{int_eq}
use Rattle.mpi_types.specs.declared.argument.Joined.{Joined}
use Rattle.mpi_types.specs.declared.argument.Sweep.{Sweep}
use Rattle.mpi_types.specs.declared.constants.TheConstants.{PROC_NULL}
use Rattle.mpi_types.specs.declared.message.Hit.{Hit}
use Rattle.mpi_types.specs.declared.state.CompleteKind.TheVariants.{NoProcess}
use Rattle.mpi_types.specs.declared.call.Write.{Write}
use Rattle.mpi_types.specs.declared.state.OwnData.{OwnData}
use Rattle.mpi_rules.specs.declared.faults.Faults.{Faults}
use Rattle.mpi_rules.specs.Faults.{cause_of, late_cause_of}
use Rattle.mpi_rules.specs.Places.{is_open, are_open, int_write, written}
use Rattle.mpi_rules.specs.declared.arguments.MessageArgs.{MessageArgs}
use Rattle.mpi_rules.specs.declared.given.Joining.{Joining}
use Rattle.mpi_rules.specs.declared.given.SendOut.{SendOut}
use Rattle.mpi_rules.specs.Data.{MpiData}
use Rattle.mpi_rules.specs.Messages.{receiving, own_with_complete, own_with_next, post_of}
use Rattle.mpi_rules.specs.Reply.{Given, quiet, Reply, Gives, Traps, Ends, NotYet, unless, checked, ended, late_address, answered, writing, with_own}
use Rattle.mpi_call.specs.declared.done.CallStop.{CallStop}
use Rattle.mpi_call.specs.declared.done.CallStop.TheVariants.{Trap}
use Rattle.mpi_call.specs.declared.done.Done.{Done}
use Rattle.mpi_call.specs.Answers.{Kept, kept, data_in, IsGiven, IsQuiet, ended_done, Does, DoesGive, EndsBy, MayGive, Stops, SweepGoes, Received}

unless_traps : (o : Option TrapCause) (r : Reply) (why : TrapCause) → o ≡ Some why → unless o r ≡ Traps why
unless_traps None r why is = cc
unless_traps (Some c) r why is = cc

pub checked_traps : (f g : Faults) (r : Reply) (why : TrapCause) (k : Kept) → Some why ≡ cause_of f → f ≡ g → Stops (checked g r) (Trap why) k k
checked_traps f g r why k is same = (unless_traps (cause_of g) r why (ap cause_of (sym same) ∙ sym is), refl)

unless_does : (o : Option TrapCause) (r : Reply) (old : Kept) (result : Result Done CallStop) (new : Kept) → o ≡ None
    → Does r old result new → Does (unless o r) old result new
unless_does None r old result new is h = h
unless_does (Some c) r old result new is h = absurd cc

pub checked_does : (f g : Faults) (r : Reply) (old : Kept) (result : Result Done CallStop) (new : Kept) → None ≡ cause_of f → f ≡ g
    → Does r old result new → Does (checked g r) old result new
checked_does f g r old result new is same h = unless_does (cause_of g) r old result new (ap cause_of (sym same) ∙ sym is) h

-- behind all checks: the bytes that are written
late_by : (b : Bool) (given : Given) → b ≡ true → ended (late_address (not b)) given ≡ Gives given
unfolding late_cause_of
late_by true given h = refl
late_by false given h = cc

late_not : (b : Bool) (given : Given) → b ≡ false → ended (late_address (not b)) given ≡ Traps BadAddress
unfolding late_cause_of
late_not true given h = cc
late_not false given h = refl

pub answered_does : (areas : Areas) (given : Given) (done : Done) (old new : Kept) → are_open areas given.writes ≡ true
    → IsGiven given done old new → Does (answered areas given) old (Ok done) new
answered_does areas given done old new all h =
    subst (λ (r : Reply). Does r old (Ok done) new) (sym (late_by (are_open areas given.writes) given all)) h

pub answered_traps : (areas : Areas) (given : Given) (k : Kept) → are_open areas given.writes ≡ false
    → Stops (answered areas given) (Trap BadAddress) k k
answered_traps areas given k closed = (late_not (are_open areas given.writes) given closed, refl)

-- what is done by a call that only writes
abbrev pub only_writes : List Write → Done
only_writes writes = record { answer = Some (pos 0); writes = writes; send = None; hit = None; sweep = None }

pub writing_given : (k : Kept) (done : Done) (writes wanted : List Write) → done ≡ only_writes writes → writes ≡ wanted
    → IsGiven (writing (data_in k) wanted) done k k
writing_given k done writes wanted is same =
    let d : done ≡ only_writes wanted = is ∙ ap only_writes same in
    record {
      answer = ap (λ (x : Done). x.answer) d;
      writes = ap (λ (x : Done). x.writes) d;
      send = ap (λ (x : Done). x.send) d;
      own_is = refl;
      book = (ap (λ (x : Done). x.hit) d, refl);
      sweep = (ap (λ (x : Done). x.sweep) d, refl);
    }

-- the same where the rank's own data change
pub own_given : (old new : Kept) (own : OwnData) (done : Done) (writes wanted : List Write) → done ≡ only_writes writes → writes ≡ wanted
    → new ≡ kept own old.sweep old.lists → IsGiven (writing (with_own own (data_in old)) wanted) done old new
own_given old new own done writes wanted is same changed =
    let d : done ≡ only_writes wanted = is ∙ ap only_writes same in
    record {
      answer = ap (λ (x : Done). x.answer) d;
      writes = ap (λ (x : Done). x.writes) d;
      send = ap (λ (x : Done). x.send) d;
      own_is = ap (λ (x : Kept). x.own) changed;
      book = (ap (λ (x : Done). x.hit) d, ap (λ (x : Kept). x.lists) changed);
      sweep = (ap (λ (x : Done). x.sweep) d, ap (λ (x : Kept). x.sweep) changed);
    }

-- an int that is told is the one that is meant
pub told_is : (areas : Areas) (k : Kept) (to : ℕ) (n m : ℤ) (result : Result Done CallStop) → n ≡ m
    → Does (answered areas (writing (data_in k) (int_write to n ∷ []))) k result k
    → Does (answered areas (writing (data_in k) (int_write to m ∷ []))) k result k
told_is areas k to n m result is h =
    subst (λ (z : ℤ). Does (answered areas (writing (data_in k) (int_write to z ∷ []))) k result k) is h

pub not_true : (b : Bool) → not b ≡ true → b ≡ false
not_true true h = cc
not_true false h = refl

pub not_false : (b : Bool) → not b ≡ false → b ≡ true
not_false true h = refl
not_false false h = cc

and_true : (b : Bool) → (b && true) ≡ b
and_true true = refl
and_true false = refl

pub one_open : (areas : Areas) (w : Write) (n : ℕ) (b : Bool) → length w.bytes ≡ n → b ≡ is_open areas w.address n → are_open areas (w ∷ []) ≡ b
one_open areas w n b size is = and_true (is_open areas w.address (length w.bytes)) ∙ ap (λ (m : ℕ). is_open areas w.address m) size ∙ sym is

-- what is done that posts nothing and joins nothing
pub plain_given : (old new : Kept) (own : OwnData) (answer : Option ℤ) (writes wanted : List Write) (send sent : Option SendOut)
    → writes ≡ wanted → send ≡ sent → new ≡ kept own old.sweep old.lists
    → IsGiven (record { answer = answer; after = with_own own (data_in old); writes = wanted; send = sent; post = None; join = None })
    (record { answer = answer; writes = writes; send = send; hit = None; sweep = None }) old new
plain_given old new own answer writes wanted send sent same_writes same_send changed =
    record {
      answer = refl;
      writes = same_writes;
      send = same_send;
      own_is = ap (λ (x : Kept). x.own) changed;
      book = (refl, ap (λ (x : Kept). x.lists) changed);
      sweep = (refl, ap (λ (x : Kept). x.sweep) changed);
    }

-- ---- receives

receiving_by : (P : Given → Type 0) (mpi : MpiData) (args : MessageArgs)
    → P (quiet (with_own (own_with_complete NoProcess mpi.own) mpi))
    → P (record (quiet (with_own (own_with_next mpi.own) mpi)) { post = Some (post_of mpi args) })
    → P (receiving mpi args)
receiving_by P mpi args a b =
    elim (int_eq args.peer PROC_NULL) as (λ x. P (cond x (quiet (with_own (own_with_complete NoProcess mpi.own) mpi))
    (record (quiet (with_own (own_with_next mpi.own) mpi)) { post = Some (post_of mpi args) })))
    [ true ↦ a | false ↦ b ]

-- a receive sends nothing and joins nothing, and leaves what was joined
record IsReceiving (mpi : MpiData) (given : Given) : Type 0 where
  answer : given.answer ≡ Some (pos 0)
  send : given.send ≡ None
  join : given.join ≡ None
  joined : given.after.joined ≡ mpi.joined

is_receiving : (mpi : MpiData) (args : MessageArgs) → IsReceiving mpi (receiving mpi args)
is_receiving mpi args =
    receiving_by (IsReceiving mpi) mpi args (record { answer = refl; send = refl; join = refl; joined = refl })
    (record { answer = refl; send = refl; join = refl; joined = refl })

no_join : (join : Option Joining) (after : MpiData) (old new : Sweep) → join ≡ None → after.joined ≡ old.joined → new ≡ old
    → SweepGoes join after old None new
no_join None after old new is same now = (refl, now ∙ ap (λ (j : Option Joined). record { joined = j; tree = old.tree }) (sym same))
no_join (Some j) after old new is same now = absurd cc

pub received_given : (old new : Kept) (args : MessageArgs) (writes wanted : List Write) (hit : Option Hit)
    → writes ≡ wanted → Received (receiving (data_in old) args) old hit new
    → IsGiven (record (receiving (data_in old) args) { writes = wanted })
    (record { answer = Some (pos 0); writes = writes; send = None; hit = hit; sweep = None }) old new
received_given old new args writes wanted hit same r =
    let is : IsReceiving (data_in old) (receiving (data_in old) args) = is_receiving (data_in old) args in
    record {
      answer = sym is.answer;
      writes = same;
      send = sym is.send;
      own_is = r.own_is;
      book = r.book;
      sweep = no_join (receiving (data_in old) args).join (receiving (data_in old) args).after old.sweep new.sweep is.join is.joined r.sweep;
    }

-- ---- where nothing is wrong, the buffer is not

rest_none : (b : Bool) (why : TrapCause) (o : Option TrapCause) → None ≡ cond b (Some why) o → None ≡ o
rest_none true why o h = absurd cc
rest_none false why o h = h

last_none : (b : Bool) (why : TrapCause) → None ≡ cond b (Some why) None → b ≡ false
last_none true why h = absurd cc
last_none false why h = refl

pub no_buffer : (f : Faults) → None ≡ cause_of f → f.buffer ≡ false
unfolding cause_of
no_buffer f h =
    last_none f.buffer _ (rest_none f.tag _ _ (rest_none f.rank _ _ (rest_none f.root _ _ (rest_none f.operation _ _
    (rest_none f.datatype _ _ (rest_none f.count _ _ (rest_none f.request _ _ (rest_none f.variable _ _ (rest_none f.comm _ _
    (rest_none f.handle _ _ (rest_none f.other _ _ h)))))))))))

front_none : (b : Bool) (why : TrapCause) (o : Option TrapCause) → None ≡ cond b (Some why) o → b ≡ false
front_none true why o h = absurd cc
front_none false why o h = refl

pub no_variable : (f : Faults) → None ≡ cause_of f → f.variable ≡ false
unfolding cause_of
no_variable f h = front_none f.variable _ _ (rest_none f.comm _ _ (rest_none f.handle _ _ (rest_none f.other _ _ h)))

pub no_request : (f : Faults) → None ≡ cause_of f → f.request ≡ false
unfolding cause_of
no_request f h =
    front_none f.request _ _ (rest_none f.variable _ _ (rest_none f.comm _ _ (rest_none f.handle _ _ (rest_none f.other _ _ h))))

pub no_datatype : (f : Faults) → None ≡ cause_of f → f.datatype ≡ false
unfolding cause_of
no_datatype f h =
    front_none f.datatype _ _ (rest_none f.count _ _ (rest_none f.request _ _ (rest_none f.variable _ _ (rest_none f.comm _ _
    (rest_none f.handle _ _ (rest_none f.other _ _ h))))))

pub no_comm : (f : Faults) → None ≡ cause_of f → f.comm ≡ false
unfolding cause_of
no_comm f h = front_none f.comm _ _ (rest_none f.handle _ _ (rest_none f.other _ _ h))

-- a call that has ended, once its bytes are written
pub ended_by : (r : Reply) (done : Done) (old new : Kept) (before after : Areas) → DoesGive r done old new → IsQuiet done
    → after ≡ written before done.writes → EndsBy r (pos 0) old new before after
ended_by (Gives given) done old new before after h is memory =
    record {
      given_is = subst (λ (d : Done). IsGiven given d old new) (is ∙ ap (ended_done (pos 0)) h.writes) h;
      memory = memory ∙ ap (written before) h.writes;
    }
ended_by (Traps why) done old new before after h is memory = h
ended_by (Ends status) done old new before after h is memory = h
ended_by NotYet done old new before after h is memory = h

pub given_some : (r : Reply) (o : Option Done) (done : Done) (old new : Kept) → o ≡ Some done → MayGive r o old new → DoesGive r done old new
given_some r o done old new is h = subst (λ (x : Option Done). MayGive r x old new) is h

pub quiet_some : (o : Option Done) (done : Done) → o ≡ Some done → IfSome o (λ d. IsQuiet d) → IsQuiet done
quiet_some o done is h = subst (λ (x : Option Done). IfSome x (λ d. IsQuiet d)) is h
