-- What is read of a text is the one answer that the grammar gives it.
use Rattle.std.proofs.Common.{◌≡◌, ℕ, zero, suc, ◌+◌, ◌<◌, ◌≤◌, Bool, true, false, cond, eqb, eq-eqb, List, [], ◌∷◌, ◌++◌, length, Option, Some, None, refl, sym, ap, ◌∙◌, subst, arith, inl, inr, ◌⊎◌, append_assoc, length-append, add-zero, zero-add, Result, Ok, Err}
use Rattle.std.proofs.lemmas.Bool.{cases_Bool, eqb-true, ne_eqb}
use Rattle.std.proofs.lemmas.List.{append-nil}
use Rattle.std.specs.Prelude.{Vec, IfOk, IfSome, IsErrOf}
use Rattle.std.specs.declared.alloc.Global.{Global}
use Rattle.std.specs.Bool.{then_some}
use Rattle.std.specs.Option.{option_map}
use Rattle.schedule.specs.declared.event.Event.{Event}
use Rattle.schedule.specs.declared.error.SchedError.{SchedError}
use Rattle.schedule.specs.declared.error.SchedError.TheVariants.{BadLine, TooMany, Memory}
use Rattle.schedule.specs.Grammar.{Version, One, is_skipped, told, IsFirst, IsEvent, Tell, most_events, AreSchedule, HasNoFirst, Follows, IsBadLine, IsEventTooMany, Answer, Events, Bad, Many, IsAnswer, IsAnswered, IsSchedule}
use Rattle.schedule.specs.Reading.{line_at, lines_of, event_in, is_first, answer_behind, answer_from, answer_of, opened}
use Rattle.schedule.specs.Results.{Gives}
use Rattle.schedule.proofs.LineLaws.{lines_step, line_at-shorter, lines_end, lines_are, lines_only}
use Rattle.schedule.proofs.EventLaws.{event_in-sound, event_in-complete, is_first-sound, is_first-complete}

-- ---- steps of the two loops

pub step : (text line behind : List ℕ) → (line, behind) ≡ line_at text → 0 < length text → lines_of text ≡ line ∷ lines_of behind
step text line behind e some = lines_step text some ∙ ap (λ (x : List ℕ × List ℕ). x.0 ∷ lines_of x.1) (sym e)

pub shorter : (text line behind : List ℕ) → (line, behind) ≡ line_at text → 0 < length text → length behind < length text
shorter text line behind e some = omega (arith, ap (λ (x : List ℕ × List ℕ). length x.1) e, line_at-shorter text some)

pub opened-skip : (n : ℕ) (line : List ℕ) (lines : List (List ℕ)) → is_skipped line ≡ true → opened n (line ∷ lines) ≡ opened (n + 1) lines
unfolding opened
opened-skip n line lines e = rw e refl

pub opened-kept : (n : ℕ) (line : List ℕ) (lines : List (List ℕ)) → is_skipped line ≡ false → opened n (line ∷ lines) ≡ cond (is_first line) (Some (n + 1, lines)) None
unfolding opened
opened-kept n line lines e = rw e refl

pub opened-end : (n : ℕ) → opened n [] ≡ None
unfolding opened
opened-end n = refl

pub behind-skip : (n : ℕ) (events : List Event) (line : List ℕ) (lines : List (List ℕ)) → is_skipped line ≡ true
    → answer_behind n events (line ∷ lines) ≡ answer_behind (n + 1) events lines
unfolding answer_behind
behind-skip n events line lines e = rw e refl

pub behind-bad : (n : ℕ) (events : List Event) (line : List ℕ) (lines : List (List ℕ)) → is_skipped line ≡ false → event_in line ≡ None
    → answer_behind n events (line ∷ lines) ≡ Bad (n + 1)
unfolding answer_behind
behind-bad n events line lines e f = rw (e, f) refl

pub behind-many : (n : ℕ) (events : List Event) (line : List ℕ) (lines : List (List ℕ)) (event : Event) → is_skipped line ≡ false
    → event_in line ≡ Some event → length events ≡ most_events → answer_behind n events (line ∷ lines) ≡ Many (n + 1)
unfolding answer_behind
behind-many n events line lines event e f full = let full2 : eqb (length events) most_events ≡ true = eq-eqb (length events) most_events full in rw (e, f, full2) refl

pub behind-event : (n : ℕ) (events : List Event) (line : List ℕ) (lines : List (List ℕ)) (event : Event) → is_skipped line ≡ false
    → event_in line ≡ Some event → (length events ≡ most_events → ⊥)
    → answer_behind n events (line ∷ lines) ≡ answer_behind (n + 1) (events ++ event ∷ []) lines
unfolding answer_behind
behind-event n events line lines event e f room = let room2 : eqb (length events) most_events ≡ false = ne_eqb (length events) most_events room in rw (e, f, room2) refl

pub behind-end : (n : ℕ) (events : List Event) → answer_behind n events [] ≡ Events events
unfolding answer_behind
behind-end n events = refl

pub nonempty : (n : ℕ) → false ≡ eqb n 0 → 0 < n
nonempty zero e = absurd cc
nonempty (suc n) e = omega arith

pub empty : (n : ℕ) → true ≡ eqb n 0 → n ≡ 0
empty n e = eqb-true n 0 (sym e)

pub opened-passes : (n : ℕ) (text line behind : List ℕ) → (line, behind) ≡ line_at text → 0 < length text → true ≡ is_skipped line
    → opened (n + 1) (lines_of behind) ≡ opened n (lines_of text)
opened-passes n text line behind e some skipped =
    sym (ap (opened n) (step text line behind e some) ∙ opened-skip n line (lines_of behind) (sym skipped))

then_map : {X Y : Type 0} (g : X → Y) (r : Bool) (x : X) → option_map g (then_some r x) ≡ cond r (Some (g x)) None
then_map g true x = refl
then_map g false x = refl

pub opened-first : {X : Type 0} (g : X → ℕ × List (List ℕ)) (o : Option X) (r : Bool) (x : X) (n : ℕ) (text line behind : List ℕ)
    → o ≡ then_some r x → r ≡ is_first line → g x ≡ (n + 1, lines_of behind) → (line, behind) ≡ line_at text → 0 < length text
    → false ≡ is_skipped line → option_map g o ≡ opened n (lines_of text)
opened-first g o r x n text line behind is first same e some kept =
    ap (option_map g) is ∙ then_map g r x
    ∙ ap (λ (b : Bool). cond b (Some (g x)) None) first
    ∙ ap (λ (y : ℕ × List (List ℕ)). cond (is_first line) (Some y) None) same
    ∙ sym (opened-kept n line (lines_of behind) (sym kept))
    ∙ sym (ap (opened n) (step text line behind e some))

pub opened-last : (n : ℕ) (text : List ℕ) → true ≡ eqb (length text) 0 → None ≡ opened n (lines_of text)
opened-last n text e = sym (ap (opened n) (lines_end text (empty (length text) e)) ∙ opened-end n)

pub behind-passes : (n : ℕ) (events : List Event) (text line behind : List ℕ) → (line, behind) ≡ line_at text → 0 < length text
    → true ≡ is_skipped line → answer_behind (n + 1) events (lines_of behind) ≡ answer_behind n events (lines_of text)
behind-passes n events text line behind e some skipped =
    sym (ap (answer_behind n events) (step text line behind e some) ∙ behind-skip n events line (lines_of behind) (sym skipped))

pub behind-stops : (n : ℕ) (events : List Event) (text line behind : List ℕ) → (line, behind) ≡ line_at text → 0 < length text
    → false ≡ is_skipped line → None ≡ event_in line → answer_behind n events (lines_of text) ≡ Bad (n + 1)
behind-stops n events text line behind e some kept none =
    ap (answer_behind n events) (step text line behind e some) ∙ behind-bad n events line (lines_of behind) (sym kept) (sym none)

pub behind-full : (n : ℕ) (events : List Event) (text line behind : List ℕ) (event : Event) → (line, behind) ≡ line_at text → 0 < length text
    → false ≡ is_skipped line → Some event ≡ event_in line → length events ≡ most_events → answer_behind n events (lines_of text) ≡ Many (n + 1)
behind-full n events text line behind event e some kept told full =
    ap (answer_behind n events) (step text line behind e some) ∙ behind-many n events line (lines_of behind) event (sym kept) (sym told) full

pub behind-goes_on : (n : ℕ) (events more : List Event) (text line behind : List ℕ) (event : Event) → (line, behind) ≡ line_at text → 0 < length text
    → false ≡ is_skipped line → Some event ≡ event_in line → (length events ≡ most_events → ⊥) → more ≡ events ++ event ∷ []
    → answer_behind (n + 1) more (lines_of behind) ≡ answer_behind n events (lines_of text)
behind-goes_on n events more text line behind event e some kept told room is =
    ap (λ (x : List Event). answer_behind (n + 1) x (lines_of behind)) is
    ∙ sym (ap (answer_behind n events) (step text line behind e some) ∙ behind-event n events line (lines_of behind) event (sym kept) (sym told) room)

pub behind-last : (n : ℕ) (events : List Event) (text : List ℕ) → true ≡ eqb (length text) 0 → answer_behind n events (lines_of text) ≡ Events events
behind-last n events text e = ap (answer_behind n events) (lines_end text (empty (length text) e)) ∙ behind-end n events

-- the answer from the front, by what `opened` gives
abbrev pub answer_opened : Option (ℕ × List (List ℕ)) → Answer
answer_opened None = Bad 1
answer_opened (Some found) = answer_behind found.0 [] found.1

pub from-opened : (n : ℕ) (lines : List (List ℕ)) → answer_from n lines ≡ answer_opened (opened n lines)
unfolding answer_from opened
from-opened n [] = refl
from-opened n (line ∷ lines) =
    elim (cases_Bool (is_skipped line)) [
      | inl y ↦ rw y (from-opened (n + 1) lines)
      | inr z ↦ elim (cases_Bool (is_first line)) [ inl y ↦ rw (z, y) refl | inr k ↦ rw (z, k) refl ]
    ]

-- ---- what is read is right

told-append : (a b : List (List ℕ)) → told (a ++ b) ≡ told a ++ told b
told-append [] b = refl
told-append (line ∷ a) b =
    elim (cases_Bool (is_skipped line)) [
      | inl y ↦ rw (y, told-append a b) refl
      | inr z ↦ rw (z, told-append a b) refl
    ]

told-skipped : (line : List ℕ) (lines : List (List ℕ)) → is_skipped line ≡ true → told (line ∷ lines) ≡ told lines
told-skipped line lines e = rw e refl

told-kept : (line : List ℕ) (lines : List (List ℕ)) → is_skipped line ≡ false → told (line ∷ lines) ≡ line ∷ told lines
told-kept line lines e = rw e refl

tell-append : (v : Version) (others : List (List ℕ)) (events : List Event) (line : List ℕ) (event : Event) → Tell v others events → IsEvent v line event
    → Tell v (others ++ line ∷ []) (events ++ event ∷ [])
tell-append v [] [] line event t is = (is, tt)
tell-append v [] (e ∷ es) line event t is = absurd t
tell-append v (o ∷ os) [] line event t is = absurd t
tell-append v (o ∷ os) (e ∷ es) line event t is = (t.0, tell-append v os es line event t.1 is)

with_skipped : (v : Version) (lines : List (List ℕ)) (events : List Event) (line : List ℕ) → AreSchedule v lines events → is_skipped line ≡ true
    → AreSchedule v (lines ++ line ∷ []) events
with_skipped v lines events line s e = record {
  first = s.first;
  others = s.others;
  told_are = told-append lines (line ∷ []) ∙ ap (λ (x : List (List ℕ)). told lines ++ x) (told-skipped line [] e) ∙ append-nil (told lines) ∙ s.told_are;
  opens = s.opens;
  each = s.each;
  few = s.few;
}

with_one : (v : Version) (lines : List (List ℕ)) (events : List Event) (line : List ℕ) (event : Event) → AreSchedule v lines events → is_skipped line ≡ false
    → IsEvent v line event → (length events ≡ most_events → ⊥) → AreSchedule v (lines ++ line ∷ []) (events ++ event ∷ [])
with_one v lines events line event s e is room = record {
  first = s.first;
  others = s.others ++ line ∷ [];
  told_are = told-append lines (line ∷ []) ∙ ap (λ (x : List (List ℕ)). told lines ++ x) (told-kept line [] e) ∙ ap (λ (x : List (List ℕ)). x ++ line ∷ []) s.told_are;
  opens = s.opens;
  each = tell-append v s.others events line event s.each is;
  few = omega (arith, length-append events (event ∷ []), room, s.few);
}

size_more : (lines : List (List ℕ)) (line : List ℕ) (n : ℕ) → n ≡ length lines → n + 1 ≡ length (lines ++ line ∷ [])
size_more lines line n e = omega (arith, length-append lines (line ∷ []), e)

follows : (front lines : List (List ℕ)) (events : List Event) (line : List ℕ) (n : ℕ) → AreSchedule One front events → n ≡ length front → is_skipped line ≡ false
    → Follows One (front ++ line ∷ lines) events line (n + 1)
follows front lines events line n s e kept = record {
  before = front;
  behind = lines;
  lines_are = refl;
  number = ap (λ (x : ℕ). x + 1) e;
  schedule = s;
  kept = kept;
}

cases_event : (o : Option Event) → (o ≡ None) ⊎ ((e : Event) × (o ≡ Some e))
cases_event None = inl refl
cases_event (Some e) = inr (e, refl)

behind-right : (front lines : List (List ℕ)) (events : List Event) (n : ℕ) → AreSchedule One front events → n ≡ length front
    → IsAnswer (front ++ lines) (answer_behind n events lines)
behind-right front [] events n s e = rw (append-nil front, behind-end n events) (One, s)
behind-right front (line ∷ lines) events n s e =
    let regroup : (front ++ line ∷ []) ++ lines ≡ front ++ line ∷ lines = append_assoc front (line ∷ []) lines in
    elim (cases_Bool (is_skipped line)) [
      | inl y ↦
          rw (behind-skip n events line lines y) (
          subst (λ (x : List (List ℕ)). IsAnswer x (answer_behind (n + 1) events lines)) regroup
          (behind-right (front ++ line ∷ []) lines events (n + 1) (with_skipped One front events line s y) (size_more front line n e))
          )
      | inr z ↦
          elim (cases_event (event_in line)) [
            | inl none ↦
                rw (behind-bad n events line lines z none) (inr (record {
                  version = One;
                  events = events;
                  line = line;
                  follows = follows front lines events line n s e z;
                  no_event = λ event is. let t = event_in-complete One line event is in cc;
                }))
            | inr (event, told) ↦
                let is = event_in-sound line event told in
                elim (cases_Bool (eqb (length events) most_events)) [
                  | inl full ↦
                      let all = eqb-true (length events) most_events full in
                      rw (behind-many n events line lines event z told all) (record {
                        version = One;
                        events = events;
                        line = line;
                        follows = follows front lines events line n s e z;
                        full = all;
                        event = event;
                        is_event = is;
                      })
                  | inr room ↦
                      let more : length events ≡ most_events → ⊥ = λ k. let t = eq-eqb (length events) most_events k in cc in
                      rw (behind-event n events line lines event z told more) (
                      subst (λ (x : List (List ℕ)). IsAnswer x (answer_behind (n + 1) (events ++ event ∷ []) lines)) regroup
                      (behind-right (front ++ line ∷ []) lines (events ++ event ∷ []) (n + 1) (with_one One front events line event s z is more) (size_more front line n e))
                      )
                ]
          ]
    ]

no_first : (lines : List (List ℕ)) → told lines ≡ [] → HasNoFirst lines
no_first lines none v first others are is = cc

other_first : (lines : List (List ℕ)) (line : List ℕ) (others : List (List ℕ)) → told lines ≡ line ∷ others → is_first line ≡ false → HasNoFirst lines
other_first lines line others are not_first v first rest again is =
    let same : first ≡ line = cc in
    let P : List ℕ → Type 0 = λ x. IsFirst v x in
    let t = is_first-complete v line (subst P same is) in
    cc

from-skip : (n : ℕ) (line : List ℕ) (lines : List (List ℕ)) → is_skipped line ≡ true → answer_from n (line ∷ lines) ≡ answer_from (n + 1) lines
unfolding answer_from
from-skip n line lines e = rw e refl

from-first : (n : ℕ) (line : List ℕ) (lines : List (List ℕ)) → is_skipped line ≡ false → is_first line ≡ true → answer_from n (line ∷ lines) ≡ answer_behind (n + 1) [] lines
unfolding answer_from
from-first n line lines e f = rw (e, f) refl

from-other : (n : ℕ) (line : List ℕ) (lines : List (List ℕ)) → is_skipped line ≡ false → is_first line ≡ false → answer_from n (line ∷ lines) ≡ Bad 1
unfolding answer_from
from-other n line lines e f = rw (e, f) refl

from-end : (n : ℕ) → answer_from n [] ≡ Bad 1
unfolding answer_from
from-end n = refl

from-right : (front lines : List (List ℕ)) (n : ℕ) → told front ≡ [] → n ≡ length front → IsAnswer (front ++ lines) (answer_from n lines)
from-right front [] n none e = rw (append-nil front, from-end n) (inl (no_first front none, refl))
from-right front (line ∷ lines) n none e =
    let regroup : (front ++ line ∷ []) ++ lines ≡ front ++ line ∷ lines = append_assoc front (line ∷ []) lines in
    elim (cases_Bool (is_skipped line)) [
      | inl y ↦
          let still : told (front ++ line ∷ []) ≡ [] = told-append front (line ∷ []) ∙ ap (λ (x : List (List ℕ)). x ++ told (line ∷ [])) none ∙ told-skipped line [] y in
          rw (from-skip n line lines y) (
          subst (λ (x : List (List ℕ)). IsAnswer x (answer_from (n + 1) lines)) regroup
          (from-right (front ++ line ∷ []) lines (n + 1) still (size_more front line n e))
          )
      | inr z ↦
          elim (cases_Bool (is_first line)) [
            | inl is ↦
                let s : AreSchedule One (front ++ line ∷ []) [] = record {
                  first = line;
                  others = [];
                  told_are = told-append front (line ∷ []) ∙ ap (λ (x : List (List ℕ)). x ++ told (line ∷ [])) none ∙ told-kept line [] z;
                  opens = is_first-sound line is;
                  each = tt;
                  few = omega arith;
                } in
                rw (from-first n line lines z is) (
                subst (λ (x : List (List ℕ)). IsAnswer x (answer_behind (n + 1) [] lines)) regroup
                (behind-right (front ++ line ∷ []) lines [] (n + 1) s (size_more front line n e))
                )
            | inr not_first ↦
                let first : told (front ++ line ∷ lines) ≡ line ∷ told lines =
                told-append front (line ∷ lines) ∙ ap (λ (x : List (List ℕ)). x ++ told (line ∷ lines)) none ∙ told-kept line lines z in
                rw (from-other n line lines z not_first) (inl (other_first (front ++ line ∷ lines) line (told lines) first not_first, refl))
          ]
    ]

pub answer-right : (text : List ℕ) → IsAnswered text (answer_of text)
unfolding answer_of
answer-right text = record { lines = lines_of text; are_lines = lines_are text; answer_is = from-right [] (lines_of text) 0 refl refl }

-- ---- no other answer is right

moved : (n : ℕ) (line : List ℕ) (front : List (List ℕ)) → n + 1 + length front ≡ n + length (line ∷ front)
moved n line front = omega arith

at_zero : (n : ℕ) → n ≡ n + 0
at_zero n = sym (add-zero n)

tell-behind : (v : Version) (front more : List (List ℕ)) (events acc : List Event) (n : ℕ) → Tell v (told front) events → length acc + length events ≤ most_events
    → answer_behind n acc (front ++ more) ≡ answer_behind (n + length front) (acc ++ events) more
tell-behind v [] more [] acc n t few = ap (λ (x : ℕ). answer_behind x acc more) (at_zero n) ∙ ap (λ (x : List Event). answer_behind (n + 0) x more) (sym (append-nil acc))
tell-behind v [] more (e ∷ es) acc n t few = absurd t
tell-behind v (line ∷ front) more [] acc n t few =
    elim (cases_Bool (is_skipped line)) [
      | inl y ↦
          behind-skip n acc line (front ++ more) y
          ∙ tell-behind v front more [] acc (n + 1) (subst (λ (x : List (List ℕ)). Tell v x []) (told-skipped line front y) t) few
          ∙ ap (λ (x : ℕ). answer_behind x (acc ++ []) more) (moved n line front)
      | inr z ↦ absurd (subst (λ (x : List (List ℕ)). Tell v x []) (told-kept line front z) t)
    ]
tell-behind v (line ∷ front) more (e ∷ es) acc n t few =
    elim (cases_Bool (is_skipped line)) [
      | inl y ↦
          behind-skip n acc line (front ++ more) y
          ∙ tell-behind v front more (e ∷ es) acc (n + 1) (subst (λ (x : List (List ℕ)). Tell v x (e ∷ es)) (told-skipped line front y) t) few
          ∙ ap (λ (x : ℕ). answer_behind x (acc ++ e ∷ es) more) (moved n line front)
      | inr z ↦
          let told_is : Tell v (line ∷ told front) (e ∷ es) = subst (λ (x : List (List ℕ)). Tell v x (e ∷ es)) (told-kept line front z) t in
          let size = length-append acc (e ∷ []) in
          behind-event n acc line (front ++ more) e z (event_in-complete v line e told_is.0) (λ full. absurd (omega (arith, full, few)))
          ∙ tell-behind v front more es (acc ++ e ∷ []) (n + 1) told_is.1 (omega (arith, size, few))
          ∙ ap (λ (x : ℕ). answer_behind x ((acc ++ e ∷ []) ++ es) more) (moved n line front)
          ∙ ap (λ (x : List Event). answer_behind (n + length (line ∷ front)) x more) (append_assoc acc (e ∷ []) es)
    ]

from-told : (v : Version) (front more : List (List ℕ)) (first : List ℕ) (others : List (List ℕ)) (events : List Event) (n : ℕ) → told front ≡ first ∷ others
    → IsFirst v first → Tell v others events → length events ≤ most_events → answer_from n (front ++ more) ≡ answer_behind (n + length front) events more
from-told v [] more first others events n are is t few = absurd cc
from-told v (line ∷ front) more first others events n are is t few =
    elim (cases_Bool (is_skipped line)) [
      | inl y ↦
          from-skip n line (front ++ more) y
          ∙ from-told v front more first others events (n + 1) (sym (told-skipped line front y) ∙ are) is t few
          ∙ ap (λ (x : ℕ). answer_behind x events more) (moved n line front)
      | inr z ↦
          let both : line ∷ told front ≡ first ∷ others = sym (told-kept line front z) ∙ are in
          let head : first ≡ line = cc in
          let tail : others ≡ told front = cc in
          from-first n line (front ++ more) z (is_first-complete v line (subst (IsFirst v) head is))
          ∙ tell-behind v front more events [] (n + 1) (subst (λ (x : List (List ℕ)). Tell v x events) tail t) (omega (arith, few))
          ∙ ap (λ (x : ℕ). answer_behind x events more) (moved n line front)
    ]

zero_first : (n : ℕ) → 0 + n ≡ n
zero_first n = zero-add n

from-schedule : (v : Version) (front more : List (List ℕ)) (events : List Event) → AreSchedule v front events
    → answer_from 0 (front ++ more) ≡ answer_behind (length front) events more
from-schedule v front more events s =
    from-told v front more s.first s.others events 0 s.told_are s.opens s.each s.few
    ∙ ap (λ (x : ℕ). answer_behind x events more) (zero_first (length front))

from-nothing : (lines : List (List ℕ)) (n : ℕ) → HasNoFirst lines → answer_from n lines ≡ Bad 1
from-nothing [] n none = from-end n
from-nothing (line ∷ lines) n none =
    elim (cases_Bool (is_skipped line)) [
      | inl y ↦ from-skip n line lines y ∙ from-nothing lines (n + 1) (subst (λ (x : List (List ℕ)). (v : Version) (first : List ℕ) (others : List (List ℕ)) → x ≡ first ∷ others → IsFirst v first → ⊥) (told-skipped line lines y) none)
      | inr z ↦
          elim (cases_Bool (is_first line)) [
            | inl is ↦ absurd (none One line (told lines) (told-kept line lines z) (is_first-sound line is))
            | inr not_first ↦ from-other n line lines z not_first
          ]
    ]

follows-answer : (v : Version) (lines : List (List ℕ)) (events : List Event) (line : List ℕ) (n : ℕ) (f : Follows v lines events line n)
    → answer_from 0 lines ≡ answer_behind (length f.before) events (line ∷ f.behind)
follows-answer v lines events line n f = ap (answer_from 0) f.lines_are ∙ from-schedule v f.before (line ∷ f.behind) events f.schedule

bad-only : (lines : List (List ℕ)) (n : ℕ) → IsBadLine lines n → answer_from 0 lines ≡ Bad n
bad-only lines n b =
    elim (cases_event (event_in b.line)) [
      | inl none ↦
          follows-answer b.version lines b.events b.line n b.follows
          ∙ behind-bad (length b.follows.before) b.events b.line b.follows.behind b.follows.kept none
          ∙ ap (λ (x : ℕ). Bad x) (sym b.follows.number)
      | inr (event, read) ↦ absurd (b.no_event event (of_version b.version b.line event (event_in-sound b.line event read)))
    ]
  where
    of_version : (v : Version) (line : List ℕ) (event : Event) → IsEvent One line event → IsEvent v line event
    of_version One line event is = is

many-only : (lines : List (List ℕ)) (n : ℕ) → IsEventTooMany lines n → answer_from 0 lines ≡ Many n
many-only lines n b =
    follows-answer b.version lines b.events b.line n b.follows
    ∙ behind-many (length b.follows.before) b.events b.line b.follows.behind b.event b.follows.kept (event_in-complete b.version b.line b.event b.is_event) b.full
    ∙ ap (λ (x : ℕ). Many x) (sym b.follows.number)

lines-only : (lines : List (List ℕ)) (a : Answer) → IsAnswer lines a → answer_from 0 lines ≡ a
lines-only lines (Events events) (v, s) =
    ap (answer_from 0) (sym (append-nil lines)) ∙ from-schedule v lines [] events s ∙ behind-end (length lines) events
lines-only lines (Bad n) (inl (none, e)) = from-nothing lines 0 none ∙ ap (λ (x : ℕ). Bad x) (sym e)
lines-only lines (Bad n) (inr bad) = bad-only lines n bad
lines-only lines (Many n) many = many-only lines n many

pub answer-only : (text : List ℕ) (a : Answer) → IsAnswered text a → answer_of text ≡ a
unfolding answer_of
answer-only text a is = ap (answer_from 0) (sym (lines_only text is.lines is.are_lines)) ∙ lines-only is.lines a is.answer_is

pub same_answer : (text : List ℕ) (a b : Answer) → IsAnswered text a → IsAnswered text b → a ≡ b
same_answer text a b x y = sym (answer-only text a x) ∙ answer-only text b y

-- ---- what a call gives

pub gives-schedule : (r : Result (Vec Event Global) SchedError) (text : List ℕ) → Gives r (answer_of text) → IfOk r (λ events. IsSchedule text events.items)
gives-schedule (Ok events) text g = subst (IsAnswered text) g (answer-right text)
gives-schedule (Err e) text g = tt

pub gives-bad : (r : Result (Vec Event Global) SchedError) (text : List ℕ) (n : ℕ) → Gives r (answer_of text) → IsErrOf r (BadLine n) → IsAnswered text (Bad n)
gives-bad (Ok events) text n g e = absurd cc
gives-bad (Err Memory) text n g e = absurd cc
gives-bad (Err (TooMany m)) text n g e = absurd cc
gives-bad (Err (BadLine m)) text n g e = let same : m ≡ n = cc in subst (IsAnswered text) (g ∙ ap (λ (x : ℕ). Bad x) same) (answer-right text)

pub gives-many : (r : Result (Vec Event Global) SchedError) (text : List ℕ) (n : ℕ) → Gives r (answer_of text) → IsErrOf r (TooMany n) → IsAnswered text (Many n)
gives-many (Ok events) text n g e = absurd cc
gives-many (Err Memory) text n g e = absurd cc
gives-many (Err (BadLine m)) text n g e = absurd cc
gives-many (Err (TooMany m)) text n g e = let same : m ≡ n = cc in subst (IsAnswered text) (g ∙ ap (λ (x : ℕ). Many x) same) (answer-right text)

pub gives-only : (r : Result (Vec Event Global) SchedError) (text : List ℕ) (a : Answer) → Gives r (answer_of text) → IsAnswered text a → Gives r a
gives-only r text a g is = subst (Gives r) (answer-only text a is) g

pub some-within : {X : Type 0} (P : X → Type 0) (o : Option X) (r : Bool) (x : X) → o ≡ then_some r x → P x → IfSome o P
some-within {X} P o true x e p = let Q : Option X → Type 0 = λ y. IfSome y P in subst Q (sym e) p
some-within {X} P o false x e p = let Q : Option X → Type 0 = λ y. IfSome y P in subst Q (sym e) tt
