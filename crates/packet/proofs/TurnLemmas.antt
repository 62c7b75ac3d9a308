-- Messages that are sorted out, one after another, and what is so of the turns.
use Rattle.std.proofs.Common.{◌≡◌, ◌∙◌, ◌+◌, ◌-◌, ◌<◌, ◌≤◌, ℕ, zero, suc, Bool, true, false, ◌&&◌, ◌||◌, ◌==◌, nat_lt, cond, List, [], ◌∷◌, ◌++◌, length, map, reverse, insert, refl, sym, ap, subst, inl, inr, arith, append_assoc, append-nil, IsPermutation}
use Rattle.std.proofs.lemmas.List.{reverse-append}
use Rattle.std.proofs.lemmas.Bool.{eqb-true, ltb-true, cases_Bool}
use Rattle.byte_formats.specs.Formats.{ascends}
use Rattle.byte_formats.specs.FormatLaws.{both_true}
use Rattle.mpi_types.specs.declared.message.Message.{Message}
use Rattle.mpi_types.specs.declared.state.HeldMessage.{HeldMessage}
use Rattle.mpi_types.specs.Order.{is_held_before}
use Rattle.packet.specs.declared.turns.Turns.{Turns}
use Rattle.packet.specs.Turns.{put_held, place_of, is_turn, turns_of, kept_of, next_of, messages_of, AreFrom, NoneHas, AreNumbered, TurnsAreNumbered, TurnsAreLongest, NoneIsLost}
use Rattle.packet.specs.TurnSteps.{turns_from, with_held}

-- what was sorted out, and the messages of a list behind it
abbrev pub turns_onto : ℕ → Turns → List HeldMessage → Turns
turns_onto sender t hs =
    record { given = t.given ++ messages_of (turns_of sender t.next hs); kept = t.kept ++ kept_of sender t.next hs; next = next_of sender t.next hs }

one_more : (sender : ℕ) (t : Turns) (h : HeldMessage) (hs : List HeldMessage) (b : Bool) → is_turn sender t.next h ≡ b
    → turns_onto sender t (h ∷ hs) ≡ turns_onto sender (with_held sender t h) hs
one_more sender t h hs true e =
    rw e (ap (λ g. record {
      given = g;
      kept = t.kept ++ kept_of sender (t.next + 1) hs;
      next = next_of sender (t.next + 1) hs;
    }) (sym (append_assoc t.given (h.message ∷ []) (messages_of (turns_of sender (t.next + 1) hs)))))
one_more sender t h hs false e =
    rw e (ap (λ k. record {
      given = t.given ++ messages_of (turns_of sender t.next hs);
      kept = k;
      next = next_of sender t.next hs;
    }) (sym (append_assoc t.kept (h ∷ []) (kept_of sender t.next hs))))

-- one more is put
pub more_turns : (sender : ℕ) (all now next : Turns) (h : HeldMessage) (before behind : List HeldMessage) → all ≡ turns_onto sender now (reverse before)
    → before ≡ behind ++ h ∷ [] → next ≡ with_held sender now h → all ≡ turns_onto sender next (reverse behind)
more_turns sender all now next h before behind was is put =
    was ∙ ap (λ hs. turns_onto sender now (reverse hs)) is ∙ ap (turns_onto sender now) (reverse-append behind (h ∷ []))
    ∙ one_more sender now h (reverse behind) (is_turn sender now.next h) refl ∙ ap (λ t. turns_onto sender t (reverse behind)) (sym put)

pub all_turned : (sender : ℕ) (all now : Turns) (left : List HeldMessage) → all ≡ turns_onto sender now (reverse left) → left ≡ [] → now ≡ all
all_turned sender all now left was none =
    let same : turns_onto sender now [] ≡ now =
    ap (λ g. record { given = g; kept = now.kept ++ []; next = now.next }) (append-nil now.given)
    ∙ ap (λ k. record { given = now.given; kept = k; next = now.next }) (append-nil now.kept) in
    sym (was ∙ ap (λ hs. turns_onto sender now (reverse hs)) none ∙ same)

-- a message that is put in at its place
pub place_within : (h : HeldMessage) (hs : List HeldMessage) → place_of h hs ≤ length hs
place_within h [] = omega arith
place_within h (x ∷ xs) = elim (cases_Bool (is_held_before h x)) [
  | inl e ↦ rw e (omega arith)
  | inr e ↦ rw e (omega (arith, place_within h xs))
]

put_at : (h : HeldMessage) (hs : List HeldMessage) → insert hs (place_of h hs) h ≡ put_held h hs
put_at h [] = refl
put_at h (x ∷ xs) = elim (cases_Bool (is_held_before h x)) [
  | inl e ↦ rw e refl
  | inr e ↦ rw e (let n : ℕ = place_of h xs in let more : n + 1 ≡ suc n = omega arith in rw more (ap (λ ys. x ∷ ys) (put_at h xs)))
]

pub put_is : (h : HeldMessage) (hs items : List HeldMessage) (place : ℕ) → items ≡ hs → place ≡ place_of h items → insert items place h ≡ put_held h hs
put_is h hs items place same at = ap (λ k. insert items k h) at ∙ (ap (λ xs. insert xs (place_of h xs) h) same ∙ put_at h hs)

-- one more is held
pub put_length : (h : HeldMessage) (hs : List HeldMessage) → length (put_held h hs) ≡ length hs + 1
put_length h [] = refl
put_length h (x ∷ xs) = elim (cases_Bool (is_held_before h x)) [
  | inl e ↦ rw e (omega arith)
  | inr e ↦ rw e (omega (arith, put_length h xs))
]
