-- Packets that are taken out, one after another, and what forwarding raises.
use Rattle.std.proofs.Common.{◌≡◌, ◌∙◌, ◌+◌, ◌<◌, ◌≤◌, ℕ, zero, suc, Bool, true, false, not, ◌&&◌, ◌==◌, nat_lt, cond, List, [], ◌∷◌, ◌++◌, length, get_or, take, remove, filter, refl, sym, ap, inl, inr, arith, append_assoc, append-nil}
use Rattle.std.proofs.lemmas.Bool.{cases_Bool, ltb-true}
use Rattle.byte_formats.specs.FormatLaws.{both_true, chosen}
use Rattle.am_base.specs.declared.numbers.ProcId.{ProcId}
use Rattle.packet.specs.declared.packets.Packet.{Packet}
use Rattle.forwarding.specs.declared.answer.Route.{Route}
use Rattle.forwarding.specs.declared.answer.Route.TheVariants.{Accept, Forward, Wait}
use Rattle.forwarding.specs.Routes.{route_by, ForwardingRaises}
use Rattle.forwarding.specs.Waiting.{is_for, those_for, others_than, IsFirstFor}

first_none : (r : ℕ) (x : Packet) (xs : List Packet) → those_for r (x ∷ xs) ≡ [] → (is_for r x ≡ false) × (those_for r xs ≡ [])
first_none r x xs e = elim (cases_Bool (is_for r x)) [
  | inl own ↦ let never : x ∷ those_for r xs ≡ [] = sym (rw own refl) ∙ e in absurd (cc)
  | inr other ↦ (other, sym (rw other refl) ∙ e)
]

-- the first for the rank, and those behind it
taken_for : (r : ℕ) (ps : List Packet) (at : ℕ) (p : Packet) → at < length ps → p ≡ get_or ps at p → is_for r p ≡ true → those_for r (take at ps) ≡ []
    → those_for r ps ≡ p ∷ those_for r (remove ps at)
taken_for r [] at p inside is own none = absurd (omega (arith, inside))
taken_for r (x ∷ xs) zero p inside is own none = rw (sym is, own) refl
taken_for r (x ∷ xs) (suc at) p inside is own none =
    let first = first_none r x (take at xs) none in
    rw first.0 (taken_for r xs at p (omega (arith, inside)) is own first.1)

left_for : (r : ℕ) (ps : List Packet) (at : ℕ) (p : Packet) → at < length ps → p ≡ get_or ps at p → is_for r p ≡ true
    → others_than r (remove ps at) ≡ others_than r ps
left_for r [] at p inside is own = absurd (omega (arith, inside))
left_for r (x ∷ xs) zero p inside is own = rw (sym is, own) refl
left_for r (x ∷ xs) (suc at) p inside is own = elim (cases_Bool (is_for r x)) [
  | inl first ↦ rw first (left_for r xs at p (omega (arith, inside)) is own)
  | inr other ↦ rw other (ap (λ ys. x ∷ ys) (left_for r xs at p (omega (arith, inside)) is own))
]

-- where none is for the rank, all are others
all_others : (r : ℕ) (ps : List Packet) → those_for r ps ≡ [] → others_than r ps ≡ ps
all_others r [] e = refl
all_others r (x ∷ xs) e = let first = first_none r x xs e in rw first.0 (ap (λ ys. x ∷ ys) (all_others r xs first.1))

-- What is kept over the moves.
pub record IsMoving (r : ℕ) (old given now taken : List Packet) : Type 0 where
  pub all : given ++ those_for r old ≡ taken ++ those_for r now
  pub others : others_than r now ≡ others_than r old

pub moving : (r : ℕ) (old given : List Packet) → IsMoving r old given old given
moving r old given = record { all = refl; others = refl }

pub one_moved : (r : ℕ) (old given now taken next pushed : List Packet) (at : ℕ) (p : Packet) → IsMoving r old given now taken
    → IsFirstFor r now at → p ≡ get_or now at p → next ≡ remove now at → pushed ≡ taken ++ p ∷ [] → IsMoving r old given next pushed
one_moved r old given now taken next pushed at p was first is removed push =
    let own : is_for r p ≡ true = ap (is_for r) is ∙ first.is p in
    record {
      all =
          was.all ∙ ap (λ ps. taken ++ ps) (taken_for r now at p first.inside is own first.first)
          ∙ sym (append_assoc taken (p ∷ []) (those_for r (remove now at)))
          ∙ ap (λ ps. ps ++ those_for r (remove now at)) (sym push) ∙ ap (λ ps. pushed ++ those_for r ps) (sym removed);
      others = ap (others_than r) removed ∙ left_for r now at p first.inside is own ∙ was.others;
    }

pub all_given : (r : ℕ) (old given now taken : List Packet) → IsMoving r old given now taken → those_for r now ≡ [] → taken ≡ given ++ those_for r old
all_given r old given now taken was none = sym (was.all ∙ ap (λ ps. taken ++ ps) none ∙ append-nil taken)

pub all_kept : (r : ℕ) (old given now taken : List Packet) → IsMoving r old given now taken → those_for r now ≡ [] → now ≡ others_than r old
all_kept r old given now taken was none = sym (all_others r now none) ∙ was.others

-- ---- the floor

raised_by : (known : ℕ × ProcId) (here : ProcId) (floor raised : ℕ) (place : ProcId) (resident go : Bool)
    → (nat_lt floor known.0 && not (known.1.0 == here.0)) ≡ go → cond resident Accept (cond go (Forward known.0 known.1) Wait) ≡ Forward raised place
    → floor < raised
raised_by known here floor raised place true go is e = absurd (cc)
raised_by known here floor raised place false true is e =
    let count : known.0 ≡ raised = cc in
    let less : floor < known.0 = ltb-true floor known.0 (both_true (nat_lt floor known.0) (not (known.1.0 == here.0)) is).0 in
    omega (arith, less, count)
raised_by known here floor raised place false false is e = absurd (cc)

pub forwarding_raises : ForwardingRaises
forwarding_raises known here floor resident raised place e =
    raised_by known here floor raised place resident (nat_lt floor known.0 && not (known.1.0 == here.0)) refl e
