-- The records of calls stay where their bytes stay.
use Rattle.std.proofs.Common.{◌≡◌, ℕ, zero, suc, ◌+◌, ◌*◌, ◌<◌, ◌≤◌, ◌∙◌, inl, List, ◌∷◌, slice_index, refl, ap, arith}
use Rattle.std.specs.Prelude.{min}
use Rattle.rank_range.specs.Layout.{globals_start}
use Rattle.rank_range.specs.Numbers.{number_at}
use Rattle.rank_range.specs.Parts.{StayBeside}
use Rattle.rank_range.proofs.ChangeLemmas.{number_same}
use Rattle.vm_code.specs.Machine.{Frame}
use Rattle.rank_machine.specs.View.{record_place, words_at, in_stack, frame_at, frames_of}

-- the bytes from `low` up to `high` are as they were
abbrev pub Same : List ℕ → List ℕ → ℕ → ℕ → Type 0
Same old new low high = (i : ℕ) → low ≤ i → i < high → slice_index new i ≡ slice_index old i

pub number_stands : (old new : List ℕ) (at n low high : ℕ) → Same old new low high → low ≤ at → at + n ≤ high → number_at new at n ≡ number_at old at n
number_stands old new at n low high same from to =
    number_same old new at n (λ j below. same (at + j) (omega (arith, from)) (omega (arith, to, below)))

pub words_stand : (old new : List ℕ) (at k low high : ℕ) → Same old new low high → low ≤ at → at + 8 * k ≤ high → words_at new at k ≡ words_at old at k
words_stand old new at zero low high same from to = refl
words_stand old new at (suc k) low high same from to =
    let inside : at + 8 * k + 8 ≤ high = omega (arith, to) in
    ap (λ (x : ℕ). x ∷ words_at new at k) (number_stands old new (at + 8 * k) 8 low high same (omega (arith, from)) inside)
    ∙ ap (λ (xs : List ℕ). number_at old (at + 8 * k) 8 ∷ xs) (words_stand old new at k low high same from (omega (arith, inside)))

abbrev pub frame_with : ℕ → ℕ → ℕ → List ℕ → Frame
frame_with back start finish operands = record { back = back; start = start; finish = finish; operands = operands }

-- frames with equal parts are equal
pub same_frame : (b c s t f g : ℕ) (xs ys : List ℕ) → b ≡ c → s ≡ t → f ≡ g → xs ≡ ys → frame_with b s f xs ≡ frame_with c t g ys
same_frame b c s t f g xs ys back start finish operands =
    ap (λ (x : ℕ). frame_with x s f xs) back ∙ ap (λ (x : ℕ). frame_with c x f xs) start ∙ ap (λ (x : ℕ). frame_with c t x xs) finish
    ∙ ap (frame_with c t g) operands

pub frame_stands : (old new : List ℕ) (top at low high : ℕ) → Same old new low high → low ≤ at → at + 288 ≤ high
    → frame_at new top at ≡ frame_at old top at
unfolding frame_at
frame_stands old new top at low high same from to =
    let number : (o : ℕ) → o ≤ 24 → number_at new (at + o) 8 ≡ number_at old (at + o) 8 =
    λ o few. number_stands old new (at + o) 8 low high same (omega (arith, from)) (omega (arith, to, few)) in
    let count = number_at old (at + 24) 8 in
    let counts : min 32 (number_at new (at + 24) 8) ≡ min 32 count = ap (min 32) (number 24 (omega arith)) in
    let few : min 32 count ≤ 32 = omega arith in
    same_frame _ _ _ _ _ _ _ _
    (number_stands old new at 8 low high same from (omega (arith, to)))
    (number 8 (omega arith))
    (ap (in_stack top) (number 16 (omega arith)))
    (ap (words_at new (at + 32)) counts ∙ words_stand old new (at + 32) (min 32 count) low high same (omega (arith, from)) (omega (arith, to, few)))

pub frames_stand : (old new : List ℕ) (top k high : ℕ) → Same old new 4096 high → record_place k ≤ high
    → frames_of new top k ≡ frames_of old top k
frames_stand old new top zero high same to = refl
frames_stand old new top (suc k) high same to =
    let inside : record_place k + 288 ≤ high = omega (arith, to) in
    ap (λ (f : Frame). f ∷ frames_of new f.finish k) (frame_stands old new top (record_place k) 4096 high same (omega arith) inside)
    ∙ ap (λ (fs : List Frame). frame_at old top (record_place k) ∷ fs)
    (frames_stand old new (frame_at old top (record_place k)).finish k high same (omega (arith, inside)))

-- a change of no byte before the globals
pub frames_beside : (old new : List ℕ) (low high : ℕ) → globals_start ≤ low → StayBeside old new low high
    → (limit k : ℕ) → k ≤ 256 → frames_of new limit k ≡ frames_of old limit k
frames_beside old new low high from beside limit k few =
    frames_stand old new limit k globals_start (λ i at_least below. beside.at i (inl (omega (arith, below, from)))) (omega (arith, few))
