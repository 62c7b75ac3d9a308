-- The bytes of one object.
use Rattle.std.proofs.Common.{ℕ, zero, suc, ◌≡◌, ◌+◌, ◌-◌, ◌%◌, ◌^◌, ◌<◌, ◌≤◌, Bool, true, false, cond, List, [], ◌∷◌, ◌++◌, length, get_or, take, drop, add-one, replicate, refl, ap, sym, ◌∙◌, arith, fold, append_assoc, append-nil, length-append}
use Rattle.std.proofs.Math.Seq.{take-append-add, take-append_seam, drop-append_seam, take-nil, drop-cons}
use Rattle.std.proofs.lemmas.List.{take-replicate, drop_all, take_all}
use Rattle.std.specs.Int.{byte_at, bytes_low_first}
use Rattle.std.specs.List.{filter}
use Rattle.rank_range.specs.Layout.{globals_start}
use Rattle.rank_range.specs.Numbers.{with_number}
use Rattle.c_types.specs.declared.program.StaticObject.{StaticObject}
use Rattle.c_types.specs.declared.program.Fix.{Fix}
use Rattle.c_types.specs.Segment.{lies_within}
use Rattle.privatise.specs.Addresses.{addressed}

-- Eight bytes are those of the number's 64 low bits.
low_bytes : (v : ℕ) → bytes_low_first 0 8 (v % 2 ^ 64) ≡ bytes_low_first 0 8 v
low_bytes v =
    let a : byte_at 0 (v % 2 ^ 64) ≡ byte_at 0 v = omega arith in
    let b : byte_at 1 (v % 2 ^ 64) ≡ byte_at 1 v = omega arith in
    let c : byte_at 2 (v % 2 ^ 64) ≡ byte_at 2 v = omega arith in
    let d : byte_at 3 (v % 2 ^ 64) ≡ byte_at 3 v = omega arith in
    let e : byte_at 4 (v % 2 ^ 64) ≡ byte_at 4 v = omega arith in
    let f : byte_at 5 (v % 2 ^ 64) ≡ byte_at 5 v = omega arith in
    let g : byte_at 6 (v % 2 ^ 64) ≡ byte_at 6 v = omega arith in
    let h : byte_at 7 (v % 2 ^ 64) ≡ byte_at 7 v = omega arith in
    cc

with_low_bits : (bytes : List ℕ) (at v : ℕ) → with_number bytes at 8 (v % 2 ^ 64) ≡ with_number bytes at 8 v
unfolding with_number
with_low_bits bytes at v = ap (λ (ys : List ℕ). take at bytes ++ (ys ++ drop (at + 8) bytes)) (low_bytes v)

pub address_is : (bytes new : List ℕ) (at offset addend value : ℕ) → value ≡ (globals_start + (offset + addend)) % 2 ^ 64
    → new ≡ with_number bytes at 8 value → new ≡ with_number bytes at 8 (globals_start + (offset + addend))
address_is bytes new at offset addend value is e =
    e ∙ ap (with_number bytes at 8) is ∙ with_low_bits bytes at (globals_start + (offset + addend))

-- what is cut off, and the zeros behind
padded : (init : List ℕ) (size m : ℕ) → size ≤ length init + m
    → take size (init ++ replicate m 0) ≡ take size init ++ replicate (size - length init) 0
padded [] size m le =
    let whole : size - 0 ≡ size = omega arith in
    let short : size ≤ m = omega (arith, le) in
    let front : take size [] ++ replicate (size - 0) 0 ≡ replicate size 0 =
    ap (λ (ys : List ℕ). ys ++ replicate (size - 0) 0) (take-nil size) ∙ ap (λ k. replicate k 0) whole in
    take-replicate size m 0 short ∙ sym front
padded (x ∷ xs) zero m le =
    let gone : 0 ≡ 0 - length (x ∷ xs) = omega arith in
    ap (λ k. replicate k 0) gone
padded (x ∷ xs) (suc n) m le =
    let rest : n - length xs ≡ suc n - length (x ∷ xs) = omega arith in
    ap (λ ys. x ∷ ys) (padded xs n m (omega (arith, le)))
    ∙ ap (λ k. x ∷ (take n xs ++ replicate k 0)) rest

pub filled_is : (old init : List ℕ) (size end count : ℕ) → end ≡ length old + size → count ≡ length (old ++ init)
    → take end (old ++ init) ++ replicate (end - count) 0 ≡ old ++ take size (init ++ replicate size 0)
filled_is old init size end count e c =
    let zeros : end - count ≡ size - length init = omega (arith, e, c, length-append old init) in
    ap (λ k. take k (old ++ init) ++ replicate (end - count) 0) e
    ∙ ap (λ ys. ys ++ replicate (end - count) 0) (take-append-add old init size)
    ∙ append_assoc old (take size init) (replicate (end - count) 0)
    ∙ ap (λ k. old ++ (take size init ++ replicate k 0)) zeros
    ∙ ap (λ ys. old ++ ys) (sym (padded init size size (omega arith)))

-- One fix more, in a loop over them.
kept : (offsets bytes : List ℕ) (f : Fix) (rest : List Fix) (c : Bool)
    → fold (addressed offsets) (cond c (addressed offsets bytes f) bytes) rest ≡ fold (addressed offsets) bytes (cond c (f ∷ rest) rest)
kept offsets bytes f rest true = refl
kept offsets bytes f rest false = refl

pub fix_step : (o : StaticObject) (fixes : List Fix) (offsets bytes new whole : List ℕ) (i : ℕ) (f none : Fix) → i < length fixes
    → f ≡ get_or fixes i none
    → fold (addressed offsets) bytes (filter (lies_within o) (drop i fixes)) ≡ whole
    → new ≡ cond (lies_within o f) (addressed offsets bytes f) bytes
    → fold (addressed offsets) new (filter (lies_within o) (drop (i + 1) fixes)) ≡ whole
fix_step o fixes offsets bytes new whole i f none lt is known e =
    let dropped : drop i fixes ≡ f ∷ drop (i + 1) fixes =
    rw add-one (drop-cons fixes i none lt ∙ ap (λ y. y ∷ drop (suc i) fixes) (sym is)) in
    ap (λ b. fold (addressed offsets) b (filter (lies_within o) (drop (i + 1) fixes))) e
    ∙ kept offsets bytes f (filter (lies_within o) (drop (i + 1) fixes)) (lies_within o f)
    ∙ ap (λ fs. fold (addressed offsets) bytes (filter (lies_within o) fs)) (sym dropped)
    ∙ known

pub chosen : (c : Bool) (x y new : List ℕ) → c ≡ true → new ≡ x → new ≡ cond c x y
chosen true x y new e h = h
chosen false x y new e h = absurd (cc)

pub left_out : (c : Bool) (x y new : List ℕ) → c ≡ false → new ≡ y → new ≡ cond c x y
left_out false x y new e h = h
left_out true x y new e h = absurd (cc)

-- What stands behind `start` was written in its place.
pub put_back : (old part new lent all rest : List ℕ) (start n : ℕ) → start ≡ length old → all ≡ old ++ part → lent ≡ all
    → length new ≡ length part → rest ≡ [] → n ≡ length all
    → take n ((take start lent ++ (new ++ rest)) ++ drop (length (take start lent ++ (new ++ rest))) all) ≡ old ++ new
put_back old part new lent all rest start n at is same long none count =
    let front : take start lent ≡ old =
    ap (λ k. take k lent) at ∙ ap (λ ys. take (length old) ys) (same ∙ is) ∙ take-append_seam old part in
    let whole : take start lent ++ (new ++ rest) ≡ old ++ new =
    ap (λ ys. ys ++ (new ++ rest)) front ∙ ap (λ ys. old ++ (new ++ ys)) none ∙ ap (λ ys. old ++ ys) (append-nil new) in
    let total : length (old ++ new) ≡ n =
    (let all_long = ap (λ (ys : List ℕ). length ys) is in
    omega (arith, count, all_long, long, length-append old part, length-append old new)) in
    ap (λ ys. take n (ys ++ drop (length ys) all)) whole
    ∙ ap (λ ys. take n ((old ++ new) ++ ys)) (drop_all (length (old ++ new)) all (omega (arith, total, count)))
    ∙ ap (take n) (append-nil (old ++ new))
    ∙ take_all n (old ++ new) (omega (arith, total))

pub part_is : (old part lent all : List ℕ) (start : ℕ) → start ≡ length old → all ≡ old ++ part → lent ≡ all
    → take (length lent - start) (drop start lent) ≡ part
part_is old part lent all start at is same =
    let whole : lent ≡ old ++ part = same ∙ is in
    let behind : drop start lent ≡ part =
    ap (λ k. drop k lent) at ∙ ap (λ ys. drop (length old) ys) whole ∙ drop-append_seam old part in
    let count : length part ≤ length lent - start =
    (let long = ap (λ (ys : List ℕ). length ys) whole in omega (arith, long, at, length-append old part)) in
    ap (take (length lent - start)) behind ∙ take_all (length lent - start) part count
