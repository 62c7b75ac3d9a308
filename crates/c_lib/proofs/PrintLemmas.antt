-- A format is written piece by piece.
use Rattle.std.proofs.Common.{◌≡◌, ℕ, zero, suc, ◌+◌, ◌-◌, ◌*◌, ◌<◌, ◌≤◌, Bool, true, false, List, [], ◌∷◌, ◌++◌, length, drop, get_or, refl, ap, sym, subst, ◌∙◌, append_assoc, arith}
use Rattle.std.proofs.lemmas.List.{append-nil}
use Rattle.std.specs.Prelude.{if◌then◌else◌, ◌==◌, Option, Some, None, Err}
use Rattle.am_base.specs.declared.traps.TrapCause.{TrapCause}
use Rattle.am_base.specs.declared.traps.TrapCause.TheVariants.{BadFormat}
use Rattle.rank_range.specs.Areas.{Areas}
use Rattle.rank_range.specs.declared.run.LibStop.{LibStop}
use Rattle.rank_range.specs.declared.run.LibStop.TheVariants.{Trap, Memory}
use Rattle.c_lib.specs.Answers.{IsBehind}
use Rattle.rank_range.specs.Formats.{Side, What, Read, Found, Ends, Format, Piece, Plain, Converts, Conversion, End, Whole, Open, first_piece, behind_percent, width_from, behind_width, behind_long, found, what_of, is_digit, going_on, with_piece, format_within, format_of, Left, Zeros, Right}
use Rattle.rank_range.specs.Library.{Written, Writes, Wrong, behind_text, joined, written, ended, converts}

-- what is left of a format and its words writes
abbrev pub left_of : Areas → List ℕ → List ℕ → Written
left_of areas format words = written areas (format_of format).pieces (format_of format).end words

-- what is read leaves fewer bytes
abbrev IsBelow : ℕ → Read → Type 0
IsBelow n (Found piece rest) = length rest < n
IsBelow n (Ends end) = Unit {0}

either : (n : ℕ) (t : Bool) (a b : Read) → IsBelow n a → IsBelow n b → IsBelow n (if t then a else b)
either n true a b left right = left
either n false a b left right = right

more : (m n : ℕ) (r : Read) → m ≤ n → IsBelow m r → IsBelow n r
more m n (Found piece rest) few below = omega (arith, few, below)
more m n (Ends end) few below = tt

below_found : (side : Side) (width : ℕ) (what : Option What) (rest : List ℕ) → IsBelow (suc (length rest)) (found side width what rest)
below_found side width None rest = tt
below_found side width (Some what) rest = omega arith

below_long : (side : Side) (width : ℕ) (bytes : List ℕ) → IsBelow (length bytes) (behind_long side width bytes)
below_long side width [] = tt
below_long side width (b ∷ rest) = more _ _ (found side width (what_of true b) rest) (omega arith) (below_found side width (what_of true b) rest)

below_width : (side : Side) (width : ℕ) (bytes : List ℕ) → IsBelow (length bytes) (behind_width side width bytes)
below_width side width [] = tt
below_width side width (b ∷ []) =
    let single : IsBelow 1 (found side width (what_of false b) []) = below_found side width (what_of false b) [] in
    either 1 (b == 108) (Ends Open) (found side width (what_of false b) []) tt single
below_width side width (b ∷ c ∷ rest) =
    let n = length (b ∷ c ∷ rest) in
    either n (b == 108) (if c == 108 then behind_long side width rest else found side width (what_of true c) rest)
    (found side width (what_of false b) (c ∷ rest))
    (either n (c == 108) (behind_long side width rest) (found side width (what_of true c) rest)
    (more (length rest) n (behind_long side width rest) (omega arith) (below_long side width rest))
    (more (suc (length rest)) n (found side width (what_of true c) rest) (omega arith) (below_found side width (what_of true c) rest)))
    (more (suc (length (c ∷ rest))) n (found side width (what_of false b) (c ∷ rest)) (omega arith) (below_found side width (what_of false b) (c ∷ rest)))

below_from : (n : ℕ) (side : Side) (width : ℕ) (bytes : List ℕ) → IsBelow (length bytes) (width_from n side width bytes)
below_from zero side width bytes = below_width side width bytes
below_from (suc n) side width [] = tt
below_from (suc n) side width (b ∷ rest) =
    either (length (b ∷ rest)) (is_digit b) (width_from n side (10 * width + (b - 48)) rest) (behind_width side width (b ∷ rest))
    (more (length rest) (length (b ∷ rest)) (width_from n side (10 * width + (b - 48)) rest) (omega arith)
    (below_from n side (10 * width + (b - 48)) rest))
    (below_width side width (b ∷ rest))

below_percent : (bytes : List ℕ) → IsBelow (length bytes) (behind_percent bytes)
below_percent [] = tt
below_percent (b ∷ rest) =
    let n = length (b ∷ rest) in
    either n (b == 37) (Found (Plain 37) rest)
    (if b == 45 then width_from 3 Left 0 rest else (if b == 48 then width_from 3 Zeros 0 rest else width_from 3 Right 0 (b ∷ rest)))
    (omega arith)
    (either n (b == 45) (width_from 3 Left 0 rest) (if b == 48 then width_from 3 Zeros 0 rest else width_from 3 Right 0 (b ∷ rest))
    (more (length rest) n (width_from 3 Left 0 rest) (omega arith) (below_from 3 Left 0 rest))
    (either n (b == 48) (width_from 3 Zeros 0 rest) (width_from 3 Right 0 (b ∷ rest))
    (more (length rest) n (width_from 3 Zeros 0 rest) (omega arith) (below_from 3 Zeros 0 rest))
    (below_from 3 Right 0 (b ∷ rest))))

below_first : (bytes : List ℕ) → IsBelow (length bytes) (first_piece bytes)
below_first [] = tt
below_first (b ∷ rest) =
    let n = length (b ∷ rest) in
    either n (b == 0) (Ends Whole) (if b == 37 then behind_percent rest else Found (Plain b) rest) tt
    (either n (b == 37) (behind_percent rest) (Found (Plain b) rest)
    (more (length rest) n (behind_percent rest) (omega arith) (below_percent rest)) (omega arith))

pub shorter : (bytes rest : List ℕ) (piece : Piece) → first_piece bytes ≡ Found piece rest → length rest < length bytes
shorter bytes rest piece is = subst (IsBelow (length bytes)) is (below_first bytes)

-- ---- one piece and the format behind it

by_read : (m n k : ℕ) (r : Read) → IsBelow k r
    → ((rest : List ℕ) → length rest < k → format_within m rest ≡ format_within n rest)
    → going_on (format_within m) r ≡ going_on (format_within n) r
by_read m n k (Found piece rest) below same = ap (with_piece piece) (same rest below)
by_read m n k (Ends end) below same = refl

enough : (m n : ℕ) (bytes : List ℕ) → length bytes < m → length bytes < n → format_within m bytes ≡ format_within n bytes
enough zero n bytes p q = absurd (omega arith)
enough (suc m) zero bytes p q = absurd (omega arith)
enough (suc m) (suc n) bytes p q =
    by_read m n (length bytes) (first_piece bytes) (below_first bytes)
    (λ rest below. enough m n rest (omega (arith, p, below)) (omega (arith, q, below)))

by_all : (n : ℕ) (r : Read) → IsBelow n r → going_on (format_within n) r ≡ going_on format_of r
unfolding format_of
by_all n (Found piece rest) below = ap (with_piece piece) (enough n (suc (length rest)) rest below (omega arith))
by_all n (Ends end) below = refl

format_step : (bytes : List ℕ) → format_of bytes ≡ going_on format_of (first_piece bytes)
unfolding format_of
format_step bytes = by_all (length bytes) (first_piece bytes) (below_first bytes)

left_step : (areas : Areas) (bytes words : List ℕ) (r : Read) → first_piece bytes ≡ r
    → left_of areas bytes words ≡ written areas (going_on format_of r).pieces (going_on format_of r).end words
left_step areas bytes words r is =
    ap (λ (f : Format). written areas f.pieces f.end words) (format_step bytes ∙ ap (going_on format_of) is)

pub plain_left : (areas : Areas) (bytes rest words : List ℕ) (b : ℕ) → first_piece bytes ≡ Found (Plain b) rest
    → left_of areas bytes words ≡ behind_text (b ∷ []) (left_of areas rest words)
plain_left areas bytes rest words b is = left_step areas bytes words (Found (Plain b) rest) is

pub converted_left : (areas : Areas) (bytes rest words : List ℕ) (c : Conversion) → first_piece bytes ≡ Found (Converts c) rest → 1 ≤ length words
    → left_of areas bytes words ≡ joined (converts areas c c.what (get_or words 0 0)) (left_of areas rest (drop 1 words))
converted_left areas bytes rest [] c is some = absurd (omega arith)
converted_left areas bytes rest (word ∷ words) c is some = left_step areas bytes (word ∷ words) (Found (Converts c) rest) is

pub missing_left : (areas : Areas) (bytes rest words : List ℕ) (c : Conversion) → first_piece bytes ≡ Found (Converts c) rest → length words < 1
    → left_of areas bytes words ≡ Wrong BadFormat
missing_left areas bytes rest [] c is none = left_step areas bytes [] (Found (Converts c) rest) is
missing_left areas bytes rest (word ∷ words) c is none = absurd (omega arith)

pub ended_left : (areas : Areas) (bytes words : List ℕ) (end : End) → first_piece bytes ≡ Ends end
    → left_of areas bytes words ≡ ended end
ended_left areas bytes words end is = left_step areas bytes words (Ends end) is

-- ---- texts behind texts

pub behind_twice : (old text : List ℕ) (w : Written) → behind_text old (behind_text text w) ≡ behind_text (old ++ text) w
behind_twice old text (Writes t) = ap Writes (sym (append_assoc old text t))
behind_twice old text (Wrong cause) = refl

pub behind_joined : (old new : List ℕ) (w next : Written) → behind_text old w ≡ Writes new
    → behind_text old (joined w next) ≡ behind_text new next
behind_joined old new (Writes t) next is =
    let same : old ++ t ≡ new = cc in
    behind_twice old t next ∙ ap (λ (xs : List ℕ). behind_text xs next) same
behind_joined old new (Wrong cause) next is = cc

pub joined_wrong : (old : List ℕ) (w next : Written) (cause : TrapCause) → w ≡ Wrong cause → behind_text old (joined w next) ≡ Wrong cause
joined_wrong old w next cause is = ap (λ (x : Written). behind_text old (joined x next)) is

pub behind_wrong : (old : List ℕ) (w : Written) (cause : TrapCause) → behind_text old w ≡ Wrong cause → w ≡ Wrong cause
behind_wrong old (Writes t) cause is = cc
behind_wrong old (Wrong other) cause is = is

pub behind_whole : (old : List ℕ) (w : Written) → w ≡ Writes [] → behind_text old w ≡ Writes old
behind_whole old w is = ap (behind_text old) is ∙ ap Writes (append-nil old)

pub stop_stays : (old out new now : List ℕ) (whole w next : Written) (stop : LibStop) → behind_text old whole ≡ behind_text out (joined w next)
    → IsBehind out w new (Err stop) → IsBehind old whole now (Err stop)
stop_stays old out new now whole w next (Trap cause) is told =
    behind_wrong old whole cause (is ∙ joined_wrong out w next cause told)
stop_stays old out new now whole w next Memory is told = tt
