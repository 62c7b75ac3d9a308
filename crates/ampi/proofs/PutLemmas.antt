-- What pieces leave in the output and the journal, whole and in part.
use Rattle.std.proofs.Common.{ℕ, zero, suc, ◌≡◌, ◌+◌, ◌-◌, ◌≤◌, List, [], ◌∷◌, ◌++◌, length, take, Option, None, Some, refl, sym, ap, ◌∙◌, append_assoc, arith, Result, Ok, Err, OnErr}
use Rattle.std.proofs.lemmas.List.{append-nil, length-take}
use Rattle.std.specs.Io.KnownBytes.{Appends, Keeps}
use Rattle.am_io.specs.Pieces.{AppendsPart}
use Rattle.am_io.proofs.PieceLemmas.{Appends-same, Appends-append, AppendsPart-nothing}
use Rattle.am_io.specs.declared.saying.SayError.{SayError}
use Rattle.am_io.specs.declared.saying.SayError.TheVariants.{Failed, Memory}
use Rattle.ampi.specs.Puts.{Piece, ToOut, ToJournal, out_of, journal_of, first_bytes, puts, GotPart}

-- nothing was put
pub appends-none : (o : Option (List ℕ)) → Appends o o []
appends-none None = tt
appends-none (Some xs) = sym (append-nil xs)

pub kept-none : (old new : Option (List ℕ)) → Keeps old new → Appends old new []
kept-none None new kept = tt
kept-none (Some xs) None kept = kept
kept-none (Some xs) (Some ys) kept = kept ∙ sym (append-nil xs)

-- one piece, and no more behind it
pub appends-one : (old new : Option (List ℕ)) (x : List ℕ) → Appends old new x → Appends old new (x ++ [])
appends-one old new x whole = Appends-same old new x (x ++ []) (sym (append-nil x)) whole

-- a piece that wasn't said whole was said in part
pub said-part : {T A B : Type 0} (r : Result T SayError) (old new : Option (List ℕ)) (x : List ℕ) (e : SayError) → r ≡ Err e
    → (r ≡ Err Failed → AppendsPart old new x × A) → (r ≡ Err Memory → Keeps old new × B) → AppendsPart old new x
said-part r old new x Failed is failed memory = (failed is).0
said-part r old new x Memory is failed memory = AppendsPart-nothing old new x (memory is).0

pub on-err : {T E : Type 0} (r : Result T E) (P : Type 0) → P → OnErr r P
on-err (Ok x) P p = tt
on-err (Err e) P p = p

take-past : (n : ℕ) (xs : List ℕ) → length xs ≤ n → take n xs ≡ xs
take-past zero [] past = refl
take-past zero (x ∷ xs) past = absurd (omega arith)
take-past (suc n) [] past = refl
take-past (suc n) (x ∷ xs) past = ap (λ ys. x ∷ ys) (take-past n xs (omega arith))

take-taken : (n : ℕ) (xs : List ℕ) → take (length (take n xs)) xs ≡ take n xs
take-taken zero xs = refl
take-taken (suc n) [] = refl
take-taken (suc n) (x ∷ xs) = ap (λ ys. x ∷ ys) (take-taken n xs)

-- how many bytes pieces have
abbrev total : List Piece → ℕ
total [] = 0
total (ToOut bytes ∷ pieces) = length bytes + total pieces
total (ToJournal bytes ∷ pieces) = length bytes + total pieces

-- no bytes at all
none-out : (n : ℕ) (pieces : List Piece) → n ≡ 0 → out_of (first_bytes n pieces) ≡ []
none-out n [] none = refl
none-out n (ToOut bytes ∷ pieces) none =
    let rest = none-out (n - length bytes) pieces (omega (arith, none)) in
    ap (λ k. take k bytes ++ out_of (first_bytes (n - length bytes) pieces)) none ∙ rest
none-out n (ToJournal bytes ∷ pieces) none = none-out (n - length bytes) pieces (omega (arith, none))

none-journal : (n : ℕ) (pieces : List Piece) → n ≡ 0 → journal_of (first_bytes n pieces) ≡ []
none-journal n [] none = refl
none-journal n (ToJournal bytes ∷ pieces) none =
    let rest = none-journal (n - length bytes) pieces (omega (arith, none)) in
    ap (λ k. take k bytes ++ journal_of (first_bytes (n - length bytes) pieces)) none ∙ rest
none-journal n (ToOut bytes ∷ pieces) none = none-journal (n - length bytes) pieces (omega (arith, none))

-- the bytes of pieces whole, and then k more
first-behind : (done rest : List Piece) (n k : ℕ) → n ≡ total done + k
    → (out_of (first_bytes n (done ++ rest)) ≡ out_of done ++ out_of (first_bytes k rest))
    × (journal_of (first_bytes n (done ++ rest)) ≡ journal_of done ++ journal_of (first_bytes k rest))
first-behind [] rest n k is =
    let sum : n ≡ 0 + k = is in
    let same : n ≡ k = omega (arith, sum) in
    (ap (λ m. out_of (first_bytes m rest)) same, ap (λ m. journal_of (first_bytes m rest)) same)
first-behind (ToOut bytes ∷ done) rest n k is =
    let sum : n ≡ (length bytes + total done) + k = is in
    let whole : take n bytes ≡ bytes = take-past n bytes (omega (arith, sum)) in
    let behind = first-behind done rest (n - length bytes) k (omega (arith, sum)) in
    let more = out_of (first_bytes (n - length bytes) (done ++ rest)) in (
      ap (λ xs. xs ++ more) whole ∙ ap (λ xs. bytes ++ xs) behind.0
          ∙ sym (append_assoc bytes (out_of done) (out_of (first_bytes k rest))),
      behind.1,
    )
first-behind (ToJournal bytes ∷ done) rest n k is =
    let sum : n ≡ (length bytes + total done) + k = is in
    let whole : take n bytes ≡ bytes = take-past n bytes (omega (arith, sum)) in
    let behind = first-behind done rest (n - length bytes) k (omega (arith, sum)) in
    let more = journal_of (first_bytes (n - length bytes) (done ++ rest)) in (
      behind.0,
      ap (λ xs. xs ++ more) whole ∙ ap (λ xs. bytes ++ xs) behind.1
          ∙ sym (append_assoc bytes (journal_of done) (journal_of (first_bytes k rest))),
    )

no-more : (n : ℕ) (bytes : List ℕ) → length (take n bytes) - length bytes ≡ 0
no-more n bytes = simp length-take (omega arith)

-- broken off in a piece for the output, behind pieces that were put whole
pub part-out : (done : List Piece) (bytes : List ℕ) (rest : List Piece) (o0 o1 o2 j0 j1 : Option (List ℕ))
    → Appends o0 o1 (out_of done) → Appends j0 j1 (journal_of done) → AppendsPart o1 o2 bytes
    → GotPart (puts o0 o2 j0 j1) (done ++ ToOut bytes ∷ rest)
part-out done bytes rest o0 o1 o2 j0 j1 out journal part =
    let m = length (take part.count bytes) in
    let behind = first-behind done (ToOut bytes ∷ rest) (total done + m) m refl in
    let none = no-more part.count bytes in
    let here : out_of (first_bytes m (ToOut bytes ∷ rest)) ≡ take part.count bytes =
    ap (λ xs. xs ++ out_of (first_bytes (m - length bytes) rest)) (take-taken part.count bytes)
    ∙ ap (λ xs. take part.count bytes ++ xs) (none-out (m - length bytes) rest none) ∙ append-nil (take part.count bytes) in
    let nothing : journal_of (first_bytes m (ToOut bytes ∷ rest)) ≡ [] = none-journal (m - length bytes) rest none in
    record {
      count = total done + m;
      got = record {
        out_got = Appends-same o0 o2 _ _ (sym (behind.0 ∙ ap (λ xs. out_of done ++ xs) here))
            (Appends-append o0 o1 o2 (out_of done) (take part.count bytes) out part.grown);
        journal_got = Appends-same j0 j1 _ _
            (sym (behind.1 ∙ ap (λ xs. journal_of done ++ xs) nothing ∙ append-nil (journal_of done))) journal;
      };
    }

-- broken off in a piece for the journal
pub part-journal : (done : List Piece) (bytes : List ℕ) (rest : List Piece) (o0 o1 j0 j1 j2 : Option (List ℕ))
    → Appends o0 o1 (out_of done) → Appends j0 j1 (journal_of done) → AppendsPart j1 j2 bytes
    → GotPart (puts o0 o1 j0 j2) (done ++ ToJournal bytes ∷ rest)
part-journal done bytes rest o0 o1 j0 j1 j2 out journal part =
    let m = length (take part.count bytes) in
    let behind = first-behind done (ToJournal bytes ∷ rest) (total done + m) m refl in
    let none = no-more part.count bytes in
    let here : journal_of (first_bytes m (ToJournal bytes ∷ rest)) ≡ take part.count bytes =
    ap (λ xs. xs ++ journal_of (first_bytes (m - length bytes) rest)) (take-taken part.count bytes)
    ∙ ap (λ xs. take part.count bytes ++ xs) (none-journal (m - length bytes) rest none) ∙ append-nil (take part.count bytes) in
    let nothing : out_of (first_bytes m (ToJournal bytes ∷ rest)) ≡ [] = none-out (m - length bytes) rest none in
    record {
      count = total done + m;
      got = record {
        out_got = Appends-same o0 o1 _ _
            (sym (behind.0 ∙ ap (λ xs. out_of done ++ xs) nothing ∙ append-nil (out_of done))) out;
        journal_got = Appends-same j0 j2 _ _ (sym (behind.1 ∙ ap (λ xs. journal_of done ++ xs) here))
            (Appends-append j0 j1 j2 (journal_of done) (take part.count bytes) journal part.grown);
      };
    }
