-- Elements of bodies, one after another, and what a fold makes of them.
use Rattle.std.proofs.Common.{ℕ, ℤ, pos, ◌-ℤ◌, if◌then◌else◌, zero, suc, ◌≡◌, ◌≢◌, ◌+◌, ◌-◌, ◌*◌, ◌%◌, ◌^◌, ◌<◌, ◌≤◌, ◌⊎◌, inl, inr, Bool, true, false, List, [], ◌∷◌, ◌++◌, length, get_or, set, take, drop, map, Option, None, Some, eqb, refl, sym, ap, subst, ◌∙◌, arith, add-one, append_assoc}
use Rattle.std.specs.Prelude.{int_lt, nat_lt, fold, MatchOption}
use Rattle.std.proofs.lemmas.Bool.{ne_eqb, cases_lt, lt-ltb, le-ltb}
use Rattle.std.proofs.lemmas.List.{drop-drop, drop_more, take_more_set, drop-set-lt, map-append, length-set, map_more, get_or_default}
use Rattle.std.proofs.lemmas.Int.{ints}
use Rattle.std.specs.Int.{bytes_low_first, byte_at}
use Rattle.byteorder.specs.Endian.{little_number}
use Rattle.mpi_types.specs.declared.argument.Arg.{Arg}
use Rattle.mpi_types.specs.declared.kinds.Datatype.{Datatype}
use Rattle.mpi_types.specs.declared.kinds.Datatype.TheVariants.{Char, SignedChar, UnsignedChar, Byte, Short, UnsignedShort, Int, Unsigned, Long, UnsignedLong, LongLong, UnsignedLongLong}
use Rattle.mpi_types.specs.declared.kinds.Operation.{Operation}
use Rattle.mpi_types.specs.declared.kinds.Operation.TheVariants.{Sum, Prod, Max, Min, Land, Lor, Band, Bor, Bxor}
use Rattle.mpi_types.specs.Tables.{datatype_number, datatype_size, datatype_of, operation_number, operation_of}
use Rattle.mpi_types.specs.Reduce.{is_signed, is_less, shifted, combined, begun, combined_lists, elements_of}

-- one more element
elements_next : (size i : ℕ) (bytes : List ℕ)
    → elements_of size (suc i) bytes ≡ elements_of size i bytes ++ little_number size (drop (i * size) bytes) ∷ []
elements_next size zero bytes =
    let e : 0 ≡ 0 * size = omega arith in ap (λ n. little_number size (drop n bytes) ∷ []) e
elements_next size (suc i) bytes =
    ap (λ xs. little_number size bytes ∷ xs)
    (elements_next size i (drop size bytes)
    ∙ ap (λ ys. elements_of size i (drop size bytes) ++ little_number size ys ∷ [])
    (drop-drop (i * size) size bytes ∙ ap (λ n. drop n bytes) (omega arith)))

pub elements_more : (size i : ℕ) (bytes : List ℕ)
    → elements_of size (i + 1) bytes ≡ elements_of size i bytes ++ little_number size (drop (i * size) bytes) ∷ []
elements_more size i bytes = ap (λ n. elements_of size n bytes) (add-one i) ∙ elements_next size i bytes

-- one more element as a fold begins with it
pub begun_more : (o : Operation) (size i : ℕ) (bytes done now : List ℕ) (e x : ℕ)
    → done ≡ map (begun o) (elements_of size i bytes) → e ≡ little_number size (drop (i * size) bytes) → x ≡ begun o e
    → now ≡ done ++ x ∷ [] → now ≡ map (begun o) (elements_of size (i + 1) bytes)
begun_more o size i bytes done now e x done_is e_is x_is now_is =
    rw (elements_more size i bytes, map-append (begun o) (elements_of size i bytes) (little_number size (drop (i * size) bytes) ∷ []))
    (now_is ∙ ap (λ xs. xs ++ x ∷ []) done_is
    ∙ ap (λ y. map (begun o) (elements_of size i bytes) ++ y ∷ []) (x_is ∙ ap (begun o) e_is))

-- one more place combined
pub combined_more : (o : Operation) (t : Datatype) (xs ys all : List ℕ) (i d e : ℕ) → i < length xs → length ys ≡ length xs
    → take i xs ++ combined_lists o t (drop i xs) (drop i ys) ≡ all
    → take (i + 1) (set xs i (combined o t (get_or xs i d) (get_or ys i e)))
    ++ combined_lists o t (drop (i + 1) (set xs i (combined o t (get_or xs i d) (get_or ys i e)))) (drop (i + 1) ys) ≡ all
combined_more o t xs ys all i d e within as_long so_far =
    let x = get_or xs i d in
    let y = get_or ys i e in
    let v = combined o t x y in
    rw (take_more_set xs i v within, drop-set-lt (i + 1) xs i v (omega arith))
    (append_assoc (take i xs) (v ∷ []) (combined_lists o t (drop (i + 1) xs) (drop (i + 1) ys))
    ∙ sym (ap (λ p. take i xs ++ combined_lists o t p (drop i ys)) (drop_more xs i d within)
    ∙ ap (λ q. take i xs ++ combined_lists o t (x ∷ drop (i + 1) xs) q) (drop_more ys i e (omega arith)))
    ∙ so_far)

pub length-elements_of : (size count : ℕ) (bytes : List ℕ) → length (elements_of size count bytes) ≡ count
length-elements_of size zero bytes = refl
length-elements_of size (suc count) bytes = ap suc (length-elements_of size count (drop size bytes))

pub get_or-elements_of : (size count : ℕ) (bytes : List ℕ) (i d : ℕ) → i < count
    → get_or (elements_of size count bytes) i d ≡ little_number size (drop (i * size) bytes)
get_or-elements_of size zero bytes i d within = absurd (omega arith)
get_or-elements_of size (suc count) bytes zero d within =
    let e : 0 ≡ 0 * size = omega arith in ap (λ n. little_number size (drop n bytes)) e
get_or-elements_of size (suc count) bytes (suc i) d within =
    get_or-elements_of size count (drop size bytes) i d (omega arith)
    ∙ ap (little_number size) (drop-drop (i * size) size bytes ∙ ap (λ n. drop n bytes) (omega arith))

pub length-combined_lists : (o : Operation) (t : Datatype) (xs ys : List ℕ) → length ys ≡ length xs
    → length (combined_lists o t xs ys) ≡ length xs
length-combined_lists o t [] ys e = refl
length-combined_lists o t (x ∷ xs) [] e = absurd (omega arith)
length-combined_lists o t (x ∷ xs) (y ∷ ys) e = ap suc (length-combined_lists o t xs ys (omega arith))

-- the size of a datatype
pub size_cases : (t : Datatype) → (datatype_size t ≡ 1) ⊎ ((datatype_size t ≡ 2) ⊎ ((datatype_size t ≡ 4) ⊎ (datatype_size t ≡ 8)))
size_cases Char = inl refl
size_cases SignedChar = inl refl
size_cases UnsignedChar = inl refl
size_cases Byte = inl refl
size_cases Short = inr (inl refl)
size_cases UnsignedShort = inr (inl refl)
size_cases Int = inr (inr (inl refl))
size_cases Unsigned = inr (inr (inl refl))
size_cases Long = inr (inr (inr refl))
size_cases UnsignedLong = inr (inr (inr refl))
size_cases LongLong = inr (inr (inr refl))
size_cases UnsignedLongLong = inr (inr (inr refl))

mod_twice : (n size : ℕ) → (size ≡ 1) ⊎ ((size ≡ 2) ⊎ ((size ≡ 4) ⊎ (size ≡ 8))) → (n % 2 ^ 64) % 256 ^ size ≡ n % 256 ^ size
mod_twice n size (inl e) = rw e (let f : (n % 2 ^ 64) % 256 ≡ n % 256 = omega arith in f)
mod_twice n size (inr (inl e)) = rw e (let f : (n % 2 ^ 64) % 65536 ≡ n % 65536 = omega arith in f)
mod_twice n size (inr (inr (inl e))) = rw e (let f : (n % 2 ^ 64) % 4294967296 ≡ n % 4294967296 = omega arith in f)
mod_twice n size (inr (inr (inr e))) = rw e (let f : (n % 2 ^ 64) % 18446744073709551616 ≡ n % 18446744073709551616 = omega arith in f)

-- reducing to 64 bits first changes nothing
pub low_of_wrapped : (n : ℕ) (t : Datatype) → (n % 2 ^ 64) % 256 ^ datatype_size t ≡ n % 256 ^ datatype_size t
low_of_wrapped n t = mod_twice n (datatype_size t) (size_cases t)

-- the datatype of a number
at_number : (t : Datatype) → Some t ≡ datatype_of (datatype_number t)
at_number Char = refl
at_number SignedChar = refl
at_number UnsignedChar = refl
at_number Byte = refl
at_number Short = refl
at_number UnsignedShort = refl
at_number Int = refl
at_number Unsigned = refl
at_number Long = refl
at_number UnsignedLong = refl
at_number LongLong = refl
at_number UnsignedLongLong = refl

same_pos : (a b : ℕ) → pos a ≡ pos b → a ≡ b
same_pos a b e = cc

pub datatype_found : (n : ℕ) (z : ℤ) (o : Option Datatype) → z ≡ pos n
    → MatchOption o ((t : Datatype) → pos (datatype_number t) ≢ z) (λ t. pos (datatype_number t) ≡ z) → o ≡ datatype_of n
datatype_found n z None is none =
    let f : (t : Datatype) → eqb (datatype_number t) n ≡ false = λ t. ne_eqb (datatype_number t) n (λ e. none t (ap pos e ∙ sym is)) in
    rw (
      f Char,
      f SignedChar,
      f UnsignedChar,
      f Byte,
      f Short,
      f UnsignedShort,
      f Int,
      f Unsigned,
      f Long,
      f UnsignedLong,
      f LongLong,
      f UnsignedLongLong,
    ) refl
datatype_found n z (Some t) is e =
    let P : ℕ → Type 0 = λ k. Some t ≡ datatype_of k in subst P (same_pos (datatype_number t) n (e ∙ is)) (at_number t)

-- the operation of a number
operation_at : (o : Operation) → Some o ≡ operation_of (operation_number o)
operation_at Sum = refl
operation_at Prod = refl
operation_at Max = refl
operation_at Min = refl
operation_at Land = refl
operation_at Lor = refl
operation_at Band = refl
operation_at Bor = refl
operation_at Bxor = refl

pub operation_found : (n : ℕ) (z : ℤ) (o : Option Operation) → z ≡ pos n
    → MatchOption o ((t : Operation) → pos (operation_number t) ≢ z) (λ t. pos (operation_number t) ≡ z) → o ≡ operation_of n
operation_found n z None is none =
    let f : (t : Operation) → eqb (operation_number t) n ≡ false = λ t. ne_eqb (operation_number t) n (λ e. none t (ap pos e ∙ sym is)) in
    rw (f Sum, f Prod, f Max, f Min, f Land, f Lor, f Band, f Bor, f Bxor) refl
operation_found n z (Some o) is e =
    let P : ℕ → Type 0 = λ k. Some o ≡ operation_of k in subst P (same_pos (operation_number o) n (e ∙ is)) (operation_at o)

-- ---- the order of signed elements

same_answers : (x y : Bool) → (x ≡ true → y ≡ true) → (x ≡ false → y ≡ false) → x ≡ y
same_answers true y t f = sym (t refl)
same_answers false y t f = sym (f refl)

-- a number of two's complement, by half of what its width can count
abbrev pub twos_by : ℕ → ℕ → ℤ
twos_by half n = if nat_lt n half then pos n else pos n -ℤ pos (half + half)

-- the shift keeps the order
pub less_by_shift : (half a b : ℕ) → int_lt (twos_by half a) (twos_by half b) ≡ nat_lt (shifted a half) (shifted b half)
less_by_shift half a b = elim (cases_lt a half) [
  | inl p ↦ elim (cases_lt b half) [
    | inl q ↦ rw (lt-ltb a half p, lt-ltb b half q) (grind (arith, ints))
    | inr q ↦ rw (lt-ltb a half p, le-ltb b half q) (grind (arith, ints))
  ]
  | inr p ↦ elim (cases_lt b half) [
    | inl q ↦ rw (le-ltb a half p, lt-ltb b half q) (grind (arith, ints))
    | inr q ↦ rw (le-ltb a half p, le-ltb b half q) (grind (arith, ints))
  ]
]

-- the order of two elements of a signed datatype
pub less_signed : (t : Datatype) (a b half : ℕ) → is_signed t ≡ true → half ≡ 2 ^ (8 * datatype_size t - 1)
    → nat_lt (shifted a half) (shifted b half) ≡ is_less t a b
less_signed Char a b half signed e = rw e (sym (less_by_shift 128 a b))
less_signed SignedChar a b half signed e = rw e (sym (less_by_shift 128 a b))
less_signed UnsignedChar a b half signed e = cc
less_signed Byte a b half signed e = cc
less_signed Short a b half signed e = rw e (sym (less_by_shift 32768 a b))
less_signed UnsignedShort a b half signed e = cc
less_signed Int a b half signed e = rw e (sym (less_by_shift 2147483648 a b))
less_signed Unsigned a b half signed e = cc
less_signed Long a b half signed e = rw e (sym (less_by_shift 9223372036854775808 a b))
less_signed UnsignedLong a b half signed e = cc
less_signed LongLong a b half signed e = rw e (sym (less_by_shift 9223372036854775808 a b))
less_signed UnsignedLongLong a b half signed e = cc

-- the low bytes of a number
pub take-bytes_low_first : (k n i x : ℕ) → k ≤ n → take k (bytes_low_first i n x) ≡ bytes_low_first i k x
take-bytes_low_first zero n i x le = refl
take-bytes_low_first (suc k) zero i x le = absurd (omega arith)
take-bytes_low_first (suc k) (suc n) i x le = ap (λ bs. byte_at i x ∷ bs) (take-bytes_low_first k n (suc i) x (omega arith))

-- one place of the total replaced
pub record IsStepped (o : Operation) (t : Datatype) (total initial ys : List ℕ) (i : ℕ) : Type 0 where
  pub as_long : length total ≡ length initial
  pub rest : take i total ++ combined_lists o t (drop i total) (drop i ys) ≡ combined_lists o t initial ys

pub stepped : (o : Operation) (t : Datatype) (size i x y v n : ℕ) (total initial bytes : List ℕ)
    → length total ≡ length initial → n ≡ length initial → i < n
    → take i total ++ combined_lists o t (drop i total) (drop i (elements_of (datatype_size t) (length initial) bytes))
    ≡ combined_lists o t initial (elements_of (datatype_size t) (length initial) bytes)
    → size ≡ datatype_size t → x ≡ get_or total i x → y ≡ little_number size (drop (i * size) bytes) → v ≡ combined o t x y
    → IsStepped o t (set total i v) initial (elements_of (datatype_size t) (length initial) bytes) (i + 1)
stepped o t size i x y v n total initial bytes as_long many within so_far size_is x_is y_is v_is =
    let ys : List ℕ = elements_of (datatype_size t) (length initial) bytes in
    let short : i < length total = omega arith in
    let y_at : y ≡ get_or ys i 0 =
    y_is ∙ ap (λ s. little_number s (drop (i * s) bytes)) size_is
    ∙ sym (get_or-elements_of (datatype_size t) (length initial) bytes i 0 (omega arith)) in
    let v_at : v ≡ combined o t (get_or total i 0) (get_or ys i 0) = v_is ∙ ap (λ a. combined o t a y) (x_is ∙ get_or_default total i x 0 short) ∙ ap (combined o t (get_or total i 0)) y_at in
    let P : ℕ → Type 0 = λ w. IsStepped o t (set total i w) initial ys (i + 1) in
    subst P (sym v_at) (record {
      as_long = length-set total i (combined o t (get_or total i 0) (get_or ys i 0)) ∙ as_long;
      rest = combined_more o t total ys (combined_lists o t initial ys) i 0 0 short
          (length-elements_of (datatype_size t) (length initial) bytes ∙ sym as_long) so_far;
    })

-- a fold with one more behind
fold_push : {A B : Type 0} (f : B → A → B) (b : B) (xs : List A) (x : A) → fold f b (xs ++ x ∷ []) ≡ f (fold f b xs) x
fold_push f b [] x = refl
fold_push f b (y ∷ xs) x = fold_push f (f b y) xs x

-- one member more
pub folded_more : (o : Operation) (t : Datatype) (count i : ℕ) (initial total now bytes : List ℕ) (rest : List Arg) (item : Arg)
    → i < length rest → item ≡ get_or rest i item → bytes ≡ item.body → length total ≡ count
    → total ≡ fold (combined_lists o t) initial (map (λ a. elements_of (datatype_size t) count a.body) (take i rest))
    → now ≡ combined_lists o t total (elements_of (datatype_size t) (length total) bytes)
    → (length now ≡ count)
    × (now ≡ fold (combined_lists o t) initial (map (λ a. elements_of (datatype_size t) count a.body) (take (i + 1) rest)))
folded_more o t count i initial total now bytes rest item within is read many so_far now_is =
    let elements : Arg → List ℕ = λ a. elements_of (datatype_size t) count a.body in
    let here : now ≡ combined_lists o t total (elements item) =
    now_is ∙ ap (λ b. combined_lists o t total (elements_of (datatype_size t) (length total) b)) read
    ∙ ap (λ n. combined_lists o t total (elements_of (datatype_size t) n item.body)) many in
    let more : map elements (take (i + 1) rest) ≡ map elements (take i rest) ++ elements item ∷ [] =
    map_more elements rest i item within ∙ ap (λ a. map elements (take i rest) ++ elements a ∷ []) (sym is) in (
      ap length here ∙ length-combined_lists o t total (elements item) (length-elements_of (datatype_size t) count item.body ∙ sym many) ∙ many,
      here ∙ ap (λ xs. combined_lists o t xs (elements item)) so_far
          ∙ sym (ap (fold (combined_lists o t) initial) more ∙ fold_push (combined_lists o t) initial (map elements (take i rest)) (elements item)),
    )

-- each body is long enough
pub body_long : (count size many i : ℕ) (args rest : List Arg) (first item : Arg) (bytes : List ℕ)
    → ((k : ℕ) (d : Arg) → k < length args → count * size ≤ length (get_or args k d).body) → args ≡ first ∷ rest
    → i < length rest → item ≡ get_or rest i item → bytes ≡ item.body → many ≡ count → many * size ≤ length bytes
body_long count size many i args rest first item bytes long parts within is read same =
    let Q : List Arg → Type 0 = λ xs. (k : ℕ) (d : Arg) → k < length xs → count * size ≤ length (get_or xs k d).body in
    let at : count * size ≤ length (get_or rest i item).body = (subst Q parts long) (suc i) item (omega arith) in
    let P : Arg → Type 0 = λ a. count * size ≤ length a.body in
    let here : count * size ≤ length item.body = subst P (sym is) at in
    let R : List ℕ → Type 0 = λ b. count * size ≤ length b in
    let there : count * size ≤ length bytes = subst R (sym read) here in
    rw same there

pub first_long : (count size : ℕ) (args rest : List Arg) (first : Arg)
    → ((k : ℕ) (d : Arg) → k < length args → count * size ≤ length (get_or args k d).body) → args ≡ first ∷ rest
    → count * size ≤ length first.body
first_long count size args rest first long parts =
    let Q : List Arg → Type 0 = λ xs. (k : ℕ) (d : Arg) → k < length xs → count * size ≤ length (get_or xs k d).body in
    (subst Q parts long) 0 first (omega arith)
