-- The longest suffix of a number.
use Rattle.std.proofs.Common.{◌≡◌, ℕ, ◌+◌, ◌≤◌, ◌<◌, ◌⊎◌, ◌||◌, Bool, true, false, eqb, List, [], ◌∷◌, ◌++◌, length, take, drop, refl, sym, ap, subst, ◌∙◌, append_assoc, length-append, arith, inl, inr}
use Rattle.std.specs.Prelude.{codes, ◌==◌}
use Rattle.std.specs.List.{list_any}
use Rattle.std.proofs.lemmas.Bool.{cases_Bool, eqb-true, or_cases}
use Rattle.std.proofs.lemmas.List.Folds.{list_any-append}
use Rattle.std.proofs.Math.Seq.{drop-append_seam, take-append_seam}
use Rattle.c_lex.specs.declared.suffixes.Suffix.{Suffix}
use Rattle.c_lex.specs.Literals.{IsUnsignedSuffix, IsLongSuffix, IsSuffix, HasSuffix}
use Rattle.c_lex.specs.NumberVerdicts.{is_long_byte, is_unsigned_byte, long_len, unsigned_len, suffix_at, unsigned_then_long, long_then_unsigned}

-- ---- which flags a suffix has shows in its bytes

abbrev has_u : List ℕ → Bool
has_u bytes = list_any is_unsigned_byte bytes

abbrev has_l : List ℕ → Bool
has_l bytes = list_any is_long_byte bytes

abbrev Shows : List ℕ → Bool → Bool → Type 0
Shows bytes u l = (has_u bytes ≡ u) × (has_l bytes ≡ l)

shows-by : (bytes spelled : List ℕ) (u l : Bool) → bytes ≡ spelled → Shows spelled u l → Shows bytes u l
shows-by bytes spelled u l e s = (ap has_u e ∙ s.0, ap has_l e ∙ s.1)

unsigned-shows : (u : List ℕ) → IsUnsignedSuffix u → Shows u true false
unsigned-shows u (inl e) = shows-by u (codes "u") true false e (refl, refl)
unsigned-shows u (inr e) = shows-by u (codes "U") true false e (refl, refl)

long-shows : (l : List ℕ) → IsLongSuffix l → Shows l false true
long-shows l (inl e) = shows-by l (codes "l") false true e (refl, refl)
long-shows l (inr (inl e)) = shows-by l (codes "L") false true e (refl, refl)
long-shows l (inr (inr (inl e))) = shows-by l (codes "ll") false true e (refl, refl)
long-shows l (inr (inr (inr e))) = shows-by l (codes "LL") false true e (refl, refl)

any-append : (p : ℕ → Bool) (xs ys : List ℕ) (a b : Bool) → list_any p xs ≡ a → list_any p ys ≡ b → list_any p (xs ++ ys) ≡ (a || b)
any-append p xs ys a b e f = list_any-append p xs ys ∙ ap (λ x. x || list_any p ys) e ∙ ap (λ x. a || x) f

suffix-shows : (bytes : List ℕ) (u l : Bool) → IsSuffix bytes u l → Shows bytes u l
suffix-shows bytes false false e = shows-by bytes [] false false e (refl, refl)
suffix-shows bytes true false i = unsigned-shows bytes i
suffix-shows bytes false true i = long-shows bytes i
suffix-shows bytes true true (a, b, is_u, is_l, inl e) =
    let x = unsigned-shows a is_u in
    let y = long-shows b is_l in
    (ap has_u e ∙ any-append is_unsigned_byte a b true false x.0 y.0, ap has_l e ∙ any-append is_long_byte a b false true x.1 y.1)
suffix-shows bytes true true (a, b, is_u, is_l, inr e) =
    let x = unsigned-shows a is_u in
    let y = long-shows b is_l in
    (ap has_u e ∙ any-append is_unsigned_byte b a false true y.0 x.0, ap has_l e ∙ any-append is_long_byte b a true false y.1 x.1)

-- ---- a text has one longest suffix

pub record SameSuffix (s r s' r' : List ℕ) (u l u' l' : Bool) : Type 0 where
  pub suffix : s ≡ s'
  pub rest : r ≡ r'
  pub unsigned : u ≡ u'
  pub long : l ≡ l'

same-front : (s r s' r' : List ℕ) → s ++ r ≡ s' ++ r' → length s ≡ length s' → s ≡ s'
same-front s r s' r' e n =
    sym (take-append_seam s r) ∙ ap (take (length s)) e ∙ ap (λ k. take k (s' ++ r')) n ∙ take-append_seam s' r'

same-rest : (s r s' r' : List ℕ) → s ++ r ≡ s' ++ r' → length s ≡ length s' → r ≡ r'
same-rest s r s' r' e n =
    sym (drop-append_seam s r) ∙ ap (drop (length s)) e ∙ ap (λ k. drop k (s' ++ r')) n ∙ drop-append_seam s' r'

between : (n m : ℕ) → (n < m → ⊥) → (m < n → ⊥) → n ≡ m
between n m a b = omega (arith, a, b)

same-length : (text s r s' r' : List ℕ) (u l u' l' : Bool) → HasSuffix text s r u l → HasSuffix text s' r' u' l' → length s ≡ length s'
same-length text s r s' r' u l u' l' a b =
    between (length s) (length s')
    (λ less. a.longest s' u' l' b.is_suffix less (r', b.text_is))
    (λ less. b.longest s u l a.is_suffix less (r, a.text_is))

pub one-suffix : (text s r s' r' : List ℕ) (u l u' l' : Bool) → HasSuffix text s r u l → HasSuffix text s' r' u' l'
    → SameSuffix s r s' r' u l u' l'
one-suffix text s r s' r' u l u' l' a b =
    let e : s ++ r ≡ s' ++ r' = sym a.text_is ∙ b.text_is in
    let n = same-length text s r s' r' u l u' l' a b in
    let same = same-front s r s' r' e n in
    let x = suffix-shows s u l a.is_suffix in
    let y = suffix-shows s' u' l' b.is_suffix in
    record {
      suffix = same;
      rest = same-rest s r s' r' e n;
      unsigned = sym x.0 ∙ ap has_u same ∙ y.0;
      long = sym x.1 ∙ ap has_l same ∙ y.1;
    }

-- ---- what is read is the longest suffix

-- a `u` at the front
unsigned-read : (u r : List ℕ) → IsUnsignedSuffix u → (unsigned_len (u ++ r) ≡ 1) × (length u ≡ 1)
unfolding unsigned_len
unsigned-read u r (inl e) = (ap (λ (x : List ℕ). unsigned_len (x ++ r)) e, ap length e)
unsigned-read u r (inr e) = (ap (λ (x : List ℕ). unsigned_len (x ++ r)) e, ap length e)

single-read : (a : ℕ) (r : List ℕ) → is_long_byte a ≡ true → 1 ≤ long_len (a ∷ r)
unfolding long_len
single-read a [] y = rw y (omega arith)
single-read a (b ∷ bs) y =
    elim (cases_Bool (eqb b a)) [
      | inl t ↦ rw (y, t) (omega arith)
      | inr f ↦ rw (y, f) (omega arith)
    ]

by-spelling : (P : List ℕ → Type 0) (l spelled : List ℕ) → l ≡ spelled → P spelled → P l
by-spelling P l spelled e x = subst P (sym e) x

-- an `l` at the front, or two
long-least : (l r : List ℕ) → IsLongSuffix l → length l ≤ long_len (l ++ r)
unfolding long_len
long-least l r (inl e) = by-spelling (λ x. length x ≤ long_len (x ++ r)) l (codes "l") e (single-read 108 r refl)
long-least l r (inr (inl e)) = by-spelling (λ x. length x ≤ long_len (x ++ r)) l (codes "L") e (single-read 76 r refl)
long-least l r (inr (inr (inl e))) = by-spelling (λ x. length x ≤ long_len (x ++ r)) l (codes "ll") e (omega arith)
long-least l r (inr (inr (inr e))) = by-spelling (λ x. length x ≤ long_len (x ++ r)) l (codes "LL") e (omega arith)

-- behind it no `u` is at the front
long-no-unsigned : (l r : List ℕ) → IsLongSuffix l → unsigned_len (l ++ r) ≡ 0
unfolding unsigned_len
long-no-unsigned l r (inl e) = ap (λ (x : List ℕ). unsigned_len (x ++ r)) e
long-no-unsigned l r (inr (inl e)) = ap (λ (x : List ℕ). unsigned_len (x ++ r)) e
long-no-unsigned l r (inr (inr (inl e))) = ap (λ (x : List ℕ). unsigned_len (x ++ r)) e
long-no-unsigned l r (inr (inr (inr e))) = ap (λ (x : List ℕ). unsigned_len (x ++ r)) e

-- an `l` or two before a `u`
long-exact : (l u r : List ℕ) → IsLongSuffix l → IsUnsignedSuffix u → long_len (l ++ (u ++ r)) ≡ length l
unfolding long_len
long-exact l u r (inl e) (inl f) = by-spelling (λ x. long_len (x ++ (u ++ r)) ≡ length x) l (codes "l") e (ap (λ (x : List ℕ). long_len (codes "l" ++ (x ++ r))) f)
long-exact l u r (inl e) (inr f) = by-spelling (λ x. long_len (x ++ (u ++ r)) ≡ length x) l (codes "l") e (ap (λ (x : List ℕ). long_len (codes "l" ++ (x ++ r))) f)
long-exact l u r (inr (inl e)) (inl f) = by-spelling (λ x. long_len (x ++ (u ++ r)) ≡ length x) l (codes "L") e (ap (λ (x : List ℕ). long_len (codes "L" ++ (x ++ r))) f)
long-exact l u r (inr (inl e)) (inr f) = by-spelling (λ x. long_len (x ++ (u ++ r)) ≡ length x) l (codes "L") e (ap (λ (x : List ℕ). long_len (codes "L" ++ (x ++ r))) f)
long-exact l u r (inr (inr (inl e))) is_u = by-spelling (λ x. long_len (x ++ (u ++ r)) ≡ length x) l (codes "ll") e refl
long-exact l u r (inr (inr (inr e))) is_u = by-spelling (λ x. long_len (x ++ (u ++ r)) ≡ length x) l (codes "LL") e refl

-- how many bytes are read at least
read-least : (text : List ℕ) → long_len text ≤ (suffix_at text).len ⊎ (unsigned_len text ≡ 1)
unfolding suffix_at
read-least text =
    elim (cases_Bool (eqb (unsigned_len text) 1)) [
      | inl y ↦ inr (eqb-true (unsigned_len text) 1 y)
      | inr n ↦ inl (rw n (long-counts (long_len text) (unsigned_len (drop (long_len text) text))))
    ]
  where
    long-counts : (n m : ℕ) → n ≤ (long_then_unsigned n m).len
    long-counts n m =
        elim (cases_Bool (eqb n 0)) [
          | inl y ↦ rw y (omega (arith, eqb-true n 0 y))
          | inr f ↦ rw f (omega arith)
        ]

-- ---- no suffix that stands here is longer

begins-unsigned : (text u r : List ℕ) → IsUnsignedSuffix u → text ≡ u ++ r → unsigned_len text ≡ 1
begins-unsigned text u r is e = ap unsigned_len e ∙ (unsigned-read u r is).0

behind-unsigned : (text u r : List ℕ) → IsUnsignedSuffix u → text ≡ u ++ r → drop 1 text ≡ r
behind-unsigned text u r is e =
    ap (drop 1) e ∙ ap (λ n. drop n (u ++ r)) (sym (unsigned-read u r is).1) ∙ drop-append_seam u r

len-with-unsigned : (text : List ℕ) → unsigned_len text ≡ 1 → (suffix_at text).len ≡ 1 + long_len (drop 1 text)
unfolding suffix_at
len-with-unsigned text e = rw e refl

len-without : (text : List ℕ) → unsigned_len text ≡ 0
    → (suffix_at text).len ≡ (long_then_unsigned (long_len text) (unsigned_len (drop (long_len text) text))).len
unfolding suffix_at
len-without text e = rw e refl

len-both : (n m : ℕ) → 1 ≤ n → (long_then_unsigned n m).len ≡ n + m
len-both n m some =
    elim (cases_Bool (eqb n 0)) [
      | inl y ↦ absurd (none (eqb-true n 0 y))
      | inr f ↦ rw f refl
    ]
  where
    none : n ≡ 0 → ⊥
    none e = omega (arith, e, some)

long-some : (l : List ℕ) → IsLongSuffix l → 1 ≤ length l
long-some l (inl e) = omega (arith, ap length e)
long-some l (inr (inl e)) = omega (arith, ap length e)
long-some l (inr (inr (inl e))) = omega (arith, ap length e)
long-some l (inr (inr (inr e))) = omega (arith, ap length e)

not_both : (n : ℕ) → n ≡ 0 → n ≡ 1 → ⊥
not_both n e f = omega (arith, e, f)

long-is-short : (text l r : List ℕ) → IsLongSuffix l → text ≡ l ++ r → length l ≤ (suffix_at text).len
long-is-short text l r is e =
    let least : length l ≤ long_len text = subst (λ x. length l ≤ long_len x) (sym e) (long-least l r is) in
    let none : unsigned_len text ≡ 0 = ap unsigned_len e ∙ long-no-unsigned l r is in
    elim (read-least text) [
      | inl x ↦ omega (arith, least, x)
      | inr x ↦ absurd (not_both (unsigned_len text) none x)
    ]

unsigned-long-is-short : (text u l r : List ℕ) → IsUnsignedSuffix u → IsLongSuffix l → text ≡ (u ++ l) ++ r
    → length (u ++ l) ≤ (suffix_at text).len
unsigned-long-is-short text u l r is_u is_l e =
    let f : text ≡ u ++ (l ++ r) = e ∙ append_assoc u l r in
    let behind = behind-unsigned text u (l ++ r) is_u f in
    let len = len-with-unsigned text (begins-unsigned text u (l ++ r) is_u f) in
    let least : length l ≤ long_len (drop 1 text) = subst (λ x. length l ≤ long_len x) (sym behind) (long-least l r is_l) in
    omega (arith, len, least, length-append u l, (unsigned-read u r is_u).1)

long-unsigned-is-short : (text u l r : List ℕ) → IsUnsignedSuffix u → IsLongSuffix l → text ≡ (l ++ u) ++ r
    → length (l ++ u) ≤ (suffix_at text).len
long-unsigned-is-short text u l r is_u is_l e =
    let f : text ≡ l ++ (u ++ r) = e ∙ append_assoc l u r in
    let none : unsigned_len text ≡ 0 = ap unsigned_len f ∙ long-no-unsigned l (u ++ r) is_l in
    let exact : long_len text ≡ length l = ap long_len f ∙ long-exact l u r is_l is_u in
    let behind : drop (long_len text) text ≡ u ++ r = ap (λ n. drop n text) exact ∙ ap (drop (length l)) f ∙ drop-append_seam l (u ++ r) in
    let one : unsigned_len (drop (long_len text) text) ≡ 1 = ap unsigned_len behind ∙ (unsigned-read u r is_u).0 in
    let some : 1 ≤ long_len text = omega (arith, exact, long-some l is_l) in
    let len = len-without text none ∙ len-both (long_len text) (unsigned_len (drop (long_len text) text)) some in
    omega (arith, len, exact, one, length-append l u, (unsigned-read u r is_u).1)

none-is-short : (text other : List ℕ) → other ≡ [] → length other ≤ (suffix_at text).len
none-is-short text other e = omega (arith, ap length e)

unsigned-is-short : (text u r : List ℕ) → IsUnsignedSuffix u → text ≡ u ++ r → length u ≤ (suffix_at text).len
unsigned-is-short text u r is e =
    omega (arith, len-with-unsigned text (begins-unsigned text u r is e), (unsigned-read u r is).1)

other-is-short : (text other r : List ℕ) (u l : Bool) → IsSuffix other u l → text ≡ other ++ r → length other ≤ (suffix_at text).len
other-is-short text other r false false e f = none-is-short text other e
other-is-short text other r true false is f = unsigned-is-short text other r is f
other-is-short text other r false true is f = long-is-short text other r is f
other-is-short text other r true true (a, b, is_a, is_b, inl e) f =
    subst (λ x. length x ≤ (suffix_at text).len) (sym e)
    (unsigned-long-is-short text a b r is_a is_b (f ∙ ap (λ (x : List ℕ). x ++ r) e))
other-is-short text other r true true (a, b, is_a, is_b, inr e) f =
    subst (λ x. length x ≤ (suffix_at text).len) (sym e)
    (long-unsigned-is-short text a b r is_a is_b (f ∙ ap (λ (x : List ℕ). x ++ r) e))

-- ---- the suffix that is read stands here

pub data LongFront (text : List ℕ) : Type 0 where
  none : long_len text ≡ 0 → LongFront text
  some : (l r : List ℕ) → IsLongSuffix l → text ≡ l ++ r → long_len text ≡ length l → LongFront text

pub data UnsignedFront (text : List ℕ) : Type 0 where
  none : unsigned_len text ≡ 0 → UnsignedFront text
  some : (u r : List ℕ) → IsUnsignedSuffix u → text ≡ u ++ r → UnsignedFront text

unsigned-front : (text : List ℕ) → UnsignedFront text
unfolding unsigned_len
unsigned-front [] = none refl
unsigned-front (a ∷ bs) =
    elim (cases_Bool (is_unsigned_byte a)) [
      | inl y ↦
          elim (or_cases (eqb a 117) (eqb a 85) y) [
            | inl e ↦ some (codes "u") bs (inl refl) (ap (λ (x : ℕ). x ∷ bs) (eqb-true a 117 e))
            | inr e ↦ some (codes "U") bs (inr refl) (ap (λ (x : ℕ). x ∷ bs) (eqb-true a 85 e))
          ]
      | inr n ↦ none (rw n refl)
    ]

-- one byte
single-front : (a : ℕ) (bs : List ℕ) → is_long_byte a ≡ true → long_len (a ∷ bs) ≡ 1 → LongFront (a ∷ bs)
single-front a bs y len =
    elim (or_cases (eqb a 108) (eqb a 76) y) [
      | inl e ↦ some (codes "l") bs (inl refl) (ap (λ (x : ℕ). x ∷ bs) (eqb-true a 108 e)) len
      | inr e ↦ some (codes "L") bs (inr (inl refl)) (ap (λ (x : ℕ). x ∷ bs) (eqb-true a 76 e)) len
    ]

double-front : (a b : ℕ) (bs : List ℕ) → is_long_byte a ≡ true → b ≡ a → long_len (a ∷ b ∷ bs) ≡ 2 → LongFront (a ∷ b ∷ bs)
double-front a b bs y same len =
    elim (or_cases (eqb a 108) (eqb a 76) y) [
      | inl e ↦ some (codes "ll") bs (inr (inr (inl refl))) (two a b 108 bs (eqb-true a 108 e) same) len
      | inr e ↦ some (codes "LL") bs (inr (inr (inr refl))) (two a b 76 bs (eqb-true a 76 e) same) len
    ]
  where
    two : (a b c : ℕ) (bs : List ℕ) → a ≡ c → b ≡ a → a ∷ b ∷ bs ≡ c ∷ c ∷ bs
    two a b c bs e f = cc

long-front : (text : List ℕ) → LongFront text
unfolding long_len
long-front [] = none refl
long-front (a ∷ []) =
    elim (cases_Bool (is_long_byte a)) [
      | inl y ↦ single-front a [] y (rw y refl)
      | inr n ↦ none (rw n refl)
    ]
long-front (a ∷ b ∷ bs) =
    elim (cases_Bool (is_long_byte a)) [
      | inl y ↦
          elim (cases_Bool (eqb b a)) [
            | inl t ↦ double-front a b bs y (eqb-true b a t) (rw (y, t) refl)
            | inr f ↦ single-front a (b ∷ bs) y (rw (y, f) refl)
          ]
      | inr n ↦ none (rw n refl)
    ]

-- the suffix that is read, and what is behind it
pub record Read (text : List ℕ) (is : Suffix) : Type 0 where
  pub suffix : List ℕ
  pub rest : List ℕ
  pub text_is : text ≡ suffix ++ rest
  pub is_suffix : IsSuffix suffix is.unsigned is.long
  pub len : length suffix ≡ is.len

read-as : (text : List ℕ) (s : Suffix) → suffix_at text ≡ s → Read text s → Read text (suffix_at text)
read-as text s e r = subst (Read text) (sym e) r

at-unsigned : (text : List ℕ) → unsigned_len text ≡ 1 → suffix_at text ≡ unsigned_then_long (long_len (drop 1 text))
unfolding suffix_at
at-unsigned text e = rw e refl

at-long : (text : List ℕ) → unsigned_len text ≡ 0 → suffix_at text ≡ long_then_unsigned (long_len text) (unsigned_len (drop (long_len text) text))
unfolding suffix_at
at-long text e = rw e refl

nothing : (n : ℕ) → n ≡ 0 → 1 ≤ n → ⊥
nothing n e least = omega (arith, e, least)

then-long : (n : ℕ) → 1 ≤ n → unsigned_then_long n ≡ record { len = 1 + n; unsigned = true; long = true }
then-long n least =
    elim (cases_Bool (eqb n 0)) [
      | inl y ↦ absurd (nothing n (eqb-true n 0 y) least)
      | inr f ↦ rw f refl
    ]

both-long : (n m : ℕ) → 1 ≤ n → long_then_unsigned n m ≡ record { len = n + m; unsigned = m == 1; long = true }
both-long n m least =
    elim (cases_Bool (eqb n 0)) [
      | inl y ↦ absurd (nothing n (eqb-true n 0 y) least)
      | inr f ↦ rw f refl
    ]

read-unsigned : (text u r : List ℕ) → IsUnsignedSuffix u → text ≡ u ++ r → LongFront r → Read text (suffix_at text)
read-unsigned text u r is e (none n) =
    let len : long_len (drop 1 text) ≡ 0 = ap long_len (behind-unsigned text u r is e) ∙ n in
    let at : suffix_at text ≡ record { len = 1; unsigned = true; long = false } =
    at-unsigned text (begins-unsigned text u r is e) ∙ ap unsigned_then_long len in
    read-as text _ at (record { suffix = u; rest = r; text_is = e; is_suffix = is; len = (unsigned-read u r is).1 })
read-unsigned text u r is e (some l q is_l r_is len_is) =
    let len : long_len (drop 1 text) ≡ length l = ap long_len (behind-unsigned text u r is e) ∙ len_is in
    let at : suffix_at text ≡ record { len = 1 + length l; unsigned = true; long = true } =
    at-unsigned text (begins-unsigned text u r is e) ∙ ap unsigned_then_long len ∙ then-long (length l) (long-some l is_l) in
    read-as text _ at
    (record {
      suffix = u ++ l;
      rest = q;
      text_is = e ∙ ap (λ (x : List ℕ). u ++ x) r_is ∙ sym (append_assoc u l q);
      is_suffix = (u, l, is, is_l, inl refl);
      len = omega (arith, length-append u l, (unsigned-read u r is).1);
    })

read-behind-long : (text l r : List ℕ) → IsLongSuffix l → text ≡ l ++ r → long_len text ≡ length l → unsigned_len text ≡ 0
    → UnsignedFront r → Read text (suffix_at text)
read-behind-long text l r is e len_is before (none n) =
    let behind : drop (long_len text) text ≡ r = ap (λ n. drop n text) len_is ∙ ap (drop (length l)) e ∙ drop-append_seam l r in
    let zero_is : unsigned_len (drop (long_len text) text) ≡ 0 = ap unsigned_len behind ∙ n in
    let at : suffix_at text ≡ record { len = length l + 0; unsigned = false; long = true } =
    at-long text before ∙ ap (long_then_unsigned (long_len text)) zero_is ∙ ap (λ n. long_then_unsigned n 0) len_is ∙ both-long (length l) 0 (long-some l is) in
    read-as text _ at (record { suffix = l; rest = r; text_is = e; is_suffix = is; len = omega arith })
read-behind-long text l r is e len_is before (some u q is_u r_is) =
    let behind : drop (long_len text) text ≡ r = ap (λ n. drop n text) len_is ∙ ap (drop (length l)) e ∙ drop-append_seam l r in
    let one_is : unsigned_len (drop (long_len text) text) ≡ 1 = ap unsigned_len behind ∙ begins-unsigned r u q is_u r_is in
    let at : suffix_at text ≡ record { len = length l + 1; unsigned = true; long = true } =
    at-long text before ∙ ap (long_then_unsigned (long_len text)) one_is ∙ ap (λ n. long_then_unsigned n 1) len_is ∙ both-long (length l) 1 (long-some l is) in
    read-as text _ at
    (record {
      suffix = l ++ u;
      rest = q;
      text_is = e ∙ ap (λ (x : List ℕ). l ++ x) r_is ∙ sym (append_assoc l u q);
      is_suffix = (u, l, is_u, is, inr refl);
      len = omega (arith, length-append l u, (unsigned-read u q is_u).1);
    })

read-long : (text : List ℕ) → unsigned_len text ≡ 0 → LongFront text → Read text (suffix_at text)
read-long text before (none n) =
    let at : suffix_at text ≡ record { len = 0; unsigned = false; long = false } =
    at-long text before ∙ ap (λ k. long_then_unsigned k (unsigned_len (drop (long_len text) text))) n in
    read-as text _ at (record { suffix = []; rest = text; text_is = refl; is_suffix = refl; len = refl })
read-long text before (some l r is e len_is) = read-behind-long text l r is e len_is before (unsigned-front r)

suffix-read : (text : List ℕ) → UnsignedFront text → Read text (suffix_at text)
suffix-read text (none n) = read-long text n (long-front text)
suffix-read text (some u r is e) = read-unsigned text u r is e (long-front r)

too-long : (n m k : ℕ) → n ≡ k → m ≤ k → n < m → ⊥
too-long n m k e short less = omega (arith, e, short, less)

-- the text has the suffix that is read
pub suffix-is : (text : List ℕ)
    → HasSuffix text (take (suffix_at text).len text) (drop (suffix_at text).len text) (suffix_at text).unsigned (suffix_at text).long
suffix-is text =
    let r = suffix-read text (unsigned-front text) in
    let front : take (suffix_at text).len text ≡ r.suffix =
    ap (λ n. take n text) (sym r.len) ∙ ap (take (length r.suffix)) r.text_is ∙ take-append_seam r.suffix r.rest in
    let behind : drop (suffix_at text).len text ≡ r.rest =
    ap (λ n. drop n text) (sym r.len) ∙ ap (drop (length r.suffix)) r.text_is ∙ drop-append_seam r.suffix r.rest in
    let has : HasSuffix text r.suffix r.rest (suffix_at text).unsigned (suffix_at text).long = record {
      text_is = r.text_is;
      is_suffix = r.is_suffix;
      longest = λ other u l is less begins.
          too-long (length r.suffix) (length other) (suffix_at text).len r.len (other-is-short text other begins.0 u l is begins.1) less;
    } in
    subst (λ x. HasSuffix text x (drop (suffix_at text).len text) (suffix_at text).unsigned (suffix_at text).long) (sym front)
    (subst (λ x. HasSuffix text r.suffix x (suffix_at text).unsigned (suffix_at text).long) (sym behind) has)
