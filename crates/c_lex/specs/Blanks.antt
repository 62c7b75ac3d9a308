-- What stands between the tokens of a source (C11, 5.1.1.2 and 6.4.9), and where its lines end.
use Rattle.std.specs.Prelude.{◌≡◌, ◌≢◌, ◌⊎◌, ℕ, zero, suc, ◌==◌, ◌||◌, not, Bool, IsTrue, List, [], ◌∷◌, ◌++◌, count_by, codes}

-- ---- fronts of texts

-- the text begins with these bytes
abbrev pub BeginsWith : List ℕ → List ℕ → Type 0
BeginsWith bytes text = (rest : List ℕ) × (text ≡ bytes ++ rest)

-- its first byte is one of these
abbrev pub First : (ℕ → Bool) → List ℕ → Type 0
First is_one [] = ⊥
First is_one (b ∷ bs) = IsTrue (is_one b)

-- it has no first byte, or another one
abbrev pub NotFirst : (ℕ → Bool) → List ℕ → Type 0
NotFirst is_one [] = Unit {0}
NotFirst is_one (b ∷ bs) = IsTrue (not (is_one b))

-- ---- lines

-- how many lines end in these bytes, joined ones too
abbrev pub feeds_in : List ℕ → ℕ
feeds_in bytes = count_by (λ b. b == 10) bytes

-- A line feed behind these bytes ends no line: they end in a backslash, or in a backslash and a carriage return.
abbrev pub Joins : List ℕ → Type 0
Joins front = ((f : List ℕ) × (front ≡ f ++ 92 ∷ [])) ⊎ ((f : List ℕ) × (front ≡ f ++ 92 ∷ 13 ∷ []))

-- no line ends in these bytes
abbrev pub IsInOneLine : List ℕ → Type 0
IsInOneLine bytes = (front back : List ℕ) → bytes ≡ front ++ 10 ∷ back → Joins front

-- the line ends here: with the text, or by a line feed
abbrev pub IsLineEnd : List ℕ → Type 0
IsLineEnd text = (text ≡ []) ⊎ ((more : List ℕ) × (text ≡ 10 ∷ more))

-- ---- blanks and comments

-- a blank that doesn't end a line: space, tab, vertical tab, form feed, carriage return
abbrev pub is_blank : ℕ → Bool
is_blank b = b == 32 || (b == 9 || (b == 11 || (b == 12 || b == 13)))

-- no `*/` stands in these bytes
abbrev pub HasNoClose : List ℕ → Type 0
HasNoClose bytes = (front back : List ℕ) → bytes ≢ front ++ codes "*/" ++ back

-- The text begins with one thing that separates tokens and ends no line, and then comes the rest.
pub data IsGap (text rest : List ℕ) : Type 0 where
  blank : (b : ℕ) → IsTrue (is_blank b) → text ≡ b ∷ rest → IsGap text rest
  -- a backslash directly before a line's end, LF or CR LF, joins two lines
  joined : text ≡ 92 ∷ 10 ∷ rest → IsGap text rest
  joined_cr : text ≡ 92 ∷ 13 ∷ 10 ∷ rest → IsGap text rest
  -- a comment goes to its first `*/`
  block : (body : List ℕ) → HasNoClose body → text ≡ codes "/*" ++ body ++ codes "*/" ++ rest → IsGap text rest
  -- or to the first end of a line that isn't joined
  line : (body : List ℕ) → IsInOneLine body → IsLineEnd rest → (rest ≢ [] → Joins body → ⊥)
      → text ≡ codes "//" ++ body ++ rest → IsGap text rest

-- any number of them
abbrev pub AreGapsBy : ℕ → List ℕ → List ℕ → Type 0
AreGapsBy zero text rest = text ≡ rest
AreGapsBy (suc n) text rest = (mid : List ℕ) × IsGap text mid × AreGapsBy n mid rest

abbrev pub AreGaps : List ℕ → List ℕ → Type 0
AreGaps text rest = (n : ℕ) × AreGapsBy n text rest

-- a comment is open to the end of the text
abbrev pub IsOpenComment : List ℕ → Type 0
IsOpenComment text = (body : List ℕ) × HasNoClose body × (text ≡ codes "/*" ++ body)

-- no gap begins here, nor an open comment
abbrev pub IsNoGap : List ℕ → Type 0
IsNoGap text = ((rest : List ℕ) → IsGap text rest → ⊥) × (IsOpenComment text → ⊥)
