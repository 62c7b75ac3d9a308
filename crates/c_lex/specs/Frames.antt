-- Macros that are replaced in one another, the innermost one first. Only private functions cite it.
use Rattle.std.specs.Prelude.{◌≡◌, ℕ, ◌+◌, ◌<◌, ◌≤◌, ◌==◌, Bool, true, false, List, [], ◌∷◌, ◌++◌, length, take, drop, Option, Some, None, slice_get, slice_set, slice_index_or, reverse, map}
use Rattle.std.specs.List.{AllByRecursion}
use Rattle.c_lex.specs.declared.expand.Frame.{Frame}
use Rattle.c_lex.specs.declared.expand.Mark.{Mark}
use Rattle.c_lex.specs.declared.expand.Next.{Next}
use Rattle.c_lex.specs.declared.expand.Next.TheVariants.{Keep, Skip, Begin}
use Rattle.c_lex.specs.declared.lexeme.Lexeme.{Lexeme}
use Rattle.c_lex.specs.declared.token.Headers.{Headers}
use Rattle.c_lex.specs.declared.token.Token.{Token as AToken}
use Rattle.c_lex.specs.declared.table.Table.{Table as ATable}
use Rattle.c_lex.specs.Lexemes.{name_token}
use Rattle.c_lex.specs.Pieces.{Macro}
use Rattle.c_lex.specs.Faults.{IsDefined}
use Rattle.c_lex.specs.Tokens.{names_of, HasMacro, Replaces, placed, most_tokens}
use Rattle.c_lex.specs.Expanding.{expanded, work}
use Rattle.c_lex.specs.Table.{names_in, macro_in, macros_in, IsTable}

-- ---- marks

abbrev pub no_mark : Mark
no_mark = record { is_empty = false; place = 0 }

abbrev pub is_empty_at : List Mark → ℕ → Bool
is_empty_at marks i = (slice_index_or marks i no_mark).is_empty

abbrev pub place_at : List Mark → ℕ → ℕ
place_at marks i = (slice_index_or marks i no_mark).place

-- each of the tokens is a name of one of the macros
abbrev pub AreNames : List Macro → List Lexeme → Type 0
AreNames macros ls = AllByRecursion (λ l. (m : Macro) × HasMacro macros m × (l ≡ name_token m.name)) ls

-- Macros whose tokens come to nothing, the last one found first: each consists of names of those that were found before it.
abbrev pub AreEmpty : List Macro → List Macro → Type 0
AreEmpty macros [] = Unit {0}
AreEmpty macros (m ∷ ms) =
    HasMacro macros m × (IsDefined (names_of ms) m.name → ⊥) × AreNames ms m.body × AreEmpty macros ms

-- ---- frames

module _ (macros : List Macro) (macro_of : ℕ → Macro) where
  -- the names that are being replaced
  abbrev pub hidden_in : List Frame → List (List ℕ)
  hidden_in [] = []
  hidden_in (f ∷ fs) = (macro_of f.number).name ∷ hidden_in fs

  -- what the tokens that are left become
  abbrev pub rest_in : List Frame → List Lexeme
  rest_in [] = []
  rest_in (f ∷ fs) = expanded macros ((macro_of f.number).name ∷ hidden_in fs) (drop f.place (macro_of f.number).body) ++ rest_in fs

  -- how many steps they take
  abbrev pub work_in : List Frame → ℕ
  work_in [] = 0
  work_in (f ∷ fs) = work macros ((macro_of f.number).name ∷ hidden_in fs) (drop f.place (macro_of f.number).body) + work_in fs

  -- No macro is being replaced twice, and none that is known to be empty.
  abbrev pub AreApart : List Macro → List Frame → Type 0
  AreApart empty [] = Unit {0}
  AreApart empty (f ∷ fs) =
      (IsDefined (hidden_in fs) (macro_of f.number).name → ⊥) × (IsDefined (names_of empty) (macro_of f.number).name → ⊥)
      × AreApart empty fs

  -- The frames under one of this macro, which had so many tokens before it. Where one of them has given no token before that,
  -- the tokens that are done or begun are names of empty macros, and of the one above.
  abbrev pub AreUnder : List Macro → Macro → ℕ → List Frame → Type 0
  AreUnder empty above start [] = Unit {0}
  AreUnder empty above start (f ∷ fs) =
      (start ≡ f.start → AreNames (above ∷ empty) (take f.place (macro_of f.number).body)) × (f.start ≤ start)
      × AreUnder empty (macro_of f.number) f.start fs

  -- the same of all frames
  abbrev pub AreWalked : List Macro → ℕ → List Frame → Type 0
  AreWalked empty count [] = Unit {0}
  AreWalked empty count (f ∷ fs) =
      (count ≡ f.start → AreNames empty (take f.place (macro_of f.number).body)) × (f.start ≤ count)
      × AreUnder empty (macro_of f.number) f.start fs

-- each frame stands where its mark says
abbrev pub ArePlaced : List Mark → List Frame → Type 0
ArePlaced marks [] = Unit {0}
ArePlaced marks (f ∷ fs) = (place_at marks f.number ≡ length fs) × ArePlaced marks fs

-- What holds of the frames and the marks, with a number of macros and of tokens.
pub record AreStanding (macros : List Macro) (macro_of : ℕ → Macro) (size : ℕ) (marks : List Mark) (fs : List Frame) (count : ℕ) : Type 0 where
  pub empty : List Macro
  pub are_empty : AreEmpty macros empty
  pub marked : (i : ℕ) → i < size → is_empty_at marks i ≡ true → HasMacro empty (macro_of i)
  pub unmarked : (i : ℕ) → i < size → IsDefined (names_of empty) (macro_of i).name → is_empty_at marks i ≡ true
  pub within : AllByRecursion (λ f. f.number < size) fs
  pub apart : AreApart macros macro_of empty fs
  pub placed : ArePlaced marks fs
  pub walked : AreWalked macros macro_of empty count fs

-- ---- a step

-- the frame behind a token
abbrev pub stepped : Frame → Frame
stepped f = record { number = f.number; place = f.place + 1; start = f.start }

-- the macro is known to be empty
abbrev pub with_empty : List Mark → ℕ → List Mark
with_empty marks i = slice_set marks i (record { is_empty = true; place = place_at marks i })

-- its frame stands here
abbrev pub with_place : List Mark → ℕ → ℕ → List Mark
with_place marks i place = slice_set marks i (record { is_empty = is_empty_at marks i; place = place })

abbrev pub has_number : Option Frame → ℕ → Bool
has_number None i = false
has_number (Some f) i = f.number == i

-- whether a frame of the macro stands where its mark says
abbrev pub is_begun : List Frame → List Mark → ℕ → Bool
is_begun frames marks i = has_number (slice_get frames (place_at marks i)) i

-- ---- of a table, with the frames as the code keeps them: the innermost one last

abbrev pub hidden_of : ATable → List Frame → List (List ℕ)
hidden_of t frames = hidden_in (macros_in t) (macro_in t) (reverse frames)

abbrev pub rest_of : ATable → List Frame → List Lexeme
rest_of t frames = rest_in (macros_in t) (macro_in t) (reverse frames)

abbrev pub work_of : ATable → List Frame → ℕ
work_of t frames = work_in (macros_in t) (macro_in t) (reverse frames)

abbrev pub Stand : ATable → List Mark → List Frame → ℕ → Type 0
Stand t marks frames count = AreStanding (macros_in t) (macro_in t) (length (names_in t)) marks (reverse frames) count

-- The macro of this number replaces the token.
abbrev pub ReplacedBy : ATable → List Frame → ℕ → Lexeme → Type 0
ReplacedBy t frames i l = (i < length (names_in t)) × Replaces (macros_in t) (hidden_of t frames) (macro_in t i) l

abbrev pub IsNext : ATable → List Mark → List Frame → Lexeme → Next → Type 0
IsNext t marks frames l Keep = (m : Macro) → Replaces (macros_in t) (hidden_of t frames) m l → ⊥
IsNext t marks frames l Skip = (i : ℕ) × ReplacedBy t frames i l × (is_empty_at marks i ≡ true)
IsNext t marks frames l (Begin i) = ReplacedBy t frames i l × (is_empty_at marks i ≡ false)

-- only a macro of a number below this begins
abbrev pub BeginsWithin : Next → ℕ → Type 0
BeginsWithin Keep size = Unit {0}
BeginsWithin Skip size = Unit {0}
BeginsWithin (Begin i) size = i < size

-- What is done with a token, which would be put as this one.
abbrev pub IsAfter : Next → AToken → List Frame → List Mark → List AToken → List Frame → List Mark → List AToken → Type 0
IsAfter Keep t frames marks out frames' marks' out' = (frames' ≡ frames) × (marks' ≡ marks) × (out' ≡ out ++ t ∷ [])
IsAfter Skip t frames marks out frames' marks' out' = (frames' ≡ frames) × (marks' ≡ marks) × (out' ≡ out)
IsAfter (Begin i) t frames marks out frames' marks' out' =
    (frames' ≡ frames ++ record { number = i; place = 0; start = length out } ∷ []) × (marks' ≡ with_place marks i (length frames))
    × (out' ≡ out)

-- A step from these frames, marks and tokens to others
pub record Advances (t : ATable) (line : ℕ) (headers : Headers) (frames : List Frame) (out : List AToken)
    (frames' : List Frame) (marks' : List Mark) (out' : List AToken) : Type 0 where
  pub stand : Stand t marks' frames' (length out')
  pub left : out' ++ map (placed line headers) (rest_of t frames') ≡ out ++ map (placed line headers) (rest_of t frames)
  pub less : work_of t frames' < work_of t frames

-- what a macro becomes where nothing is being replaced
abbrev pub macro_becomes : ATable → ℕ → List Lexeme
macro_becomes t i = expanded (macros_in t) ((macro_in t i).name ∷ []) (macro_in t i).body

-- A macro is being replaced, behind these tokens.
pub record IsRunning (t : ATable) (line : ℕ) (headers : Headers) (i : ℕ) (before : List AToken) (frames : List Frame) (marks : List Mark)
    (out : List AToken) : Type 0 where
  pub stand : Stand t marks frames (length out)
  pub left : out ++ map (placed line headers) (rest_of t frames) ≡ before ++ map (placed line headers) (macro_becomes t i)
  pub few : length out ≤ most_tokens

-- What holds of a table and its marks where nothing is being replaced.
pub record AreKept (t : ATable) (marks : List Mark) : Type 0 where
  pub table : IsTable t
  pub sizes : length (names_in t) ≡ length marks
  pub stand : Stand t marks [] 0
