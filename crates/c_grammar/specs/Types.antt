-- Which specifiers have just one type among them (C11, 6.7.2).
use Rattle.std.specs.Prelude.{ℕ, ◌≡◌, ◌⊎◌, ◌+◌, ◌≤◌, ◌==◌, Bool, true, false, Option, Some, None, List, [], ◌∷◌, ◌++◌, length, count_by}
use Rattle.c_ast.specs.declared.words.Storage.{Storage}
use Rattle.c_ast.specs.declared.words.Storage.TheVariants as storage
use Rattle.c_ast.specs.declared.words.TypeWord.{TypeWord}
use Rattle.c_ast.specs.declared.words.TypeWord.TheVariants as word

abbrev pub word_number : TypeWord → ℕ
word_number word.Void = 0
word_number word.Char = 1
word_number word.Short = 2
word_number word.Int = 3
word_number word.Long = 4
word_number word.Signed = 5
word_number word.Unsigned = 6

-- how often the word stands in the list
abbrev pub times : TypeWord → List TypeWord → ℕ
times w ws = count_by (λ v. word_number v == word_number w) ws

-- `void` alone
abbrev pub IsVoid : List TypeWord → Type 0
IsVoid ws = ws ≡ word.Void ∷ []

-- `char`, with or without a sign
pub record IsChar (ws : List TypeWord) : Type 0 where
  pub one : times word.Char ws ≡ 1
  pub sign : times word.Signed ws + times word.Unsigned ws ≤ 1
  pub nothing_else : length ws ≡ times word.Char ws + times word.Signed ws + times word.Unsigned ws

-- `short`, `int`, `long` or `long long`, with or without a sign, and with or without `int`
pub record IsWhole (ws : List TypeWord) : Type 0 where
  pub some : 1 ≤ length ws
  pub sign : times word.Signed ws + times word.Unsigned ws ≤ 1
  pub int : times word.Int ws ≤ 1
  pub size : ((times word.Short ws ≤ 1) × (times word.Long ws ≡ 0)) ⊎ ((times word.Short ws ≡ 0) × (times word.Long ws ≤ 2))
  pub nothing_else : (times word.Void ws ≡ 0) × (times word.Char ws ≡ 0)

-- The words are those of a type, in any order.
abbrev pub AreOfType : List TypeWord → Type 0
AreOfType ws = IsVoid ws ⊎ (IsChar ws ⊎ IsWhole ws)

-- What specifiers have said of the type so far: nothing, these words, or a structure, an enumeration or a typedef name.
pub data Typed : Type 0 where
  Untyped : Typed
  Words : List TypeWord → Typed
  Whole : Typed

-- one more word, which a structure, an enumeration or a typedef name doesn't take
abbrev pub with_word : TypeWord → Typed → Option Typed
with_word w Untyped = Some (Words (w ∷ []))
with_word w (Words ws) = Some (Words (ws ++ w ∷ []))
with_word w Whole = None

-- just one type
abbrev pub IsOneType : Typed → Type 0
IsOneType Untyped = ⊥
IsOneType (Words ws) = AreOfType ws
IsOneType Whole = Unit {0}

-- a declaration with this word declares types
abbrev pub declares_types : Storage → Bool
declares_types storage.Typedef = true
declares_types storage.Extern = false
declares_types storage.Static = false
declares_types storage.Auto = false
declares_types storage.Register = false
declares_types storage.Inline = false
