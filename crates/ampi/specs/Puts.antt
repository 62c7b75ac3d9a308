-- What a call puts: pieces, each for the output or for the journal, in one order.
use Rattle.std.specs.Prelude.{ℕ, ◌-◌, List, [], ◌∷◌, ◌++◌, length, take, Option}
use Rattle.std.specs.Io.KnownBytes.{Appends}

pub data Piece : Type 0 where
  ToOut : List ℕ → Piece
  ToJournal : List ℕ → Piece

-- all that pieces bring to the output
abbrev pub out_of : List Piece → List ℕ
out_of [] = []
out_of (ToOut bytes ∷ pieces) = bytes ++ out_of pieces
out_of (ToJournal bytes ∷ pieces) = out_of pieces

-- all that they bring to the journal
abbrev pub journal_of : List Piece → List ℕ
journal_of [] = []
journal_of (ToOut bytes ∷ pieces) = journal_of pieces
journal_of (ToJournal bytes ∷ pieces) = bytes ++ journal_of pieces

-- The first n bytes of pieces, in their order: none of a piece before all of those that stand before it.
abbrev pub first_bytes : ℕ → List Piece → List Piece
first_bytes n [] = []
first_bytes n (ToOut bytes ∷ pieces) = ToOut (take n bytes) ∷ first_bytes (n - length bytes) pieces
first_bytes n (ToJournal bytes ∷ pieces) = ToJournal (take n bytes) ∷ first_bytes (n - length bytes) pieces

-- What the output and the journal hold before a call and after it, where they tell it.
pub record Puts : Type 0 where
  pub out_old : Option (List ℕ)
  pub out_new : Option (List ℕ)
  pub journal_old : Option (List ℕ)
  pub journal_new : Option (List ℕ)

abbrev pub puts : Option (List ℕ) → Option (List ℕ) → Option (List ℕ) → Option (List ℕ) → Puts
puts out_old out_new journal_old journal_new =
    record { out_old = out_old; out_new = out_new; journal_old = journal_old; journal_new = journal_new }

-- They got these pieces whole.
pub record GotWhole (p : Puts) (pieces : List Piece) : Type 0 where
  pub out_got : Appends p.out_old p.out_new (out_of pieces)
  pub journal_got : Appends p.journal_old p.journal_new (journal_of pieces)

-- They got a first part of these pieces, which may be empty or all of them.
pub record GotPart (p : Puts) (pieces : List Piece) : Type 0 where
  pub count : ℕ
  pub got : GotWhole p (first_bytes count pieces)
