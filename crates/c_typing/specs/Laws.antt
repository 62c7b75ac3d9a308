-- What tables of rules are good for: the first rule that is broken has the least number of those that are.
use Rattle.std.specs.Prelude.{ℕ, ◌≡◌, ◌<◌, ◌≤◌, ◌⊎◌, Bool, true, false, List, [], ◌∷◌, Option, Some, None}
use Rattle.c_ast.specs.declared.words.BinaryOp.{BinaryOp}
use Rattle.rank_range.specs.declared.operators.Binary.{Binary}
use Rattle.c_typing.specs.declared.classes.Class.{Class}
use Rattle.c_typing.specs.declared.pairs.Pair.{Pair}
use Rattle.c_typing.specs.declared.storing.Spot.{Spot}
use Rattle.c_typing.specs.declared.storing.Moved.{Moved}
use Rattle.c_typing.specs.declared.rules.Rule.{Rule}
use Rattle.c_typing.specs.declared.rules.Rule.TheVariants as rule
use Rattle.c_typing.specs.Rules.{Row, first_of, number_of}
use Rattle.c_typing.specs.Pairs.{binary_rows}
use Rattle.c_typing.specs.Places.{index_rows}
use Rattle.c_typing.specs.Choosing.{choice_rows, comma_rows}
use Rattle.c_typing.specs.Storing.{spot_rows, count_rows, moved_rows, update_rows}
use Rattle.c_typing.specs.Calling.{passed_rows}

-- the rows of a table stand by the numbers of their rules
abbrev pub Ascends : List Row → Type 0
Ascends [] = Unit {0}
Ascends (r ∷ []) = Unit {0}
Ascends (r ∷ (s ∷ rows)) = (number_of r.rule < number_of s.rule) × Ascends (s ∷ rows)

abbrev pub TablesAscend : Type 0
TablesAscend =
    ((o : BinaryOp) (p : Pair) → Ascends (binary_rows o p))
    × ((p : Pair) → Ascends (index_rows p))
    × ((t : Class) (p : Pair) → Ascends (choice_rows t p))
    × ((used : Bool) (c : Class) → Ascends (comma_rows used c))
    × ((s : Spot) → Ascends (spot_rows s))
    × ((s : Spot) → Ascends (count_rows s))
    × ((m : Moved) → Ascends (moved_rows rule.StructUsed m))
    × ((m : Moved) → Ascends (moved_rows rule.InitialiserUnfit m))
    × ((o : Binary) (s : Spot) (c : Class) → Ascends (update_rows o s c))
    × ((c : Class) → Ascends (passed_rows c))

-- a row of a table
abbrev pub IsIn : List Row → Row → Type 0
IsIn [] row = ⊥
IsIn (r ∷ rows) row = (r ≡ row) ⊎ IsIn rows row

-- a rule is broken in a table, and none with a lesser number is
pub record IsLeastBroken (rows : List Row) (r : Rule) : Type 0 where
  pub broken : (row : Row) × IsIn rows row × (row.broken ≡ true) × (row.rule ≡ r)
  pub least : (row : Row) → IsIn rows row → row.broken ≡ true → number_of r ≤ number_of row.rule

abbrev pub NoneIsBroken : List Row → Type 0
NoneIsBroken rows = (row : Row) → IsIn rows row → row.broken ≡ true → ⊥

abbrev pub IsAnswer : List Row → Option Rule → Type 0
IsAnswer rows (Some r) = IsLeastBroken rows r
IsAnswer rows None = NoneIsBroken rows

-- What a table that ascends answers is the least rule that is broken in it, or that none is.
abbrev pub FirstIsLeast : Type 0
FirstIsLeast = (rows : List Row) → Ascends rows → IsAnswer rows (first_of rows)
