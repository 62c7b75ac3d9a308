-- Each table ascends, and the first broken rule of a table that ascends has the least number.
use Rattle.std.proofs.Common.{ℕ, ◌≡◌, refl, sym, ◌∙◌, ap, subst, ◌<◌, ◌≤◌, ◌⊎◌, inl, inr, if◌then◌else◌, Bool, true, false, List, [], ◌∷◌, Option, Some, None, arith}
use Rattle.rank_range.specs.declared.operators.Binary.{Binary}
use Rattle.rank_range.specs.declared.operators.Binary.TheVariants as machine
use Rattle.c_ast.specs.declared.words.BinaryOp.{BinaryOp}
use Rattle.c_ast.specs.declared.words.BinaryOp.TheVariants as op
use Rattle.c_typing.specs.declared.classes.Class.{Class}
use Rattle.c_typing.specs.declared.pairs.Pair.{Pair}
use Rattle.c_typing.specs.declared.storing.Spot.{Spot}
use Rattle.c_typing.specs.declared.storing.Moved.{Moved}
use Rattle.c_typing.specs.declared.rules.Rule.{Rule}
use Rattle.c_typing.specs.Rules.{Row, first_of, number_of}
use Rattle.c_typing.specs.Pairs.{binary_rows, product_rows, logic_rows, sum_rows, difference_rows, order_rows, equality_rows}
use Rattle.c_typing.specs.Storing.{count_rows, moved_rows, moving_rows, number_rows, update_rows}
use Rattle.c_typing.specs.Laws.{Ascends, TablesAscend, IsIn, IsLeastBroken, NoneIsBroken, IsAnswer, FirstIsLeast}

-- a row behind another one has a greater number
behind_is_greater : (r : Row) (rows : List Row) → Ascends (r ∷ rows) → (row : Row) → IsIn rows row → number_of r.rule < number_of row.rule
behind_is_greater r [] up row h = absurd h
behind_is_greater r (s ∷ rows) up row (inl is) = subst (λ x. number_of r.rule < number_of x.rule) is up.0
behind_is_greater r (s ∷ rows) up row (inr h) =
    let here = up.0 in
    let more = behind_is_greater s rows up.1 row h in
    omega (arith, here, more)

rest_ascends : (r : Row) (rows : List Row) → Ascends (r ∷ rows) → Ascends rows
rest_ascends r [] up = tt
rest_ascends r (s ∷ rows) up = up.1

found_first : (r : Row) (rows : List Row) → Ascends (r ∷ rows) → r.broken ≡ true → IsLeastBroken (r ∷ rows) r.rule
found_first r rows up is = record {
  broken = (r, inl refl, is, refl);
  least = λ row h b. least_row row h;
}
  where
    least_row : (row : Row) → IsIn (r ∷ rows) row → number_of r.rule ≤ number_of row.rule
    least_row row (inl same) = subst (λ x. number_of r.rule ≤ number_of x.rule) same (omega (arith))
    least_row row (inr h) = let more = behind_is_greater r rows up row h in omega (arith, more)

found_later : (r : Row) (rows : List Row) (o : Option Rule) → r.broken ≡ false → IsAnswer rows o → IsAnswer (r ∷ rows) o
found_later r rows None is h = λ row is_in b. none row is_in b
  where
    none : (row : Row) → IsIn (r ∷ rows) row → row.broken ≡ true → ⊥
    none row (inl same) b = absurd (cc (is, same, b))
    none row (inr is_in) b = h row is_in b
found_later r rows (Some x) is h = record {
  broken = (h.broken.0, inr h.broken.1, h.broken.2, h.broken.3);
  least = λ row is_in b. least_row row is_in b;
}
  where
    least_row : (row : Row) → IsIn (r ∷ rows) row → row.broken ≡ true → number_of x ≤ number_of row.rule
    least_row row (inl same) b = absurd (cc (is, same, b))
    least_row row (inr is_in) b = h.least row is_in b

first_by : (r : Row) (rows : List Row) (b : Bool) → r.broken ≡ b → Ascends (r ∷ rows) → IsAnswer rows (first_of rows)
    → IsAnswer (r ∷ rows) (if b then Some r.rule else first_of rows)
first_by r rows true is up h = found_first r rows up is
first_by r rows false is up h = found_later r rows (first_of rows) is h

pub first_is_least : FirstIsLeast
first_is_least [] up = λ row h b. h
first_is_least (r ∷ rows) up = first_by r rows r.broken refl up (first_is_least rows (rest_ascends r rows up))

binary_ascends : (o : BinaryOp) (p : Pair) → Ascends (binary_rows o p)
unfolding product_rows logic_rows sum_rows difference_rows order_rows equality_rows
binary_ascends op.Or p = tt
binary_ascends op.And p = tt
binary_ascends op.BitOr p = tt
binary_ascends op.BitXor p = tt
binary_ascends op.BitAnd p = tt
binary_ascends op.Equal p = (omega (arith), (omega (arith), tt))
binary_ascends op.NotEqual p = (omega (arith), (omega (arith), tt))
binary_ascends op.Less p = (omega (arith), (omega (arith), tt))
binary_ascends op.Greater p = (omega (arith), (omega (arith), tt))
binary_ascends op.AtMost p = (omega (arith), (omega (arith), tt))
binary_ascends op.AtLeast p = (omega (arith), (omega (arith), tt))
binary_ascends op.ShiftLeft p = tt
binary_ascends op.ShiftRight p = tt
binary_ascends op.Add p = (omega (arith), (omega (arith), tt))
binary_ascends op.Subtract p = (omega (arith), (omega (arith), (omega (arith), tt)))
binary_ascends op.Multiply p = tt
binary_ascends op.Divide p = tt
binary_ascends op.Remainder p = tt

update_ascends : (o : Binary) (s : Spot) (c : Class) → Ascends (update_rows o s c)
unfolding moving_rows number_rows
update_ascends machine.Add s c = (omega (arith), (omega (arith), (omega (arith), (omega (arith), tt))))
update_ascends machine.Subtract s c = (omega (arith), (omega (arith), (omega (arith), (omega (arith), tt))))
update_ascends machine.Multiply s c = (omega (arith), (omega (arith), tt))
update_ascends machine.Divide s c = (omega (arith), (omega (arith), tt))
update_ascends machine.Remainder s c = (omega (arith), (omega (arith), tt))
update_ascends machine.And s c = (omega (arith), (omega (arith), tt))
update_ascends machine.Or s c = (omega (arith), (omega (arith), tt))
update_ascends machine.Xor s c = (omega (arith), (omega (arith), tt))
update_ascends machine.ShiftLeft s c = (omega (arith), (omega (arith), tt))
update_ascends machine.ShiftRight s c = (omega (arith), (omega (arith), tt))
update_ascends machine.Equal s c = (omega (arith), (omega (arith), tt))
update_ascends machine.NotEqual s c = (omega (arith), (omega (arith), tt))
update_ascends machine.Less s c = (omega (arith), (omega (arith), tt))
update_ascends machine.AtMost s c = (omega (arith), (omega (arith), tt))

pub tables_ascend : TablesAscend
unfolding count_rows moved_rows
tables_ascend = (
  binary_ascends,
  λ p. (omega (arith), (omega (arith), (omega (arith), tt))),
  λ t p. (omega (arith), (omega (arith), (omega (arith), (omega (arith), tt)))),
  λ used c. (omega (arith), tt),
  λ s. (omega (arith), tt),
  λ s. (omega (arith), (omega (arith), (omega (arith), tt))),
  λ m. (omega (arith), (omega (arith), (omega (arith), (omega (arith), tt)))),
  λ m. (omega (arith), (omega (arith), (omega (arith), (omega (arith), tt)))),
  update_ascends,
  λ c. (omega (arith), (omega (arith), tt)),
)
