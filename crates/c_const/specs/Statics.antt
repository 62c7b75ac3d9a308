-- The values of static initialisers (C11, 6.6 and 6.7.9): numbers, and addresses of static objects and strings, so many bytes on.
use Rattle.std.specs.Prelude.{ℕ, List, [], ◌∷◌, Option, Some, None}
use Rattle.rank_range.specs.declared.kinds.Kind.{Kind}
use Rattle.rank_range.specs.declared.kinds.Kind.TheVariants as kind
use Rattle.rank_range.specs.declared.operators.Unary.{Unary}
use Rattle.rank_range.specs.declared.operators.Binary.{Binary}
use Rattle.rank_range.specs.declared.operators.Binary.TheVariants as machine
use Rattle.c_types.specs.declared.expression.Operand.TheOpen.{Operand-F, Step-F, Expr-F}
use Rattle.c_types.specs.declared.expression.Operand.{Operand, fold-Operand}
use Rattle.c_types.specs.declared.expression.Step.{Step, fold-Step}
use Rattle.c_types.specs.declared.expression.Expr.{Expr, fold-Expr}
use Rattle.c_types.specs.declared.expression.OffsetBy.{OffsetBy}
use Rattle.c_types.specs.declared.expression.OffsetBy.TheVariants as by
use Rattle.c_const.specs.declared.statics.Static.{Static}
use Rattle.c_const.specs.declared.statics.Static.TheVariants as static
use Rattle.c_const.specs.Constants.{converted_word, changed_word, falsity_word, operated, and_word, or_word, chosen_word}

-- the word of a number, where a value is one
abbrev pub number_in : Option Static → Option (Option ℕ)
number_in (Some (static.Number word)) = Some word
number_in (Some (static.Address object addend)) = None
number_in None = None

-- A number is converted; an address isn't.
abbrev pub converted : Kind → Kind → Option (Option ℕ) → Option Static
converted from to (Some word) = Some (static.Number (converted_word from to word))
converted from to None = None

abbrev pub changed : Unary → Kind → Option (Option ℕ) → Option Static
changed u k (Some word) = Some (static.Number (changed_word u k word))
changed u k None = None

abbrev pub denied : Option (Option ℕ) → Option Static
denied (Some word) = Some (static.Number (falsity_word word))
denied None = None

-- Operators take numbers: the comparison and the difference of addresses are no constants.
abbrev pub binary : Binary → Kind → Option (Option ℕ) → Option (Option ℕ) → Option Static
binary o k (Some x) (Some y) = Some (static.Number (operated o k x y))
binary o k (Some x) None = None
binary o k None y = None

abbrev pub both : Option (Option ℕ) → Option (Option ℕ) → Option Static
both (Some x) (Some y) = Some (static.Number (and_word x y))
both (Some x) None = None
both None y = None

abbrev pub either : Option (Option ℕ) → Option (Option ℕ) → Option Static
either (Some x) (Some y) = Some (static.Number (or_word x y))
either (Some x) None = None
either None y = None

abbrev pub chosen : Option (Option ℕ) → Option (Option ℕ) → Option (Option ℕ) → Option Static
chosen (Some t) (Some a) (Some b) = Some (static.Number (chosen_word t a b))
chosen (Some t) (Some a) None = None
chosen (Some t) None b = None
chosen None a b = None

-- an address so many bytes on; a number isn't the address of an object with members
abbrev pub member : ℕ → Option Static → Option Static
member offset (Some (static.Address object addend)) = Some (static.Address object (operated machine.Add kind.UnsignedLong addend (Some offset)))
member offset (Some (static.Number word)) = None
member offset None = None

-- an address, or a number that was cast to one, and a number times a scale that is added to it or taken from it
abbrev pub distance : Option ℕ → ℕ → Option ℕ
distance n scale = operated machine.Multiply kind.UnsignedLong n (Some scale)

abbrev pub moved_word : Binary → ℕ → Option ℕ → Option ℕ → Option ℕ
moved_word o scale p n = operated o kind.UnsignedLong p (distance n scale)

abbrev pub moved : Binary → ℕ → Option Static → Option (Option ℕ) → Option Static
moved o scale (Some (static.Address object addend)) (Some n) = Some (static.Address object (moved_word o scale addend n))
moved o scale (Some (static.Number p)) (Some n) = Some (static.Number (moved_word o scale p n))
moved o scale (Some p) None = None
moved o scale None n = None

abbrev pub offset_by : OffsetBy → ℕ → Option Static → Option Static → Option Static
offset_by by.PointerPlusNumber scale a b = moved machine.Add scale a (number_in b)
offset_by by.NumberPlusPointer scale a b = moved machine.Add scale b (number_in a)
offset_by by.PointerMinusNumber scale a b = moved machine.Subtract scale a (number_in b)

-- what an expression begins with
abbrev pub operand_step : Operand-F (Option Static) (Option Static → Option Static) (Option Static) → Option Static
operand_step (Operand-F.Number word) = Some (static.Number (Some word))
operand_step (Operand-F.Local offset) = None
operand_step (Operand-F.Object number) = Some (static.Address number (Some 0))
operand_step (Operand-F.Call function arguments) = None
operand_step (Operand-F.Library call arguments) = None
operand_step (Operand-F.Mpi call arguments) = None

-- and each step behind it
abbrev pub step_step : Step-F (Option Static) (Option Static → Option Static) (Option Static) → Option Static → Option Static
step_step (Step-F.Load k) a = None
step_step (Step-F.Convert from to) a = converted from to (number_in a)
step_step (Step-F.Unary u k) a = changed u k (number_in a)
step_step Step-F.Not a = denied (number_in a)
step_step (Step-F.Member offset) a = member offset a
step_step (Step-F.Binary o k b) a = binary o k (number_in a) (number_in b)
step_step (Step-F.Greater k b) a = binary machine.Less k (number_in b) (number_in a)
step_step (Step-F.AtLeast k b) a = binary machine.AtMost k (number_in b) (number_in a)
step_step (Step-F.Offset o scale b) a = offset_by o scale a b
step_step (Step-F.Difference size b) a = None
step_step (Step-F.And b) a = both (number_in a) (number_in b)
step_step (Step-F.Or b) a = either (number_in a) (number_in b)
step_step (Step-F.Conditional b c) a = chosen (number_in a) (number_in b) (number_in c)
step_step (Step-F.Comma b) a = None
step_step (Step-F.Assign k b) a = None
step_step (Step-F.Copy size b) a = None
step_step (Step-F.Update o k at b) a = None
step_step (Step-F.Advance direction scale b) a = None
step_step (Step-F.Count counted direction given) a = None

abbrev pub behind_all : Option Static → List (Option Static → Option Static) → Option Static
behind_all a [] = a
behind_all a (s ∷ ss) = behind_all (s a) ss

abbrev pub expr_step : Expr-F (Option Static) (Option Static → Option Static) (Option Static) → Option Static
expr_step e = behind_all e.first e.steps

-- The value of an expression of the form of a static initialiser's, whose number or distance is nothing where its evaluation
-- traps; and nothing, where it hasn't this form.
unfoldable pub static_first : Operand → Option Static
static_first = fold-Operand (Option Static) (Option Static → Option Static) (Option Static) operand_step step_step expr_step

unfoldable pub static_behind : Step → Option Static → Option Static
static_behind = fold-Step (Option Static) (Option Static → Option Static) (Option Static) operand_step step_step expr_step

unfoldable pub static_of : Expr → Option Static
static_of = fold-Expr (Option Static) (Option Static → Option Static) (Option Static) operand_step step_step expr_step
