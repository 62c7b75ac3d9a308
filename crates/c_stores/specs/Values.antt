-- Expressions as initialisers (C11, 6.7.9p11, p13 and p14).
use Rattle.std.specs.Prelude.{ℕ, ◌+◌, ◌<◌, ◌^◌, if◌then◌else◌, Bool, true, false, List, [], ◌∷◌, ◌++◌, length, is_none, Option, Some, None, Result, Ok, Err}
use Rattle.c_ast.specs.declared.expression.Expr.{Expr as Tree}
use Rattle.c_types.specs.declared.ctype.CType.{CType}
use Rattle.c_types.specs.declared.expression.Expr.{Expr}
use Rattle.c_types.specs.declared.statement.Store.{Store}
use Rattle.c_types.specs.Sizes.{Structs, size_limit}
use Rattle.c_const.specs.Constants.{first_token}
use Rattle.c_typing.specs.declared.classes.Class.{Class}
use Rattle.c_typing.specs.declared.classes.Class.TheVariants as class
use Rattle.c_typing.specs.declared.judged.Judged.{Judged}
use Rattle.c_typing.specs.declared.judged.Judged.TheVariants as judged
use Rattle.c_typing.specs.declared.rules.Rule.{Rule}
use Rattle.c_typing.specs.declared.rules.Rule.TheVariants as rule
use Rattle.c_typing.specs.Classes.{class_of_type, class_of}
use Rattle.c_typing.specs.Storing.{stored}
use Rattle.c_judge.specs.declared.checker.Mode.{Mode}
use Rattle.c_judge.specs.State.{Doing, then_with, with_broken}
use Rattle.c_judge.specs.Judging.{expression}
use Rattle.c_stores.specs.declared.spots.Spot.{Spot}
use Rattle.c_stores.specs.declared.spots.Want.{Want}
use Rattle.c_stores.specs.declared.spots.Want.TheVariants as want
use Rattle.c_stores.specs.declared.dealing.Target.{Target}
use Rattle.c_stores.specs.declared.dealing.Turn.{Turn}
use Rattle.c_stores.specs.declared.dealing.Dealt.{Dealt}
use Rattle.c_stores.specs.declared.dealing.Taken.{Taken}
use Rattle.c_stores.specs.Spots.{is_text_array}
use Rattle.c_stores.specs.Dealing.{passed, over_turn, dealt_from, next_spot, taken_by}
use Rattle.c_stores.specs.Texts.{text_of, text_rule, text_kind, with_text}

-- What is said of a target: its list's object begins within the bytes that an object may have, and the declared object lies in a frame.
abbrev pub IsTarget : Target → Type 0
IsTarget at = (at.offset < size_limit) × (at.base + size_limit < 2 ^ 64)

-- An initialiser in a list: what it does with what is dealt so far, in the list of an object of a type.
abbrev pub Item : Type 0
Item = Target → CType → Dealt → Doing Dealt

-- Its value is used, and evaluated.
abbrev pub value_mode : Mode
value_mode = record { is_used = true; is_evaluated = true }

-- A value is stored where it may be, and else the rule is told at the declared name. The next one's turn comes either way.
abbrev pub store_of : Target → ℕ → Taken → Expr → Store
store_of at token x e = record {
  offset = at.base + (at.offset + x.offset);
  stored = x.stored;
  value = record { token = token; expr = e };
}

abbrev pub kept : Target → ℕ → Taken → Result Expr Rule → Dealt → Doing Dealt
kept at token x (Ok e) d s = (dealt_from (d.stores ++ store_of at token x e ∷ []) (passed x.offset x.next false d.turn), s)
kept at token x (Err r) d s = (dealt_from d.stores (passed x.offset x.next true d.turn), with_broken at.token r s)

abbrev pub store_value : Target → ℕ → Spot → Judged → Dealt → Doing Dealt
store_value at token p j d s =
    kept at token (taken_by s.sight.structs p) (stored s.sight.structs p.of rule.InitialiserUnfit j) d s

-- An expression with a broken rule is for its object, too, and stores nothing.
abbrev pub put_in : Target → ℕ → Option Spot → Option Judged → Dealt → Doing Dealt
put_in at token (Some p) (Some j) d s = store_value at token p j d s
put_in at token (Some p) None d s = (dealt_from d.stores (passed p.offset p.next true d.turn), s)
put_in at token None j d s = (dealt_from d.stores (over_turn (is_none j) d.turn), s)

-- A structure may initialise all of a structure of its type.
abbrev pub judged_class : Structs → Option Judged → Class
judged_class structs (Some (judged.Place t e)) = class_of_type structs t
judged_class structs (Some (judged.Value v)) = class_of structs v
judged_class structs (Some (judged.Function t callee)) = class.Function
judged_class structs None = class.Function

abbrev pub want_by : Class → Want
want_by (class.Struct n) = want.Structure n
want_by c = want.Plain

abbrev pub want_of : Structs → Option Judged → Want
want_of structs j = want_by (judged_class structs j)

abbrev pub put : Target → CType → ℕ → Dealt → Option Judged → Doing Dealt
put at t token d j s = put_in at token (next_spot s.sight.structs t at d.turn (want_of s.sight.structs j)) j d s

abbrev pub expr_item : Tree → Item
expr_item e at t d s = then_with ((expression e).judge value_mode s) (put at t (first_token e) d)

-- A string that is for an array of characters is no object of its own: each of its characters is stored.
abbrev pub text_last : Bool → ℕ → ℕ → ℕ
text_last is_whole offset count = if is_whole then count else offset

abbrev pub text_told : Option Rule → ℕ → List ℕ → Spot → Target → Dealt → Doing Dealt
text_told (Some r) token bytes p at d s = (dealt_from d.stores (passed p.offset p.next true d.turn), with_broken at.token r s)
text_told None token bytes p at d s = (
  dealt_from (with_text token (text_kind p.of) (at.base + (at.offset + p.offset)) d.stores bytes)
      (passed (text_last p.is_whole p.offset (length bytes)) p.next false d.turn),
  s,
)

abbrev pub text_item : ℕ → List ℕ → Spot → Target → Dealt → Doing Dealt
text_item token bytes p at d s = text_told (text_rule p.of (at.offset + p.offset) (length bytes)) token bytes p at d s

abbrev pub only_text : Option Spot → Option Spot
only_text (Some p) = if is_text_array p.of then Some p else None
only_text None = None

abbrev pub text_spot : Structs → CType → Target → Turn → Option Spot
text_spot structs t at turn = only_text (next_spot structs t at turn want.Text)

abbrev pub text_by : Option Spot → List ℕ → Tree → Item
text_by (Some p) bytes e at t d s = text_item (first_token e) bytes p at d s
text_by None bytes e at t d s = expr_item e at t d s

abbrev pub value_by : Option (List ℕ) → Tree → Item
value_by (Some bytes) e at t d s = text_by (text_spot s.sight.structs t at d.turn) bytes e at t d s
value_by None e at t d s = expr_item e at t d s

abbrev pub value_item : Tree → Item
value_item e at t d s = value_by (text_of e) e at t d s
