-- What initialisers are, by recursion over their trees (C11, 6.7.9): what each does with what is known, in the order of the tokens.
use Rattle.std.specs.Prelude.{ℕ, ◌&&◌, not, is_some, if◌then◌else◌, Bool, true, false, List, [], ◌∷◌, Option, Some, None}
use Rattle.c_ast.specs.declared.expression.Expr.{Expr}
use Rattle.c_ast.specs.declared.declaration.Init.{Init, fold-Init}
use Rattle.c_ast.specs.declared.declaration.Init.TheOpen.{Init-F}
use Rattle.c_types.specs.declared.ctype.CType.{CType}
use Rattle.c_const.specs.Constants.{first_token}
use Rattle.c_typing.specs.declared.classes.Class.{Class}
use Rattle.c_typing.specs.declared.classes.Class.TheVariants as class
use Rattle.c_typing.specs.declared.judged.Judged.{Judged}
use Rattle.c_typing.specs.declared.rules.Rule.TheVariants as rule
use Rattle.c_typing.specs.Classes.{class_of_type}
use Rattle.c_judge.specs.declared.checker.Checker.{Checker}
use Rattle.c_judge.specs.State.{Doing, then_with, with_broken}
use Rattle.c_judge.specs.Judging.{expression}
use Rattle.c_stores.specs.declared.spots.Spot.{Spot}
use Rattle.c_stores.specs.declared.dealing.Target.{Target}
use Rattle.c_stores.specs.declared.dealing.Turn.{Turn}
use Rattle.c_stores.specs.declared.dealing.Dealt.{Dealt}
use Rattle.c_stores.specs.declared.dealing.Plan.{Plan}
use Rattle.c_stores.specs.declared.dealing.Placing.{Placing}
use Rattle.c_stores.specs.declared.dealing.Placing.TheVariants as placing
use Rattle.c_stores.specs.declared.lists.Initialised.{Initialised}
use Rattle.c_stores.specs.Spots.{is_text_array, whole}
use Rattle.c_stores.specs.Dealing.{first_turn, broken_turn, passed, over_turn, is_spoilt, dealt_from, list_plan, over_rule, sized}
use Rattle.c_stores.specs.Texts.{text_of}
use Rattle.c_stores.specs.Values.{Item, value_mode, value_item, text_item, store_value}

-- An initialiser is told by what it does in a list, and by what it does as that of a declared object.
pub record Initialising : Type 0 where
  pub item : Item
  pub object : ℕ → ℕ → CType → Doing Initialised

-- In a list one comes behind the other.
abbrev pub deal_all : List Initialising → Target → CType → Dealt → Doing Dealt
deal_all [] at t d s = (d, s)
deal_all (i ∷ is) at t d s = then_with (i.item at t d s) (deal_all is at t)

-- A list with an initialiser for which no object is left breaks a rule, if none of its initialisers does.
abbrev pub note_over : Target → CType → Turn → Checker → Checker
note_over at t turn s = if turn.is_over && not turn.is_broken then with_broken at.token (over_rule t) s else s

abbrev pub note_unfit : Bool → Target → Checker → Checker
note_unfit true at s = s
note_unfit false at s = with_broken at.token rule.InitialiserUnfit s

-- Behind a list within a list its object's turn is past.
abbrev pub ended : Target → CType → Placing → Turn → Dealt → Doing Dealt
ended at t (placing.Within offset next) turn d s =
    (dealt_from d.stores (passed offset next (is_spoilt d.turn) turn), note_over at t d.turn s)
ended at t (placing.Unfit offset next) turn d s =
    (dealt_from d.stores (passed offset next true turn), note_unfit d.turn.is_broken at s)
ended at t placing.Over turn d s = (dealt_from d.stores (over_turn d.turn.is_broken turn), s)

abbrev pub list_by : List Initialising → Plan → Target → Dealt → Doing Dealt
list_by is p at d s = then_with (deal_all is p.target p.of (dealt_from d.stores p.turn) s) (ended at p.of p.placing d.turn)

abbrev pub list_item : List Initialising → Item
list_item is at t d s = list_by is (list_plan s.sight.structs t at d.turn) at d s

-- Behind all of an initialiser the size of its object is known.
abbrev pub finished : Bool → CType → Dealt → Doing Initialised
finished zeros t d s = (record { of = sized s.sight.structs t d.turn; zeros = zeros; stores = d.stores }, s)

abbrev pub start : Dealt
start = dealt_from [] first_turn

-- A list zeroes its object first, and is dealt to the object's parts.
abbrev pub braced_end : Target → CType → Dealt → Doing Initialised
braced_end at t d s = finished true t d (note_over at t d.turn s)

abbrev pub target_of : ℕ → ℕ → Target
target_of token base = record { token = token; base = base; offset = 0 }

abbrev pub braced : List Initialising → ℕ → ℕ → CType → Doing Initialised
braced is token base t s = then_with (deal_all is (target_of token base) t start s) (braced_end (target_of token base) t)

-- An expression initialises a number, a pointer or a structure; an array is initialised by a list, or by a string, which zeroes it first.
abbrev pub whole_spot : CType → Spot
whole_spot t = whole t

abbrev pub whole_text : ℕ → List ℕ → Target → CType → Doing Dealt
whole_text token bytes at t s = text_item token bytes (whole_spot t) at start s

abbrev pub whole_class : Class → Target → CType → ℕ → Judged → Doing Dealt
whole_class class.Array at t token j s = (dealt_from [] broken_turn, with_broken at.token rule.InitialiserUnfit s)
whole_class c at t token j s = store_value at token (whole_spot t) j start s

abbrev pub whole_item : Target → CType → ℕ → Option Judged → Doing Dealt
whole_item at t token (Some j) s = whole_class (class_of_type s.sight.structs t) at t token j s
whole_item at t token None s = (dealt_from [] broken_turn, s)

abbrev pub whole_expr : Expr → Target → CType → Doing Dealt
whole_expr e at t s = then_with ((expression e).judge value_mode s) (whole_item at t (first_token e))

abbrev pub text_for : CType → Expr → Option (List ℕ)
text_for t e = if is_text_array t then text_of e else None

abbrev pub whole_by : Option (List ℕ) → Expr → Target → CType → Doing Dealt
whole_by (Some bytes) e at t s = whole_text (first_token e) bytes at t s
whole_by None e at t s = whole_expr e at t s

abbrev pub whole_dealt : Expr → Target → CType → Doing Dealt
whole_dealt e at t s = whole_by (text_for t e) e at t s

abbrev pub whole_value : Expr → Target → CType → Doing Initialised
whole_value e at t s = then_with (whole_dealt e at t s) (finished (is_some (text_for t e)) t)

abbrev pub declared_value : Expr → ℕ → ℕ → CType → Doing Initialised
declared_value e token base t s = whole_value e (target_of token base) t s

abbrev pub init_step : Init-F Initialising → Initialising
init_step (Init-F.Value e) = record { item = value_item e; object = declared_value e }
init_step (Init-F.List token is) = record { item = list_item is; object = braced is }

unfoldable pub initialising : Init → Initialising
initialising = fold-Init Initialising init_step
