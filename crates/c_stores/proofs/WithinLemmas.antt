-- Where the stores of an initialiser lie: by induction over its tree.
use Rattle.std.proofs.Common.{ℕ, ◌≡◌, refl, sym, subst, ◌+◌, ◌-◌, ◌<◌, ◌≤◌, nat_lt, if◌then◌else◌, Bool, true, false, List, [], ◌∷◌, ◌++◌, length, map, Option, Some, None, Result, Ok, Err, IfOk, arith}
use Rattle.std.specs.Prelude.{IfSome}
use Rattle.std.specs.List.{AllByRecursion}
use Rattle.rank_range.specs.declared.kinds.Kind.{Kind}
use Rattle.c_ast.specs.declared.expression.Expr.{Expr as Tree}
use Rattle.c_ast.specs.declared.declaration.Init.{Init}
use Rattle.c_ast.specs.declared.declaration.Init.TheOpen.{Init-F}
use Rattle.c_ast.specs.declared.declaration.Init.TheViews.{roll-Init}
use Rattle.c_ast.specs.declared.declaration.Init.{map-Init}
use Rattle.c_ast.specs.declared.declaration.Init.TheFolds.{fold-roll-Init, ind-Init}
use Rattle.c_types.specs.declared.ctype.CType.{CType}
use Rattle.c_types.specs.declared.expression.Expr.{Expr}
use Rattle.c_types.specs.declared.statement.Store.{Store}
use Rattle.c_types.specs.Sizes.{Structs, size_limit}
use Rattle.c_const.specs.Constants.{first_token}
use Rattle.c_typing.specs.declared.classes.Class.{Class}
use Rattle.c_typing.specs.declared.classes.Class.TheVariants as class
use Rattle.c_typing.specs.declared.judged.Judged.{Judged}
use Rattle.c_typing.specs.declared.rules.Rule.{Rule}
use Rattle.c_typing.specs.Types.{last_part}
use Rattle.c_typing.specs.Classes.{class_of_type}
use Rattle.c_judge.specs.declared.checker.Checker.{Checker}
use Rattle.c_judge.specs.State.{Doing, Gives, then_with}
use Rattle.c_judge.specs.Judging.{expression}
use Rattle.c_stores.specs.declared.spots.Spot.{Spot}
use Rattle.c_stores.specs.declared.spots.Want.{Want}
use Rattle.c_stores.specs.declared.spots.Want.TheVariants as want
use Rattle.c_stores.specs.declared.dealing.Target.{Target}
use Rattle.c_stores.specs.declared.dealing.Turn.{Turn}
use Rattle.c_stores.specs.declared.dealing.Dealt.{Dealt}
use Rattle.c_stores.specs.declared.dealing.Taken.{Taken}
use Rattle.c_stores.specs.declared.dealing.Plan.{Plan}
use Rattle.c_stores.specs.declared.dealing.Placing.{Placing}
use Rattle.c_stores.specs.declared.dealing.Placing.TheVariants as placing
use Rattle.c_stores.specs.declared.lists.Initialised.{Initialised}
use Rattle.c_stores.specs.Spots.{is_text_array, spot_for, whole}
use Rattle.c_stores.specs.Dealing.{bounded, spot_at, list_plan, plan_by, inner_plan, dealt_from}
use Rattle.c_stores.specs.Texts.{text_of, text_rule, text_room, text_misfit, text_kind, with_text, character_store}
use Rattle.c_stores.specs.Values.{kept, put_in, put, want_of, expr_item, text_told, text_item, only_text, text_spot, text_by, value_by, value_mode, store_of}
use Rattle.c_stores.specs.Lists.{Initialising, deal_all, ended, list_by, list_item, init_step, initialising, start, target_of, braced, braced_end, whole_class, whole_item, whole_dealt, whole_by, whole_value, text_for}
use Rattle.c_stores.specs.Within.{LiesIn, AllLieIn}

put_behind : (base : ℕ) (stores : List Store) (store : Store) → AllLieIn base stores → LiesIn base store → AllLieIn base (stores ++ store ∷ [])
put_behind base [] store all lies = (lies, tt)
put_behind base (s ∷ ss) store all lies = (all.0, put_behind base ss store all.1 lies)

text_lies : (base token : ℕ) (k : Kind) (offset : ℕ) (stores : List Store) (bytes : List ℕ)
    → base ≤ offset → offset + length bytes ≤ base + size_limit → AllLieIn base stores → AllLieIn base (with_text token k offset stores bytes)
text_lies base token k offset stores [] from to all = all
text_lies base token k offset stores (b ∷ bs) from to all =
    text_lies base token k (offset + 1) (stores ++ character_store token k offset b ∷ []) bs (omega (arith, from)) (omega (arith, to))
    (put_behind base stores (character_store token k offset b) all (from, omega (arith, to)))

-- Each object lies within the bytes that an object may have.
abbrev IsNear : Target → Option Spot → Type 0
IsNear at o = IfSome o (λ p. at.offset + p.offset < size_limit)

bounded_by : (at : Target) (p : Spot) (b : Bool) → nat_lt (at.offset + p.offset) size_limit ≡ b → IsNear at (if b then Some p else None)
bounded_by at p true is = grind (arith, is)
bounded_by at p false is = tt

bounded_near : (at : Target) (o : Option Spot) → IsNear at (bounded at o)
bounded_near at None = tt
bounded_near at (Some p) = bounded_by at p (nat_lt (at.offset + p.offset) size_limit) refl

spot_near : (structs : Structs) (t : CType) (at : Target) (next : Option ℕ) (w : Want) → IsNear at (spot_at structs t at next w)
spot_near structs t at None w = tt
spot_near structs t at (Some position) w = bounded_near at (spot_for structs t position w)

text_by_near : (at : Target) (p : Spot) (b : Bool) → at.offset + p.offset < size_limit → IsNear at (if b then Some p else None)
text_by_near at p true near = near
text_by_near at p false near = tt

text_near : (at : Target) (o : Option Spot) → IsNear at o → IsNear at (only_text o)
text_near at None near = tt
text_near at (Some p) near = text_by_near at p (is_text_array p.of) near

-- what is dealt so far
abbrev Lie : Target → Dealt → Type 0
Lie at d = AllLieIn at.base d.stores

kept_lies : (at : Target) (token : ℕ) (x : Taken) (r : Result Expr Rule) (d : Dealt) (s : Checker)
    → at.offset + x.offset < size_limit → Lie at d → Lie at (kept at token x r d s).0
kept_lies at token x (Ok e) d s near all = put_behind at.base d.stores (store_of at token x e) all (omega arith, omega (arith, near))
kept_lies at token x (Err r) d s near all = all

put_in_lies : (at : Target) (token : ℕ) (o : Option Spot) (j : Option Judged) (d : Dealt) (s : Checker)
    → IsNear at o → Lie at d → Lie at (put_in at token o j d s).0
put_in_lies at token (Some p) (Some j) d s near all = kept_lies at token _ _ d s near all
put_in_lies at token (Some p) None d s near all = all
put_in_lies at token None j d s near all = all

then_lies : {A B : Type 0} (P : B → Type 0) (m : A × Checker) (f : A → Doing B) → P (f m.0 m.1).0 → P (then_with m f).0
unfolding then_with
then_lies P m f h = h

expr_lies : (e : Tree) (at : Target) (t : CType) (d : Dealt) (s : Checker) → Lie at d → Lie at (expr_item e at t d s).0
expr_lies e at t d s all =
    let m = (expression e).judge value_mode s in
    then_lies (Lie at) m (put at t (first_token e) d)
    (put_in_lies at (first_token e) _ m.0 d m.1 (spot_near m.1.sight.structs t at d.turn.next (want_of m.1.sight.structs m.0)) all)

text_fits_by : (offset count room : ℕ) (misfit : Rule) (large : Rule) (a b : Bool) → offset < size_limit → nat_lt room count ≡ a → nat_lt (size_limit - offset) count ≡ b
    → (if a then Some misfit else if b then Some large else None) ≡ None → offset + count ≤ size_limit
text_fits_by offset count room misfit large true b within is more none = absurd (cc (none))
text_fits_by offset count room misfit large false true within is more none = absurd (cc (none))
text_fits_by offset count room misfit large false false within is more none = grind (arith, within, more)

text_fits : (t : CType) (offset count : ℕ) → offset < size_limit → text_rule t offset count ≡ None → offset + count ≤ size_limit
text_fits t offset count within none =
    text_fits_by offset count (text_room (last_part t)) (text_misfit (last_part t)) _ _ _ within refl refl none

text_told_lies : (o : Option Rule) (token : ℕ) (bytes : List ℕ) (p : Spot) (at : Target) (d : Dealt) (s : Checker)
    → (o ≡ None → (at.offset + p.offset) + length bytes ≤ size_limit) → Lie at d → Lie at (text_told o token bytes p at d s).0
text_told_lies (Some r) token bytes p at d s fits all = all
text_told_lies None token bytes p at d s fits all =
    let end = fits refl in
    text_lies at.base token (text_kind p.of) (at.base + (at.offset + p.offset)) d.stores bytes (omega arith) (omega (arith, end)) all

text_item_lies : (token : ℕ) (bytes : List ℕ) (p : Spot) (at : Target) (d : Dealt) (s : Checker)
    → at.offset + p.offset < size_limit → Lie at d → Lie at (text_item token bytes p at d s).0
text_item_lies token bytes p at d s near all =
    text_told_lies (text_rule p.of (at.offset + p.offset) (length bytes)) token bytes p at d s (text_fits p.of (at.offset + p.offset) (length bytes) near) all

text_by_lies : (o : Option Spot) (bytes : List ℕ) (e : Tree) (at : Target) (t : CType) (d : Dealt) (s : Checker)
    → IsNear at o → Lie at d → Lie at (text_by o bytes e at t d s).0
text_by_lies (Some p) bytes e at t d s near all = text_item_lies (first_token e) bytes p at d s near all
text_by_lies None bytes e at t d s near all = expr_lies e at t d s all

value_by_lies : (o : Option (List ℕ)) (e : Tree) (at : Target) (t : CType) (d : Dealt) (s : Checker)
    → Lie at d → Lie at (value_by o e at t d s).0
value_by_lies (Some bytes) e at t d s all =
    text_by_lies (text_spot s.sight.structs t at d.turn) bytes e at t d s
    (text_near at _ (spot_near s.sight.structs t at d.turn.next want.Text)) all
value_by_lies None e at t d s all = expr_lies e at t d s all

-- An initialiser in a list keeps all stores so far and its own within the object's bytes, and so does one of a declared object.
abbrev KeepsItem : Initialising → Type 0
KeepsItem i = (at : Target) (t : CType) (d : Dealt) (s : Checker) → at.offset < size_limit → Lie at d → Lie at (i.item at t d s).0

abbrev KeepsObject : Initialising → Type 0
KeepsObject i = (token base : ℕ) (t : CType) (s : Checker) → AllLieIn base (i.object token base t s).0.stores

abbrev Keeps : Initialising → Type 0
Keeps i = KeepsItem i × KeepsObject i

deal_all_lies : (is : List Initialising) → AllByRecursion Keeps is → (at : Target) (t : CType) (d : Dealt) (s : Checker)
    → at.offset < size_limit → Lie at d → Lie at (deal_all is at t d s).0
deal_all_lies [] keep at t d s within all = all
deal_all_lies (i ∷ is) keep at t d s within all =
    let m = i.item at t d s in
    then_lies (Lie at) m (deal_all is at t) (deal_all_lies is keep.1 at t m.0 m.1 within (keep.0.0 at t d s within all))

ended_lies : (at : Target) (t : CType) (x : Placing) (turn : Turn) (d : Dealt) (s : Checker) → Lie at d → Lie at (ended at t x turn d s).0
ended_lies at t (placing.Within offset next) turn d s all = all
ended_lies at t (placing.Unfit offset next) turn d s all = all
ended_lies at t placing.Over turn d s all = all

record IsPlanOf (at : Target) (p : Plan) : Type 0 where
  base : p.target.base ≡ at.base
  within : p.target.offset < size_limit

inner_plan_is : (at : Target) (p : Spot) (b : Bool) → at.offset < size_limit → at.offset + p.offset < size_limit → IsPlanOf at (inner_plan at p b)
inner_plan_is at p true within near = record { base = refl; within = within }
inner_plan_is at p false within near = record { base = refl; within = near }

plan_is : (t : CType) (at : Target) (o : Option Spot) → at.offset < size_limit → IsNear at o → IsPlanOf at (plan_by t at o)
plan_is t at (Some p) within near = inner_plan_is at p p.is_whole within near
plan_is t at None within near = record { base = refl; within = within }

list_by_lies : (is : List Initialising) → AllByRecursion Keeps is → (p : Plan) (at : Target) (d : Dealt) (s : Checker)
    → IsPlanOf at p → Lie at d → Lie at (list_by is p at d s).0
list_by_lies is keep p at d s plan all =
    let m = deal_all is p.target p.of (dealt_from d.stores p.turn) s in
    let inner = deal_all_lies is keep p.target p.of (dealt_from d.stores p.turn) s plan.within (subst (λ b. AllLieIn b d.stores) (sym plan.base) all) in
    then_lies (Lie at) m (ended at p.of p.placing d.turn)
    (ended_lies at p.of p.placing d.turn m.0 m.1 (subst (λ b. AllLieIn b m.0.stores) plan.base inner))

list_lies : (is : List Initialising) → AllByRecursion Keeps is → (at : Target) (t : CType) (d : Dealt) (s : Checker)
    → at.offset < size_limit → Lie at d → Lie at (list_item is at t d s).0
list_lies is keep at t d s within all =
    list_by_lies is keep (list_plan s.sight.structs t at d.turn) at d s
    (plan_is t at _ within (spot_near s.sight.structs t at d.turn.next want.List)) all

abbrev LieAll : ℕ → Initialised → Type 0
LieAll base i = AllLieIn base i.stores

braced_lies : (is : List Initialising) → AllByRecursion Keeps is → (token base : ℕ) (t : CType) (s : Checker) → LieAll base (braced is token base t s).0
braced_lies is keep token base t s =
    let m = deal_all is (target_of token base) t start s in
    then_lies (LieAll base) m (braced_end (target_of token base) t)
    (deal_all_lies is keep (target_of token base) t start s (omega arith) tt)

whole_class_lies : (c : Class) (at : Target) (t : CType) (token : ℕ) (j : Judged) (s : Checker)
    → at.offset < size_limit → Lie at (whole_class c at t token j s).0
whole_class_lies class.Array at t token j s within = tt
whole_class_lies class.Void at t token j s within = kept_lies at token _ _ start s (omega (arith, within)) tt
whole_class_lies (class.Whole k) at t token j s within = kept_lies at token _ _ start s (omega (arith, within)) tt
whole_class_lies (class.Struct n) at t token j s within = kept_lies at token _ _ start s (omega (arith, within)) tt
whole_class_lies (class.Pointer to) at t token j s within = kept_lies at token _ _ start s (omega (arith, within)) tt
whole_class_lies class.Function at t token j s within = kept_lies at token _ _ start s (omega (arith, within)) tt

whole_item_lies : (at : Target) (t : CType) (token : ℕ) (j : Option Judged) (s : Checker) → at.offset < size_limit → Lie at (whole_item at t token j s).0
whole_item_lies at t token (Some j) s within = whole_class_lies (class_of_type s.sight.structs t) at t token j s within
whole_item_lies at t token None s within = tt

whole_by_lies : (o : Option (List ℕ)) (e : Tree) (at : Target) (t : CType) (s : Checker) → at.offset < size_limit → Lie at (whole_by o e at t s).0
whole_by_lies (Some bytes) e at t s within = text_item_lies (first_token e) bytes (whole t) at start s (omega (arith, within)) tt
whole_by_lies None e at t s within =
    let m = (expression e).judge value_mode s in
    then_lies (Lie at) m (whole_item at t (first_token e)) (whole_item_lies at t (first_token e) m.0 m.1 within)

value_lies : (e : Tree) (token base : ℕ) (t : CType) (s : Checker) → LieAll base (whole_value e (target_of token base) t s).0
value_lies e token base t s =
    then_lies (LieAll base) (whole_dealt e (target_of token base) t s) _
    (whole_by_lies (text_for t e) e (target_of token base) t s (omega arith))

abbrev KeepsInit : Init → Type 0
KeepsInit i = Keeps (initialising i)

all_keep : (is : List ((i : Init) × KeepsInit i)) → AllByRecursion Keeps (map initialising (map (λ p. p.0) is))
all_keep [] = tt
all_keep (i ∷ is) = (i.1, all_keep is)

layers : (y : Init-F ((i : Init) × KeepsInit i)) → KeepsInit (roll-Init (map-Init _ _ (λ p. p.0) y))
unfolding initialising
layers (Init-F.Value e) =
    subst Keeps (sym (fold-roll-Init Initialising init_step (Init-F.Value e)))
    ((λ at t d s within all. value_by_lies (text_of e) e at t d s all), value_lies e)
layers (Init-F.List token is) =
    subst Keeps (sym (fold-roll-Init Initialising init_step (Init-F.List token (map (λ p. p.0) is))))
    (list_lies _ (all_keep is), braced_lies _ (all_keep is))

keeps : (i : Init) → KeepsInit i
keeps = ind-Init KeepsInit (λ x y is. subst (λ z. KeepsInit (roll-Init z)) is (layers y))

pub given_within : {E : Type 0} (r : Result Initialised E) (new : Checker) (i : Init) (token base : ℕ) (t : CType) (s : Checker)
    → Gives r new ((initialising i).object token base t s) → IfOk r (λ given. AllLieIn base given.stores)
given_within (Ok given) new i token base t s is = subst (λ m. AllLieIn base m.0.stores) is ((keeps i).1 token base t s)
given_within (Err e) new i token base t s is = tt
