-- What an expression is as a static initialiser, by what its parts are.
use Rattle.std.proofs.Common.{◌≡◌, ◌⊎◌, inl, inr, ℕ, ◌+◌, ◌<◌, ◌≤◌, List, [], ◌∷◌, ◌++◌, map, take, length, get_or, Option, Some, None, refl, sym, ap, ◌∙◌, rules}
use Rattle.std.proofs.lemmas.List.{take_more, take_all}
use Rattle.am_base.specs.declared.calls.LibCall.{LibCall}
use Rattle.am_base.specs.declared.calls.MpiCall.{MpiCall}
use Rattle.rank_range.specs.declared.kinds.Kind.{Kind}
use Rattle.rank_range.specs.declared.operators.Unary.{Unary}
use Rattle.rank_range.specs.declared.operators.Binary.{Binary}
use Rattle.rank_range.specs.declared.operators.Binary.TheVariants as machine
use Rattle.c_types.specs.declared.expression.OffsetBy.{OffsetBy}
use Rattle.c_types.specs.declared.expression.Direction.{Direction}
use Rattle.c_types.specs.declared.expression.Counted.{Counted}
use Rattle.c_types.specs.declared.expression.Given.{Given}
use Rattle.c_types.specs.declared.expression.Operand.{Operand, fold-Operand}
use Rattle.c_types.specs.declared.expression.Operand.TheVariants as operand
use Rattle.c_types.specs.declared.expression.Step.{Step, fold-Step}
use Rattle.c_types.specs.declared.expression.Step.TheVariants as step
use Rattle.c_types.specs.declared.expression.Expr.{Expr}
use Rattle.c_types.specs.declared.expression.Operand.TheOpen.{Operand-F, Step-F}
use Rattle.c_types.specs.declared.expression.Operand.TheFolds.{fold-roll-Operand, fold-roll-Step, fold-roll-Expr}
use Rattle.c_types.specs.declared.expression.Operand.TheViews.{roll-Expr, out-Expr, the_lemmas}
use Rattle.c_const.specs.declared.statics.Static.{Static}
use Rattle.c_const.specs.declared.statics.Static.TheVariants as static
use Rattle.c_const.specs.Statics.{static_first, static_behind, static_of, operand_step, step_step, expr_step, behind_all, number_in, converted, changed, denied, binary, both, either, chosen, member, offset_by}

abbrev S : Type 0
S = Option Static

pub number_first : (whole : Operand) (word : ℕ) → whole ≡ operand.Number word → static_first whole ≡ Some (static.Number (Some word))
unfolding static_first
number_first whole word is =
    ap static_first is
    ∙ ap (fold-Operand S (S → S) S operand_step step_step expr_step) (sym (operand.rolls-Number word))
    ∙ fold-roll-Operand S (S → S) S operand_step step_step expr_step (Operand-F.Number word)

pub local_first : (whole : Operand) (offset : ℕ) → whole ≡ operand.Local offset → static_first whole ≡ None
unfolding static_first
local_first whole offset is =
    ap static_first is
    ∙ ap (fold-Operand S (S → S) S operand_step step_step expr_step) (sym (operand.rolls-Local offset))
    ∙ fold-roll-Operand S (S → S) S operand_step step_step expr_step (Operand-F.Local offset)

pub object_first : (whole : Operand) (number : ℕ) → whole ≡ operand.Object number → static_first whole ≡ Some (static.Address number (Some 0))
unfolding static_first
object_first whole number is =
    ap static_first is
    ∙ ap (fold-Operand S (S → S) S operand_step step_step expr_step) (sym (operand.rolls-Object number))
    ∙ fold-roll-Operand S (S → S) S operand_step step_step expr_step (Operand-F.Object number)

pub call_first : (whole : Operand) (function : ℕ) (arguments : List Expr) → whole ≡ operand.Call function arguments → static_first whole ≡ None
unfolding static_first
call_first whole function arguments is =
    ap static_first is
    ∙ ap (fold-Operand S (S → S) S operand_step step_step expr_step) (sym (operand.rolls-Call function arguments))
    ∙ fold-roll-Operand S (S → S) S operand_step step_step expr_step (Operand-F.Call function arguments)

pub library_first : (whole : Operand) (call : LibCall) (arguments : List Expr) → whole ≡ operand.Library call arguments → static_first whole ≡ None
unfolding static_first
library_first whole call arguments is =
    ap static_first is
    ∙ ap (fold-Operand S (S → S) S operand_step step_step expr_step) (sym (operand.rolls-Library call arguments))
    ∙ fold-roll-Operand S (S → S) S operand_step step_step expr_step (Operand-F.Library call arguments)

pub mpi_first : (whole : Operand) (call : MpiCall) (arguments : List Expr) → whole ≡ operand.Mpi call arguments → static_first whole ≡ None
unfolding static_first
mpi_first whole call arguments is =
    ap static_first is
    ∙ ap (fold-Operand S (S → S) S operand_step step_step expr_step) (sym (operand.rolls-Mpi call arguments))
    ∙ fold-roll-Operand S (S → S) S operand_step step_step expr_step (Operand-F.Mpi call arguments)

pub load_behind : (whole : Step) (k : Kind) (a : S) → whole ≡ step.Load k → static_behind whole a ≡ None
unfolding static_behind static_of
load_behind whole k a is =
    ap (λ s. static_behind s a) is
    ∙ ap (λ s. fold-Step S (S → S) S operand_step step_step expr_step s a) (sym (step.rolls-Load k))
    ∙ ap (λ (f : S → S). f a) (fold-roll-Step S (S → S) S operand_step step_step expr_step (Step-F.Load k))

pub convert_behind : (whole : Step) (from to : Kind) (a : S) → whole ≡ step.Convert from to → static_behind whole a ≡ converted from to (number_in a)
unfolding static_behind static_of
convert_behind whole from to a is =
    ap (λ s. static_behind s a) is
    ∙ ap (λ s. fold-Step S (S → S) S operand_step step_step expr_step s a) (sym (step.rolls-Convert from to))
    ∙ ap (λ (f : S → S). f a) (fold-roll-Step S (S → S) S operand_step step_step expr_step (Step-F.Convert from to))

pub unary_behind : (whole : Step) (u : Unary) (k : Kind) (a : S) → whole ≡ step.Unary u k → static_behind whole a ≡ changed u k (number_in a)
unfolding static_behind static_of
unary_behind whole u k a is =
    ap (λ s. static_behind s a) is
    ∙ ap (λ s. fold-Step S (S → S) S operand_step step_step expr_step s a) (sym (step.rolls-Unary u k))
    ∙ ap (λ (f : S → S). f a) (fold-roll-Step S (S → S) S operand_step step_step expr_step (Step-F.Unary u k))

pub not_behind : (whole : Step) (a : S) → whole ≡ step.Not → static_behind whole a ≡ denied (number_in a)
unfolding static_behind static_of
not_behind whole a is =
    ap (λ s. static_behind s a) is
    ∙ ap (λ s. fold-Step S (S → S) S operand_step step_step expr_step s a) (sym step.rolls-Not)
    ∙ ap (λ (f : S → S). f a) (fold-roll-Step S (S → S) S operand_step step_step expr_step Step-F.Not)

pub member_behind : (whole : Step) (offset : ℕ) (a : S) → whole ≡ step.Member offset → static_behind whole a ≡ member offset a
unfolding static_behind static_of
member_behind whole offset a is =
    ap (λ s. static_behind s a) is
    ∙ ap (λ s. fold-Step S (S → S) S operand_step step_step expr_step s a) (sym (step.rolls-Member offset))
    ∙ ap (λ (f : S → S). f a) (fold-roll-Step S (S → S) S operand_step step_step expr_step (Step-F.Member offset))

pub binary_behind : (whole : Step) (o : Binary) (k : Kind) (b : Expr) (a : S) → whole ≡ step.Binary o k b → static_behind whole a ≡ binary o k (number_in a) (number_in (static_of b))
unfolding static_behind static_of
binary_behind whole o k b a is =
    ap (λ s. static_behind s a) is
    ∙ ap (λ s. fold-Step S (S → S) S operand_step step_step expr_step s a) (sym (step.rolls-Binary o k b))
    ∙ ap (λ (f : S → S). f a) (fold-roll-Step S (S → S) S operand_step step_step expr_step (Step-F.Binary o k b))

pub greater_behind : (whole : Step) (k : Kind) (b : Expr) (a : S) → whole ≡ step.Greater k b → static_behind whole a ≡ binary machine.Less k (number_in (static_of b)) (number_in a)
unfolding static_behind static_of
greater_behind whole k b a is =
    ap (λ s. static_behind s a) is
    ∙ ap (λ s. fold-Step S (S → S) S operand_step step_step expr_step s a) (sym (step.rolls-Greater k b))
    ∙ ap (λ (f : S → S). f a) (fold-roll-Step S (S → S) S operand_step step_step expr_step (Step-F.Greater k b))

pub at_least_behind : (whole : Step) (k : Kind) (b : Expr) (a : S) → whole ≡ step.AtLeast k b → static_behind whole a ≡ binary machine.AtMost k (number_in (static_of b)) (number_in a)
unfolding static_behind static_of
at_least_behind whole k b a is =
    ap (λ s. static_behind s a) is
    ∙ ap (λ s. fold-Step S (S → S) S operand_step step_step expr_step s a) (sym (step.rolls-AtLeast k b))
    ∙ ap (λ (f : S → S). f a) (fold-roll-Step S (S → S) S operand_step step_step expr_step (Step-F.AtLeast k b))

pub offset_behind : (whole : Step) (o : OffsetBy) (scale : ℕ) (b : Expr) (a : S) → whole ≡ step.Offset o scale b → static_behind whole a ≡ offset_by o scale a (static_of b)
unfolding static_behind static_of
offset_behind whole o scale b a is =
    ap (λ s. static_behind s a) is
    ∙ ap (λ s. fold-Step S (S → S) S operand_step step_step expr_step s a) (sym (step.rolls-Offset o scale b))
    ∙ ap (λ (f : S → S). f a) (fold-roll-Step S (S → S) S operand_step step_step expr_step (Step-F.Offset o scale b))

pub difference_behind : (whole : Step) (size : ℕ) (b : Expr) (a : S) → whole ≡ step.Difference size b → static_behind whole a ≡ None
unfolding static_behind static_of
difference_behind whole size b a is =
    ap (λ s. static_behind s a) is
    ∙ ap (λ s. fold-Step S (S → S) S operand_step step_step expr_step s a) (sym (step.rolls-Difference size b))
    ∙ ap (λ (f : S → S). f a) (fold-roll-Step S (S → S) S operand_step step_step expr_step (Step-F.Difference size b))

pub and_behind : (whole : Step) (b : Expr) (a : S) → whole ≡ step.And b → static_behind whole a ≡ both (number_in a) (number_in (static_of b))
unfolding static_behind static_of
and_behind whole b a is =
    ap (λ s. static_behind s a) is
    ∙ ap (λ s. fold-Step S (S → S) S operand_step step_step expr_step s a) (sym (step.rolls-And b))
    ∙ ap (λ (f : S → S). f a) (fold-roll-Step S (S → S) S operand_step step_step expr_step (Step-F.And b))

pub or_behind : (whole : Step) (b : Expr) (a : S) → whole ≡ step.Or b → static_behind whole a ≡ either (number_in a) (number_in (static_of b))
unfolding static_behind static_of
or_behind whole b a is =
    ap (λ s. static_behind s a) is
    ∙ ap (λ s. fold-Step S (S → S) S operand_step step_step expr_step s a) (sym (step.rolls-Or b))
    ∙ ap (λ (f : S → S). f a) (fold-roll-Step S (S → S) S operand_step step_step expr_step (Step-F.Or b))

pub conditional_behind : (whole : Step) (b c : Expr) (a : S) → whole ≡ step.Conditional b c → static_behind whole a ≡ chosen (number_in a) (number_in (static_of b)) (number_in (static_of c))
unfolding static_behind static_of
conditional_behind whole b c a is =
    ap (λ s. static_behind s a) is
    ∙ ap (λ s. fold-Step S (S → S) S operand_step step_step expr_step s a) (sym (step.rolls-Conditional b c))
    ∙ ap (λ (f : S → S). f a) (fold-roll-Step S (S → S) S operand_step step_step expr_step (Step-F.Conditional b c))

pub comma_behind : (whole : Step) (b : Expr) (a : S) → whole ≡ step.Comma b → static_behind whole a ≡ None
unfolding static_behind static_of
comma_behind whole b a is =
    ap (λ s. static_behind s a) is
    ∙ ap (λ s. fold-Step S (S → S) S operand_step step_step expr_step s a) (sym (step.rolls-Comma b))
    ∙ ap (λ (f : S → S). f a) (fold-roll-Step S (S → S) S operand_step step_step expr_step (Step-F.Comma b))

pub assign_behind : (whole : Step) (k : Kind) (b : Expr) (a : S) → whole ≡ step.Assign k b → static_behind whole a ≡ None
unfolding static_behind static_of
assign_behind whole k b a is =
    ap (λ s. static_behind s a) is
    ∙ ap (λ s. fold-Step S (S → S) S operand_step step_step expr_step s a) (sym (step.rolls-Assign k b))
    ∙ ap (λ (f : S → S). f a) (fold-roll-Step S (S → S) S operand_step step_step expr_step (Step-F.Assign k b))

pub copy_behind : (whole : Step) (size : ℕ) (b : Expr) (a : S) → whole ≡ step.Copy size b → static_behind whole a ≡ None
unfolding static_behind static_of
copy_behind whole size b a is =
    ap (λ s. static_behind s a) is
    ∙ ap (λ s. fold-Step S (S → S) S operand_step step_step expr_step s a) (sym (step.rolls-Copy size b))
    ∙ ap (λ (f : S → S). f a) (fold-roll-Step S (S → S) S operand_step step_step expr_step (Step-F.Copy size b))

pub update_behind : (whole : Step) (o : Binary) (k at : Kind) (b : Expr) (a : S) → whole ≡ step.Update o k at b → static_behind whole a ≡ None
unfolding static_behind static_of
update_behind whole o k at b a is =
    ap (λ s. static_behind s a) is
    ∙ ap (λ s. fold-Step S (S → S) S operand_step step_step expr_step s a) (sym (step.rolls-Update o k at b))
    ∙ ap (λ (f : S → S). f a) (fold-roll-Step S (S → S) S operand_step step_step expr_step (Step-F.Update o k at b))

pub advance_behind : (whole : Step) (direction : Direction) (scale : ℕ) (b : Expr) (a : S) → whole ≡ step.Advance direction scale b → static_behind whole a ≡ None
unfolding static_behind static_of
advance_behind whole direction scale b a is =
    ap (λ s. static_behind s a) is
    ∙ ap (λ s. fold-Step S (S → S) S operand_step step_step expr_step s a) (sym (step.rolls-Advance direction scale b))
    ∙ ap (λ (f : S → S). f a) (fold-roll-Step S (S → S) S operand_step step_step expr_step (Step-F.Advance direction scale b))

pub count_behind : (whole : Step) (counted : Counted) (direction : Direction) (given : Given) (a : S) → whole ≡ step.Count counted direction given → static_behind whole a ≡ None
unfolding static_behind static_of
count_behind whole counted direction given a is =
    ap (λ s. static_behind s a) is
    ∙ ap (λ s. fold-Step S (S → S) S operand_step step_step expr_step s a) (sym (step.rolls-Count counted direction given))
    ∙ ap (λ (f : S → S). f a) (fold-roll-Step S (S → S) S operand_step step_step expr_step (Step-F.Count counted direction given))

roll_out : (e : Expr) → roll-Expr (out-Expr e) ≡ e
roll_out e = search (rules, the_lemmas)

pub expr_is : (e : Expr) → static_of e ≡ behind_all (static_first e.first) (map static_behind e.steps)
unfolding static_first static_behind static_of
expr_is e = ap static_of (sym (roll_out e)) ∙ fold-roll-Expr S (S → S) S operand_step step_step expr_step (out-Expr e)

-- what is no static initialiser's
pub first_has_nothing : (whole : Operand) → (((offset : ℕ) × (whole ≡ operand.Local offset))
    ⊎ (((function : ℕ) × (arguments : List Expr) × (whole ≡ operand.Call function arguments))
    ⊎ (((call : LibCall) × (arguments : List Expr) × (whole ≡ operand.Library call arguments))
    ⊎ ((call : MpiCall) × (arguments : List Expr) × (whole ≡ operand.Mpi call arguments)))))
    → None ≡ static_first whole
first_has_nothing whole (inl h) = sym (local_first whole h.0 h.1)
first_has_nothing whole (inr (inl h)) = sym (call_first whole h.0 h.1 h.2)
first_has_nothing whole (inr (inr (inl h))) = sym (library_first whole h.0 h.1 h.2)
first_has_nothing whole (inr (inr (inr h))) = sym (mpi_first whole h.0 h.1 h.2)

pub behind_has_nothing : (whole : Step) (a : S) → (((k : Kind) × (whole ≡ step.Load k))
    ⊎ (((size : ℕ) × (b : Expr) × (whole ≡ step.Difference size b))
    ⊎ (((b : Expr) × (whole ≡ step.Comma b))
    ⊎ (((k : Kind) × (b : Expr) × (whole ≡ step.Assign k b))
    ⊎ (((size : ℕ) × (b : Expr) × (whole ≡ step.Copy size b))
    ⊎ (((o : Binary) × (k : Kind) × (at : Kind) × (b : Expr) × (whole ≡ step.Update o k at b))
    ⊎ (((direction : Direction) × (scale : ℕ) × (b : Expr) × (whole ≡ step.Advance direction scale b))
    ⊎ ((counted : Counted) × (direction : Direction) × (given : Given) × (whole ≡ step.Count counted direction given)))))))))
    → None ≡ static_behind whole a
behind_has_nothing whole a (inl h) = sym (load_behind whole h.0 a h.1)
behind_has_nothing whole a (inr (inl h)) = sym (difference_behind whole h.0 h.1 a h.2)
behind_has_nothing whole a (inr (inr (inl h))) = sym (comma_behind whole h.0 a h.1)
behind_has_nothing whole a (inr (inr (inr (inl h)))) = sym (assign_behind whole h.0 h.1 a h.2)
behind_has_nothing whole a (inr (inr (inr (inr (inl h))))) = sym (copy_behind whole h.0 h.1 a h.2)
behind_has_nothing whole a (inr (inr (inr (inr (inr (inl h)))))) = sym (update_behind whole h.0 h.1 h.2 h.3 a h.4)
behind_has_nothing whole a (inr (inr (inr (inr (inr (inr (inl h))))))) = sym (advance_behind whole h.0 h.1 h.2 a h.3)
behind_has_nothing whole a (inr (inr (inr (inr (inr (inr (inr h))))))) = sym (count_behind whole h.0 h.1 h.2 a h.3)

abbrev N : Type 0
N = Option (Option ℕ)

-- what a call gives is what the step gives, by what the calls for its parts give
part_told : (b same : Expr) (v : S) → same ≡ b → v ≡ static_of same → v ≡ static_of b
part_told b same v b_is v_is = v_is ∙ ap static_of b_is

number_told : (b same : Expr) (v : S) (n : N) → same ≡ b → v ≡ static_of same → n ≡ number_in v → n ≡ number_in (static_of b)
number_told b same v n b_is v_is n_is = n_is ∙ ap number_in (part_told b same v b_is v_is)

pub one_told : (f : N → S) (a r given : S) (n : N) → n ≡ number_in a → r ≡ f n → given ≡ f (number_in a) → r ≡ given
one_told f a r given n n_is r_is given_is = r_is ∙ ap f n_is ∙ sym given_is

pub two_told : (f : N → N → S) (a v r given : S) (n m : N) (b same : Expr) → n ≡ number_in a → same ≡ b → v ≡ static_of same
    → m ≡ number_in v → r ≡ f n m → given ≡ f (number_in a) (number_in (static_of b)) → r ≡ given
two_told f a v r given n m b same n_is b_is v_is m_is r_is given_is =
    r_is ∙ ap (λ n. f n m) n_is ∙ ap (f (number_in a)) (number_told b same v m b_is v_is m_is) ∙ sym given_is

pub offset_told : (o : OffsetBy) (scale : ℕ) (a v r given : S) (b same : Expr) → same ≡ b → v ≡ static_of same → r ≡ offset_by o scale a v
    → given ≡ offset_by o scale a (static_of b) → r ≡ given
offset_told o scale a v r given b same b_is v_is r_is given_is =
    r_is ∙ ap (offset_by o scale a) (part_told b same v b_is v_is) ∙ sym given_is

pub chosen_told : (a u v r given : S) (n m k : N) (b c same_b same_c : Expr) → n ≡ number_in a → same_b ≡ b → u ≡ static_of same_b
    → m ≡ number_in u → same_c ≡ c → v ≡ static_of same_c → k ≡ number_in v → r ≡ chosen n m k
    → given ≡ chosen (number_in a) (number_in (static_of b)) (number_in (static_of c)) → r ≡ given
chosen_told a u v r given n m k b c same_b same_c n_is b_is u_is m_is c_is v_is k_is r_is given_is =
    r_is
    ∙ ap (λ n. chosen n m k) n_is
    ∙ ap (λ m. chosen (number_in a) m k) (number_told b same_b u m b_is u_is m_is)
    ∙ ap (chosen (number_in a) (number_in (static_of b))) (number_told c same_c v k c_is v_is k_is)
    ∙ sym given_is

-- one more step
last_behind : (a : S) (fs : List (S → S)) (f : S → S) → behind_all a (fs ++ f ∷ []) ≡ f (behind_all a fs)
last_behind a [] f = refl
last_behind a (g ∷ fs) f = last_behind (g a) fs f

map_last : (ss : List Step) (s : Step) → map static_behind (ss ++ s ∷ []) ≡ map static_behind ss ++ static_behind s ∷ []
map_last [] s = refl
map_last (t ∷ ss) s = ap (λ more. static_behind t ∷ more) (map_last ss s)

pub step_next : (a v r : S) (ss : List Step) (n : ℕ) (s : Step) → n < length ss → s ≡ get_or ss n s
    → v ≡ behind_all a (map static_behind (take n ss)) → r ≡ static_behind s v
    → r ≡ behind_all a (map static_behind (take (n + 1) ss))
step_next a v r ss n s within is v_is r_is =
    r_is
    ∙ ap (static_behind s) v_is
    ∙ sym (ap (λ more. behind_all a (map static_behind more)) (take_more ss n s within ∙ ap (λ s. take n ss ++ s ∷ []) (sym is))
    ∙ ap (behind_all a) (map_last (take n ss) s)
    ∙ last_behind a (map static_behind (take n ss)) (static_behind s))

pub all_steps : (e : Expr) (ss : List Step) (n : ℕ) (v : S) → ss ≡ e.steps → length ss ≤ n
    → v ≡ behind_all (static_first e.first) (map static_behind (take n ss)) → v ≡ static_of e
all_steps e ss n v ss_are past v_is =
    v_is
    ∙ ap (λ ss. behind_all (static_first e.first) (map static_behind ss)) (take_all n ss past ∙ ss_are)
    ∙ sym (expr_is e)
