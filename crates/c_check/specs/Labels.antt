-- The labels of a `switch` (C11, 6.8.1 and 6.8.4.2).
use Rattle.std.specs.Prelude.{ℕ, ◌+◌, ◌^◌, ◌%◌, ◌||◌, nat_eq, not, if◌then◌else◌, is_some, Bool, true, false, List, [], ◌∷◌, ◌++◌, Option, Some, None}
use Rattle.rank_range.specs.declared.kinds.Kind.{Kind}
use Rattle.rank_range.specs.Kinds.{convert}
use Rattle.c_const.specs.declared.evaluated.Evaluated.{Evaluated}
use Rattle.c_types.specs.declared.statement.Case.{Case}
use Rattle.c_typing.specs.declared.rules.Rule.TheVariants as rule
use Rattle.c_check.specs.declared.draft.Draft.{Draft}
use Rattle.c_check.specs.declared.draft.Inside.{Inside}
use Rattle.c_check.specs.declared.labels.Labels.{Labels}
use Rattle.c_check.specs.Draft.{Doing, with_broken, broken_if}

abbrev pub no_labels : Option Kind → Labels
no_labels k = record { kind = k; cases = []; default = None; count = 0 }

abbrev pub has_case : List Case → ℕ → Bool
has_case [] value = false
has_case (c ∷ cs) value = nat_eq c.value value || has_case cs value

abbrev pub is_repeated : List Case → Option ℕ → Bool
is_repeated cs (Some value) = has_case cs value
is_repeated cs None = false

-- the value of a `case`, converted to the kind of the `switch` (C11, 6.8.4.2p5)
abbrev pub word_in : Option ℕ → Kind → Kind → Option ℕ
word_in (Some word) from to = Some (convert word from to)
word_in None from to = None

abbrev pub evaluated_in : Option Evaluated → Kind → Option ℕ
evaluated_in (Some v) to = word_in v.word v.kind to
evaluated_in None to = None

abbrev pub value_in : Option Kind → Option Evaluated → Option ℕ
value_in (Some to) v = evaluated_in v to
value_in None v = None

abbrev pub cases_with : Option ℕ → Labels → List Case
cases_with (Some value) l = l.cases ++ record { value = value; label = l.count } ∷ []
cases_with None l = l.cases

abbrev pub next_label : Labels → ℕ
next_label l = (l.count + 1) % 2 ^ 32

abbrev pub with_case : Option ℕ → Labels → Labels
with_case value l = record l { cases = cases_with value l; count = next_label l }

abbrev pub with_labels : Labels → Draft → Draft
with_labels l d = record d { labels = l }

abbrev pub case_in : ℕ → Option ℕ → Doing ℕ
case_in at value d =
    (d.labels.count, broken_if (is_repeated d.labels.cases value) at rule.CaseRepeated (with_labels (with_case value d.labels) d))

-- `case` belongs to the innermost `switch`, and no two there have one value.
abbrev pub case : Inside → ℕ → Option Evaluated → Doing ℕ
case inside at v d =
    if not inside.is_switch then (0, with_broken at rule.CaseOutside d) else case_in at (value_in d.labels.kind v) d

-- There is at most one `default`.
abbrev pub or_this : Option ℕ → ℕ → Option ℕ
or_this (Some n) m = Some n
or_this None m = Some m

abbrev pub with_default : Labels → Labels
with_default l = record l { default = or_this l.default l.count; count = next_label l }

abbrev pub default_in : ℕ → Doing ℕ
default_in at d =
    (d.labels.count, broken_if (is_some d.labels.default) at rule.SecondDefault (with_labels (with_default d.labels) d))

abbrev pub default : Inside → ℕ → Doing ℕ
default inside at d = if not inside.is_switch then (0, with_broken at rule.CaseOutside d) else default_in at d
