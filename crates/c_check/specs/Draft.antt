-- What is known while the units of a program are checked, and how it changes.
use Rattle.std.specs.Prelude.{ℕ, ◌≡◌, Bool, true, false, List, slice_get, Option, Some, None, Result, Ok, Err}
use Rattle.c_typing.specs.declared.rules.Rule.{Rule}
use Rattle.c_judge.specs.declared.checker.Checker.{Checker}
use Rattle.c_judge.specs.declared.sight.Marks.{Marks}
use Rattle.c_judge.specs.State as judge
use Rattle.c_judge.specs.Sight as sight
use Rattle.c_judge.specs.Scopes as scopes
use Rattle.c_check.specs.declared.draft.Draft.{Draft}
use Rattle.c_check.specs.declared.draft.Inside.{Inside}

-- What a part of a source does: what it gives, and what is known behind it.
abbrev pub Doing : Type 0 → Type 0
Doing A = Draft → A × Draft

-- one part, and what is behind it
unfoldable pub then_with : {A B : Type 0} → A × Draft → (A → Doing B) → B × Draft
then_with done next = next done.0 done.1

-- An answer is what is meant, unless memory runs out.
abbrev pub Gives : {A E : Type 0} → Result A E → Draft → A × Draft → Type 0
Gives (Ok a) new meant = meant ≡ (a, new)
Gives (Err e) new meant = Unit {0}

-- what changes names, types and the rule that is told, and nothing else
abbrev pub within : {A : Type 0} → Draft → A × Checker → A × Draft
within d done = (done.0, record d { checker = done.1 })

abbrev pub with_broken : ℕ → Rule → Draft → Draft
with_broken token r d = record d { checker = judge.with_broken token r d.checker }

abbrev pub broken_if : Bool → ℕ → Rule → Draft → Draft
broken_if true token r d = with_broken token r d
broken_if false token r d = d

-- Scopes begin and end.
abbrev pub opened : Draft → Draft
opened d = record d { checker = record d.checker { sight = sight.opened d.checker.sight } }

abbrev pub closed : Option Marks → Draft → Draft
closed before d = record d { checker = record d.checker { sight = scopes.closed before d.checker.sight } }

-- what a statement stands in
abbrev pub in_body : Inside
in_body = record { is_loop = false; is_switch = false }

abbrev pub in_loop : Inside → Inside
in_loop i = record { is_loop = true; is_switch = i.is_switch }

abbrev pub in_switch : Inside → Inside
in_switch i = record { is_loop = i.is_loop; is_switch = true }

abbrev pub or_zero : Option ℕ → ℕ
or_zero (Some n) = n
or_zero None = 0

-- the line of a token
abbrev pub line_at : List ℕ → ℕ → ℕ
line_at lines token = or_zero (slice_get lines token)
