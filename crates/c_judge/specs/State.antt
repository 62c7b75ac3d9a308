-- What is known while a unit is checked, and how it changes.
use Rattle.std.specs.Prelude.{ℕ, ◌≡◌, ◌+◌, ◌%◌, ◌^◌, nat_le, if◌then◌else◌, Bool, true, false, List, [], ◌∷◌, ◌++◌, length, Option, Some, None, Result, Ok, Err}
use Rattle.rank_range.specs.declared.width.Width.TheVariants.{One}
use Rattle.rank_range.specs.declared.kinds.Kind.TheVariants as kind
use Rattle.c_types.specs.declared.ctype.CType.{CType}
use Rattle.c_types.specs.declared.ctype.Base.TheVariants as base
use Rattle.c_types.specs.declared.ctype.Part.TheVariants as part
use Rattle.c_types.specs.declared.program.TokenAt.{TokenAt}
use Rattle.c_types.specs.declared.program.Use.{Use}
use Rattle.c_types.specs.declared.program.Used.{Used}
use Rattle.c_types.specs.declared.program.StaticObject.{StaticObject}
use Rattle.c_types.specs.declared.expression.Operand.TheVariants as operand
use Rattle.c_types.specs.Sizes.{size_limit}
use Rattle.c_typing.specs.declared.judged.Judged.{Judged}
use Rattle.c_typing.specs.declared.judged.Judged.TheVariants as judged
use Rattle.c_typing.specs.declared.rules.Rule.{Rule}
use Rattle.c_typing.specs.declared.rules.Rule.TheVariants as rule
use Rattle.c_judge.specs.declared.checker.Checker.{Checker}
use Rattle.c_judge.specs.declared.checker.Mode.{Mode}
use Rattle.c_judge.specs.declared.naming.Found.{Found}
use Rattle.c_judge.specs.declared.naming.Found.TheVariants.{Undeclared, Unknown, Judged as IsJudged}
use Rattle.c_judge.specs.Broken.{noted}
use Rattle.c_judge.specs.Naming.{alone, found}

-- What a part of a source does: what it gives, and what is known behind it.
abbrev pub Doing : Type 0 → Type 0
Doing A = Checker → A × Checker

-- one part, and what is behind it
unfoldable pub then_with : {A B : Type 0} → A × Checker → (A → Doing B) → B × Checker
then_with done next = next done.0 done.1

-- An answer is what is meant, unless memory runs out.
abbrev pub Gives : {A E : Type 0} → Result A E → Checker → A × Checker → Type 0
Gives (Ok a) new meant = meant ≡ (a, new)
Gives (Err e) new meant = Unit {0}

-- one more broken rule
abbrev pub with_broken : ℕ → Rule → Checker → Checker
with_broken token r s = record s { least = noted s.least (record { token = token; rule = r }) }

-- a construct at a token, and the rule that it breaks
abbrev pub settled : ℕ → Result Judged Rule → Doing (Option Judged)
settled token (Ok j) s = (Some j, s)
settled token (Err r) s = (None, with_broken token r s)

-- A construct whose part has a broken rule is nothing, and breaks no rule.
abbrev pub on_one : Option Judged → (Judged → Result Judged Rule) → ℕ → Doing (Option Judged)
on_one (Some a) make token s = settled token (make a) s
on_one None make token s = (None, s)

abbrev pub on_two : Option Judged → Option Judged → (Judged → Judged → Result Judged Rule) → ℕ → Doing (Option Judged)
on_two (Some a) (Some b) make token s = settled token (make a b) s
on_two (Some a) None make token s = (None, s)
on_two None b make token s = (None, s)

abbrev pub on_three : Option Judged → Option Judged → Option Judged → (Judged → Judged → Judged → Result Judged Rule) → ℕ → Doing (Option Judged)
on_three (Some a) (Some b) (Some c) make token s = settled token (make a b c) s
on_three (Some a) (Some b) None make token s = (None, s)
on_three (Some a) None c make token s = (None, s)
on_three None b c make token s = (None, s)

abbrev pub at_token : ℕ → Checker → TokenAt
at_token token s = record { unit = s.unit; token = token }

-- A name that is evaluated uses what it names.
abbrev pub with_use : Bool → ℕ → Option Used → Checker → Checker
with_use true token (Some u) s = record s { uses = s.uses ++ record { at = at_token token s; used = u } ∷ [] }
with_use true token None s = s
with_use false token u s = s

abbrev pub settled_name : Found → Mode → ℕ → Doing (Option Judged)
settled_name Undeclared mode token s = (None, with_broken token rule.NotDeclared s)
settled_name Unknown mode token s = (None, s)
settled_name (IsJudged j u) mode token s = (Some j, with_use mode.is_evaluated token u s)

abbrev pub named : ℕ → List ℕ → Mode → Doing (Option Judged)
named token name mode s = settled_name (found s.sight s.known token name) mode token s

-- A string is an object of its own: its characters and a zero.
abbrev pub text_type : ℕ → CType
text_type size = record { base = base.Whole kind.Char; is_const = false; parts = part.Array size ∷ [] }

abbrev pub text_object : ℕ → List ℕ → Checker → StaticObject
text_object token bytes s = record {
  at = at_token token s;
  object = s.object_count;
  size = length bytes + 1;
  align = One;
  initial = record { bytes = bytes; fixes = [] };
}

abbrev pub with_text : ℕ → List ℕ → Checker → Checker
with_text token bytes s = record s {
  objects = s.objects ++ text_object token bytes s ∷ [];
  object_count = (s.object_count + 1) % 2 ^ 32;
}

abbrev pub text : ℕ → List ℕ → Doing (Option Judged)
text token bytes s =
    if nat_le (length bytes + 1) size_limit
    then (Some (judged.Place (text_type (length bytes + 1)) (alone (operand.Object s.object_count))), with_text token bytes s)
    else (None, with_broken token rule.TooLarge s)
