-- The numbers of the rules, and tables of the rules that a construct may break.
use Rattle.std.specs.Prelude.{ℕ, ◌≡◌, ◌<◌, Bool, true, false, if◌then◌else◌, nat_le, List, [], ◌∷◌, Option, Some, None, Result, Ok, Err}
use Rattle.c_typing.specs.declared.rules.Rule.{Rule}
use Rattle.c_typing.specs.declared.rules.Rule.TheVariants as rule
use Rattle.c_typing.specs.declared.rules.TypeError.{TypeError}
use Rattle.c_typing.specs.declared.rules.TypeError.TheVariants.{Broken, Memory}

abbrev pub number_of : Rule → ℕ
number_of rule.NotDeclared = 1
number_of rule.DeclaredTwice = 2
number_of rule.Incomplete = 3
number_of rule.NoSuchMember = 4
number_of rule.NotAssignable = 5
number_of rule.ConstPlace = 6
number_of rule.NotWhole = 7
number_of rule.NotScalar = 8
number_of rule.PointersDiffer = 9
number_of rule.PointerAndNumber = 10
number_of rule.NotPointer = 11
number_of rule.NotFunction = 12
number_of rule.WrongCount = 13
number_of rule.DeclaredDifferently = 14
number_of rule.ValueMissing = 15
number_of rule.ValueNotWanted = 16
number_of rule.VoidUsed = 17
number_of rule.BreakOutside = 18
number_of rule.ContinueOutside = 19
number_of rule.CaseOutside = 20
number_of rule.CaseRepeated = 21
number_of rule.SecondDefault = 22
number_of rule.BadArraySize = 23
number_of rule.TooManyInitialisers = 24
number_of rule.InitialiserUnfit = 25
number_of rule.StructUsed = 26
number_of rule.BadParameterOrResult = 27
number_of rule.BadMain = 28
number_of rule.LinkagesDisagree = 29
number_of rule.TooLarge = 30
number_of rule.NotConstant = 31

-- A row of a table: the rule is broken where this is so.
pub record Row : Type 0 where
  pub broken : Bool
  pub rule : Rule

abbrev pub row : Rule → Bool → Row
row r b = record { broken = b; rule = r }

-- A table has its rows by their numbers, the least first. So the first rule that is broken is the one with the least number.
abbrev pub first_of : List Row → Option Rule
first_of [] = None
first_of (r ∷ rows) = if r.broken then Some r.rule else first_of rows

-- of two rules the one with the lesser number
abbrev pub lesser : Option Rule → Option Rule → Option Rule
lesser None b = b
lesser (Some r) None = Some r
lesser (Some r) (Some s) = if nat_le (number_of r) (number_of s) then Some r else Some s

-- what a construct is, unless it breaks a rule
abbrev pub unless : {A : Type 0} → Option Rule → A → Result A Rule
unless None a = Ok a
unless (Some r) a = Err r

-- An answer is the one that is meant, unless memory runs out.
abbrev pub Tells : {A : Type 0} → Result A TypeError → Result A Rule → Type 0
Tells (Ok a) meant = meant ≡ Ok a
Tells (Err (Broken r)) meant = meant ≡ Err r
Tells (Err Memory) meant = Unit {0}
