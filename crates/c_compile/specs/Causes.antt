-- The numbers and texts of the causes for which files are refused. Number 99 and its text are this project's own.
use Rattle.std.specs.Prelude.{ℕ, ◌+◌, List, codes}
use Rattle.c_typing.specs.declared.rules.Rule.{Rule}
use Rattle.c_typing.specs.declared.rules.Rule.TheVariants as rule
use Rattle.c_typing.specs.Rules.{number_of}
use Rattle.c_compile.specs.declared.cause.Cause.{Cause}
use Rattle.c_compile.specs.declared.cause.Cause.TheVariants as cause

abbrev pub rule_text : Rule → List ℕ
rule_text rule.NotDeclared = codes "name not declared"
rule_text rule.DeclaredTwice = codes "name declared twice"
rule_text rule.Incomplete = codes "incomplete type"
rule_text rule.NoSuchMember = codes "no such member"
rule_text rule.NotAssignable = codes "not an assignable place"
rule_text rule.ConstPlace = codes "place is const"
rule_text rule.NotWhole = codes "operand is no whole number"
rule_text rule.NotScalar = codes "operand is no number or pointer"
rule_text rule.PointersDiffer = codes "pointer types differ"
rule_text rule.PointerAndNumber = codes "pointer and number mixed"
rule_text rule.NotPointer = codes "not a pointer"
rule_text rule.NotFunction = codes "not a function"
rule_text rule.WrongCount = codes "wrong number of arguments"
rule_text rule.DeclaredDifferently = codes "declared with another type"
rule_text rule.ValueMissing = codes "return value missing"
rule_text rule.ValueNotWanted = codes "return value not wanted"
rule_text rule.VoidUsed = codes "void value used"
rule_text rule.BreakOutside = codes "break outside a loop or switch"
rule_text rule.ContinueOutside = codes "continue outside a loop"
rule_text rule.CaseOutside = codes "case outside a switch"
rule_text rule.CaseRepeated = codes "case value repeated"
rule_text rule.SecondDefault = codes "second default"
rule_text rule.BadArraySize = codes "bad array size"
rule_text rule.TooManyInitialisers = codes "too many initialisers"
rule_text rule.InitialiserUnfit = codes "initialiser does not fit"
rule_text rule.StructUsed = codes "struct value used"
rule_text rule.BadParameterOrResult = codes "type not allowed for a parameter or result"
rule_text rule.BadMain = codes "bad type of main"
rule_text rule.LinkagesDisagree = codes "static and extern disagree"
rule_text rule.TooLarge = codes "object too large"
rule_text rule.NotConstant = codes "not a constant"

abbrev pub cause_text : Cause → List ℕ
cause_text cause.BadByte = codes "bad byte"
cause_text cause.FloatLiteral = codes "floating point"
cause_text cause.OutWord = codes "word outside this profile"
cause_text cause.TooWide = codes "number wider than 64 bits"
cause_text cause.Unclosed = codes "unclosed"
cause_text cause.Directive = codes "directive"
cause_text cause.TooMany = codes "too many tokens"
cause_text cause.Unexpected = codes "unexpected token or end"
cause_text cause.TooNested = codes "nested too deeply"
cause_text (cause.Rule r) = rule_text r
cause_text cause.TooLarge = codes "globals too large"
cause_text cause.Undefined = codes "name used but not defined"
cause_text cause.Twice = codes "name defined twice"
cause_text cause.TooComplex = codes "more than 32 pending values"
cause_text cause.NotBuilt = codes "source form not built"

abbrev pub cause_number : Cause → ℕ
cause_number cause.BadByte = 1
cause_number cause.FloatLiteral = 2
cause_number cause.OutWord = 3
cause_number cause.TooWide = 4
cause_number cause.Unclosed = 5
cause_number cause.Directive = 6
cause_number cause.TooMany = 7
cause_number cause.Unexpected = 20
cause_number cause.TooNested = 21
cause_number (cause.Rule r) = 40 + number_of r
cause_number cause.TooLarge = 90
cause_number cause.Undefined = 91
cause_number cause.Twice = 92
cause_number cause.TooComplex = 95
cause_number cause.NotBuilt = 99
