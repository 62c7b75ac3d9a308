-- The program, segment and code of files, or the refusal that is told: that of the first file that is no source; else the broken
-- rule; else the first refusal of the segment; else why there is no code.
use Rattle.std.specs.Prelude.{ℕ, ◌≡◌, ◌⊎◌, ◌<◌, ◌^◌, List, [], ◌∷◌, ◌++◌, Option, Some, None, Result, Ok, Err, length, slice_get}
use Rattle.std.specs.List.{AllZip, AllByRecursion}
use Rattle.rank_range.specs.declared.run.Segment.{Segment}
use Rattle.c_typing.specs.declared.rules.Rule.{Rule}
use Rattle.c_types.specs.declared.program.Program.{Program}
use Rattle.c_types.specs.declared.program.TokenAt.{TokenAt}
use Rattle.c_types.specs.Segment as segment_refusal
use Rattle.c_types.specs.Segment.{SegmentOf, IsRefused, Refusal as SegmentRefusal}
use Rattle.c_types.specs.Need.{IsTooComplex}
use Rattle.c_check.specs.declared.units.Source.{Source}
use Rattle.c_check.specs.declared.units.CheckError.{CheckError}
use Rattle.c_check.specs.declared.units.CheckError.TheVariants as check_error
use Rattle.c_check.specs.Units.{checked}
use Rattle.privatise.specs.declared.error.SegError.{SegError}
use Rattle.privatise.specs.declared.error.SegError.TheVariants as segment_error
use Rattle.codegen.specs.declared.error.GenError.{GenError}
use Rattle.codegen.specs.declared.error.GenError.TheVariants as code_error
use Rattle.codegen.specs.Answers.{IsMade, IsNotCovered, IsTooLong}
use Rattle.c_compile.specs.declared.cause.Cause.{Cause}
use Rattle.c_compile.specs.declared.cause.Cause.TheVariants as cause
use Rattle.c_compile.specs.declared.error.Refusal.{Refusal}
use Rattle.c_compile.specs.declared.error.TextError.{TextError}
use Rattle.c_compile.specs.declared.error.TextError.TheVariants as text_error
use Rattle.c_compile.specs.declared.error.CompileError.{CompileError}
use Rattle.c_compile.specs.declared.error.CompileError.TheVariants.{Refused, Memory}
use Rattle.c_compile.specs.declared.compiled.Compiled.{Compiled}
use Rattle.c_compile.specs.Lines.{line_in}
use Rattle.c_compile.specs.Texts.{IsSource, IsWrong}

-- ---- places

abbrev pub lines_of_unit : Option Source → List ℕ
lines_of_unit (Some s) = s.lines
lines_of_unit None = []

-- the line of a token of these sources
abbrev pub line_at : List Source → TokenAt → ℕ
line_at sources at = line_in (lines_of_unit (slice_get sources at.unit)) at.token

-- a refusal at a token
abbrev pub refused_at : List Source → Cause → TokenAt → Refusal
refused_at sources why at = record { cause = why; unit = at.unit; line = line_at sources at }

-- what has no place of its own is told at the first file's first line
abbrev pub refused_whole : Cause → Refusal
refused_whole why = record { cause = why; unit = 0; line = 1 }

abbrev pub first_token : TokenAt
first_token = record { unit = 0; token = 0 }

-- ---- the program of files

-- each of fewer than 2^31 bytes
abbrev pub AreShort : List (List ℕ) → Type 0
AreShort files = AllByRecursion (λ text. length text < 2 ^ 31) files

-- Each file is a source: these, in the same order.
abbrev pub AreSources : List (List ℕ) → List Source → Type 0
AreSources files sources = AllZip IsSource files sources

-- The files are sources that break no rule, and this is their typed program.
pub record IsProgramOf (files : List (List ℕ)) (program : Program) : Type 0 where
  pub sources : List Source
  pub are_sources : AreSources files sources
  pub typed : checked sources ≡ Ok program

-- What is made is the program of the files, its segment, and code that means it.
pub record IsCompiled (files : List (List ℕ)) (compiled : Compiled) : Type 0 where
  pub is_program : IsProgramOf files compiled.program
  pub is_segment : SegmentOf compiled.program compiled.segment
  pub is_made : IsMade compiled.code compiled.program compiled.segment

-- ---- why there is none

-- This file is no source, and those before it are some.
pub record IsWrongFile (files : List (List ℕ)) (r : Refusal) : Type 0 where
  pub before : List (List ℕ)
  pub text : List ℕ
  pub behind : List (List ℕ)
  pub sources : List Source
  pub files_are : files ≡ before ++ text ∷ behind
  pub are_sources : AreSources before sources
  pub unit_is : r.unit ≡ length before
  pub wrong : IsWrong text r.cause r.line

-- The sources break a rule: this one is told, at this token.
pub record BreakRule (sources : List Source) (r : Refusal) : Type 0 where
  pub rule : Rule
  pub at : TokenAt
  pub broken : checked sources ≡ Err (check_error.Rule rule at.unit at.token)
  pub refusal_is : r ≡ refused_at sources (cause.Rule rule) at

abbrev pub segment_cause : SegmentRefusal → Cause
segment_cause segment_refusal.TooLarge = cause.TooLarge
segment_cause segment_refusal.Undefined = cause.Undefined
segment_cause segment_refusal.Twice = cause.Twice

-- The program has no segment: this is its first refusal.
pub record HasNoSegment (sources : List Source) (program : Program) (r : Refusal) : Type 0 where
  pub why : SegmentRefusal
  pub at : TokenAt
  pub refused : IsRefused program why at
  pub refusal_is : r ≡ refused_at sources (segment_cause why) at

-- It has one, and more than 32 values are pending in a full expression: the first such one begins at this token.
pub record IsTooComplexAt (sources : List Source) (program : Program) (segment : Segment) (r : Refusal) : Type 0 where
  pub at : TokenAt
  pub complex : IsTooComplex program at
  pub refusal_is : r ≡ refused_at sources cause.TooComplex at

-- Nowhere are there more, but the program is outside of what code is made for, or its code would be too long.
pub record IsNotBuilt (program : Program) (segment : Segment) (r : Refusal) : Type 0 where
  pub outside : IsNotCovered program ⊎ IsTooLong program segment
  pub refusal_is : r ≡ refused_whole cause.NotBuilt

pub record HasNoCode (sources : List Source) (program : Program) (r : Refusal) : Type 0 where
  pub segment : Segment
  pub is_segment : SegmentOf program segment
  pub why : IsTooComplexAt sources program segment r ⊎ IsNotBuilt program segment r

-- Files that are sources and break no rule are refused.
pub record IsProgramRefused (sources : List Source) (r : Refusal) : Type 0 where
  pub program : Program
  pub typed : checked sources ≡ Ok program
  pub why : HasNoSegment sources program r ⊎ HasNoCode sources program r

-- Files that are sources are refused.
pub record AreSourcesRefused (files : List (List ℕ)) (r : Refusal) : Type 0 where
  pub sources : List Source
  pub are_sources : AreSources files sources
  pub why : BreakRule sources r ⊎ IsProgramRefused sources r

-- The files are refused, and this is told.
abbrev pub AreRefused : List (List ℕ) → Refusal → Type 0
AreRefused files r = IsWrongFile files r ⊎ AreSourcesRefused files r

-- What is told of the files is so. Want of memory says nothing.
abbrev pub IsWhy : List (List ℕ) → CompileError → Type 0
IsWhy files (Refused r) = AreRefused files r
IsWhy files Memory = Unit {0}

-- ---- what single steps tell

abbrev pub told_at : List Source → Cause → TokenAt → CompileError
told_at sources why at = Refused (refused_at sources why at)

abbrev pub token_at : ℕ → ℕ → TokenAt
token_at unit token = record { unit = unit; token = token }

-- what is told of a file that is no source
abbrev pub told_of_file : ℕ → TextError → CompileError
told_of_file unit (text_error.Wrong why line) = Refused (record { cause = why; unit = unit; line = line })
told_of_file unit text_error.Memory = Memory

abbrev pub told_by_check : List Source → CheckError → CompileError
told_by_check sources (check_error.Rule rule unit token) = told_at sources (cause.Rule rule) (token_at unit token)
told_by_check sources check_error.Memory = Memory

abbrev pub told_of_segment : List Source → SegError → CompileError
told_of_segment sources (segment_error.TooLarge unit token) = told_at sources cause.TooLarge (token_at unit token)
told_of_segment sources (segment_error.Undefined unit token) = told_at sources cause.Undefined (token_at unit token)
told_of_segment sources (segment_error.Twice unit token) = told_at sources cause.Twice (token_at unit token)
told_of_segment sources segment_error.Memory = Memory

abbrev pub told_of_code : List Source → GenError → CompileError
told_of_code sources (code_error.TooComplex unit token) = told_at sources cause.TooComplex (token_at unit token)
told_of_code sources code_error.NoMain = told_at sources cause.Undefined first_token
told_of_code sources code_error.NotCovered = Refused (refused_whole cause.NotBuilt)
told_of_code sources code_error.TooLong = Refused (refused_whole cause.NotBuilt)
told_of_code sources code_error.Memory = Memory

-- the same in terms of sources and of their program
abbrev pub IsWhyOfProgram : List Source → Program → CompileError → Type 0
IsWhyOfProgram sources program (Refused r) = HasNoSegment sources program r ⊎ HasNoCode sources program r
IsWhyOfProgram sources program Memory = Unit {0}

abbrev pub IsWhyOfSources : List Source → CompileError → Type 0
IsWhyOfSources sources (Refused r) = BreakRule sources r ⊎ IsProgramRefused sources r
IsWhyOfSources sources Memory = Unit {0}

abbrev pub IsWhyOfFiles : List (List ℕ) → CompileError → Type 0
IsWhyOfFiles files (Refused r) = IsWrongFile files r
IsWhyOfFiles files Memory = Unit {0}

-- the program, its segment, and code that means it
pub record IsMadeWith (program : Program) (compiled : Compiled) : Type 0 where
  pub same : compiled.program ≡ program
  pub is_segment : SegmentOf compiled.program compiled.segment
  pub is_made : IsMade compiled.code compiled.program compiled.segment

pub record IsMadeOf (sources : List Source) (compiled : Compiled) : Type 0 where
  pub typed : checked sources ≡ Ok compiled.program
  pub is_segment : SegmentOf compiled.program compiled.segment
  pub is_made : IsMade compiled.code compiled.program compiled.segment
