-- Each step to a program is a function of what it is made from, so the answers to files exclude each other.
use Rattle.std.proofs.Common.{ℕ, ◌≡◌, ◌≤◌, ◌<◌, ◌++◌, ◌⊎◌, List, [], ◌∷◌, length, Option, Some, None, Result, Ok, Err, refl, sym, ap, ◌∙◌, subst, inl, inr, arith, suc, Bool, true, false}
use Rattle.std.specs.List.{AllZip}
use Rattle.c_lex.specs.declared.token.Token.{Token}
use Rattle.c_lex.specs.Faults.{Cause as Fault}
use Rattle.c_lex.specs.Tokens.{AreTokens, IsFault, Answer, IsAnswer, Tokens}
use Rattle.c_lex.specs.Tokens as answer
use Rattle.c_ast.specs.declared.declaration.Unit.{Unit as AUnit}
use Rattle.c_grammar.specs.Grammar.{Parses, ParsesWithin}
use Rattle.c_grammar.specs.Brackets.{closes_innermost}
use Rattle.c_grammar.specs.Refusals.{GoesOn, IsRefused, IsUnexpected, IsTooNested}
use Rattle.rank_range.specs.declared.run.Segment.{Segment}
use Rattle.c_judge.specs.declared.headers.KnownHeaders.{KnownHeaders}
use Rattle.c_types.specs.declared.program.Program.{Program}
use Rattle.c_types.specs.declared.program.Main.{Main}
use Rattle.c_types.specs.declared.program.TokenAt.{TokenAt}
use Rattle.c_types.specs.Segment.{SegmentOf, RefusalIsOne}
use Rattle.c_types.specs.Need.{IsTooComplex}
use Rattle.c_typing.specs.declared.rules.Rule.{Rule}
use Rattle.c_check.specs.declared.units.Source.{Source}
use Rattle.c_check.specs.declared.units.CheckError.{CheckError}
use Rattle.c_check.specs.declared.units.CheckError.TheVariants as check_error
use Rattle.c_check.specs.Units.{checked}
use Rattle.vm_code.specs.declared.code.Code.{Code}
use Rattle.codegen.specs.declared.error.GenError.{GenError}
use Rattle.codegen.specs.declared.error.GenError.TheVariants as code_error
use Rattle.codegen.specs.Answers.{IsMade, IsNotCovered, IsTooLong, Answers, Refuses, RefusalsAreAnswered}
use Rattle.codegen.specs.Statements.{program_part}
use Rattle.c_compile.specs.declared.cause.Cause.{Cause}
use Rattle.c_compile.specs.declared.cause.Cause.TheVariants as cause
use Rattle.c_compile.specs.declared.compiled.Compiled.{Compiled}
use Rattle.c_compile.specs.declared.error.Refusal.{Refusal}
use Rattle.c_compile.specs.Lines.{line_of_byte, lines_of, line_in}
use Rattle.c_compile.specs.Known.{known_in}
use Rattle.c_compile.specs.Texts.{IsSource, HasNoTokens, HasNoTree, IsWrong, cause_of}
use Rattle.c_compile.specs.Programs.{AreSources, IsProgramOf, IsCompiled, IsWrongFile, BreakRule, HasNoSegment, IsTooComplexAt, IsNotBuilt, HasNoCode, IsProgramRefused, AreSourcesRefused, AreRefused, refused_at, refused_whole, segment_cause}
use Rattle.c_compile.specs.Once.{AreAlike, AnswersAreOne}

-- The laws of the crates below.
pub record Below : Type 0 where
  pub lexed : (text : List ℕ) (a b : Answer) → IsAnswer text a → IsAnswer text b → a ≡ b
  pub one_unit : (ts : List Token) (a b : AUnit) → Parses ts a → Parses ts b → a ≡ b
  pub goes_on : (limit most : ℕ) (ts : List Token) (unit : AUnit) → ParsesWithin limit most ts unit → (k : ℕ) → k ≤ length ts → GoesOn limit most ts k
  pub one_refusal : (limit most : ℕ) (ts : List Token) (a b : ℕ) → IsRefused limit most ts a → IsRefused limit most ts b → a ≡ b
  pub segment : (program : Program) → RefusalIsOne program
  pub code : RefusalsAreAnswered

-- ---- a file

tokens-same : (a b : List Token) → Tokens a ≡ Tokens b → a ≡ b
tokens-same a b e = cc

one-tokens : Below → (text : List ℕ) (a b : List Token) → AreTokens text a → AreTokens text b → a ≡ b
one-tokens below text a b p q = tokens-same a b (below.lexed text (Tokens a) (Tokens b) p q)

tokens-or-fault : (tokens : List Token) (fault : Fault) (at : ℕ) → Tokens tokens ≡ answer.Fault fault at → ⊥
tokens-or-fault tokens fault at e = cc

no-fault : Below → (text : List ℕ) (tokens : List Token) (fault : Fault) (at : ℕ) → AreTokens text tokens → IsFault text fault at → ⊥
no-fault below text tokens fault at p q = tokens-or-fault tokens fault at (below.lexed text (Tokens tokens) (answer.Fault fault at) p q)

abbrev with-tree : Source → AUnit → Source
with-tree s tree = record { tree = tree; known = s.known; lines = s.lines }

abbrev with-known : Source → KnownHeaders → Source
with-known s known = record { tree = s.tree; known = known; lines = s.lines }

abbrev with-lines : Source → List ℕ → Source
with-lines s lines = record { tree = s.tree; known = s.known; lines = lines }

same-source : (a b : Source) → a.tree ≡ b.tree → a.known ≡ b.known → a.lines ≡ b.lines → a ≡ b
same-source a b tree known lines =
    ap (with-tree a) tree ∙ ap (with-known (with-tree a b.tree)) known ∙ ap (with-lines (with-known (with-tree a b.tree) b.known)) lines

one-source : Below → (text : List ℕ) (a b : Source) → IsSource text a → IsSource text b → a ≡ b
one-source below text a b p q =
    let same = one-tokens below text p.tokens q.tokens p.are_tokens q.are_tokens in
    let P : List Token → Type 0 = λ ts. ParsesWithin 64 512 ts a.tree in
    same-source a b (below.one_unit q.tokens a.tree b.tree (64, 512, subst P same p.parses) (64, 512, q.parses))
    (p.known_is ∙ ap known_in same ∙ sym q.known_is)
    (p.lines_are ∙ ap (lines_of text) same ∙ sym q.lines_are)

tree-refused : Below → (text : List ℕ) (s : Source) (why : Cause) (line : ℕ) → IsSource text s → HasNoTree text why line → ⊥
tree-refused below text s why line p q =
    let same = one-tokens below text p.tokens q.tokens p.are_tokens q.are_tokens in
    let P : List Token → Type 0 = λ ts. ParsesWithin 64 512 ts s.tree in
    q.refused.stops (below.goes_on 64 512 q.tokens s.tree (subst P same p.parses) q.token q.refused.there)

source-wrong : Below → (text : List ℕ) (s : Source) (why : Cause) (line : ℕ) → IsSource text s → IsWrong text why line → ⊥
source-wrong below text s why line p (inl none) = no-fault below text p.tokens none.fault_is none.at p.are_tokens none.is_fault
source-wrong below text s why line p (inr none) = tree-refused below text s why line p none

fault-same : (a b : Fault) (i j : ℕ) → answer.Fault a i ≡ answer.Fault b j → (a ≡ b) × (i ≡ j)
fault-same a b i j e = (cc, cc)

one-cause : (ts : List Token) (k : ℕ) → IsUnexpected 64 512 ts k → IsTooNested 64 512 ts k → ⊥
one-cause ts k unexpected (inl on) = unexpected.0 on
one-cause ts k unexpected (inr nested) = elim unexpected.1 [
  | inl closes ↦ differ (closes_innermost ts k) closes nested.0
  | inr place ↦ nested.1 place
]
  where
    differ : (b : Bool) → b ≡ true → b ≡ false → ⊥
    differ b yes_is no_is = cc

tree-cause : (ts : List Token) (k : ℕ) (a b : Cause)
    → ((a ≡ cause.Unexpected) × IsUnexpected 64 512 ts k) ⊎ ((a ≡ cause.TooNested) × IsTooNested 64 512 ts k)
    → ((b ≡ cause.Unexpected) × IsUnexpected 64 512 ts k) ⊎ ((b ≡ cause.TooNested) × IsTooNested 64 512 ts k) → a ≡ b
tree-cause ts k a b (inl p) (inl q) = p.0 ∙ sym q.0
tree-cause ts k a b (inr p) (inr q) = p.0 ∙ sym q.0
tree-cause ts k a b (inl p) (inr q) = absurd (one-cause ts k p.1 q.1)
tree-cause ts k a b (inr p) (inl q) = absurd (one-cause ts k q.1 p.1)

one-tree-refusal : Below → (text : List ℕ) (a b : Cause) (i j : ℕ) → HasNoTree text a i → HasNoTree text b j → (a ≡ b) × (i ≡ j)
one-tree-refusal below text a b i j p q =
    let same = one-tokens below text p.tokens q.tokens p.are_tokens q.are_tokens in
    let P : List Token → Type 0 = λ ts. IsRefused 64 512 ts p.token in
    let at = below.one_refusal 64 512 q.tokens p.token q.token (subst P same p.refused) q.refused in
    let Q : List Token → Type 0 = λ ts. ((a ≡ cause.Unexpected) × IsUnexpected 64 512 ts p.token) ⊎ ((a ≡ cause.TooNested) × IsTooNested 64 512 ts p.token) in
    let R : ℕ → Type 0 = λ k. ((a ≡ cause.Unexpected) × IsUnexpected 64 512 q.tokens k) ⊎ ((a ≡ cause.TooNested) × IsTooNested 64 512 q.tokens k) in (
      tree-cause q.tokens q.token a b (subst R at (subst Q same p.why_is)) q.why_is,
      p.line_is ∙ ap (λ ts. line_in (lines_of text ts) p.token) same ∙ ap (line_in (lines_of text q.tokens)) at ∙ sym q.line_is,
    )

one-wrong : Below → (text : List ℕ) (a b : Cause) (i j : ℕ) → IsWrong text a i → IsWrong text b j → (a ≡ b) × (i ≡ j)
one-wrong below text a b i j (inl p) (inl q) =
    let same = fault-same p.fault_is q.fault_is p.at q.at
    (below.lexed text (answer.Fault p.fault_is p.at) (answer.Fault q.fault_is q.at) p.is_fault q.is_fault) in
    (p.why_is ∙ ap cause_of same.0 ∙ sym q.why_is, p.line_is ∙ ap (line_of_byte text) same.1 ∙ sym q.line_is)
one-wrong below text a b i j (inl p) (inr q) = absurd (no-fault below text q.tokens p.fault_is p.at q.are_tokens p.is_fault)
one-wrong below text a b i j (inr p) (inl q) = absurd (no-fault below text p.tokens q.fault_is q.at p.are_tokens q.is_fault)
one-wrong below text a b i j (inr p) (inr q) = one-tree-refusal below text a b i j p q

-- ---- files

one-sources : Below → (files : List (List ℕ)) (a b : List Source) → AreSources files a → AreSources files b → a ≡ b
one-sources below [] [] [] p q = refl
one-sources below [] [] (t ∷ ts) p q = absurd q
one-sources below [] (s ∷ ss) b p q = absurd p
one-sources below (x ∷ xs) [] b p q = absurd p
one-sources below (x ∷ xs) (s ∷ ss) [] p q = absurd q
one-sources below (x ∷ xs) (s ∷ ss) (t ∷ ts) p q =
    ap (λ y. y ∷ ss) (one-source below x s t p.0 q.0) ∙ ap (λ ys. t ∷ ys) (one-sources below xs ss ts p.1 q.1)

-- a file that is no source is none of files that are all sources
sources-right : Below → (before : List (List ℕ)) (text : List ℕ) (behind : List (List ℕ)) (why : Cause) (line : ℕ) (sources : List Source)
    → IsWrong text why line → AreSources (before ++ text ∷ behind) sources → ⊥
sources-right below [] text behind why line [] wrong all = all
sources-right below [] text behind why line (s ∷ ss) wrong all = source-wrong below text s why line all.0 wrong
sources-right below (x ∷ xs) text behind why line [] wrong all = all
sources-right below (x ∷ xs) text behind why line (s ∷ ss) wrong all = sources-right below xs text behind why line ss wrong all.1

wrong-and-right : Below → (files : List (List ℕ)) (r : Refusal) (sources : List Source) → IsWrongFile files r → AreSources files sources → ⊥
wrong-and-right below files r sources wrong all =
    let P : List (List ℕ) → Type 0 = λ fs. AreSources fs sources in
    sources-right below wrong.before wrong.text wrong.behind r.cause r.line sources wrong.wrong (subst P wrong.files_are all)

-- the first file that is no source is one
first-wrong : Below → (before other : List (List ℕ)) (text more : List ℕ) (behind rest : List (List ℕ)) (ss ts : List Source) (a b : Cause) (i j : ℕ)
    → AreSources before ss → AreSources other ts → IsWrong text a i → IsWrong more b j → before ++ text ∷ behind ≡ other ++ more ∷ rest
    → (length before ≡ length other) × ((a ≡ b) × (i ≡ j))
first-wrong below [] [] text more behind rest ss ts a b i j p q wrong bad e =
    let same : text ≡ more = cc in
    let P : List ℕ → Type 0 = λ t. IsWrong t a i in
    (refl, one-wrong below more a b i j (subst P same wrong) bad)
first-wrong below [] (o ∷ other) text more behind rest ss [] a b i j p q wrong bad e = absurd q
first-wrong below [] (o ∷ other) text more behind rest ss (t ∷ ts) a b i j p q wrong bad e =
    let same : text ≡ o = cc in
    let P : List ℕ → Type 0 = λ x. IsWrong x a i in
    absurd (source-wrong below o t a i q.0 (subst P same wrong))
first-wrong below (x ∷ xs) [] text more behind rest [] ts a b i j p q wrong bad e = absurd p
first-wrong below (x ∷ xs) [] text more behind rest (s ∷ ss) ts a b i j p q wrong bad e =
    let same : more ≡ x = cc in
    let P : List ℕ → Type 0 = λ y. IsWrong y b j in
    absurd (source-wrong below x s b j p.0 (subst P same bad))
first-wrong below (x ∷ xs) (o ∷ other) text more behind rest [] ts a b i j p q wrong bad e = absurd p
first-wrong below (x ∷ xs) (o ∷ other) text more behind rest (s ∷ ss) [] a b i j p q wrong bad e = absurd q
first-wrong below (x ∷ xs) (o ∷ other) text more behind rest (s ∷ ss) (t ∷ ts) a b i j p q wrong bad e =
    let tail : xs ++ text ∷ behind ≡ other ++ more ∷ rest = cc in
    let same = first-wrong below xs other text more behind rest ss ts a b i j p.1 q.1 wrong bad tail in
    (ap (λ n. suc n) same.0, same.1)

abbrev with-cause : Refusal → Cause → Refusal
with-cause r why = record { cause = why; unit = r.unit; line = r.line }

abbrev with-unit : Refusal → ℕ → Refusal
with-unit r unit = record { cause = r.cause; unit = unit; line = r.line }

abbrev with-line : Refusal → ℕ → Refusal
with-line r line = record { cause = r.cause; unit = r.unit; line = line }

same-refusal : (a b : Refusal) → a.cause ≡ b.cause → a.unit ≡ b.unit → a.line ≡ b.line → a ≡ b
same-refusal a b why unit line =
    ap (with-cause a) why ∙ ap (with-unit (with-cause a b.cause)) unit ∙ ap (with-line (with-unit (with-cause a b.cause) b.unit)) line

one-wrong-file : Below → (files : List (List ℕ)) (a b : Refusal) → IsWrongFile files a → IsWrongFile files b → a ≡ b
one-wrong-file below files a b p q =
    let same = first-wrong below p.before q.before p.text q.text p.behind q.behind p.sources q.sources a.cause b.cause a.line b.line
    p.are_sources q.are_sources p.wrong q.wrong (sym p.files_are ∙ q.files_are) in
    same-refusal a b same.1.0 (p.unit_is ∙ same.0 ∙ sym q.unit_is) same.1.1

-- ---- a program

abbrev with-bytes : Segment → List ℕ → Segment
with-bytes s bytes = record { bytes = bytes; fixes = s.fixes; objects = s.objects }

abbrev with-fixes : Segment → List ℕ → Segment
with-fixes s fixes = record { bytes = s.bytes; fixes = fixes; objects = s.objects }

abbrev with-objects : Segment → List ℕ → Segment
with-objects s objects = record { bytes = s.bytes; fixes = s.fixes; objects = objects }

one-segment : (program : Program) (a b : Segment) → SegmentOf program a → SegmentOf program b → a ≡ b
one-segment program a b p q =
    ap (with-bytes a) (p.bytes_are ∙ sym q.bytes_are)
    ∙ ap (with-fixes (with-bytes a b.bytes)) (p.fixes_are ∙ sym q.fixes_are)
    ∙ ap (with-objects (with-fixes (with-bytes a b.bytes) b.fixes)) (p.objects_are ∙ sym q.objects_are)

abbrev failed : GenError → Result Code GenError
failed e = Err e

abbrev succeeded : Code → Result Code GenError
succeeded code = Ok code

same-error : (a b : GenError) → failed a ≡ failed b → a ≡ b
same-error a b e = cc

no-success : (code : Code) (e : GenError) → succeeded code ≡ failed e → ⊥
no-success code e same = cc

same-token : (a b : TokenAt) → code_error.TooComplex a.unit a.token ≡ code_error.TooComplex b.unit b.token → a ≡ b
same-token a b e =
    let unit : a.unit ≡ b.unit = cc in
    let token : a.token ≡ b.token = cc in
    let with_unit : ℕ → TokenAt = λ u. record { unit = u; token = a.token } in
    let with_token : ℕ → TokenAt = λ t. record { unit = b.unit; token = t } in
    ap with_unit unit ∙ ap with_token token

no-memory : (unit token : ℕ) → code_error.TooComplex unit token ≡ code_error.Memory → ⊥
no-memory unit token e = cc

one-token : Below → (program : Program) (segment : Segment) (a b : TokenAt) → IsTooComplex program a → IsTooComplex program b → a ≡ b
one-token below program segment a b p q =
    elim (below.code program segment (failed (code_error.TooComplex a.unit a.token)) (code_error.TooComplex b.unit b.token) p q
    (no-memory b.unit b.token)) [
      | inl same ↦ same-token a b (same-error (code_error.TooComplex a.unit a.token) (code_error.TooComplex b.unit b.token) same)
      | inr none ↦ absurd (no-memory a.unit a.token (same-error (code_error.TooComplex a.unit a.token) code_error.Memory none))
    ]

other-covered : (unit token : ℕ) → code_error.NotCovered ≡ code_error.TooComplex unit token → ⊥
other-covered unit token e = cc

other-long : (unit token : ℕ) → code_error.TooLong ≡ code_error.TooComplex unit token → ⊥
other-long unit token e = cc

covered-memory : code_error.NotCovered ≡ code_error.Memory → ⊥
covered-memory e = cc

long-memory : code_error.TooLong ≡ code_error.Memory → ⊥
long-memory e = cc

complex-or-not : Below → (program : Program) (segment : Segment) (at : TokenAt) → IsTooComplex program at
    → (IsNotCovered program ⊎ IsTooLong program segment) → ⊥
complex-or-not below program segment at p (inl none) =
    elim (below.code program segment (failed code_error.NotCovered) (code_error.TooComplex at.unit at.token) none p (no-memory at.unit at.token)) [
      | inl e ↦ other-covered at.unit at.token (same-error code_error.NotCovered (code_error.TooComplex at.unit at.token) e)
      | inr e ↦ covered-memory (same-error code_error.NotCovered code_error.Memory e)
    ]
complex-or-not below program segment at p (inr long) =
    elim (below.code program segment (failed code_error.TooLong) (code_error.TooComplex at.unit at.token) long p (no-memory at.unit at.token)) [
      | inl e ↦ other-long at.unit at.token (same-error code_error.TooLong (code_error.TooComplex at.unit at.token) e)
      | inr e ↦ long-memory (same-error code_error.TooLong code_error.Memory e)
    ]

made-or-not : Below → (program : Program) (segment : Segment) (code : Code) (e : GenError) → (e ≡ code_error.Memory → ⊥)
    → IsMade code program segment → Refuses program segment e → ⊥
made-or-not below program segment code e other made refused =
    elim (below.code program segment (succeeded code) e made refused other) [
      | inl same ↦ no-success code e same
      | inr same ↦ no-success code code_error.Memory same
    ]

not-built-segment : (program : Program) (a b : Segment) → a ≡ b → (IsNotCovered program ⊎ IsTooLong program a) → (IsNotCovered program ⊎ IsTooLong program b)
not-built-segment program a b same why =
    let P : Segment → Type 0 = λ s. IsNotCovered program ⊎ IsTooLong program s in
    subst P same why

one-no-code : Below → (sources : List Source) (program : Program) (a b : Refusal) → HasNoCode sources program a → HasNoCode sources program b → a ≡ b
one-no-code below sources program a b p q = by p.why q.why
  where
    by : IsTooComplexAt sources program p.segment a ⊎ IsNotBuilt program p.segment a
        → IsTooComplexAt sources program q.segment b ⊎ IsNotBuilt program q.segment b → a ≡ b
    by (inl x) (inl y) =
        x.refusal_is ∙ ap (refused_at sources cause.TooComplex) (one-token below program p.segment x.at y.at x.complex y.complex) ∙ sym y.refusal_is
    by (inr x) (inr y) = x.refusal_is ∙ sym y.refusal_is
    by (inl x) (inr y) = absurd (complex-or-not below program q.segment x.at x.complex y.outside)
    by (inr x) (inl y) = absurd (complex-or-not below program p.segment y.at y.complex x.outside)

one-no-segment : Below → (sources : List Source) (program : Program) (a b : Refusal) → HasNoSegment sources program a → HasNoSegment sources program b → a ≡ b
one-no-segment below sources program a b p q =
    let same = (below.segment program).one p.why q.why p.at q.at p.refused q.refused in
    p.refusal_is ∙ ap (λ w. refused_at sources (segment_cause w) p.at) same.0 ∙ ap (refused_at sources (segment_cause q.why)) same.1 ∙ sym q.refusal_is

one-program-refusal : Below → (sources : List Source) (program : Program) (a b : Refusal)
    → HasNoSegment sources program a ⊎ HasNoCode sources program a → HasNoSegment sources program b ⊎ HasNoCode sources program b → a ≡ b
one-program-refusal below sources program a b (inl p) (inl q) = one-no-segment below sources program a b p q
one-program-refusal below sources program a b (inr p) (inr q) = one-no-code below sources program a b p q
one-program-refusal below sources program a b (inl p) (inr q) = absurd ((below.segment program).no_segment p.why p.at q.segment p.refused q.is_segment)
one-program-refusal below sources program a b (inr p) (inl q) = absurd ((below.segment program).no_segment q.why q.at p.segment q.refused p.is_segment)

made-refused : Below → (sources : List Source) (program : Program) (segment : Segment) (code : Code) (r : Refusal) → SegmentOf program segment
    → IsMade code program segment → HasNoSegment sources program r ⊎ HasNoCode sources program r → ⊥
made-refused below sources program segment code r is made (inl p) = (below.segment program).no_segment p.why p.at segment p.refused is
made-refused below sources program segment code r is made (inr p) = by p.why
  where
    by : IsTooComplexAt sources program p.segment r ⊎ IsNotBuilt program p.segment r → ⊥
    by (inl x) = made-or-not below program segment code (code_error.TooComplex x.at.unit x.at.token) (no-memory x.at.unit x.at.token) made x.complex
    by (inr x) = elim (not-built-segment program p.segment segment (one-segment program p.segment segment p.is_segment is) x.outside) [
      | inl none ↦ made-or-not below program segment code code_error.NotCovered covered-memory made none
      | inr long ↦ made-or-not below program segment code code_error.TooLong long-memory made long
    ]

-- ---- sources

ok-same : (a b : Program) (c : Result Program CheckError) → c ≡ Ok a → c ≡ Ok b → a ≡ b
ok-same a b c p q = cc

ok-or-err : (a : Program) (e : CheckError) (c : Result Program CheckError) → c ≡ Ok a → c ≡ Err e → ⊥
ok-or-err a e c p q = cc

rule-same : (a b : Rule) (i j k l : ℕ) (c : Result Program CheckError) → c ≡ Err (check_error.Rule a i j) → c ≡ Err (check_error.Rule b k l)
    → (a ≡ b) × ((i ≡ k) × (j ≡ l))
rule-same a b i j k l c p q = (cc, (cc, cc))

one-broken-rule : (sources : List Source) (a b : Refusal) → BreakRule sources a → BreakRule sources b → a ≡ b
one-broken-rule sources a b p q =
    let same = rule-same p.rule q.rule p.at.unit p.at.token q.at.unit q.at.token (checked sources) p.broken q.broken in
    let with_unit : ℕ → TokenAt = λ u. record { unit = u; token = p.at.token } in
    let with_token : ℕ → TokenAt = λ t. record { unit = q.at.unit; token = t } in
    let at : p.at ≡ q.at = ap with_unit same.1.0 ∙ ap with_token same.1.1 in
    p.refusal_is ∙ ap (λ r. refused_at sources (cause.Rule r) p.at) same.0 ∙ ap (refused_at sources (cause.Rule q.rule)) at ∙ sym q.refusal_is

one-source-refusal : Below → (sources : List Source) (a b : Refusal)
    → BreakRule sources a ⊎ IsProgramRefused sources a → BreakRule sources b ⊎ IsProgramRefused sources b → a ≡ b
one-source-refusal below sources a b (inl p) (inl q) = one-broken-rule sources a b p q
one-source-refusal below sources a b (inl p) (inr q) = absurd (ok-or-err q.program _ (checked sources) q.typed p.broken)
one-source-refusal below sources a b (inr p) (inl q) = absurd (ok-or-err p.program _ (checked sources) p.typed q.broken)
one-source-refusal below sources a b (inr p) (inr q) =
    let same = ok-same p.program q.program (checked sources) p.typed q.typed in
    let P : Program → Type 0 = λ x. HasNoSegment sources x a ⊎ HasNoCode sources x a in
    one-program-refusal below sources q.program a b (subst P same p.why) q.why

-- ---- the answers

one-refused : Below → (files : List (List ℕ)) (a b : Refusal) → AreRefused files a → AreRefused files b → a ≡ b
one-refused below files a b (inl p) (inl q) = one-wrong-file below files a b p q
one-refused below files a b (inl p) (inr q) = absurd (wrong-and-right below files a q.sources p q.are_sources)
one-refused below files a b (inr p) (inl q) = absurd (wrong-and-right below files b p.sources q p.are_sources)
one-refused below files a b (inr p) (inr q) =
    let same = one-sources below files p.sources q.sources p.are_sources q.are_sources in
    let P : List Source → Type 0 = λ s. BreakRule s a ⊎ IsProgramRefused s a in
    one-source-refusal below q.sources a b (subst P same p.why) q.why

compiled-or-refused : Below → (files : List (List ℕ)) (compiled : Compiled) (r : Refusal) → IsCompiled files compiled → AreRefused files r → ⊥
compiled-or-refused below files compiled r is (inl wrong) = wrong-and-right below files r is.is_program.sources wrong is.is_program.are_sources
compiled-or-refused below files compiled r is (inr p) =
    let same = one-sources below files is.is_program.sources p.sources is.is_program.are_sources p.are_sources in
    let P : List Source → Type 0 = λ s. checked s ≡ Ok compiled.program in
    by (subst P same is.is_program.typed) p.why
  where
    by : checked p.sources ≡ Ok compiled.program → BreakRule p.sources r ⊎ IsProgramRefused p.sources r → ⊥
    by typed (inl broken) = ok-or-err compiled.program _ (checked p.sources) typed broken.broken
    by typed (inr refused) =
        let program = ok-same refused.program compiled.program (checked p.sources) refused.typed typed in
        let Q : Program → Type 0 = λ x. HasNoSegment p.sources x r ⊎ HasNoCode p.sources x r in
        made-refused below p.sources compiled.program compiled.segment compiled.code r is.is_segment is.is_made (subst Q program refused.why)

some-main : (a b : Main) → Some a ≡ Some b → a ≡ b
some-main a b e = cc

one-main : (program : Program) (a b : Main) → program.main ≡ Some a → program.main ≡ Some b → a ≡ b
one-main program a b p q = some-main a b (sym p ∙ q)

alike : Below → (files : List (List ℕ)) (a b : Compiled) → IsCompiled files a → IsCompiled files b → AreAlike a b
alike below files a b p q =
    let sources = one-sources below files p.is_program.sources q.is_program.sources p.is_program.are_sources q.is_program.are_sources in
    let P : List Source → Type 0 = λ s. checked s ≡ Ok a.program in
    let program = ok-same a.program b.program (checked q.is_program.sources) (subst P sources p.is_program.typed) q.is_program.typed in
    let Q : Program → Type 0 = λ x. SegmentOf x a.segment in
    let segment = one-segment b.program a.segment b.segment (subst Q program p.is_segment) q.is_segment in
    let R : Program → Type 0 = λ x. x.main ≡ Some p.is_made.main in
    let main = one-main b.program p.is_made.main q.is_made.main (subst R program p.is_made.ready.main_is) q.is_made.ready.main_is in
    record {
      program = program;
      segment = segment;
      instrs = p.is_made.laid_out.instrs
          ∙ ap (λ x. program_part x a.segment p.is_made.main 0) program
          ∙ ap (λ x. program_part b.program x p.is_made.main 0) segment
          ∙ ap (λ x. program_part b.program b.segment x 0) main
          ∙ sym q.is_made.laid_out.instrs;
    }

pub answers_are_one : Below → AnswersAreOne
answers_are_one below = record { compiled = alike below; refused = one-refused below; apart = compiled-or-refused below }
