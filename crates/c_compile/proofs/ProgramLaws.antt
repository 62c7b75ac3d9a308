-- What the steps from files to code tell.
use Rattle.std.proofs.Common.{◌≡◌, ℕ, suc, get_or, ◌^◌, ◌+◌, ◌≤◌, ◌<◌, ◌⊎◌, List, [], ◌∷◌, ◌++◌, length, take, drop, Result, Ok, Err, refl, sym, ap, subst, ◌∙◌, arith, inl, inr}
use Rattle.std.proofs.Math.Seq.{drop-cons}
use Rattle.std.proofs.lemmas.List.{take-append-drop, take_more, length-take-le}
use Rattle.std.proofs.lemmas.Slice.Zip.{all_zipped_more}
use Rattle.std.specs.List.{AllByRecursion}
use Rattle.rank_range.specs.declared.run.Segment.{Segment}
use Rattle.c_types.specs.declared.program.Program.{Program}
use Rattle.c_types.specs.Segment.{SegmentOf}
use Rattle.c_types.specs.Segment as segment_refusal
use Rattle.c_check.specs.declared.units.Source.{Source}
use Rattle.c_check.specs.declared.units.CheckError.{CheckError}
use Rattle.c_check.specs.declared.units.CheckError.TheVariants as check_error
use Rattle.c_check.specs.Units.{checked, Tells}
use Rattle.privatise.specs.declared.error.SegError.{SegError}
use Rattle.privatise.specs.declared.error.SegError.TheVariants as segment_error
use Rattle.privatise.specs.Answers.{IsWhy as IsWhySegment}
use Rattle.codegen.specs.declared.error.GenError.{GenError}
use Rattle.codegen.specs.declared.error.GenError.TheVariants as code_error
use Rattle.codegen.specs.Answers.{Refuses as RefusesCode}
use Rattle.c_compile.specs.declared.error.TextError.{TextError}
use Rattle.c_compile.specs.declared.error.TextError.TheVariants as text_error
use Rattle.c_compile.specs.declared.error.CompileError.{CompileError}
use Rattle.c_compile.specs.declared.error.CompileError.TheVariants.{Refused, Memory}
use Rattle.c_compile.specs.declared.compiled.Compiled.{Compiled}
use Rattle.c_compile.specs.Texts.{IsSource, IsWhyNot}
use Rattle.c_compile.specs.Programs.{token_at, AreSources, IsWhyOfFiles, IsWhyOfSources, IsWhyOfProgram, IsMadeWith, IsMadeOf, IsCompiled, IsWhy, AreShort, told_of_file, told_by_check, told_of_segment, told_of_code}

-- ---- a file

pub file-tells : (before behind : List (List ℕ)) (text : List ℕ) (sources : List Source) (unit : ℕ) (e : TextError)
    → AreSources before sources → unit ≡ length before → IsWhyNot text e
    → IsWhyOfFiles (before ++ text ∷ behind) (told_of_file unit e)
file-tells before behind text sources unit (text_error.Wrong why line) are same h = record {
  before = before;
  text = text;
  behind = behind;
  sources = sources;
  files_are = refl;
  are_sources = are;
  unit_is = same;
  wrong = h;
}
file-tells before behind text sources unit text_error.Memory are same h = tt

-- ---- a rule

pub check-tells : (sources : List Source) (e : CheckError) → Tells (Err e) (checked sources) → IsWhyOfSources sources (told_by_check sources e)
check-tells sources (check_error.Rule rule unit token) h =
    inl (record { rule = rule; at = token_at unit token; broken = h; refusal_is = refl })
check-tells sources check_error.Memory h = tt

-- ---- a segment

pub segment-tells : (sources : List Source) (program : Program) (e : SegError) → IsWhySegment program e
    → IsWhyOfProgram sources program (told_of_segment sources e)
segment-tells sources program (segment_error.TooLarge unit token) h =
    inl (record { why = segment_refusal.TooLarge; at = token_at unit token; refused = h; refusal_is = refl })
segment-tells sources program (segment_error.Undefined unit token) h =
    inl (record { why = segment_refusal.Undefined; at = token_at unit token; refused = h; refusal_is = refl })
segment-tells sources program (segment_error.Twice unit token) h =
    inl (record { why = segment_refusal.Twice; at = token_at unit token; refused = h; refusal_is = refl })
segment-tells sources program segment_error.Memory h = tt

-- ---- code

pub code-tells : (sources : List Source) (program : Program) (segment : Segment) (e : GenError) → SegmentOf program segment
    → RefusesCode program segment e → IsWhyOfProgram sources program (told_of_code sources e)
code-tells sources program segment (code_error.TooComplex unit token) s h = inr (record {
  segment = segment;
  is_segment = s;
  why = inl (record { at = token_at unit token; complex = h; refusal_is = refl });
})
code-tells sources program segment code_error.NoMain s h =
    absurd (s.accepted segment_refusal.Undefined (token_at 0 0) (inr (h.1, refl)))
code-tells sources program segment code_error.NotCovered s h = inr (record {
  segment = segment;
  is_segment = s;
  why = inr (record { outside = inl h; refusal_is = refl });
})
code-tells sources program segment code_error.TooLong s h = inr (record {
  segment = segment;
  is_segment = s;
  why = inr (record { outside = inr h; refusal_is = refl });
})
code-tells sources program segment code_error.Memory s h = tt

-- ---- one of a list's items

behind-others : {A : Type 0} (P : A → Type 0) (before behind : List A) (x : A) → AllByRecursion P (before ++ x ∷ behind) → P x
behind-others P [] behind x q = q.0
behind-others P (y ∷ before) behind x q = behind-others P before behind x q.1

pub split-at : {A : Type 0} (xs : List A) (i : ℕ) (x : A) → i < length xs → x ≡ get_or xs i x → xs ≡ take i xs ++ x ∷ drop (suc i) xs
split-at xs i x p e =
    sym (take-append-drop i xs)
    ∙ ap (λ ys. take i xs ++ ys) (drop-cons xs i x p ∙ ap (λ y. y ∷ drop (suc i) xs) (sym e))

pub is-short : (files : List (List ℕ)) (i : ℕ) (text : List ℕ) → i < length files → text ≡ get_or files i text → AreShort files → length text < 2 ^ 31
is-short files i text p e q =
    behind-others (λ (t : List ℕ). length t < 2 ^ 31) (take i files) (drop (suc i) files) text
    (subst (λ (fs : List (List ℕ)). AreShort fs) (split-at files i text p e) q)

pub one-more-source : (files : List (List ℕ)) (i : ℕ) (text : List ℕ) (sources : List Source) (source : Source) → i < length files
    → text ≡ get_or files i text → AreSources (take i files) sources → IsSource text source → AreSources (take (i + 1) files) (sources ++ source ∷ [])
one-more-source files i text sources source p e are is =
    let same : take (i + 1) files ≡ take i files ++ text ∷ [] =
    take_more files i text p ∙ ap (λ (t : List ℕ). take i files ++ t ∷ []) (sym e) in
    subst (λ (fs : List (List ℕ)). AreSources fs (sources ++ source ∷ [])) (sym same)
    (all_zipped_more IsSource (take i files) sources text source are is)

pub file-at-tells : (files : List (List ℕ)) (i : ℕ) (text : List ℕ) (sources : List Source) (unit : ℕ) (e : TextError) → i < length files
    → text ≡ get_or files i text → AreSources (take i files) sources → unit ≡ i → IsWhyNot text e → IsWhyOfFiles files (told_of_file unit e)
file-at-tells files i text sources unit e p same are unit_is h =
    let long : length (take i files) ≡ i = length-take-le i files (omega (arith, p)) in
    subst (λ (fs : List (List ℕ)). IsWhyOfFiles fs (told_of_file unit e)) (sym (split-at files i text p same))
    (file-tells (take i files) (drop (suc i) files) text sources unit e are (unit_is ∙ sym long) h)

pub read-as : (files : List (List ℕ)) (i : ℕ) (a b : List ℕ) → a ≡ b → b ≡ get_or files i b → a ≡ get_or files i a
read-as files i a b p q = subst (λ (x : List ℕ). x ≡ get_or files i x) (sym p) q
