-- Which answers there are.
use Rattle.std.proofs.Common.{◌≡◌, ◌⊎◌, inl, inr, ℕ, ◌<◌, ◌≤◌, ◌^◌, Bool, true, false, map, length, refl, sym, ap, ◌∙◌, subst, arith}
use Rattle.std.specs.Prelude.{Option, None, Some, Result, Ok, Err, slice_get, nat_le, ◌&&◌, MatchBool}
use Rattle.std.proofs.lemmas.Bool.Decides.{leb_tells}
use Rattle.rank_range.specs.declared.run.Segment.{Segment}
use Rattle.vm_code.specs.declared.code.Code.{Code}
use Rattle.c_types.specs.declared.program.Program.{Program}
use Rattle.c_types.specs.declared.program.Main.{Main}
use Rattle.c_types.specs.declared.program.Body.{Body}
use Rattle.c_types.specs.declared.program.Function.{Function}
use Rattle.c_types.specs.declared.program.TokenAt.{TokenAt}
use Rattle.c_types.specs.Need.{IsSimple, IsTooComplex}
use Rattle.codegen.specs.declared.error.GenError.{GenError}
use Rattle.codegen.specs.declared.error.GenError.TheVariants.{TooComplex, NoMain, NotCovered, TooLong, Memory}
use Rattle.codegen.specs.Statements.{entries_from, offset_in, program_part, IsCodeOf}
use Rattle.codegen.specs.Covered.{all_true, function_covered, IsCovered}
use Rattle.codegen.specs.Checking.{found_in_all}
use Rattle.codegen.specs.Answers.{IsReady, IsMade, IsTooLong, IsNotCovered, Refuses, Answers}
use Rattle.codegen.proofs.Bounding.{loops_tick}
use Rattle.codegen.proofs.Meaning.{means_program}
use Rattle.codegen.proofs.Covering.{main_covered, main_body, no_body}
use Rattle.codegen.proofs.Least.{found_is_first}

-- ---- a refusal that is true is answered

same_main : (program : Program) (a b : Main) → program.main ≡ Some a → program.main ≡ Some b → a ≡ b
same_main program a b x y = let e : Some a ≡ Some b = sym x ∙ y in cc (e)

no_main : (program : Program) (a : Main) → program.main ≡ None → program.main ≡ Some a → ⊥
no_main program a x y = let e : None ≡ Some a = sym x ∙ y in cc (e)

-- two first tokens are one
same_token : (u v x y : ℕ) → (u < v) ⊎ ((u ≡ v) × (x ≤ y)) → (v < u) ⊎ ((v ≡ u) × (y ≤ x)) → (u ≡ v) × (x ≡ y)
same_token u v x y (inl a) (inl b) = absurd (omega (arith, a, b))
same_token u v x y (inl a) (inr b) = let e = b.0 in absurd (omega (arith, a, e))
same_token u v x y (inr a) (inl b) = let e = a.0 in absurd (omega (arith, e, b))
same_token u v x y (inr a) (inr b) = let e = a.1 in let f = b.1 in (a.0, omega (arith, e, f))

too_complex_once : (program : Program) (u v x y : ℕ) → IsTooComplex program (record { unit = u; token = x }) → IsTooComplex program (record { unit = v; token = y })
    → TooComplex u x ≡ TooComplex v y
too_complex_once program u v x y a b =
    let same = same_token u v x y (a.first (record { unit = v; token = y }) b.past) (b.first (record { unit = u; token = x }) a.past) in
    ap (λ n. TooComplex n x) same.0 ∙ ap (λ n. TooComplex v n) same.1

is_too_complex : (program : Program) (at : TokenAt) → IsSimple program → IsTooComplex program at → ⊥
is_too_complex program at simple complex = simple at complex.past

not_covered : (program : Program) (main : Main) → IsReady program main → IsNotCovered program → ⊥
not_covered program main ready cause = cause.not_covered (subst (IsCovered program) (same_main program main cause.main ready.main_is cause.main_is) ready.covered)

-- a program that is ready is refused for its length or for want of memory
ready_refused : (program : Program) (segment : Segment) (main : Main) (e : GenError) → IsReady program main → Refuses program segment e → (e ≡ TooLong) ⊎ (e ≡ Memory)
ready_refused program segment main (TooComplex unit token) ready cause = absurd (is_too_complex program _ ready.simple cause)
ready_refused program segment main NoMain ready cause = absurd (no_main program main cause.1 ready.main_is)
ready_refused program segment main NotCovered ready cause = absurd (not_covered program main ready cause)
ready_refused program segment main TooLong ready cause = inl refl
ready_refused program segment main Memory ready cause = inr refl

-- code that is made isn't too long
short_enough : (program : Program) (segment : Segment) (code : Code) → IsMade code program segment → IsTooLong program segment → ⊥
short_enough program segment code made cause =
    let same : length code.instrs ≡ length (program_part program segment cause.main 0) =
    ap length made.laid_out.instrs ∙ ap (λ m. length (program_part program segment m 0)) (same_main program made.main cause.main made.ready.main_is cause.ready.main_is) in
    let short = code.short in
    let long = cause.long in
    omega (arith, same, short, long)

made_refused : (program : Program) (segment : Segment) (code : Code) (e : GenError) → IsMade code program segment → Refuses program segment e → e ≡ Memory
made_refused program segment code e made cause = last (ready_refused program segment made.main e made.ready cause)
  where
    last : (e ≡ TooLong) ⊎ (e ≡ Memory) → e ≡ Memory
    last (inl long) = absurd (short_enough program segment code made (subst (Refuses program segment) long cause))
    last (inr memory) = memory

-- two refusals that don't tell of memory are one
one_refusal : (program : Program) (segment : Segment) (a e : GenError) → Refuses program segment a → Refuses program segment e → (a ≡ e) ⊎ ((a ≡ Memory) ⊎ (e ≡ Memory))
one_refusal program segment (TooComplex u x) (TooComplex v y) p q = inl (too_complex_once program u v x y p q)
one_refusal program segment (TooComplex u x) NoMain p q = absurd (is_too_complex program _ q.0 p)
one_refusal program segment (TooComplex u x) NotCovered p q = absurd (is_too_complex program _ q.simple p)
one_refusal program segment (TooComplex u x) TooLong p q = absurd (is_too_complex program _ q.ready.simple p)
one_refusal program segment (TooComplex u x) Memory p q = inr (inr refl)
one_refusal program segment NoMain (TooComplex v y) p q = absurd (is_too_complex program _ p.0 q)
one_refusal program segment NoMain NoMain p q = inl refl
one_refusal program segment NoMain NotCovered p q = absurd (no_main program q.main p.1 q.main_is)
one_refusal program segment NoMain TooLong p q = absurd (no_main program q.main p.1 q.ready.main_is)
one_refusal program segment NoMain Memory p q = inr (inr refl)
one_refusal program segment NotCovered (TooComplex v y) p q = absurd (is_too_complex program _ p.simple q)
one_refusal program segment NotCovered NoMain p q = absurd (no_main program p.main q.1 p.main_is)
one_refusal program segment NotCovered NotCovered p q = inl refl
one_refusal program segment NotCovered TooLong p q = absurd (not_covered program q.main q.ready p)
one_refusal program segment NotCovered Memory p q = inr (inr refl)
one_refusal program segment TooLong (TooComplex v y) p q = absurd (is_too_complex program _ p.ready.simple q)
one_refusal program segment TooLong NoMain p q = absurd (no_main program p.main q.1 p.ready.main_is)
one_refusal program segment TooLong NotCovered p q = absurd (not_covered program p.main p.ready q)
one_refusal program segment TooLong TooLong p q = inl refl
one_refusal program segment TooLong Memory p q = inr (inr refl)
one_refusal program segment Memory e p q = inr (inl refl)

abbrev refusal : GenError → Result Code GenError
refusal e = Err e

pub refusals_answered : (program : Program) (segment : Segment) (answer : Result Code GenError) (e : GenError) → Answers program segment answer → Refuses program segment e
    → (e ≡ Memory → ⊥) → (answer ≡ Err e) ⊎ (answer ≡ Err Memory)
refusals_answered program segment (Ok code) e p q other = absurd (other (made_refused program segment code e p q))
refusals_answered program segment (Err a) e p q other = last (one_refusal program segment a e p q)
  where
    last : (a ≡ e) ⊎ ((a ≡ Memory) ⊎ (e ≡ Memory)) → (refusal a ≡ refusal e) ⊎ (refusal a ≡ refusal Memory)
    last (inl same) = inl (ap refusal same)
    last (inr (inl memory)) = inr (ap refusal memory)
    last (inr (inr memory)) = absurd (other memory)

-- ---- there is an answer

abbrev Other : Program → Segment → Type 0
Other program segment = (answer : Result Code GenError) × Answers program segment answer × (answer ≡ Err Memory → ⊥)

-- the code of a program whose code isn't too long
code_of : (program : Program) (segment : Segment) (main : Main) → length (program_part program segment main 0) < 2 ^ 32 → Code
code_of program segment main short = record {
  instrs = program_part program segment main 0;
  functions = entries_from (offset_in segment) 1 program.functions;
  unit = main.unit;
  line = main.line;
  bounded = ∣ loops_tick (program_part program segment main 0) program segment main refl ∣₁;
  short = short;
}

code_is : (program : Program) (segment : Segment) (main : Main) (short : length (program_part program segment main 0) < 2 ^ 32) → IsCodeOf (code_of program segment main short) program segment main
unfolding code_of
code_is program segment main short = record { instrs = refl; functions = refl; unit_is = refl; line_is = refl }

with_length : (program : Program) (segment : Segment) (main : Main) (n : ℕ) → n ≡ length (program_part program segment main 0) → IsReady program main
    → ((nat_le 4294967296 n ≡ true) × (4294967296 ≤ n)) ⊎ ((nat_le 4294967296 n ≡ false) × (n < 4294967296)) → Other program segment
with_length program segment main n n_is ready (inl long) =
    (Err TooLong, record { main = main; ready = ready; long = let l = long.1 in omega (arith, l, n_is) }, λ e. cc (e))
with_length program segment main n n_is ready (inr short) =
    let less : length (program_part program segment main 0) < 2 ^ 32 = let l = short.1 in omega (arith, l, n_is) in
    let laid = code_is program segment main less in (
      Ok (code_of program segment main less),
      record { main = main; ready = ready; laid_out = laid; means = means_program (code_of program segment main less) program segment main ready.main_is laid ready.covered ready.simple },
      λ e. cc (e),
    )

covered_or_not : (program : Program) (main : Main) → IsCovered program main ⊎ (IsCovered program main → ⊥)
covered_or_not program main = by_function (slice_get program.functions main.function) refl
  where
    tell : (r : Bool) → MatchBool r (IsCovered program main) (IsCovered program main → ⊥) → IsCovered program main ⊎ (IsCovered program main → ⊥)
    tell true h = inl h
    tell false h = inr h

    by_body : (f : Function) (o : Option Body) → slice_get program.functions main.function ≡ Some f → f.body ≡ o → IsCovered program main ⊎ (IsCovered program main → ⊥)
    by_body f None is none =
        let all = all_true (map (function_covered program.functions) program.functions) in
        tell false (main_covered program main f false all false is (no_body f.body none) refl refl)
    by_body f (Some body) is some =
        let few = nat_le (length body.parameters) 2 in
        let all = all_true (map (function_covered program.functions) program.functions) in
        tell (few && all) (main_covered program main f few all (few && all) is (main_body f.body body (length body.parameters) few some refl refl) refl refl)

    by_function : (o : Option Function) → slice_get program.functions main.function ≡ o → IsCovered program main ⊎ (IsCovered program main → ⊥)
    by_function None is = inr (λ c. let e : None ≡ Some c.function = sym is ∙ c.function_is in cc (e))
    by_function (Some f) is = by_body f f.body is refl

with_main : (program : Program) (segment : Segment) (o : Option Main) → program.main ≡ o → IsSimple program → Other program segment
with_main program segment None is simple = (Err NoMain, (simple, is), λ e. cc (e))
with_main program segment (Some main) is simple = told (covered_or_not program main)
  where
    told : IsCovered program main ⊎ (IsCovered program main → ⊥) → Other program segment
    told (inl covered) =
        let n = length (program_part program segment main 0) in
        with_length program segment main n refl (record { simple = simple; main_is = is; covered = covered }) (leb_tells 4294967296 n)
    told (inr not) = (Err NotCovered, record { simple = simple; main = main; main_is = is; not_covered = not }, λ e. cc (e))

pub some_answer : (program : Program) (segment : Segment) → (answer : Result Code GenError) × Answers program segment answer × (answer ≡ Err Memory → ⊥)
some_answer program segment = by_found (found_in_all None program.functions) refl
  where
    by_found : (o : Option TokenAt) → o ≡ found_in_all None program.functions → Other program segment
    by_found (Some at) is =
        let first = found_is_first program (Some at) is in
        (Err (TooComplex at.unit at.token), record { past = first.0; first = first.1 }, λ e. cc (e))
    by_found None is = with_main program segment program.main refl (found_is_first program None is)
