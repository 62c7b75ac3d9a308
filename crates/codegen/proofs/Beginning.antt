-- Code that is laid out as a program's begins with the call of `main`.
use Rattle.std.proofs.Common.{◌≡◌, ℕ, ◌+◌, ◌^◌, ◌%◌, ◌≤◌, ◌∙◌, List, [], ◌∷◌, length, take, refl, sym, ap, subst, arith}
use Rattle.std.specs.Prelude.{Option, None, Some, slice_get}
use Rattle.rank_range.specs.Layout.{base_of, globals_start}
use Rattle.rank_range.specs.declared.run.Segment.{Segment}
use Rattle.vm_code.specs.declared.code.Code.{Code}
use Rattle.vm_code.specs.declared.instr.Instr.TheVariants as instr
use Rattle.vm_code.specs.Memory.{opened}
use Rattle.vm_code.specs.Machine.{Stops, start}
use Rattle.c_types.specs.declared.program.Program.{Program}
use Rattle.c_types.specs.declared.program.Main.{Main}
use Rattle.c_model.specs.Statements.{body_of, body_or_none, parameter_count, run_of}
use Rattle.codegen.specs.Statements.{functions_part, entry_at, offset_in, program_part}
use Rattle.codegen.specs.Laws.{LaidOutCodeBegins}
use Rattle.codegen.proofs.Spanning.{Stands, spans_all, spans_first}
use Rattle.codegen.proofs.Meaning.{found, means_program}

rank_is : (segment : Segment) (rank : ℕ) → (opened segment rank).areas.rank ≡ rank
unfolding opened
rank_is segment rank = refl

pub begins_with_main : LaidOutCodeBegins
unfolding program_part
begins_with_main code program segment main main_is code_is covered simple =
    let body = covered.main_body.body in
    let object = offset_in segment in
    let f = covered.function in
    let defined : body_of program main.function ≡ Some body =
    ap (λ o. elim o [ None ↦ None | Some function ↦ Some (body_or_none function.body) ]) covered.function_is ∙ ap (λ b. Some (body_or_none b)) covered.main_body.body_is in
    let sp = spans_all code.instrs (program_part program segment main) code_is.instrs in
    let first = spans_first (Stands code) 0 _ (instr.Call main.function (parameter_count program main.function)) (functions_part object program.functions) sp in
    let there = found object code program.functions 1 _ main.function f covered.function_is first.1 in
    let count : parameter_count program main.function ≡ length body.parameters =
    ap (λ o. elim o [ None ↦ 0 | Some b ↦ length b.parameters ]) defined in
    let few = covered.main_body.few in
    let means = means_program code program segment main main_is code_is covered simple in
    record {
      callee = entry_at there.0 (Some body);
      found = first.0;
      few = omega (arith, count, few);
      there = ap (λ fs. slice_get fs main.function) code_is.functions ∙ there.1 ∙ ap (λ b. Some (entry_at there.0 b)) covered.main_body.body_is;
      goes = λ rank. record {
        stops = λ left answers. (
          (run_of program segment rank answers left).stop,
          (run_of program segment rank answers left).done,
          subst (λ (r : ℕ). Stops code (start (opened segment rank) (take (parameter_count program main.function) (1 ∷ (base_of r + globals_start) % 2 ^ 64 ∷ [])) left answers)
              (run_of program segment rank answers left).stop (run_of program segment rank answers left).done)
              (rank_is segment rank) (means.stops rank left answers),
        );
      };
    }
