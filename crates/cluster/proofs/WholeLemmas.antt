-- A whole run.
use Rattle.std.proofs.Common.{ℕ, ◌≡◌, List, [], ◌∷◌, ◌++◌, length, refl, sym, ap, ◌∙◌, subst, Result, Ok, Err, IfOk}
use Rattle.std.specs.Prelude.{replicate}
use Rattle.std.specs.List.{flat_map}
use Rattle.mpi_types.specs.declared.entries.Entry.{Entry}
use Rattle.mpi_types.specs.declared.entries.Entry.TheVariants.{Commit}
use Rattle.w_model.specs.World.{Setting, world_of, start_world}
use Rattle.w_model.specs.Cut.{rank_numbers}
use Rattle.w_model.specs.Texts.{end_at, rank_line_at, end_line}
use Rattle.mpi_types.specs.Journal.{run_lines}
use Rattle.mpi_types.specs.Runs.{runs_of}
use Rattle.w_model.specs.Drain.{IsDrain}
use Rattle.w_model.proofs.DrainLemmas.{marked-whole}
use Rattle.vm_code.specs.declared.code.Code.{Code}
use Rattle.cluster.specs.declared.rank.Rank.{Rank}
use Rattle.cluster.specs.declared.told.Told.{Told}
use Rattle.cluster.specs.Group.{Stand, AddsDrain}
use Rattle.cluster.specs.Told.{on_first, Tells, TellsOfRun}

-- what is told of ranks after a drain from the start
tells-of-drain : (files : List (List ℕ)) (s : Setting) (h whole : List Entry) (told : Told) → IsDrain s start_world h → whole ≡ h ++ Commit ∷ []
    → Tells files s h whole told → TellsOfRun files s told
tells-of-drain files s h whole told drain whole_is tells =
    let is_whole = marked-whole s h drain in
    record {
      body = h;
      drained = drain;
      journal = tells.journal ∙ ap (λ x. run_lines (runs_of x)) whole_is;
      lines = tells.lines ∙ sym is_whole.released;
      report = tells.report
          ∙ ap (λ w. flat_map (rank_line_at files s w on_first) (rank_numbers s) ++ end_line (end_at s w)) (sym is_whole.same_world);
      end = tells.end ∙ ap (end_at s) (sym is_whole.same_world);
    }

pub tells-of-run : {E : Type 0} (r : Result Told E) (code : Code) (files : List (List ℕ)) (s : Setting) (ranks : List Rank) (old h whole : List Entry)
    → old ≡ [] → AddsDrain code s old ranks h → whole ≡ h ++ replicate 1 Commit
    → IfOk r (λ told. (code : Code) (t : Setting) (h : List Entry) → t.bound ≡ s.bound → Stand code t ranks h → Tells files t h whole told)
    → IfOk r (TellsOfRun files s)
tells-of-run (Ok told) code files s ranks old h whole old_is adds whole_is tells =
    let all : h ≡ adds.added = adds.new_is ∙ ap (λ x. x ++ adds.added) old_is in
    let P : List Entry → Type 0 = λ x. IsDrain s (world_of x) adds.added in
    let Q : List Entry → Type 0 = λ x. IsDrain s start_world x in
    tells-of-drain files s h whole told (subst Q (sym all) (subst P old_is adds.drain)) whole_is (tells code s h refl adds.stand)
tells-of-run (Err e) code files s ranks old h whole old_is adds whole_is tells = tt
