use Rattle.std.proofs.Common.{◌+◌, ◌∙◌, sym, ap, Err, List, ℕ, refl, subst, take, map, string_bytes}
use Rattle.ampi.specs.Sources.{AreLoaded}
use Rattle.ampi.proofs.AnswerLemmas.{reached-at, one-more-loaded, same-err}
use Rattle.ampi.proofs.loading.load_files.Goals as goal

pub returns-in-Err-clause-told : goal.returns-in-Err-clause-told
returns-in-Err-clause-told g c = λ words journal asks.
    let before = c.loop-at.invariant in
    let reached = reached-at _ string_bytes c.args.names.now c.loop-at.at c.index-names-at.result c.as_str.result.now c.loop-at.texts.items
    c.loop-at-test.true c.index-names-at.is c.as_str.ensures.value before.loaded in
    rw (before.held, before.faults, before.written) at (c.in-Err.ensures.told words journal (map string_bytes c.args.names.now) asks
    (rw before.held reached))

pub returns-in-Err-clause-kept : goal.returns-in-Err-clause-kept
returns-in-Err-clause-kept g c = λ no. c.in-Err.ensures.kept (λ e. no (ap Err (same-err _ _ _ _ refl refl e))) ∙ c.loop-at.invariant.kept

pub loop-at-preserved : goal.loop-at-preserved
loop-at-preserved g c =
    let before = c.loop-at.invariant in
    let P : List (List ℕ) → Type 0 = λ texts. AreLoaded (g.F.Files.held c.args.files.now) (take (c.loop-at.at + 1) (map string_bytes c.args.names.now)) texts in
    record {
      loaded = subst P (sym c.in_default.ensures.loaded.2) (one-more-loaded _ string_bytes c.args.names.now c.loop-at.at c.index-names-at.result
          c.as_str.result.now c.loop-at.texts.items c.in_default.ensures.loaded.0 c.loop-at-test.true c.index-names-at.is c.as_str.ensures.value
          before.loaded (rw before.held at c.in_default.ensures.loaded.1));
      held = c.in_default.ensures.same.0 ∙ before.held;
      faults = c.in_default.ensures.same.1 ∙ before.faults;
      written = c.in_default.ensures.quiet ∙ before.written;
      kept = c.in_default.ensures.kept (λ e. absurd cc) ∙ before.kept;
    }
