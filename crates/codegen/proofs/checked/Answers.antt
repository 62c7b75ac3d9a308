use Rattle.std.proofs.Common.{ap, ◌∙◌}
use Rattle.std.specs.Prelude.{None}
use Rattle.std.proofs.lemmas.Bool.Decides.{when_true, when_false}
use Rattle.codegen.specs.Checking.{found_in_all}
use Rattle.codegen.proofs.Generating.{too_complex, simple}
use Rattle.codegen.proofs.checked.Goals as goal

pub returns-in-Some : goal.returns-in-Some
returns-in-Some c = too_complex c.args.program.now c.first_past.result _ (c.first_past.ensures ∙ ap (found_in_all None) c.as_slice.ensures) c.in-Some.is

pub returns-in_default-main : goal.returns-in_default-main
returns-in_default-main c =
    (simple c.args.program.now c.first_past.result (c.first_past.ensures ∙ ap (found_in_all None) c.as_slice.ensures) c.in_default.is, c.in_default-main.is)

pub returns-then-not-covers_main : goal.returns-then-not-covers_main
returns-then-not-covers_main c = record {
  simple = simple c.args.program.now c.first_past.result (c.first_past.ensures ∙ ap (found_in_all None) c.as_slice.ensures) c.in_default.is;
  main = c.in-Some-main.main;
  main_is = c.in-Some-main.is;
  not_covered = when_false _ _ c.if-not-covers_main.true c.covers_main.ensures;
}

pub returns : goal.returns
returns c = record {
  simple = simple c.args.program.now c.first_past.result (c.first_past.ensures ∙ ap (found_in_all None) c.as_slice.ensures) c.in_default.is;
  main_is = c.in-Some-main.is;
  covered = when_true _ _ c.if-not-covers_main.false c.covers_main.ensures;
}
