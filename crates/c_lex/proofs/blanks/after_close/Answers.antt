use Rattle.std.proofs.Common.{sym, ap, ◌∙◌}
use Rattle.c_lex.specs.Reading.{after_star_slash, after_close}
use Rattle.c_lex.proofs.GapLaws.{after_close-ends, after_close-goes_on, after_close-nothing}
use Rattle.c_lex.proofs.blanks.after_close.Goals as goal

pub returns-in-Some-after_star_slash : goal.returns-in-Some-after_star_slash
returns-in-Some-after_star_slash c = sym (after_close-ends _ _ (sym c.in-Some-after_star_slash.ensures)) ∙ c.close.invariant

pub close-preserved : goal.close-preserved
close-preserved c =
    let first = c.in-Some.ensures.cases.0 in
    sym (after_close-goes_on c.in-Some.field-0-0.now c.in-Some.behind.now
    (ap after_star_slash (sym first) ∙ sym c.in_default-after_star_slash.ensures))
    ∙ ap after_close (sym first) ∙ c.close.invariant

pub returns : goal.returns
returns c = sym (after_close-nothing _ c.in_default.ensures.cases) ∙ c.close.invariant
