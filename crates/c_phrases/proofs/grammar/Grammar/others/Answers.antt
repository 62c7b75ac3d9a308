use Rattle.std.proofs.Common.{rules, ◌≡◌, ◌<◌, true, false, sym, ◌∙◌, arith}
use Rattle.c_lex.specs.declared.token.Mark.TheVariants as mark
use Rattle.c_grammar.specs.Reading.{sees_mark}
use Rattle.c_grammar.specs.Nests.{most, state_of}
use Rattle.c_phrases.proofs.ExprSteps.{passed_on, others_too_long, other_fails, others_go, others_end}
use Rattle.c_phrases.proofs.grammar.Grammar.others.Goals as goal

pub returns-then-spare-eq0-clause-reads : goal.returns-then-spare-eq0-clause-reads
returns-then-spare-eq0-clause-reads g c =
    let none : c.others.spare ≡ 0 = omega arith in
    let sees : sees_mark mark.Comma c.others.cursor.rest.now ≡ true = sym c.sees_mark.ensures ∙ c.others-test.true in
    others_too_long c.args.cursor.now.total c.others.cursor.total most c.args.self.now.room c.others.spare c.others.front (state_of c.others.cursor) _
    c.others.invariant.total c.others.invariant.same _ none sees c.too_long.ensures

pub returns-in_err-other-clause-reads : goal.returns-in_err-other-clause-reads
returns-in_err-other-clause-reads g c =
    let more : 0 < c.others.spare = omega arith in
    let sees : sees_mark mark.Comma c.others.cursor.rest.now ≡ true = sym c.sees_mark.ensures ∙ c.others-test.true in
    passed_on _ _ _ _ c.from_residual.ensures.1
    (other_fails c.args.cursor.now.total c.others.cursor.total most c.args.self.now.room c.others.spare c.others.front (state_of c.others.cursor) _
    c.others.invariant.total c.others.invariant.same _ c.skip.new.self.total (state_of c.skip.new.self) more sees c.skip.ensures.total c.skip.ensures.behind c.in_err-other.ensures.reads)

pub others-preserved : goal.others-preserved
others-preserved g c =
    let more : 0 < c.others.spare = omega arith in
    let sees : sees_mark mark.Comma c.others.cursor.rest.now ≡ true = sym c.sees_mark.ensures ∙ c.others-test.true in
    record {
      total = c.in_ok-other.ensures.total ∙ c.skip.ensures.total ∙ c.others.invariant.total;
      same =
          others_go c.args.cursor.now.total c.others.cursor.total most c.args.self.now.room c.others.spare c.others.front (state_of c.others.cursor) _
          c.others.invariant.total c.others.invariant.same c.skip.new.self.total (state_of c.skip.new.self) (state_of c.assign.new.cursor) c.in_ok-other.other c.push.new.self
          more sees c.skip.ensures.total c.skip.ensures.behind c.in_ok-other.ensures.reads (search (rules, c.in_ok-push.ensures.ok));
    }

pub returns-clause-reads : goal.returns-clause-reads
returns-clause-reads g c =
    let sees : sees_mark mark.Comma c.others.cursor.rest.now ≡ false = sym c.sees_mark.ensures ∙ c.others-test.false in
    others_end c.args.cursor.now.total c.others.cursor.total most c.args.self.now.room c.others.spare c.others.front (state_of c.others.cursor) _
    c.others.invariant.total c.others.invariant.same sees
