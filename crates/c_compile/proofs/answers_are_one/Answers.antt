use Rattle.c_compile.proofs.OnceLaws.{answers_are_one}
use Rattle.c_compile.proofs.answers_are_one.Goals as goal

pub returns : goal.returns
returns c = answers_are_one (record {
  lexed = c.one_answer.ensures.only;
  one_unit = c.one_unit.ensures;
  goes_on = c.one_refusal.ensures.goes_on;
  one_refusal = c.one_refusal.ensures.one;
  segment = c.refusal_is_one.ensures;
  code = c.refusals_are_answered.ensures;
})
