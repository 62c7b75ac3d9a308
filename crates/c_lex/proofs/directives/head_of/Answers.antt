use Rattle.std.proofs.Common.{ℕ, ap, ◌∙◌, take, drop, arith}
use Rattle.c_lex.proofs.HeadLaws.{word-len-fits, head-is, head-only}
use Rattle.c_lex.proofs.OneFront.{front-only}
use Rattle.c_lex.proofs.directives.head_of.Goals as goal

pub split_at-requires : goal.split_at-requires
split_at-requires c = omega (arith, word-len-fits c.after_gaps-start.result.now, c.word_len.ensures)

pub returns-clause-is : goal.returns-clause-is
returns-clause-is c =
    head-is c.args.text.now c.after_gaps-start.result.now c.split_at.result.0.now c.split_at.result.1.now c.after_gaps-start.ensures.gaps
    (c.split_at.ensures.front ∙ ap (λ (n : ℕ). take n c.after_gaps-start.result.now) c.word_len.ensures)
    (c.split_at.ensures.back ∙ ap (λ (n : ℕ). drop n c.after_gaps-start.result.now) c.word_len.ensures)

pub returns-clause-only : goal.returns-clause-only
returns-clause-only c = λ w r h.
    head-only front-only c.args.text.now c.after_gaps-start.result.now c.split_at.result.0.now c.split_at.result.1.now w r
    c.after_gaps-start.ensures.gaps c.after_gaps-start.ensures.none
    (c.split_at.ensures.front ∙ ap (λ (n : ℕ). take n c.after_gaps-start.result.now) c.word_len.ensures)
    (c.split_at.ensures.back ∙ ap (λ (n : ℕ). drop n c.after_gaps-start.result.now) c.word_len.ensures) h
