use Rattle.std.proofs.Common.{◌≡◌, ℕ, List, take, drop, sym, ap, subst, ◌∙◌, arith}
use Rattle.c_lex.specs.Blanks.{First}
use Rattle.c_lex.specs.Words.{starts_word, IsName}
use Rattle.c_lex.proofs.HeadLaws.{word-len-fits}
use Rattle.c_lex.proofs.ReadLaws.{out-no-name, is-name, name-cut, name-here}
use Rattle.c_lex.proofs.directives.name_at.Goals as goal

pub split_at-requires : goal.split_at-requires
split_at-requires c = omega (arith, word-len-fits c.args.text.now, c.word_len.ensures)

pub returns-then-is_out_word-clause-none : goal.returns-then-is_out_word-clause-none
returns-then-is_out_word-clause-none c = λ w r i n.
    let same : w ≡ c.split_at.result.0.now =
    name-cut c.args.text.now c.split_at.result.0.now w r
    (c.split_at.ensures.front ∙ ap (λ (k : ℕ). take k c.args.text.now) c.word_len.ensures) i in
    let P : List ℕ → Type 0 = λ x. IsName x in
    out-no-name c.split_at.result.0.now (sym c.is_out_word.ensures ∙ c.if-is_out_word.true) (subst P same n)

pub returns-in-Some-clause-none : goal.returns-in-Some-clause-none
returns-in-Some-clause-none c = λ w r i n.
    let same : w ≡ c.split_at.result.0.now =
    name-cut c.args.text.now c.split_at.result.0.now w r
    (c.split_at.ensures.front ∙ ap (λ (k : ℕ). take k c.args.text.now) c.word_len.ensures) i in
    n.no_keyword c.in-Some.field-0 (same ∙ c.in-Some.ensures.some)

pub returns-in-None-clause-some : goal.returns-in-None-clause-some
returns-in-None-clause-some c =
    let P : List ℕ → Type 0 = λ x. First starts_word x in
    let starts : First starts_word c.split_at.result.0.now =
    subst P (sym c.in_ok-first.ensures.cases.0) (sym c.starts_word.ensures ∙ c.if-not-starts_word.false) in (
      name-here c.args.text.now c.split_at.result.0.now c.split_at.result.1.now
          (c.split_at.ensures.front ∙ ap (λ (k : ℕ). take k c.args.text.now) c.word_len.ensures)
          (c.split_at.ensures.back ∙ ap (λ (k : ℕ). drop k c.args.text.now) c.word_len.ensures) starts,
      is-name c.split_at.result.0.now (sym c.is_out_word.ensures ∙ c.if-is_out_word.false) c.in-None.ensures.none,
    )
