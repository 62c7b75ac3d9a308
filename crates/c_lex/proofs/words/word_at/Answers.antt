use Rattle.std.proofs.Common.{sym, ap, ◌∙◌, arith}
use Rattle.std.proofs.lemmas.List.Sums.{prefix_len-le-length}
use Rattle.c_lex.specs.Words.{continues_word}
use Rattle.c_lex.specs.Faults.{OutWord}
use Rattle.c_lex.specs.Tokens.{Fault}
use Rattle.c_lex.proofs.WordFronts.{cut-out-word, cut-lexeme}
use Rattle.c_lex.proofs.words.word_at.Goals as goal

pub split_at-requires : goal.split_at-requires
split_at-requires c = omega (arith, c.word_len.ensures, prefix_len-le-length continues_word c.args.text.now)

pub returns-then-is_out_word-clause-wrong : goal.returns-then-is_out_word-clause-wrong
returns-then-is_out_word-clause-wrong c = (
  OutWord,
  0,
  cut-out-word c.args.text.now c.split_at.result.0.now c.split_at.result.1.now c.word_len.result c.requires.letter
      c.word_len.ensures c.split_at.ensures.front c.split_at.ensures.back (sym c.is_out_word.ensures ∙ c.if-is_out_word.true),
  ap (Fault OutWord) (omega arith),
)

pub returns-clause-seen : goal.returns-clause-seen
returns-clause-seen c =
    cut-lexeme c.args.text.now c.split_at.result.0.now c.split_at.result.1.now c.word_len.result c.in_ok-lexeme.lexeme c.requires.letter
    c.word_len.ensures c.split_at.ensures.front c.split_at.ensures.back (sym c.is_out_word.ensures ∙ c.if-is_out_word.false)
    c.in_ok-lexeme.ensures
