use Rattle.std.proofs.Common.{arith}
use Rattle.std.proofs.lemmas.List.Sums.{prefix_len-le-length}
use Rattle.schedule.specs.Grammar.{is_blank, is_solid}
use Rattle.schedule.proofs.words.word_at.Goals as goal

pub split_at-requires : goal.split_at-requires
split_at-requires c = omega (arith, c.blank_len.ensures, prefix_len-le-length is_blank c.args.line.now)

pub split_at-requires-2 : goal.split_at-requires-2
split_at-requires-2 c = omega (arith, c.word_len.ensures, prefix_len-le-length is_solid c.split_at.result.1.now)
