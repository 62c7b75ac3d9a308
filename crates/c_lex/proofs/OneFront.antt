-- Just one thing stands at the front of a text.
use Rattle.std.proofs.Common.{sym, ◌∙◌}
use Rattle.c_lex.specs.Words.{starts_word}
use Rattle.c_lex.specs.Literals.{is_digit}
use Rattle.c_lex.specs.Fronts.{HasFront, IsOneFront, TakesBytes}
use Rattle.c_lex.specs.WordVerdicts.{word_front}
use Rattle.c_lex.specs.NumberVerdicts.{number_front}
use Rattle.c_lex.proofs.WordFronts.{word_front-is, word_front-only}
use Rattle.c_lex.proofs.NumberFronts.{number_front-is, number_front-only}
use Rattle.c_lex.proofs.FrontLaws.{IsOnlyOf, HasOf, some_front, only_front}
use Rattle.c_lex.proofs.FrontTakes.{each_takes}

some_word : HasOf starts_word
some_word text f = (word_front text, word_front-is text f)

some_number : HasOf (is_digit 10)
some_number text f = (number_front text, number_front-is text f)

one_word : IsOnlyOf starts_word
one_word text a b f is it = word_front-only text a f is ∙ sym (word_front-only text b f it)

one_number : IsOnlyOf (is_digit 10)
one_number text a b f is it = number_front-only text a f is ∙ sym (number_front-only text b f it)

pub front-some : HasFront
front-some = some_front some_word some_number

pub front-only : IsOneFront
front-only = only_front one_word one_number

pub front-takes : TakesBytes
front-takes = each_takes
