use Rattle.c_lex.proofs.KeywordLaws.{keyword_found, keyword_missing}
use Rattle.c_lex.proofs.words.keyword_of.Goals as goal

pub returns-clause-some : goal.returns-clause-some
returns-clause-some c = keyword_found c.args.word.now _ c.first_keyword.ensures

pub returns-clause-none : goal.returns-clause-none
returns-clause-none c = keyword_missing c.args.word.now _ c.first_keyword.ensures
