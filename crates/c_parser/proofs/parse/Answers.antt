use Rattle.c_grammar_laws.proofs.SettledLaws.{parses_settled, refused_settled, unexpected_settled, nested_settled}
use Rattle.c_parser.proofs.parse.Goals as goal

pub returns-clause-parses : goal.returns-clause-parses
returns-clause-parses c = parses_settled c.args.tokens.now c.unit-read.result c.settled.result c.unit-read.ensures c.settled.ensures

pub returns-clause-refused : goal.returns-clause-refused
returns-clause-refused c = refused_settled c.args.tokens.now c.unit-read.result c.settled.result c.unit-read.ensures c.settled.ensures

pub returns-clause-unexpected : goal.returns-clause-unexpected
returns-clause-unexpected c = unexpected_settled c.args.tokens.now c.unit-read.result c.settled.result c.unit-read.ensures c.settled.ensures

pub returns-clause-nested : goal.returns-clause-nested
returns-clause-nested c = nested_settled c.args.tokens.now c.unit-read.result c.settled.result c.unit-read.ensures c.settled.ensures
