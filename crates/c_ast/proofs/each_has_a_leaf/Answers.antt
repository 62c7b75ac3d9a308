use Rattle.c_ast.proofs.LeafLaws.{has_leaf}
use Rattle.c_ast.proofs.each_has_a_leaf.Goals as goal

pub returns : goal.returns
returns c = has_leaf
