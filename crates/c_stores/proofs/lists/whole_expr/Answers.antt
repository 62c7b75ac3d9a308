use Rattle.c_const.specs.Constants.{first_token}
use Rattle.c_stores.specs.Lists.{whole_item}
use Rattle.c_stores.proofs.StateLemmas.{gives_then}
use Rattle.c_stores.proofs.lists.whole_expr.Goals as goal

pub returns : goal.returns
returns c =
    gives_then _ _ _ _ _ (whole_item c.args.target c.args.of.now (first_token c.args.e.now))
    (rw c.value_mode.ensures at c.in_ok-judged.ensures)
    (rw c.first_token.ensures at c.whole_item.ensures)
