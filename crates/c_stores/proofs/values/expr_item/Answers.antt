use Rattle.c_const.specs.Constants.{first_token}
use Rattle.c_stores.specs.Values.{put}
use Rattle.c_stores.proofs.StateLemmas.{gives_then}
use Rattle.c_stores.proofs.values.expr_item.Goals as goal

pub returns-in-Ok : goal.returns-in-Ok
returns-in-Ok c =
    gives_then _ _ _ _ _ (put c.args.target c.args.of.now (first_token c.args.e.now) c.args.dealt)
    (rw c.value_mode.ensures at c.in-Ok.ensures)
    (rw c.first_token.ensures at c.put.ensures)
