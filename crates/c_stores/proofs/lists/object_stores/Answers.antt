use Rattle.std.proofs.Common.{sym, subst}
use Rattle.c_judge.specs.State.{Gives}
use Rattle.c_stores.specs.Lists.{Initialising, braced_end, target_of}
use Rattle.c_stores.proofs.StateLemmas.{gives_then}
use Rattle.c_stores.proofs.DealLemmas.{start_is}
use Rattle.c_stores.proofs.InitTrees.{value_is, list_is}
use Rattle.c_stores.proofs.lists.object_stores.Goals as goal

pub returns-in-Value : goal.returns-in-Value
returns-in-Value c =
    subst (λ (i : Initialising). Gives c.whole_value.result c.whole_value.new.checker (i.object c.args.token c.args.base c.args.of c.args.checker.now))
    (sym (value_is _ _ c.in-Value.is)) c.whole_value.ensures

pub returns-in-Ok : goal.returns-in-Ok
returns-in-Ok c =
    subst (λ (i : Initialising). Gives c.braced_end.result c.braced_end.new.checker (i.object c.args.token c.args.base c.args.of c.args.checker.now))
    (sym (list_is _ _ _ c.in-List.is))
    (gives_then _ _ _ _ _ (braced_end (target_of c.args.token c.args.base) c.args.of)
    (rw c.as_slice.ensures at (rw (start_is _ _ _ c.new.ensures c.first.ensures c.from-start.ensures) at c.in-Ok.ensures))
    c.braced_end.ensures)
