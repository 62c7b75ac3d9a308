use Rattle.std.proofs.Common.{◌-◌, ◌++◌, take, ap, subst, arith}
use Rattle.c_grammar.specs.Names.{Names, of_known}
use Rattle.c_grammar.specs.Meanings.{Agrees}
use Rattle.c_grammar.proofs.ScopeLaws.{last_known, hidden_by, none_left}
use Rattle.c_grammar.proofs.scope.restore_all.Goals as goal

pub backward-preserved : goal.backward-preserved
backward-preserved c =
    let n = c.backward.count in
    let ks = c.args.names.now in
    let k = c.index-names-count.result in
    let some = c.backward-test.true in
    let few = c.backward.invariant.1 in (
      (λ under agrees hide.
          c.restore.ensures (of_known (take (n - 1) ks) ++ under)
          (subst (λ (names : Names). Agrees c.backward.meanings.entries names)
          (ap (λ (names : Names). names ++ under) (last_known n ks _ k some few c.index-names-count.is)) (c.backward.invariant.0 under agrees hide))
          (hidden_by under n ks _ k some few c.index-names-count.is hide)),
      omega (arith, few),
    )

pub returns : goal.returns
returns c under agrees hide =
    none_left c.backward.count c.args.names.now under c.backward.meanings.entries c.backward-test.false (c.backward.invariant.0 under agrees hide)
