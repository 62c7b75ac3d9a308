use Rattle.std.proofs.Common.{ℕ, ◌+◌, ◌-◌, ◌≤◌}
use Rattle.std.proofs.lemmas.List.{drop_more}
use Rattle.std.proofs.lemmas.List.Elements.{All-get_or}
use Rattle.rank_range.specs.Layout.{globals_start, heap_start}
use Rattle.rank_machine.proofs.OpeningLemmas.{bases_none, bases_more, bases_done}
use Rattle.rank_machine.proofs.opening.add_bases.Goals as goal

pub loop-i-init : goal.loop-i-init
loop-i-init g c = bases_none _ _ _ _ c.args.fixes.now

pub loop-i-preserved : goal.loop-i-preserved
loop-i-preserved g c =
    bases_more _ _ _ _ _ _ _ _ _ _ _ _ c.args.fixes.now _ _ _ (drop_more _ _ _ c.loop-i-test.true) c.loop-i.invariant c.add_base.ensures

pub add_base-requires : goal.add_base-requires
add_base-requires g c = All-get_or (λ (at : ℕ). at + 8 ≤ heap_start - globals_start) c.args.fixes.now c.loop-i.i _ c.loop-i-test.true c.requires

pub returns : goal.returns
returns g c = bases_done _ _ _ _ _ _ _ _ c.args.fixes.now c.loop-i.i c.loop-i-test.false c.loop-i.invariant
