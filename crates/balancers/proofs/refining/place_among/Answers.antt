use Rattle.std.proofs.Common.{rules, ◌≡◌, Bool, true, false}
use Rattle.std.specs.Prelude.{nat_lt}
use Rattle.std.specs.List.Sorted.{IsPartitionPoint}
use Rattle.std.proofs.lemmas.List.Sorted.{IsPartitionPoint-from_clause}
use Rattle.am_base.specs.declared.numbers.ProcId.{ProcId}
use Rattle.balancers.proofs.RefineLemmas.{found_at, below_is_front}
use Rattle.balancers.proofs.refining.place_among.Goals as goal

pub returns-clause-inside : goal.returns-clause-inside
returns-clause-inside c =
    let p : ProcId → Bool = λ q. nat_lt q.0 c.args.place.0 in
    let at : IsPartitionPoint (λ (q : ProcId). p q ≡ true) (λ (q : ProcId). p q ≡ false) c.args.live.now c.partition_point.result =
    IsPartitionPoint-from_clause p c.args.live.now c.partition_point.result c.partition_point.ensures.partitioned (below_is_front c.args.live.now c.args.place c.requires.ascending) (λ a r f k. search rules) in
    (found_at c.args.live.now c.args.place c.partition_point.result c.requires.ascending c.requires.is_live c.partition_point.ensures.bound at.0 at.1).0

pub returns-clause-there : goal.returns-clause-there
returns-clause-there c =
    let p : ProcId → Bool = λ q. nat_lt q.0 c.args.place.0 in
    let at : IsPartitionPoint (λ (q : ProcId). p q ≡ true) (λ (q : ProcId). p q ≡ false) c.args.live.now c.partition_point.result =
    IsPartitionPoint-from_clause p c.args.live.now c.partition_point.result c.partition_point.ensures.partitioned (below_is_front c.args.live.now c.args.place c.requires.ascending) (λ a r f k. search rules) in
    (found_at c.args.live.now c.args.place c.partition_point.result c.requires.ascending c.requires.is_live c.partition_point.ensures.bound at.0 at.1).1 _
