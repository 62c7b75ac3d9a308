use Rattle.std.proofs.Common.{refl, ◌∙◌, ◌++◌, ap}
use Rattle.std.specs.List.{list_all}
use Rattle.std.specs.Prelude.{◌==◌}
use Rattle.rank_range.specs.Nodes.{node_count}
use Rattle.rank_image.proofs.Counts.{counts_once, counted_both}
use Rattle.rank_image.proofs.heap.is_each_once.Goals as goal

pub returns : goal.returns
returns c =
    c.are_ones.ensures ∙ ap (list_all (λ n. n == 1)) c.as_slice.ensures.value
    ∙ counts_once c.count_in-2.new.counts.items (c.args.used.now ++ c.args.unused.now) node_count refl c.count_in-2.ensures.all
    (counted_both c.in_ok-counts.counts.items c.count_in.new.counts.items c.count_in-2.new.counts.items c.args.used.now c.args.unused.now
    c.in_ok-counts.ensures.1 c.count_in.ensures.counted c.count_in-2.ensures.counted)
