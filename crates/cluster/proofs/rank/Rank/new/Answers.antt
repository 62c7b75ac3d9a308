use Rattle.std.proofs.Common.{refl, sym, ap, ◌∙◌}
use Rattle.rank_range.specs.declared.run.Output.{Output}
use Rattle.rank_range.specs.Areas.{memory_of}
use Rattle.vm_code.specs.Memory.{opened}
use Rattle.cluster.specs.Job.{setting}
use Rattle.cluster.proofs.StartLemmas.{stands-start, fits-globals}
use Rattle.cluster.proofs.rank.Rank.new.Goals as goal

pub open-requires-clause-fits : goal.open-requires-clause-fits
open-requires-clause-fits c = fits-globals c.segments_fit.ensures _ _ _ c.requires

pub returns-clause-start : goal.returns-clause-start
returns-clause-start c =
    stands-start (record { begins = c.laid_out_code_begins_with_main.ensures; fresh = c.fresh_ranks_run.ensures; at_start = c.ranks_begin_at_start.ensures })
    c.args.job.now.code.now (setting c.args.job.now) c.args.number _ c.requires (record {
      position = refl;
      depth = refl;
      ticks = refl;
      output = rw (c.new.ensures, c.new-2.ensures) refl;
      running = refl;
      owner = c.open.ensures.kept.owner ∙ c.in_ok-memory.ensures.owner;
      top = c.open.ensures.kept.stack ∙ c.in_ok-memory.ensures.empty;
      memory = c.open.ensures.memory ∙ ap (opened c.args.job.now.segment.now) c.in_ok-memory.ensures.owner;
      heap = c.open.ensures.heap;
    })
