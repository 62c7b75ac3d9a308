use Rattle.std.proofs.Common.{◌*◌, ◌∙◌, ap, drop}
use Rattle.byteorder.specs.Endian.{little_number}
use Rattle.mpi_types.specs.Tables.{datatype_size}
use Rattle.mpi_types.proofs.ReduceLemmas.{begun_more}
use Rattle.mpi_types.proofs.reduce.begun_elements.Goals as goal

pub loop-i-preserved : goal.loop-i-preserved
loop-i-preserved c =
    begun_more c.args.operation (datatype_size c.args.datatype) c.loop-i.i c.args.body.now c.loop-i.elements.items c.push.new.self.items
    c.element.result c.begin.result c.loop-i.invariant
    (c.element.ensures ∙ ap (λ s. little_number s (drop (c.loop-i.i * s) c.args.body.now)) c.size-size.ensures)
    c.begin.ensures c.in_ok-push.ensures.items
