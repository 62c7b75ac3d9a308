use Rattle.std.proofs.Common.{ap, ◌∙◌, refl, length}
use Rattle.std.proofs.lemmas.List.{length-map}
use Rattle.mpi_types.specs.Tables.{datatype_size}
use Rattle.mpi_types.specs.Reduce.{begun, elements_of}
use Rattle.mpi_types.proofs.ReduceLemmas.{length-elements_of, folded_more, body_long}
use Rattle.mpi_types.proofs.reduce.reduced_args.Goals as goal

pub loop-arg-init : goal.loop-arg-init
loop-arg-init c = record {
  as_many = ap length c.in_ok-total.ensures
      ∙ length-map (elements_of (datatype_size c.args.datatype) c.args.count c.as_slice.result.now) (begun c.args.operation)
      ∙ length-elements_of (datatype_size c.args.datatype) c.args.count c.as_slice.result.now;
  so_far = refl;
}

pub combine-requires : goal.combine-requires
combine-requires c =
    body_long c.args.count (datatype_size c.args.datatype) _ c.loop-arg.arg-index c.args.args.now c.in-Some.rest.now c.in-Some.first.now
    c.arg-item.result c.as_slice-in-loop-arg.result.now c.requires c.in-Some.ensures.cases.0 c.loop-arg-test.true c.arg-item.is
    c.as_slice-in-loop-arg.ensures c.loop-arg.invariant.as_many

pub loop-arg-preserved : goal.loop-arg-preserved
loop-arg-preserved c =
    let f = folded_more c.args.operation c.args.datatype c.args.count c.loop-arg.arg-index c.in_ok-total.total.items c.loop-arg.total.items
    c.combine.new.total.items c.as_slice-in-loop-arg.result.now c.in-Some.rest.now c.arg-item.result c.loop-arg-test.true c.arg-item.is
    c.as_slice-in-loop-arg.ensures c.loop-arg.invariant.as_many c.loop-arg.invariant.so_far c.combine.ensures in
    record { as_many = f.0; so_far = f.1 }
