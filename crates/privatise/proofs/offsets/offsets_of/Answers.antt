use Rattle.std.proofs.Common.{◌≡◌, ◌<◌, ◌≤◌, List, length, get_or, ◌∙◌, ap, arith}
use Rattle.c_types.specs.declared.program.StaticObject.{StaticObject}
use Rattle.privatise.proofs.LargeLemmas.{grows}
use Rattle.privatise.proofs.LayoutLemmas.{next_fits}
use Rattle.privatise.proofs.OffsetLemmas.{next_offsets, next_rooms_of, rest_of, no_offsets, all_offsets}
use Rattle.privatise.proofs.offsets.offsets_of.Goals as goal

pub loop-object-init : goal.loop-object-init
loop-object-init c = record {
  rooms_are = c.before_objects-rooms.ensures;
  offsets_are = no_offsets c.new-offsets.result.items c.new-offsets.ensures.items;
}

pub take-offset-requires : goal.take-offset-requires
take-offset-requires c =
    let o = c.object-item.result in
    let i = c.loop-object.object-index in
    let objects = c.args.program.now.objects in
    let lt : i < length objects = omega (arith, ap (λ (ys : List StaticObject). length ys) c.as_slice-object-items.ensures) in
    let is : o ≡ get_or objects i o = c.object-item.is ∙ ap (λ (ys : List StaticObject). get_or ys i o) c.as_slice-object-items.ensures in
    let fits = next_fits c.args.program.now c.loop-object.rooms i o o c.requires lt is (rest_of objects i c.loop-object.rooms c.loop-object.invariant.rooms_are) in
    omega (arith, fits, grows c.loop-object.rooms o)

pub loop-object-preserved : goal.loop-object-preserved
loop-object-preserved c =
    let o = c.object-item.result in
    let i = c.loop-object.object-index in
    let program = c.args.program.now in
    let objects = program.objects in
    let lt : i < length objects = omega (arith, ap (λ (ys : List StaticObject). length ys) c.as_slice-object-items.ensures) in
    let is : o ≡ get_or objects i o = c.object-item.is ∙ ap (λ (ys : List StaticObject). get_or ys i o) c.as_slice-object-items.ensures in
    record {
      rooms_are = next_rooms_of objects i o o c.loop-object.rooms c.take-offset.new.self lt is c.loop-object.invariant.rooms_are c.take-offset.ensures.taken;
      offsets_are = next_offsets program i o o c.loop-object.rooms c.loop-object.offsets.items c.put.new.offsets.items c.take-offset.result c.requires lt is
          c.loop-object.invariant.rooms_are c.loop-object.invariant.offsets_are c.take-offset.ensures.offset
          c.in_ok-put.ensures.length c.in_ok-put.ensures.each;
    }

pub returns : goal.returns
returns c =
    let objects = c.args.program.now.objects in
    let i = c.loop-object.object-index in
    let past : length objects ≤ i = omega (arith, ap (λ (ys : List StaticObject). length ys) c.as_slice-object-items.ensures) in
    all_offsets objects i c.loop-object.offsets.items past c.loop-object.invariant.offsets_are

pub overflow_cast-offset : goal.overflow_cast-offset
overflow_cast-offset c =
    let o = c.object-item.result in
    let i = c.loop-object.object-index in
    let objects = c.args.program.now.objects in
    let lt : i < length objects = omega (arith, ap (λ (ys : List StaticObject). length ys) c.as_slice-object-items.ensures) in
    let is : o ≡ get_or objects i o = c.object-item.is ∙ ap (λ (ys : List StaticObject). get_or ys i o) c.as_slice-object-items.ensures in
    let fits = next_fits c.args.program.now c.loop-object.rooms i o o c.requires lt is (rest_of objects i c.loop-object.rooms c.loop-object.invariant.rooms_are) in
    omega (arith, fits, c.take-offset.ensures.offset)
