use Rattle.std.proofs.Common.{◌<◌, ◌≤◌, List, length, get_or, ap, ◌∙◌, arith}
use Rattle.c_types.specs.declared.program.StaticObject.{StaticObject}
use Rattle.c_types.specs.declared.rooms.Rooms.{Rooms}
use Rattle.c_types.specs.Segment.{segment_limit, with_object}
use Rattle.privatise.proofs.LargeLemmas.{grows, passed_here, passed_nowhere}
use Rattle.privatise.proofs.refusals.too_large.Goals as goal

pub returns-then-object-gt-SEGMENT_LIMIT : goal.returns-then-object-gt-SEGMENT_LIMIT
returns-then-object-gt-SEGMENT_LIMIT c =
    let o = c.object-item.result in
    let xs = c.args.program.now.objects in
    let i = c.loop-object.object-index in
    let rooms = c.loop-object.rooms in
    let lt : i < length xs = omega (arith, ap (λ (ys : List StaticObject). length ys) c.as_slice-object-items.ensures) in
    let passes : segment_limit < (with_object rooms o).end = omega (arith, grows rooms o) in
    passed_here c.args.program.now rooms i o lt
    (c.object-item.is ∙ ap (λ (ys : List StaticObject). get_or ys i o) c.as_slice-object-items.ensures) c.loop-object.invariant.0 passes

pub returns-then-rooms-gt-SEGMENT_LIMIT : goal.returns-then-rooms-gt-SEGMENT_LIMIT
returns-then-rooms-gt-SEGMENT_LIMIT c =
    let o = c.object-item.result in
    let xs = c.args.program.now.objects in
    let i = c.loop-object.object-index in
    let rooms = c.loop-object.rooms in
    let lt : i < length xs = omega (arith, ap (λ (ys : List StaticObject). length ys) c.as_slice-object-items.ensures) in
    let e = ap (λ (r : Rooms). r.end) c.take.ensures.taken in
    let passes : segment_limit < (with_object rooms o).end = omega (arith, e) in
    passed_here c.args.program.now rooms i o lt
    (c.object-item.is ∙ ap (λ (ys : List StaticObject). get_or ys i o) c.as_slice-object-items.ensures) c.loop-object.invariant.0 passes

pub returns : goal.returns
returns c =
    let xs = c.args.program.now.objects in
    let i = c.loop-object.object-index in
    let past : length xs ≤ i = omega (arith, ap (λ (ys : List StaticObject). length ys) c.as_slice-object-items.ensures) in
    passed_nowhere c.args.program.now c.loop-object.rooms i past c.loop-object.invariant.0
