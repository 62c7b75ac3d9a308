use Rattle.std.proofs.Common.{◌≡◌, ◌+◌, ◌<◌, ◌≤◌, ◌++◌, List, length, get_or, drop, append-nil, sym, ◌∙◌, ap, arith}
use Rattle.std.proofs.lemmas.List.{drop_all}
use Rattle.c_types.specs.declared.program.StaticObject.{StaticObject}
use Rattle.c_types.specs.Segment.{fixes_behind, segment_fixes}
use Rattle.privatise.proofs.LargeLemmas.{grows}
use Rattle.privatise.proofs.LayoutLemmas.{dropped, next_fits, next_rooms, fixes_step}
use Rattle.privatise.proofs.layout.fixes_of.Goals as goal

pub take-offset-requires : goal.take-offset-requires
take-offset-requires c =
    let o = c.object-item.result in
    let i = c.loop-object.object-index in
    let objects = c.args.program.now.objects in
    let lt : i < length objects = omega (arith, ap (λ (ys : List StaticObject). length ys) c.as_slice-object-items.ensures) in
    let is : o ≡ get_or objects i o = c.object-item.is ∙ ap (λ (ys : List StaticObject). get_or ys i o) c.as_slice-object-items.ensures in
    let fits = next_fits c.args.program.now c.loop-object.rooms i o o c.requires lt is c.loop-object.invariant.rooms_are in
    omega (arith, fits, grows c.loop-object.rooms o)

pub append_fixes-requires : goal.append_fixes-requires
append_fixes-requires c =
    let o = c.object-item.result in
    let i = c.loop-object.object-index in
    let objects = c.args.program.now.objects in
    let lt : i < length objects = omega (arith, ap (λ (ys : List StaticObject). length ys) c.as_slice-object-items.ensures) in
    let is : o ≡ get_or objects i o = c.object-item.is ∙ ap (λ (ys : List StaticObject). get_or ys i o) c.as_slice-object-items.ensures in
    let fits = next_fits c.args.program.now c.loop-object.rooms i o o c.requires lt is c.loop-object.invariant.rooms_are in
    omega (arith, fits, c.take-offset.ensures.offset)

pub loop-object-preserved : goal.loop-object-preserved
loop-object-preserved c =
    let o = c.object-item.result in
    let i = c.loop-object.object-index in
    let program = c.args.program.now in
    let objects = program.objects in
    let lt : i < length objects = omega (arith, ap (λ (ys : List StaticObject). length ys) c.as_slice-object-items.ensures) in
    let is : o ≡ get_or objects i o = c.object-item.is ∙ ap (λ (ys : List StaticObject). get_or ys i o) c.as_slice-object-items.ensures in
    let rooms = c.loop-object.rooms in
    let old = c.loop-object.fixes.items in
    let new = c.append_fixes.new.fixes.items in
    let taken = c.take-offset.ensures.taken in
    let rest = drop (i + 1) objects in
    record {
      rooms_are = next_rooms program rooms c.take-offset.new.self i o o lt is c.loop-object.invariant.rooms_are taken;
      fixes_are = ap (λ r. new ++ fixes_behind r rest) taken
          ∙ fixes_step rooms o rest old new c.take-offset.result c.take-offset.ensures.offset c.in_ok-append_fixes.ensures
          ∙ ap (λ os. old ++ fixes_behind rooms os) (sym (dropped objects i o o lt is))
          ∙ c.loop-object.invariant.fixes_are;
    }

pub returns : goal.returns
unfolding segment_fixes
returns c =
    let objects = c.args.program.now.objects in
    let i = c.loop-object.object-index in
    let past : length objects ≤ i = omega (arith, ap (λ (ys : List StaticObject). length ys) c.as_slice-object-items.ensures) in
    sym (append-nil c.loop-object.fixes.items)
    ∙ ap (λ os. c.loop-object.fixes.items ++ fixes_behind c.loop-object.rooms os) (sym (drop_all i objects past))
    ∙ c.loop-object.invariant.fixes_are

pub overflow_cast-offset : goal.overflow_cast-offset
overflow_cast-offset c =
    let o = c.object-item.result in
    let i = c.loop-object.object-index in
    let objects = c.args.program.now.objects in
    let lt : i < length objects = omega (arith, ap (λ (ys : List StaticObject). length ys) c.as_slice-object-items.ensures) in
    let is : o ≡ get_or objects i o = c.object-item.is ∙ ap (λ (ys : List StaticObject). get_or ys i o) c.as_slice-object-items.ensures in
    let fits = next_fits c.args.program.now c.loop-object.rooms i o o c.requires lt is c.loop-object.invariant.rooms_are in
    omega (arith, fits, c.take-offset.ensures.offset)
