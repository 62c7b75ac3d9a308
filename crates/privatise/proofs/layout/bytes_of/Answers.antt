use Rattle.std.proofs.Common.{◌≡◌, ◌+◌, ◌<◌, ◌≤◌, ◌++◌, List, ℕ, length, get_or, drop, fold, append-nil, sym, ◌∙◌, ap, arith}
use Rattle.std.proofs.lemmas.List.{drop_all}
use Rattle.c_types.specs.declared.program.StaticObject.{StaticObject}
use Rattle.c_types.specs.declared.rooms.Rooms.{Rooms}
use Rattle.c_types.specs.Segment.{arguments, bytes_behind, with_object, segment_bytes}
use Rattle.privatise.proofs.LargeLemmas.{grows}
use Rattle.privatise.proofs.LayoutLemmas.{arguments_are, dropped, next_fits, next_rooms, laid, laid_long}
use Rattle.privatise.proofs.layout.bytes_of.Goals as goal

pub loop-object-init : goal.loop-object-init
loop-object-init c =
    let objects = c.args.program.now.objects in
    let bytes : c.in_ok-bytes.bytes.items ≡ arguments = c.in_ok-bytes.ensures.items ∙ arguments_are in
    let rooms = c.before_objects-rooms.ensures in
    record {
      rooms_are = ap (λ r. fold with_object r objects) rooms;
      bytes_are = ap (λ ys. ys ++ bytes_behind objects c.before_objects-rooms.result objects) bytes
          ∙ ap (λ r. arguments ++ bytes_behind objects r objects) rooms;
      long = ap (λ (ys : List ℕ). length ys) c.in_ok-bytes.ensures.items ∙ sym (ap (λ (r : Rooms). r.end) rooms);
    }

pub take-offset-requires : goal.take-offset-requires
take-offset-requires c =
    let o = c.object-item.result in
    let i = c.loop-object.object-index in
    let objects = c.args.program.now.objects in
    let lt : i < length objects = omega (arith, ap (λ (ys : List StaticObject). length ys) c.as_slice-object-items.ensures) in
    let is : o ≡ get_or objects i o = c.object-item.is ∙ ap (λ (ys : List StaticObject). get_or ys i o) c.as_slice-object-items.ensures in
    let fits = next_fits c.args.program.now c.loop-object.rooms i o o c.requires.accepted lt is c.loop-object.invariant.rooms_are in
    omega (arith, fits, grows c.loop-object.rooms o)

pub append_object-requires : goal.append_object-requires
append_object-requires c =
    let o = c.object-item.result in
    let i = c.loop-object.object-index in
    let objects = c.args.program.now.objects in
    let lt : i < length objects = omega (arith, ap (λ (ys : List StaticObject). length ys) c.as_slice-object-items.ensures) in
    let is : o ≡ get_or objects i o = c.object-item.is ∙ ap (λ (ys : List StaticObject). get_or ys i o) c.as_slice-object-items.ensures in
    let fits = next_fits c.args.program.now c.loop-object.rooms i o o c.requires.accepted lt is c.loop-object.invariant.rooms_are in
    omega (arith, fits, c.take-offset.ensures.offset, c.in_ok-resize.ensures.len, c.resize.new.self.ok.0)

pub loop-object-preserved : goal.loop-object-preserved
loop-object-preserved c =
    let o = c.object-item.result in
    let i = c.loop-object.object-index in
    let program = c.args.program.now in
    let objects = program.objects in
    let lt : i < length objects = omega (arith, ap (λ (ys : List StaticObject). length ys) c.as_slice-object-items.ensures) in
    let is : o ≡ get_or objects i o = c.object-item.is ∙ ap (λ (ys : List StaticObject). get_or ys i o) c.as_slice-object-items.ensures in
    let rooms = c.loop-object.rooms in
    let old = c.loop-object.bytes in
    let wide = c.resize.new.self.items in
    let new = c.append_object.new.bytes.items in
    let offset = c.take-offset.result in
    let taken = c.take-offset.ensures.taken in
    let rest = drop (i + 1) objects in
    record {
      rooms_are = next_rooms program rooms c.take-offset.new.self i o o lt is c.loop-object.invariant.rooms_are taken;
      bytes_are = ap (λ r. new ++ bytes_behind objects r rest) taken
          ∙ laid objects c.args.offsets.now rooms o rest old.items wide new offset old.len c.requires.offsets
          c.loop-object.invariant.long old.ok.0 c.take-offset.ensures.offset c.in_ok-resize.ensures.items c.in_ok-append_object.ensures
          ∙ ap (λ os. old.items ++ bytes_behind objects rooms os) (sym (dropped objects i o o lt is))
          ∙ c.loop-object.invariant.bytes_are;
      long = laid_long objects c.args.offsets.now rooms o old.items wide new offset old.len c.requires.offsets
          c.loop-object.invariant.long old.ok.0 c.take-offset.ensures.offset c.in_ok-resize.ensures.items c.in_ok-append_object.ensures
          ∙ sym (ap (λ (r : Rooms). r.end) taken);
    }

pub returns : goal.returns
unfolding segment_bytes
returns c =
    let objects = c.args.program.now.objects in
    let i = c.loop-object.object-index in
    let past : length objects ≤ i = omega (arith, ap (λ (ys : List StaticObject). length ys) c.as_slice-object-items.ensures) in
    sym (append-nil c.loop-object.bytes.items)
    ∙ ap (λ os. c.loop-object.bytes.items ++ bytes_behind objects c.loop-object.rooms os) (sym (drop_all i objects past))
    ∙ c.loop-object.invariant.bytes_are
