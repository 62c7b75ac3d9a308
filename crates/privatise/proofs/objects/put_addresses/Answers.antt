use Rattle.std.proofs.Common.{◌≡◌, ◌+◌, ◌<◌, List, length, get_or, cond, sym, ◌∙◌, ap, arith}
use Rattle.rank_range.specs.Layout.{globals_start}
use Rattle.rank_range.specs.Numbers.{with_number}
use Rattle.c_types.specs.declared.program.Fix.{Fix}
use Rattle.c_types.specs.Segment.{lies_within}
use Rattle.privatise.specs.Addresses.{addressed}
use Rattle.privatise.proofs.ByteLemmas.{address_is, fix_step, chosen, left_out}
use Rattle.privatise.proofs.objects.put_addresses.Goals as goal
use Rattle.privatise.proofs.objects.put_addresses.Goals.{then-lies_within, else-lies_within}

pub loop-fix-preserved : goal.loop-fix-preserved
loop-fix-preserved c =
    let o = c.args.object.now in
    let fixes = o.initial.fixes in
    let offsets = c.args.offsets.now in
    let bytes = c.loop-fix.bytes in
    let new = c.if-lies_within.bytes in
    let i = c.loop-fix.fix-index in
    let none : Fix = record { offset = 0; object = 0; addend = 0 } in
    let f = get_or c.as_slice-fix-items.result.now i none in
    let lt : i < length fixes = omega (arith, ap (λ (ys : List Fix). length ys) c.as_slice-fix-items.ensures) in
    let e : new ≡ cond (lies_within o f) (addressed offsets bytes f) bytes =
    elim c.if-lies_within.branch [
      | then-lies_within w ↦
          chosen (lies_within o f) (addressed offsets bytes f) bytes new (sym c.lies_within.ensures ∙ w.if-lies_within.true)
          (w.bytes-is
          ∙ address_is bytes w.write_number.new.bytes f.offset w.offset_in.result f.addend w.address_of-address.result
          w.address_of-address.ensures w.write_number.ensures
          ∙ ap (λ k. with_number bytes f.offset 8 (globals_start + (k + f.addend))) w.offset_in.ensures)
      | else-lies_within w ↦
          left_out (lies_within o f) (addressed offsets bytes f) bytes new (sym c.lies_within.ensures ∙ w.if-lies_within.false) w.bytes-is
    ] in
    fix_step o fixes offsets bytes new _ i f none lt
    (ap (λ (ys : List Fix). get_or ys i none) c.as_slice-fix-items.ensures) c.loop-fix.invariant e
