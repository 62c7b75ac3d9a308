use Rattle.std.proofs.Common.{◌+◌, refl, sym, ap, ◌∙◌, length}
use Rattle.rank_machine.specs.declared.printer.Cut.{Cut}
use Rattle.rank_machine.proofs.PrinterLemmas.{goes_on, ends_by_newline, ends_by_length, one_line}
use Rattle.rank_machine.proofs.printer.cut_byte.Goals as goal
use Rattle.rank_machine.proofs.printer.cut_byte.Goals.{then-byte-ne-NEWLINE+in_ok-push+else-len-ne-LINE_BYTES, else-byte-ne-NEWLINE}

pub returns-then-len-ne-LINE_BYTES : goal.returns-then-len-ne-LINE_BYTES
returns-then-len-ne-LINE_BYTES c =
    goes_on c.args.cut.now _ c.args.byte c.if-byte-ne-NEWLINE.true
    (λ full. c.if-len-ne-LINE_BYTES.true (c.len.ensures ∙ ap length c.in_ok-push.ensures.ok ∙ full)) refl c.in_ok-push.ensures.ok refl

pub returns : goal.returns
returns c =
    elim c.if-byte-ne-NEWLINE.branch [
      | then-byte-ne-NEWLINE+in_ok-push+else-len-ne-LINE_BYTES w ↦
          ends_by_length c.args.cut.now _ c.args.byte w.push.new.self w.if-byte-ne-NEWLINE.true w.in_ok-push.ensures.ok
          (sym w.len.ensures ∙ w.if-len-ne-LINE_BYTES.false)
          (one_line _ _ _ _ w.cut-is c.replace-text.ensures.value c.in_ok-push-2.ensures.items)
          (c.replace-text.ensures.after ∙ c.new.ensures) (ap (λ (j : Cut). j.next + 1) w.cut-is)
      | else-byte-ne-NEWLINE w ↦
          ends_by_newline c.args.cut.now _ c.args.byte w.if-byte-ne-NEWLINE.false
          (one_line _ _ _ _ w.cut-is c.replace-text.ensures.value c.in_ok-push-2.ensures.items)
          (c.replace-text.ensures.after ∙ c.new.ensures) (ap (λ (j : Cut). j.next + 1) w.cut-is)
    ]
