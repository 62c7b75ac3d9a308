use Rattle.std.proofs.Common.{List, ◌++◌, refl, ap, ◌∙◌, arith}
use Rattle.am_base.specs.declared.lines.Line.{Line}
use Rattle.rank_range.specs.declared.run.Output.{Output}
use Rattle.rank_range.specs.Output.{with_text}
use Rattle.rank_machine.proofs.PrinterLemmas.{printed_is, appended}
use Rattle.rank_machine.specs.declared.printer.Cut.{Cut}
use Rattle.rank_machine.proofs.printer.Printer.print.Goals as goal

pub returns-clause-ok : goal.returns-clause-ok
returns-clause-ok c =
    let cut : Cut = record { lines = c.new.result; part = c.in_ok-part.part; next = c.self.inside.next } in
    printed_is _ cut c.cut_text.new.cut c.append-done.new.self.items c.args.text.now c.new.ensures.items
    (c.in_ok-part.ensures ∙ c.as_slice.ensures) refl c.in_ok-cut_text.ensures
    (let room = c.in_ok-reserve.ensures.ok in
    appended c.append-done.result _ c.reserve.new.self.items c.cut_text.new.cut.lines.items (c.append-done.ensures.succeeds (omega (arith, room, c.len-wanted.ensures))) c.append-done.ensures.items
    ∙ ap (λ (ls : List Line). ls ++ c.cut_text.new.cut.lines.items) c.in_ok-reserve.ensures.items)
    ∙ ap (λ (o : Output). with_text o c.args.text.now) c.self.view_is
