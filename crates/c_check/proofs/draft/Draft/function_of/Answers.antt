use Rattle.std.proofs.Common.{◌≡◌, sym, ap, ◌∙◌, map}
use Rattle.c_check.specs.declared.functions.Heading.{Heading}
use Rattle.c_check.specs.Functions as functions
use Rattle.c_check.specs.Running.{item_of}
use Rattle.c_check.proofs.Turns.{on_as}
use Rattle.c_check.proofs.draft.Draft.function_of.Goals as goal

pub returns-in-Ok-Some : goal.returns-in-Ok-Some
returns-in-Ok-Some c =
    on_as c.body.result c.body.new.self _ _
    (ap
    (λ (h : Heading). functions.body_behind c.args.lines.now c.args.name.now h (map (item_of c.args.lines.now) c.args.body.now)
    (functions.declared c.args.words c.args.name.now c.args.of c.args.self.now))
    (sym c.in-Ok.ensures)
    ∙ ap (functions.body_behind c.args.lines.now c.args.name.now c.in-Ok.heading (map (item_of c.args.lines.now) c.args.body.now))
    (c.in-Ok-Some.ensures ∙ ap (λ n. (n, c.declare_defined.new.self)) c.in-Ok-Some.field-0-is))
    c.body.ensures
