use Rattle.std.proofs.Common.{◌≡◌, ℕ, List, length, drop, Option, Some, None, sym, ◌∙◌}
use Rattle.std.specs.Prelude.{find, codes, IfSome}
use Rattle.c_lex.specs.declared.token.Mark.{Mark}
use Rattle.c_lex.specs.Blanks.{BeginsWith}
use Rattle.c_lex.specs.Words.{mark_text, IsMark}
use Rattle.c_lex.specs.Reading.{begins_with}
use Rattle.c_lex.proofs.MarkLaws.{one, two, three, mark_of_three, mark_of_two, mark_of_one, begins_not}
use Rattle.c_lex.proofs.marks.mark_at.Goals as goal

pub returns-in-Some-clause-mark : goal.returns-in-Some-clause-mark
returns-in-Some-clause-mark c =
    mark_of_three c.args.text.now c.in-Some.mark c.in-Some.ensures
    (begins_not (codes "/*") c.args.text.now (sym c.begins_with.ensures ∙ c.if-begins_with.false))
    (begins_not (codes "//") c.args.text.now (sym c.begins_with-2.ensures ∙ c.if-begins_with-2.false))

pub returns-in-Some-first_mark-clause-mark : goal.returns-in-Some-first_mark-clause-mark
returns-in-Some-first_mark-clause-mark c =
    mark_of_two c.args.text.now c.in-Some-first_mark.mark c.in_default.ensures c.in-Some-first_mark.ensures
    (begins_not (codes "/*") c.args.text.now (sym c.begins_with.ensures ∙ c.if-begins_with.false))
    (begins_not (codes "//") c.args.text.now (sym c.begins_with-2.ensures ∙ c.if-begins_with-2.false))

of_one : (text : List ℕ) (r : Option Mark) → None ≡ find (λ m. begins_with (mark_text m) text) three
    → None ≡ find (λ m. begins_with (mark_text m) text) two → r ≡ find (λ m. begins_with (mark_text m) text) one
    → (BeginsWith (codes "/*") text → ⊥) → (BeginsWith (codes "//") text → ⊥)
    → IfSome r (λ m. IsMark text m (drop (length (mark_text m)) text))
of_one text None f g e no_block no_line = tt
of_one text (Some m) f g e no_block no_line = mark_of_one text m f g e no_block no_line

pub returns-clause-mark : goal.returns-clause-mark
returns-clause-mark c =
    of_one c.args.text.now _ c.in_default.ensures c.in_default-first_mark.ensures c.first_mark-3.ensures
    (begins_not (codes "/*") c.args.text.now (sym c.begins_with.ensures ∙ c.if-begins_with.false))
    (begins_not (codes "//") c.args.text.now (sym c.begins_with-2.ensures ∙ c.if-begins_with-2.false))
