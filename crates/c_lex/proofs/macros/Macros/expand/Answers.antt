use Rattle.std.proofs.Common.{◌≡◌, List, length, ap, sym, subst, ◌∙◌, true, ◌<◌, arith}
use Rattle.std.specs.Prelude.{slice_index_or}
use Rattle.std.proofs.lemmas.List.{get_or_read}
use Rattle.c_lex.specs.declared.expand.Mark.{Mark}
use Rattle.std.proofs.lemmas.Result.{on_ok_weaker}
use Rattle.c_lex.specs.Pieces.{Macro}
use Rattle.c_lex.specs.Tokens.{Puts, PassesMost}
use Rattle.c_lex.specs.Frames.{no_mark, is_empty_at}
use Rattle.c_lex.proofs.KeptLaws.{puts_kept, too_many, puts_replaced, puts_nothing, passes_most}
use Rattle.c_lex.proofs.macros.Macros.expand.Goals as goal

pub returns-in_default-clause-ok : goal.returns-in_default-clause-ok
returns-in_default-clause-ok c =
    let out = c.args.out.now.items in
    let P : List Macro → Type 0 = λ ms. Puts ms c.args.lexeme c.args.line c.args.headers out c.put.new.out.items in
    on_ok_weaker c.put.result
    (λ e. subst P c.self.view_is
    (puts_kept c.self.inside.table c.self.invariant.table c.args.lexeme c.args.line c.args.headers out c.put.new.out.items
    c.in_default.ensures.none e))
    c.put.ensures.ok

pub returns-in_default-clause-many : goal.returns-in_default-clause-many
returns-in_default-clause-many c = λ e.
    let out = c.args.out.now.items in
    let P : List Macro → Type 0 = λ ms. PassesMost ms c.args.lexeme (length out) in
    subst P c.self.view_is
    (too_many c.self.inside.table c.self.invariant.table c.args.lexeme c.args.line c.args.headers out c.in_default.ensures.none
    (c.put.ensures.many e))

pub returns-then-index-clause-ok : goal.returns-then-index-clause-ok
returns-then-index-clause-ok c =
    let out = c.args.out.now.items in
    let P : List Macro → Type 0 = λ ms. Puts ms c.args.lexeme c.args.line c.args.headers out out in
    let within : c.in-Some.number < length c.self.inside.marks.items = omega (arith, c.in-Some.ensures.some.0, c.self.invariant.sizes) in
    let mark : c.index.result.now ≡ slice_index_or c.self.inside.marks.items c.in-Some.number no_mark =
    get_or_read c.self.inside.marks.items c.in-Some.number c.index.result.now within c.index.ensures no_mark in
    let empty : is_empty_at c.self.inside.marks.items c.in-Some.number ≡ true =
    ap (λ (m : Mark). m.is_empty) (sym mark) ∙ c.if-index.true in
    subst P c.self.view_is
    (puts_nothing c.self.inside.table c.self.invariant.table c.args.lexeme c.args.line c.args.headers out c.in-Some.number
    c.self.inside.marks.items c.in-Some.ensures.some.0 c.in-Some.ensures.some.1 c.self.invariant.stand empty)

pub returns-clause-ok : goal.returns-clause-ok
returns-clause-ok c =
    let out = c.args.out.now.items in
    let P : List Macro → Type 0 = λ ms. Puts ms c.args.lexeme c.args.line c.args.headers out c.replace.new.out.items in
    on_ok_weaker c.replace.result
    (λ e. subst P c.self.view_is
    (puts_replaced c.self.inside.table c.self.invariant.table c.args.lexeme c.args.line c.args.headers out c.in-Some.number
    c.replace.new.out.items c.in-Some.ensures.some.0 c.in-Some.ensures.some.1 e))
    c.replace.ensures.ok

pub returns-clause-many : goal.returns-clause-many
returns-clause-many c = λ e.
    let out = c.args.out.now.items in
    let P : List Macro → Type 0 = λ ms. PassesMost ms c.args.lexeme (length out) in
    subst P c.self.view_is
    (passes_most c.self.inside.table c.self.invariant.table c.args.lexeme c.args.line c.args.headers out c.in-Some.number
    c.in-Some.ensures.some.0 c.in-Some.ensures.some.1 (c.replace.ensures.many e))
