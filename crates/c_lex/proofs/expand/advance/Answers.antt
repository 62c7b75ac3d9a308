use Rattle.std.proofs.Common.{◌≡◌, ◌<◌, [], ℕ, List, sym, ◌∙◌, ap, subst, length, arith}
use Rattle.std.specs.Prelude.{◌==◌, if◌then◌else◌, reverse}
use Rattle.std.proofs.lemmas.Result.{on_ok_weaker, on_err_weaker}
use Rattle.c_lex.specs.declared.expand.Frame.{Frame}
use Rattle.c_lex.specs.declared.expand.Mark.{Mark}
use Rattle.c_lex.specs.declared.expand.Next.{Next}
use Rattle.c_lex.specs.Table.{names_in, macro_in, macros_in}
use Rattle.c_lex.specs.Frames.{IsNext, Stand, Advances, with_empty, rest_of}
use Rattle.c_lex.proofs.TableLaws.{has_macro}
use Rattle.c_lex.proofs.FrameLaws.{at_rest}
use Rattle.c_lex.proofs.StepLaws.{has_ended, has_stepped, is_left}
use Rattle.c_lex.proofs.expand.advance.Goals as goal

pub returns-in_default-token-clause-ok : goal.returns-in_default-token-clause-ok
returns-in_default-token-clause-ok c =
    let t = c.args.table.now in
    let f : Frame = c.in-Some.frame in
    let marks : List Mark = c.args.marks.now in
    let out = c.args.out.now.items in
    let n : c.len.result ≡ length out = omega arith in
    let m : c.finish.new.marks ≡ (if f.start == length out then with_empty marks f.number else marks) =
    c.finish.ensures ∙ ap (λ (n : ℕ). if f.start == n then with_empty marks f.number else marks) n in
    let P : List Mark → Type 0 =
    λ ms. Advances t c.args.site.line c.args.site.headers c.args.frames.now.items out c.pop.new.self.items ms out in
    subst P (sym m)
    (has_ended t c.requires.table c.args.site.line c.args.site.headers marks out c.requires.sizes c.args.frames.now.items
    c.pop.new.self.items f c.in-Some.ensures.items (sym c.in_default-token.ensures.token) c.requires.stand)

pub returns-clause-ok : goal.returns-clause-ok
returns-clause-ok c =
    let t = c.args.table.now in
    let marks : List Mark = c.args.marks.now in
    let out = c.args.out.now.items in
    let P : List Frame → Type 0 = λ x. IsNext t marks x c.in-Some-token.lexeme.now c.next_of-next.result in
    on_ok_weaker c.act.result
    (λ a. has_stepped t c.requires.table c.args.site.line c.args.site.headers marks out c.requires.sizes c.args.frames.now.items
    c.pop.new.self.items c.push.new.self.items c.in-Some.frame c.in-Some-token.lexeme.now c.next_of-next.result c.act.new.frames.items
    c.act.new.marks c.act.new.out.items c.in-Some.ensures.items c.in_ok-push.ensures.items (sym c.in-Some-token.ensures.token)
    c.requires.stand (subst P c.as_slice.ensures.value c.next_of-next.ensures) a)
    c.act.ensures.ok

pub returns-clause-rest : goal.returns-clause-rest
returns-clause-rest c =
    let t = c.args.table.now in
    let P : List Mark → Type 0 = λ ms. Stand t ms [] 0 in
    on_err_weaker c.act.result
    (λ same. subst P (sym same)
    (at_rest (macros_in t) (macro_in t) (length (names_in t)) (λ i k. has_macro t i c.requires.table k) c.requires.table.one_each
    c.args.marks.now (reverse c.args.frames.now.items) (length c.args.out.now.items) c.requires.stand))
    c.act.ensures.err

pub returns-clause-many : goal.returns-clause-many
returns-clause-many c = λ e.
    let t = c.args.table.now in
    let marks : List Mark = c.args.marks.now in
    let out = c.args.out.now.items in
    let P : List Frame → Type 0 = λ x. IsNext t marks x c.in-Some-token.lexeme.now c.next_of-next.result in
    let Q : Next → Type 0 = λ x. IsNext t marks c.push.new.self.items c.in-Some-token.lexeme.now x in
    let many = c.act.ensures.many e in
    let left : 0 < length (rest_of t c.args.frames.now.items) =
    is_left t c.requires.table c.args.site.line c.args.site.headers marks out c.requires.sizes c.args.frames.now.items
    c.pop.new.self.items c.push.new.self.items c.in-Some.frame c.in-Some-token.lexeme.now c.in-Some.ensures.items c.in_ok-push.ensures.items
    (sym c.in-Some-token.ensures.token) (subst Q many.0 (subst P c.as_slice.ensures.value c.next_of-next.ensures)) in
    omega (arith, many.1, left)
