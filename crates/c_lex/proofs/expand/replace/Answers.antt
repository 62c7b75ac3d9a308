use Rattle.std.proofs.Common.{◌≡◌, ◌∷◌, [], ◌++◌, ℕ, List, ◌∙◌, ap, length, arith}
use Rattle.std.specs.Prelude.{Err}
use Rattle.std.proofs.lemmas.Result.{err_from_is_err_and}
use Rattle.c_lex.specs.declared.macros.ExpandError.TheVariants.{TooMany}
use Rattle.c_lex.specs.declared.expand.Frame.{Frame}
use Rattle.c_lex.specs.Frames.{with_place}
use Rattle.c_lex.proofs.StepLaws.{runs_first, runs_over}
use Rattle.c_lex.proofs.expand.replace.Goals as goal

pub frames-init : goal.frames-init
frames-init c =
    let n : c.len.result ≡ length c.args.out.now.items = omega arith in
    let first : c.begin.new.frames.items ≡ record { number = c.args.number; place = 0; start = length c.args.out.now.items } ∷ [] =
    c.in_ok-begin.ensures.frames ∙ ap (λ (fs : List Frame). fs ++ record { number = c.args.number; place = 0; start = c.len.result } ∷ []) c.new-frames.ensures.items
    ∙ ap (λ (k : ℕ). record { number = c.args.number; place = 0; start = k } ∷ []) n in
    let m : c.begin.new.marks ≡ with_place c.args.marks.now c.args.number 0 =
    c.in_ok-begin.ensures.marks ∙ ap (λ (fs : List Frame). with_place c.args.marks.now c.args.number (length fs)) c.new-frames.ensures.items in
    runs_first c.args.table.now c.requires.table c.args.site.line c.args.site.headers c.args.number c.args.out.now.items c.args.marks.now
    c.begin.new.marks c.begin.new.frames.items c.requires.sizes c.requires.within c.requires.some c.requires.rest c.requires.few first m

pub returns-in_err-advance-clause-many : goal.returns-in_err-advance-clause-many
returns-in_err-advance-clause-many c = λ e.
    let p = err_from_is_err_and c.from_residual-in_err-advance.result c.from_residual-in_err-advance.ensures.1 in
    let same : c.in_err-advance.field-0.0 ≡ TooMany = cc (p.1, p.2, e) in
    runs_over c.args.table.now c.requires.table c.args.site.line c.args.site.headers c.args.number c.args.out.now.items c.frames.frames.items
    c.frames.marks c.frames.out.items c.frames.invariant (c.in_err-advance.ensures.many (ap Err same))
