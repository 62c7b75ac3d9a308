use Rattle.std.proofs.Common.{◌≡◌, ℕ, suc, ◌+◌, false, Ok, refl, sym, ap, ◌∙◌, arith}
use Rattle.c_lex.specs.declared.token.Mark.TheVariants as mark
use Rattle.c_ast.specs.declared.declaration.Decl.{Decl}
use Rattle.c_ast.specs.declared.declaration.External.TheVariants as an_external
use Rattle.c_grammar.specs.declared.phrases.ReadSpecs.{ReadSpecs}
use Rattle.c_grammar.specs.declared.phrases.ReadDeclarator.{ReadDeclarator}
use Rattle.c_grammar.specs.Reading.{State, sees_mark}
use Rattle.c_grammar.specs.ReadingStmt.{decl_from, external_behind}
use Rattle.c_grammar.specs.Levels.{readers}
use Rattle.c_grammar.specs.Nests.{most, state_of}
use Rattle.c_parser.proofs.units.external_behind.Goals as goal

declared_behind : (total room token : ℕ) (ss : ReadSpecs) (s : State) {t : ℕ} {d : ReadDeclarator} {s1 : State} {x : Decl} {s2 : State}
    → sees_mark mark.Semicolon s.rest ≡ false → (readers total most (room + 1)).declarator s ≡ Ok (d, s1) → sees_mark mark.OpenBrace s1.rest ≡ false
    → t ≡ total → decl_from t most (room + 1) token ss d s1 ≡ Ok (x, s2)
    → external_behind total most room token ss s ≡ Ok (an_external.Declaration x, s2)
unfolding external_behind
declared_behind total room token ss s {t} {d} {s1} {x} {s2} other read unbraced same made =
    let one : room + 1 ≡ suc room = omega arith in
    let read' : (readers total most (suc room)).declarator s ≡ Ok (d, s1) = ap (λ n. (readers total most n).declarator s) (sym one) ∙ read in
    let made' : decl_from total most (suc room) token ss d s1 ≡ Ok (x, s2) =
    ap (λ n. decl_from total most n token ss d s1) (sym one) ∙ (ap (λ n. decl_from n most (room + 1) token ss d s1) (sym same) ∙ made) in
    rw (other, read', unbraced, made') refl

pub returns-clause-reads : goal.returns-clause-reads
returns-clause-reads c =
    declared_behind c.args.cursor.now.total c.args.limit c.args.token c.args.specs (state_of c.args.cursor.now)
    (sym c.sees_mark.ensures ∙ c.if-sees_mark.false) c.in-Ok.ensures.reads (sym c.sees_mark-2.ensures ∙ c.if-sees_mark-2.false)
    c.declarator.ensures.total c.in_ok-declaration.ensures.reads
