use Rattle.std.proofs.Common.{◌∙◌, ◌<◌, arith, [], length, true}
use Rattle.c_grammar.specs.ReadingDecl.{sizes}
use Rattle.c_lex.specs.declared.token.Mark.TheVariants as mark
use Rattle.c_grammar.specs.Levels.{readers}
use Rattle.c_grammar.specs.Nests.{most, state_of}
use Rattle.c_phrases.proofs.DeclaratorSteps.{seen_so, sizes_on}
use Rattle.c_phrases.proofs.grammar.Grammar.sizes.Goals as goal

pub sizes-preserved : goal.sizes-preserved
sizes-preserved g c =
    let some : 0 < c.sizes.count = omega arith in (
      c.size.ensures.total ∙ c.sizes.invariant.0,
      sizes_on c.args.cursor.now.total c.sizes.cursor.total (λ n. readers n most c.args.self.now.room) c.sizes.count c.sizes.all c.push.new.self
          (state_of c.sizes.cursor) (state_of c.size.new.cursor) c.in_ok-size.size
          (sizes c.args.cursor.now.total (readers c.args.cursor.now.total most c.args.self.now.room) (length c.args.cursor.now.rest.now) [] (state_of c.args.cursor.now))
          c.sizes.invariant.0 some
          (seen_so mark.OpenBracket c.sizes.cursor.rest.now c.sees_mark.result true c.sees_mark.ensures c.if-sees_mark.true) c.in_ok-size.ensures.reads c.in_ok-push.ensures.ok c.sizes.invariant.1,
    )
