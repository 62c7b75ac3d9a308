use Rattle.std.proofs.Common.{[], ◌∷◌, ◌++◌, sym, ap, ◌∙◌}
use Rattle.c_ast.specs.declared.declaration.Member.{Member}
use Rattle.c_grammar.specs.Nests.{state_of}
use Rattle.c_phrases.proofs.SpecsSteps.{members_more}
use Rattle.c_phrases.proofs.grammar.Grammar.members.Goals as goal

pub members-preserved : goal.members-preserved
members-preserved g c = (
  c.member.ensures.total ∙ c.members.invariant.0,
  members_more c.args.cursor.now.total c.args.self.now.room c.members.count c.members.all (state_of c.members.cursor) c.members-test.true
      c.members.invariant.0 c.in_ok-member.ensures.reads (sym c.sees_mark.ensures ∙ c.if-sees_mark.false)
      (c.in_ok-push.ensures.ok ∙ ap (λ (m : Member). c.members.all ++ m ∷ []) c.in_ok-new.ensures)
      ∙ c.members.invariant.1,
)
