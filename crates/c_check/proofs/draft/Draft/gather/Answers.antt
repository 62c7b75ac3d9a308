use Rattle.std.proofs.Common.{◌≡◌, ◌+◌, refl, sym, ap, ◌∙◌, List, [], ◌∷◌, map, drop}
use Rattle.c_ast.specs.declared.declaration.Specifier.{Specifier}
use Rattle.c_judge.specs.declared.gathered.Gathered.{Gathered}
use Rattle.c_judge.specs.Judging.{specifier, specify_all}
use Rattle.c_check.specs.declared.draft.Draft.{Draft}
use Rattle.c_check.specs.Draft.{within}
use Rattle.c_check.specs.Declarations.{gathered}
use Rattle.c_check.proofs.Turns.{turn, judged_then}
use Rattle.c_check.proofs.draft.Draft.gather.Goals as goal

pub loop-one-preserved : goal.loop-one-preserved
loop-one-preserved c =
    turn (λ (ss : List Specifier) (g : Gathered) (d : Draft). gathered (map specifier ss) c.args.at g d) c.args.specifiers.now
    c.loop-one.one-index c.one-item.result c.loop-one.gathered c.in_ok-gathered.gathered c.loop-one.self _ _ c.loop-one-test.true c.one-item.is
    c.loop-one.invariant
    (ap (within c.loop-one.self)
    (judged_then _ _ _ (specify_all (map specifier (drop (c.loop-one.one-index + 1) c.args.specifiers.now)) c.args.at) c.in_ok-gathered.ensures))
