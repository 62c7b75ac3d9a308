use Rattle.std.proofs.Common.{◌≡◌, Some, subst}
use Rattle.c_types.specs.Segment.{Refuses, TooLarge, Undefined}
use Rattle.privatise.specs.First.{IsFirst, first_of}
use Rattle.privatise.proofs.AnswerLemmas.{large_is, undefined_is, twice_is, first_told}
use Rattle.privatise.proofs.refusals.told.Goals as goal

pub returns-then-is_at-clause-err : goal.returns-then-is_at-clause-err
returns-then-is_at-clause-err c =
    let program = c.args.program.now in
    let at = c.in-Some.at in
    let first : first_of (first_of c.args.too_large c.args.undefined) c.args.twice ≡ Some at = cc in
    let all = first_told program c.args.too_large c.args.undefined c.args.twice at first
    c.requires.too_large c.requires.undefined c.requires.twice in
    large_is program at all (subst (IsFirst (Refuses program TooLarge)) (c.is_at.ensures.0 c.if-is_at.true) c.requires.too_large)

pub returns-then-is_at-2-clause-err : goal.returns-then-is_at-2-clause-err
returns-then-is_at-2-clause-err c =
    let program = c.args.program.now in
    let at = c.in-Some.at in
    let first : first_of (first_of c.args.too_large c.args.undefined) c.args.twice ≡ Some at = cc in
    let all = first_told program c.args.too_large c.args.undefined c.args.twice at first
    c.requires.too_large c.requires.undefined c.requires.twice in
    undefined_is program at c.args.too_large all c.requires.too_large
    (λ e. let t = c.is_at.ensures.1 e in let f = c.if-is_at.false in absurd (cc))
    (subst (IsFirst (Refuses program Undefined)) (c.is_at-2.ensures.0 c.if-is_at-2.true) c.requires.undefined)

pub returns-clause-err : goal.returns-clause-err
returns-clause-err c =
    let program = c.args.program.now in
    let at = c.in-Some.at in
    let first : first_of (first_of c.args.too_large c.args.undefined) c.args.twice ≡ Some at = cc in
    let all = first_told program c.args.too_large c.args.undefined c.args.twice at first
    c.requires.too_large c.requires.undefined c.requires.twice in
    twice_is program at c.args.too_large c.args.undefined all c.requires.too_large
    (λ e. let t = c.is_at.ensures.1 e in let f = c.if-is_at.false in absurd (cc))
    c.requires.undefined
    (λ e. let t = c.is_at-2.ensures.1 e in let f = c.if-is_at-2.false in absurd (cc))
