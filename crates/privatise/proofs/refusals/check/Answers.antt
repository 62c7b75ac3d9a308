use Rattle.std.proofs.Common.{◌≡◌, sym, subst}
use Rattle.c_types.specs.Segment.{IsSecondFunction, IsSecondObject, Refuses, Twice}
use Rattle.privatise.specs.First.{IsFirst, first_of}
use Rattle.privatise.proofs.FirstLemmas.{first_sum}
use Rattle.privatise.proofs.refusals.check.Goals as goal

pub told-requires : goal.told-requires
told-requires c =
    let program = c.args.program.now in
    let functions = c.in_ok-functions.functions.second in
    let objects = c.in_ok-objects.objects.second in
    let both : c.first_of-twice.result ≡ first_of functions objects = cc in
    record {
      too_large = c.too_large-too_large.ensures;
      undefined = c.or_missing_main-undefined.ensures;
      twice = subst (IsFirst (Refuses program Twice)) (sym both)
          (first_sum (IsSecondFunction program) (IsSecondObject program) functions objects
          c.in_ok-functions.ensures.second_is c.in_ok-objects.ensures.second_is);
    }
