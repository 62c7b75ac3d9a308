use Rattle.std.proofs.Common.{inl, inr}
use Rattle.c_types.specs.Segment.{IsUndefinedUse, Refuses, Undefined}
use Rattle.privatise.proofs.FirstLemmas.{same}
use Rattle.privatise.proofs.refusals.or_missing_main.Goals as goal

pub returns-in-Some : goal.returns-in-Some
returns-in-Some c =
    let program = c.args.program.now in
    same (IsUndefinedUse program) (Refuses program Undefined) c.args.unknown (λ t h. inl h)
    (λ t h. elim h [ inl used ↦ used | inr missing ↦ let none = missing.0 in absurd (cc) ]) c.requires
