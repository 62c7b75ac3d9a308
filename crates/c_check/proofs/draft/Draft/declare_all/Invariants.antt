use Rattle.std.proofs.Common.{◌≡◌, drop, []}
use Rattle.c_check.specs.Declarations as declarations
use Rattle.c_check.proofs.draft.Draft.declare_all.Given as goal

abbrev pub invariant-loop-one : goal.invariant-loop-one
invariant-loop-one l =
    declarations.declare_all l.lines l.words l.built (drop l.one-index l.declared) l.done l.self
    ≡ declarations.declare_all l.lines l.words l.built l.declared [] l.fn.self
