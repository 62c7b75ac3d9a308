use Rattle.std.proofs.Common.{arith}
use Rattle.am_base.proofs.FieldLemmas.{takes_8}
use Rattle.am_base.proofs.fields.take_u64.Goals as goal

pub returns-clause-value : goal.returns-clause-value
returns-clause-value c =
    takes_8 c.args.b.now c.args.at c.in_ok-field.field.now _ c.in_ok-field.ensures.value c.in_ok-field.ensures.long
    (λ i. omega (arith, c.type_inv.b i)) c.read_u64.ensures
