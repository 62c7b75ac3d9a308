use Rattle.std.proofs.Common.{ℕ, ◌==◌, ◌∙◌, sym, arith}
use Rattle.mpi_call.proofs.ReadyLemmas.{any_more, any_found, any_none}
use Rattle.mpi_call.proofs.ready.stands_later.Goals as goal

pub loop-i-preserved : goal.loop-i-preserved
loop-i-preserved c =
    let below = c.loop-i-test.true in (
      any_more (λ (m : ℕ). m == c.args.number) c.args.count c.loop-i.i c.args.bytes.now below (sym c.is_number.ensures ∙ c.if-is_number.false) ∙ c.loop-i.invariant.0,
      omega (arith, below),
    )

pub returns-then-is_number : goal.returns-then-is_number
returns-then-is_number c =
    sym (sym c.loop-i.invariant.0
    ∙ any_found (λ (m : ℕ). m == c.args.number) c.args.count c.loop-i.i c.args.bytes.now c.loop-i-test.true (sym c.is_number.ensures ∙ c.if-is_number.true))

pub returns : goal.returns
returns c = sym (sym c.loop-i.invariant.0 ∙ any_none (λ (m : ℕ). m == c.args.number) c.args.count c.loop-i.i c.args.bytes.now c.loop-i-test.false)
