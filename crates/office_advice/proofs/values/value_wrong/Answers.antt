use Rattle.std.proofs.Common.{ℕ, ◌+◌, None, Some, sym, ap, ◌∙◌}
use Rattle.office_advice.specs.Cause.{wrong_at}
use Rattle.office_advice.proofs.GivenAfter.{value_next}
use Rattle.office_advice.proofs.values.value_wrong.Goals as goal

pub returns-in-Some : goal.returns-in-Some
returns-in-Some c =
    ap (λ (n : ℕ). Some (wrong_at (c.loop-index.index + n) c.in-Some.cause)) c.first_field.ensures
    ∙ sym (c.loop-index.invariant ∙ value_next c.args.command c.args.values.now c.loop-index.index
    c.index-values-index.result (Some c.in-Some.cause) c.loop-index-test.true c.index-values-index.is
    (rw c.in-Some.is at c.in_ok-cause.ensures))

pub loop-index-preserved : goal.loop-index-preserved
loop-index-preserved c =
    c.loop-index.invariant ∙ value_next c.args.command c.args.values.now c.loop-index.index c.index-values-index.result
    None c.loop-index-test.true c.index-values-index.is (rw c.in_default.is at c.in_ok-cause.ensures)
