use Rattle.dbc_statements.proofs.Common.{sym, ◌∙◌}
use Rattle.dbc_statements.specs.Skipping.{begins_no_next}
use Rattle.dbc_statements.proofs.Skip.{none_skipped, one_skipped, one_fewer, all_skipped, next_there}
use Rattle.dbc_statements.proofs.passing.skip_to_next.Goals as goal

pub others-init : goal.others-init
others-init c = none_skipped begins_no_next c.args.tokens.now

pub others-smaller : goal.others-smaller
others-smaller c = rw c.skip.ensures
    (one_fewer begins_no_next c.others.tokens (sym c.goes_on.ensures ∙ c.others-test.true))

pub others-preserved : goal.others-preserved
others-preserved c = rw c.skip.ensures
    (one_skipped begins_no_next c.args.tokens.now c.others.tokens c.others.invariant
    (sym c.goes_on.ensures ∙ c.others-test.true))

pub returns-clause-skips : goal.returns-clause-skips
returns-clause-skips c = all_skipped begins_no_next c.args.tokens.now c.others.tokens c.others.invariant
    (sym c.goes_on.ensures ∙ c.others-test.false)

pub returns-clause-next : goal.returns-clause-next
returns-clause-next c = next_there c.others.tokens (sym c.goes_on.ensures ∙ c.others-test.false)
