use Rattle.dbc_statements.proofs.Common.{sym, ◌∙◌, is_open}
use Rattle.dbc_statements.proofs.Skip.{none_skipped, one_skipped, one_fewer, all_skipped}
use Rattle.dbc_statements.proofs.passing.skip_open.Goals as goal

pub open-init : goal.open-init
open-init c = none_skipped is_open c.args.tokens.now

pub open-smaller : goal.open-smaller
open-smaller c = rw c.skip.ensures (one_fewer is_open c.open.tokens (sym c.is_open.ensures ∙ c.open-test.true))

pub open-preserved : goal.open-preserved
open-preserved c = rw c.skip.ensures
    (one_skipped is_open c.args.tokens.now c.open.tokens c.open.invariant (sym c.is_open.ensures ∙ c.open-test.true))

pub returns : goal.returns
returns c = all_skipped is_open c.args.tokens.now c.open.tokens c.open.invariant
    (sym c.is_open.ensures ∙ c.open-test.false)
