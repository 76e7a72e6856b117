use Rattle.dbc_statements.proofs.Common.{length, is_open}
use Rattle.dbc_statements.specs.Skipping.{IsSkipping}
use Rattle.dbc_statements.proofs.passing.skip_open.Given as goal

abbrev pub invariant-open : goal.invariant-open
invariant-open l = IsSkipping is_open l.initial.tokens l.tokens

abbrev pub decreases-open : goal.decreases-open
decreases-open l = length l.tokens
