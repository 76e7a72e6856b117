use Rattle.dbc_statements.proofs.Common.{length}
use Rattle.dbc_statements.specs.Skipping.{IsSkipping, begins_no_next}
use Rattle.dbc_statements.proofs.passing.skip_to_next.Given as goal

abbrev pub invariant-others : goal.invariant-others
invariant-others l = IsSkipping begins_no_next l.initial.tokens l.tokens

abbrev pub decreases-others : goal.decreases-others
decreases-others l = length l.tokens
