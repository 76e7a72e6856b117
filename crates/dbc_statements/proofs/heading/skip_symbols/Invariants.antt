use Rattle.dbc_statements.proofs.Common.{length, is_symbol}
use Rattle.dbc_statements.specs.Skipping.{IsSkipping}
use Rattle.dbc_statements.proofs.heading.skip_symbols.Given as goal

abbrev pub invariant-symbols : goal.invariant-symbols
invariant-symbols l = IsSkipping is_symbol l.initial.tokens l.tokens

abbrev pub decreases-symbols : goal.decreases-symbols
decreases-symbols l = length l.tokens
