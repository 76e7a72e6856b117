use Rattle.dbc_statements.proofs.Common.{◌≡◌, length, lexed}
use Rattle.dbc_statements.proofs.tokens.fault_after.Given as goal

abbrev pub invariant-tokens : goal.invariant-tokens
invariant-tokens l = l.lexer.fault ≡ (lexed 0 l.source).fault

abbrev pub decreases-tokens : goal.decreases-tokens
decreases-tokens l = length l.lexer.tokens
