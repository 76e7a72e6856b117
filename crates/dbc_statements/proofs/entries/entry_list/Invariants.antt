use Rattle.dbc_statements.proofs.Common.{◌≡◌, length, is_open, with_front, many_at, entry_at, starts}
use Rattle.dbc_grammar.specs.Parsing.{entries_at}
use Rattle.dbc_statements.proofs.entries.entry_list.Given as goal

abbrev pub invariant-entries : goal.invariant-entries
invariant-entries l = with_front l.entries (many_at (starts is_open) entry_at l.tokens) ≡ entries_at l.initial.tokens

abbrev pub decreases-entries : goal.decreases-entries
decreases-entries l = length l.tokens
