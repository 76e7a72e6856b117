use Rattle.dbc_keep.proofs.Common.{◌≡◌, length, to_mark}
use Rattle.dbc_keep.specs.Finding.{last_end}
use Rattle.dbc_keep.proofs.passages.end_of_mark.Given as goal

abbrev pub invariant-tokens : goal.invariant-tokens
invariant-tokens l = last_end l.end (to_mark l.lexer.tokens) ≡ last_end l.start (to_mark l.initial.lexer.tokens)

abbrev pub decreases-tokens : goal.decreases-tokens
decreases-tokens l = length l.lexer.tokens
