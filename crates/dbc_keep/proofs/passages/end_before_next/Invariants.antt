use Rattle.dbc_keep.proofs.Common.{◌≡◌, length, before_next}
use Rattle.dbc_keep.specs.Finding.{last_end}
use Rattle.dbc_keep.proofs.passages.end_before_next.Given as goal

abbrev pub invariant-tokens : goal.invariant-tokens
invariant-tokens l = last_end l.end (before_next l.lexer.tokens) ≡ last_end l.start (before_next l.initial.lexer.tokens)

abbrev pub decreases-tokens : goal.decreases-tokens
decreases-tokens l = length l.lexer.tokens
