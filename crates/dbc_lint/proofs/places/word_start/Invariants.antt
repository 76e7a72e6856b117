use Rattle.dbc_lint.proofs.Common.{◌≡◌, length}
use Rattle.dbc_lint.specs.OfFile.{from_word}
use Rattle.dbc_lint.proofs.places.word_start.Given as goal

abbrev pub invariant-tokens : goal.invariant-tokens
invariant-tokens l = from_word l.word l.lexer.tokens ≡ from_word l.word l.initial.lexer.tokens

abbrev pub decreases-tokens : goal.decreases-tokens
decreases-tokens l = length l.lexer.tokens
