use Rattle.dbc_keep.proofs.Common.{◌≡◌, ◌++◌, length, map, to_mark}
use Rattle.dbc_keep.specs.Staying.{all_seen, token_word}
use Rattle.dbc_keep.proofs.words.words_to_mark.Given as goal

-- the words so far, and those that are left
abbrev pub invariant-tokens : goal.invariant-tokens
invariant-tokens l = all_seen l.words.items ++ map token_word (to_mark l.lexer.tokens)
    ≡ map token_word (to_mark l.initial.lexer.tokens)

abbrev pub decreases-tokens : goal.decreases-tokens
decreases-tokens l = length l.lexer.tokens
