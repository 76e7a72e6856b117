-- Loops that pass over tokens one by one.
use Rattle.dbc_statements.proofs.Common.{◌≡◌, ◌<◌, Bool, true, false, List, [], ◌∷◌, ◌++◌, length, drop, Some, refl}
use Rattle.dbc_statements.proofs.Common.{many_at, starts, Token, Takes, goes_round, is_over}
use Rattle.std.proofs.Common.{not}
use Rattle.dbc_grammar.specs.Grammar.{begins_next, next}
use Rattle.dbc_grammar.specs.Parsing.{one_at}
use Rattle.dbc_grammar.proofs.Exactness.{tokens_repeat}
use Rattle.dbc_grammar.proofs.Repeating.{repeats_take}
use Rattle.dbc_statements.specs.Skipping.{IsSkipping, Skips, begins_no_next}
use Rattle.dbc_statements.proofs.LoopRounds.{at_start}

tokens_take : (test : Token → Bool) → Takes (starts test) (one_at test)
tokens_take test = repeats_take (tokens_repeat test) refl

one_there : (test : Token → Bool) (tokens : List Token) → starts test tokens ≡ true
    → one_at test tokens ≡ Some (tt, drop 1 tokens)
one_there test [] h = absurd cc
one_there test (t ∷ ts) h = rw h refl

pub none_skipped : (test : Token → Bool) (tokens : List Token) → IsSkipping test tokens tokens
none_skipped test tokens = record { times = []; more = at_start (many_at (starts test) (one_at test) tokens) }

pub one_skipped : (test : Token → Bool) (tokens rest : List Token) → IsSkipping test tokens rest
    → starts test rest ≡ true → IsSkipping test tokens (drop 1 rest)
one_skipped test tokens rest h there = record {
  times = h.times ++ tt ∷ [];
  more = goes_round (tokens_take test) h.times rest (tt, drop 1 rest) (many_at (starts test) (one_at test) tokens) there
      (one_there test rest there) h.more;
}

pub one_fewer : (test : Token → Bool) (rest : List Token) → starts test rest ≡ true → length (drop 1 rest) < length rest
one_fewer test rest there = (tokens_take test).shorter rest (tt, drop 1 rest) there (one_there test rest there)

pub all_skipped : (test : Token → Bool) (tokens rest : List Token) → IsSkipping test tokens rest
    → starts test rest ≡ false → Skips test tokens rest
all_skipped test tokens rest h over = record {
  times = h.times;
  all = is_over (tokens_take test) h.times rest (many_at (starts test) (one_at test) tokens) over h.more;
}

-- where nothing is left to pass over, the next statement begins, or the end has come
pub next_there : (tokens : List Token) → starts begins_no_next tokens ≡ false → next tokens ≡ true
next_there [] over = refl
next_there (t ∷ ts) over = by_test (begins_next t) over
  where
    by_test : (b : Bool) → not b ≡ false → b ≡ true
    by_test true e = refl
    by_test false e = absurd cc
