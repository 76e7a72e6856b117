-- The words of a line.
use Rattle.std.specs.Prelude.{◌≡◌, ◌≢◌, ◌==◌, ◌<◌, ℕ, List, [], Option, Some, None, All, length}
use Rattle.std.specs.List.{slice_split, join_with_byte}
use Rattle.std.specs.Borrow.{Bor}

-- what is between the spaces of a line
abbrev pub words_of : List ℕ → List (List ℕ)
words_of line = slice_split (λ b. b == 32) line

-- the words of what follows a word, and none after the last
abbrev pub words_after : Option (Bor (List ℕ)) → List (List ℕ)
words_after None = []
words_after (Some rest) = words_of rest.now

-- one word or more, none of which has a space, and which joined by single spaces are the line
pub record AreWordsOf (line : List ℕ) (words : List (List ℕ)) : Type 0 where
  pub some : 0 < length words
  pub apart : All (All (λ b. b ≢ 32)) words
  pub joined : join_with_byte 32 words ≡ line
