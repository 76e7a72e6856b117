-- The words of a line by their index, from 0, and where they are.
use Rattle.std.specs.Prelude.{ℕ, zero, suc, ◌+◌, List, [], ◌∷◌, length, slice_get, unwrap_or}

abbrev pub word_of : List (List ℕ) → ℕ → List ℕ
word_of words index = unwrap_or (slice_get words index) []

-- how many bytes come before a word of a line: the words before it, each with the space after it
abbrev pub offset_of : List (List ℕ) → ℕ → ℕ
offset_of [] index = 0
offset_of (word ∷ words) zero = 0
offset_of (word ∷ words) (suc index) = length word + 1 + offset_of words index
