-- What moved from a source or to a sink. `None` is a device that doesn't show its bytes: then nothing is stated.
use Rattle.std.specs.Prelude.{◌≡◌, ℕ, ◌≤◌, List, ◌++◌, length, Option}
use Rattle.std.specs.Io.KnownBytes.{Appends, Consumes}

-- a beginning of the text was written
abbrev pub AppendsFront : Option (List ℕ) → Option (List ℕ) → List ℕ → Type 0
AppendsFront old new text = (front : List ℕ) × (rest : List ℕ) × (text ≡ front ++ rest) × Appends old new front

-- bytes were read, and added to a list
abbrev pub Moves : Option (List ℕ) → Option (List ℕ) → List ℕ → List ℕ → Type 0
Moves left_old left_new got_old got_new =
    (bytes : List ℕ) × (got_new ≡ got_old ++ bytes) × Consumes left_old left_new bytes

-- a source gave at most so many bytes
abbrev pub GivesAtMost : Option (List ℕ) → Option (List ℕ) → ℕ → Type 0
GivesAtMost left_old left_new most = (bytes : List ℕ) × Consumes left_old left_new bytes × (length bytes ≤ most)
