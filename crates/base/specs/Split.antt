-- Bytes before and after a separator.
use Rattle.std.specs.Prelude.{ℕ, ◌==◌, List, Option, Some, None, if◌then◌else◌}
use Rattle.std.specs.List.{list_any, before_first, after_first}

-- what comes before the first separator and what comes after it
abbrev pub split_once : ℕ → List ℕ → Option (List ℕ × List ℕ)
split_once separator bytes =
    if list_any (λ b. b == separator) bytes
    then Some (before_first (λ b. b == separator) bytes, after_first (λ b. b == separator) bytes)
    else None
