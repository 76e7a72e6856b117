-- Names in ascending order.
use Rattle.std.specs.Prelude.{ℕ, List, map}
use Rattle.std.specs.Borrow.{Bor}
use Rattle.std.specs.FinMap.{from_entries, keys}
use Rattle.base.specs.Keyed.{text_cmp}

abbrev pub text_of : Bor (List ℕ) → List ℕ
text_of name = name.now

-- the names in ascending order of their bytes, each once: as a finite map has its keys
abbrev pub ascending : List (List ℕ) → List (List ℕ)
ascending names = keys (from_entries {R = text_cmp} (map (λ name. (name, tt {0})) names))
