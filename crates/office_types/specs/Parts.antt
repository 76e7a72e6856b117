-- The parts of a bundle: 1 to 64.
use Rattle.std.specs.Prelude.{ℕ, ◌≤◌, List, length}

-- the greatest number of parts of a bundle
abbrev pub part_limit : ℕ
part_limit = 64

pub record AreParts {A : Type 0} (things : List A) : Type 0 where
  pub some : 1 ≤ length things
  pub few : length things ≤ part_limit
