-- Texts in columns of a fixed width; a longer one isn't cut.
use Rattle.std.specs.Prelude.{ℕ, ◌-◌, List, ◌++◌, length, replicate}

-- a text, right-aligned in this many columns, with this byte before it
abbrev pub filled : ℕ → ℕ → List ℕ → List ℕ
filled fill columns text = replicate (columns - length text) fill ++ text

-- the same with spaces
abbrev pub set_right : ℕ → List ℕ → List ℕ
set_right columns text = filled 32 columns text

-- a text, left-aligned
abbrev pub set_left : ℕ → List ℕ → List ℕ
set_left columns text = text ++ replicate (columns - length text) 32
