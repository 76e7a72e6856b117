-- What is inside a text token: its bytes without the quotes around them.
use Rattle.std.specs.Prelude.{ℕ, ◌-◌, List, length, take, drop}

-- all but the first and the last byte
abbrev pub inside_of : List ℕ → List ℕ
inside_of text = take (length text - 2) (drop 1 text)
