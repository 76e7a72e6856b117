-- Lines of a text: a line ends before its LF, or at the text's end.
use Rattle.std.specs.Prelude.{◌==◌, ℕ, ◌+◌, ◌-◌, Bool, not, List, take, drop}
use Rattle.std.specs.List.{prefix_len, suffix_len}

abbrev pub line_feed : ℕ
line_feed = 10

abbrev pub in_line : ℕ → Bool
in_line b = not (b == line_feed)

-- the offsets of the first byte of a line, and of its LF or the text's end, from any offset in it
abbrev pub line_start : List ℕ → ℕ → ℕ
line_start text at = at - suffix_len in_line (take at text)

abbrev pub line_end : List ℕ → ℕ → ℕ
line_end text at = at + prefix_len in_line (drop at text)
